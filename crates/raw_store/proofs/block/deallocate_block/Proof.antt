-- `deallocate_block` makes room of the bytes, and hands the block back with the right to do so.
-- Assumes `Logic`.
use Rattle.std.proofs.Common.{◌≡◌, ℕ, ◌+◌, ◌*◌, List, [], ◌∷◌, ◌++◌, length, refl, sym, ap, ◌∙◌, arith, lit<, w64}
use Rattle.std.proofs.alloc.Calls.{Al, seen, Goes-blank, Gives, at_gives, Gives-goes, Gives-Gives}
use Rattle.std.proofs.alloc.Shapes.{after}
use Rattle.std.proofs.raw_atomic.Walks.{proved_at, leaves}
use mir.Syntax.{Ty, Fn, Args, a_type, dcons, dnil, place}
use mir.Val.{Val, vptr, vint, vunit}
use mir.MapTy.{inst_fn}
use base.Logic.{SProp, never, id⊢}
use base.Fml.{Lft, Share, ftrue, flft, froom}
use prog.Capped.{capped_is}
use prog.Wp.{Env, WpFn}
use contract.BorrowLft.{◌⊑◌, ⊑_trans}
use contract.Monad.{fact}
use contract.Running.{tables}
use types.Kit.{‵, raw, ◌⊛◌, given, later, prop, settles, at_ret, ◌$◌, ◌∵◌, !, qed, by, move, keep, drop, use1, use2, split, join, group, learn, rewrite, regoal, fsplit, fsplit3, fjoin, feq_i, await}
use types.Part.{whole, sub}
use types.Run.{stop, fld, lit, unit_lit, of_opd, no_more, and_then, first, blocks, exec, returns, enter}
use types.ByLocal.{alloc_all, pass_all, free_all, look_at, get, get_in, sets, lands_last, env}
use denote.RattleType.{owns}
use denote.RawPtr.{Ptr, block_ptr, in_a_block}
use denote.Param.{bounded}
use denote.Signature.{types_at}
use denote.Steps.{nothing, heard}
use denote.Triple.Entry.{alive}
use denote.Triple.Call.{calls_at_last}
use denote.Triple.Table.{framed}
use denote.Triple.Walked.{Stays, stay_dropped, walk_of, Goes-dropped}
use Rattle.raw_store.specs.Ownership.{bytes_type, block_owns, right_owns}
use Rattle.raw_store.proofs.Memory.{to_room}
use Rattle.raw_store.proofs.Values.{base_val, base_shown, none_val, none_shown, mark_val, mark_shown}
use Rattle.raw_store.proofs.Walks.{slot_at, then_runs, out_of_block}
use Rattle.raw_store.specs.contracts.block.deallocate_block.{ended, clauses}
use Rattle.raw_store.specs.contracts.block.deallocate_block.Key.{name as #self}
use Rattle.raw_store.proofs.block.deallocate_block.Statement.{statement}
use Rattle.raw_store.proofs.block.deallocate_block.Code as code

pub deallocate_block_spec : {M : Type 1} → statement M
deallocate_block_spec 𝓤 𝓛 𝓜 𝓡 wired A L g d dd met md =
    let H = 𝓛.H in let En₀ = ended A g d dd in let S = En₀.signature.params in
    let args : Args = bounded (a_type ∷ []) (A, tt) (dcons d (dcons dd dnil)) in let fn : Fn = inst_fn args code.function in
    let k0 = En₀.kept.0 in let k1 = En₀.kept.1.0 in let k2 = En₀.kept.1.1.0 in let k3 = En₀.kept.1.1.1.0 in let k4 = En₀.kept.1.1.1.1.0 in
    let stays : Stays S En₀.kept = (stay_dropped (slot_at 0 S) k0, (stay_dropped (slot_at 1 S) k1, (stay_dropped (slot_at 2 S) k2, (stay_dropped (slot_at 3 S) k3, (stay_dropped (slot_at 4 S) k4, tt))))) in
    let c = clauses A g d dd 𝓛 𝓜.mem 𝓡.returns in
    let C = (tables 𝓤 H 𝓜 𝓡 𝓡.env).C in let Λ = (tables 𝓤 H 𝓜 𝓡 𝓡.env).Λ in
    proved_at 𝓛 En₀ stays c 𝓜 𝓡 (
      Goes-dropped 𝓛 2 (slot_at 0 S) k0 (λ κs x f. refl),
      (
        Goes-dropped 𝓛 2 (slot_at 1 S) k1 (λ κs x f. refl),
        (
          Goes-dropped 𝓛 2 (slot_at 2 S) k2 (λ κs x f. refl),
          (Goes-blank 𝓛 2 (slot_at 3 S) k3 (λ κs x f. tt), (Goes-blank 𝓛 2 (slot_at 4 S) k4 (λ κs x f. tt), tt)),
        ),
      ),
    )
    (#self args) fn (code.unfolded 𝓤 H 𝓜 𝓡 wired (A, tt) d dd) (λ z are.
    let Post : Val → SProp 𝓤 = (walk_of 𝓛 En₀ stays c).post z in
    let a = z.0.3 in let vss = z.0.4 in let Y : Al = record { row = A; laws = L; g = g; d = d; drops = dd } in
    let κ : Lft = z.0.0.0 in let q : Share = z.0.1.0 in
    let handle = a.0.ref_ptr in let h = a.0.now in let base = a.1.0 in let n = a.1.1.0 in let x = a.1.1.1.0 in let right = a.1.1.1.1.0 in let τ : Ty = bytes_type n in
    let fits = are.1.1.0.1 in
    let Asked : Type 0 = (x.at ≡ base.ptr) × (length x.items + x.spare ≡ n) × (right.at ≡ base.ptr) × (right.len ≡ n) × (right.alloc ≡ h) in
    qed 𝓛 ((raw (alive 𝓛 En₀.signature z.0.0 z.0.1) ⊛ ‵ (owns (types_at S z.0.0) a vss)) ∷ (raw (fact 𝓤 (z.0.0.1.0 ⊑ A.lives)) ⊛ raw (fact 𝓤 Asked)) ∷ []) ∵
    move ! (1 ∷ []) $ split ! $ heard ! (z.0.0.1.0 ⊑ A.lives) (λ le. heard ! Asked (λ asked. split ! $ move ! (1 ∷ []) $
    fsplit ! $ fsplit ! $ drop ! $ use1 𝓛 (‵ (seen Y κ handle h)) (id⊢ 𝓤 _) $ move ! (1 ∷ []) $ fsplit3 ! $ drop ! $ drop ! $ fsplit3 ! $
    -- [the bytes' owner; the right; nothing; the `&` to the handle; the tokens]
    fsplit ! $ drop ! $ in_a_block ! x.at (λ p. block_owns p x.items x.spare) (id⊢ 𝓤 (never 𝓤)) (λ b o e. fsplit ! $ drop ! $ fsplit ! $
    use2 𝓛 (‵ (froom (bytes_type (length x.items + x.spare)) b o)) (to_room 𝓛 b x.items o x.spare) $ rewrite ! 0 (λ (k : ℕ). ‵ (froom (bytes_type k) b o)) asked.1 refl $
    move ! (1 ∷ []) $ fsplit ! $ drop ! $ rewrite ! 0 (λ (u : A.Denot × Ptr × ℕ). ‵ (right_owns (g.dealloc_token u.0) u.1 u.2)) (λ j. (asked.4 j, (asked.2 ∙ sym asked.0 ∙ e) j, asked.3 j)) refl $
    -- [the right; the room; nothing; the `&`; the tokens]
    move ! (4 ∷ []) $ use1 𝓛 (‵ (flft κ q) ⊛ ‵ (flft z.0.0.1.0 z.0.1.1.0) ⊛ ‵ ftrue) (id⊢ 𝓤 _) $ split ! $ move ! (3 ∷ 2 ∷ 5 ∷ 0 ∷ 1 ∷ []) $
    regoal ! (λ (us : List Val). prop (WpFn 𝓤 H C Λ fn us Post)) (λ i. are.0.0 i ++ ((base_shown base.ptr vss.1.0 are.1.0 ∙ ap (λ (p : Ptr). base_val p ∷ []) (sym asked.0 ∙ e)) i ++ (are.1.1.0.0 i ++ (none_shown vss.1.1.1.0 are.1.1.1.0.0 i ++ (mark_shown vss.1.1.1.1.0 are.1.1.1.1.0.0 i ++ []))))) refl $
    enter ! C Λ fn (vptr handle.0 handle.1 ∷ base_val (block_ptr b o) ∷ vint w64 n ∷ none_val ∷ mark_val ∷ []) Post $
    alloc_all ! (λ l. pass_all ! refl ((tt, tt), ((tt, (tt, tt)), ((tt, record { fits = fits }), ((tt, tt), ((tt, (tt, tt)), tt))))) $ let En : Env 𝓤 H = env fn.locals l in
    let y = at_gives Y 𝓛 𝓜.mem 𝓡.returns κ q handle h b o n 1 τ in
    first ! $ blocks ! $ group ! 4 $
    use1 𝓛 (raw ((Gives Y 𝓛 𝓜.mem 𝓡.returns).pre y)) (Gives-goes Y 𝓛 𝓜.mem 𝓡.returns κ q handle h (⊑_trans κ z.0.0.1.0 A.lives z.0.2.0 le) b o n 1 τ (capped_is (n * 1) (omega arith) ∙ omega arith) refl fits (lit< tt)) $
    calls_at_last ! (framed 𝓤 H 𝓜 (tables 𝓤 H 𝓜 𝓡 𝓡.env)) (Gives Y 𝓛 𝓜.mem 𝓡.returns) (met.deallocate dd) y
    (and_then ! (get ! refl) (and_then ! (get_in ! (fld ! refl (stop !)) (sub ! 0 refl (whole !))) (and_then ! (get ! refl) (and_then ! (lit ! tt) (no_more !))))) (λ v.
    use1 𝓛 (later (given (v ≡ vunit) (‵ (flft κ q)))) (Gives-Gives Y 𝓛 𝓜.mem 𝓡.returns κ q handle h b o n 1 τ v) $ await ! tt $ learn ! (λ given_back. join ! $
    regoal ! (λ (u : Val). settles En (place 6 []) u (out_of_block 𝓛 (then_runs 𝓛 C Λ En (after 1 fn.body) (at_ret En Post)))) given_back refl $ lands_last ! refl (tt, tt) $
    exec ! C Λ En (after 1 fn.body) (at_ret En Post) $ sets ! (of_opd ! (unit_lit !)) refl (tt, tt) $ returns ! (look_at ! 0 refl) $ free_all ! refl $ keep ! (0 ∷ []) $
    feq_i ! (List Val) (vunit ∷ []) (vunit ∷ []) refl $ nothing ! $
    nothing ! $ nothing ! $ fjoin ! $ nothing ! $ fjoin ! $ nothing ! $ fjoin ! $ nothing ! $ fjoin ! $ nothing ! $ fjoin ! $ move ! (3 ∷ 0 ∷ 2 ∷ 1 ∷ []) $
    by ! (leaves 𝓛 En₀ stays c z vunit tt (tt, (tt, (tt, (tt, (tt, tt))))) (tt, (tt, (tt, (tt, (tt, tt)))))))))))))
