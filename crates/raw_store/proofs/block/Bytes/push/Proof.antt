-- `push` writes to the room after the bytes. Assumes `Logic`.
use Rattle.std.proofs.Common.{◌≡◌, ℕ, suc, ◌+◌, ◌-◌, ◌^◌, ◌<◌, List, [], ◌∷◌, ◌++◌, length, refl, sym, ◌∙◌, ap, arith, length-append, w8, w64}
use Rattle.std.proofs.RcSteps.{word-Good}
use Rattle.std.proofs.VecSteps.Shapes.{after}
use Rattle.std.proofs.raw_atomic.Walks.{proved_at, leaves}
use base.Fraction.{full_share}
use mir.Syntax.{Fn, ty_int}
use mir.Val.{Val, vptr, vint, vunit}
use base.Logic.{SProp, emp, never, id⊢}
use base.Fml.{Lft, Share, ftrue, fat, froom, flft}
use prog.Wp.{Env, WpFn}
use contract.Monad.{fact, fact_i}
use contract.Running.{tables}
use types.Kit.{‵, raw, ◌⊛◌, prop, at_ret, ◌$◌, ◌∵◌, !, qed, by, move, keep, drop, use0, use1, use2, split, join, regoal, rewrite, fsplit, fsplit3, fjoin, fjoin3, feq_i, flt_l, flt_i}
use types.Part.{whole, sub}
use types.Run.{stop, fld, of_opd, unit_lit, bin, init, assigns_last, first, blocks, exec, returns, enter}
use types.ByLocal.{alloc_all, pass_all, free_all, look_at, get, get_in, through, sets, take_at, give_at, env}
use denote.RattleType.{owns}
use denote.Builtin.{u8}
use denote.Memory.{part_at}
use denote.Param.{layout}
use denote.Plain.{uint_in}
use denote.RawPtr.{Ptr, in_a_block}
use denote.Signature.{plain, types_at}
use denote.Steps.{nothing, heard, opens, closes}
use denote.Triple.Entry.{alive}
use denote.Triple.Walked.{Stays, stay_dropped, stay_ref, walk_of, Goes-dropped, Goes-ref}
use Rattle.raw_store.specs.Ownership.{bytes_type, owns_bytes_at, block_owns}
use Rattle.raw_store.proofs.Memory.{glue}
use Rattle.raw_store.proofs.Values.{base_val, base_shown}
use Rattle.raw_store.proofs.Walks.{slot_at}
use Rattle.raw_store.specs.contracts.block.Base.{the_row as Base}
use Rattle.raw_store.specs.contracts.block.Bytes.{the_row as R}
use Rattle.raw_store.specs.contracts.block.Bytes.push.{ended, clauses}
use Rattle.raw_store.specs.contracts.block.Bytes.push.Key.{name as #self}
use Rattle.raw_store.proofs.block.Bytes.push.Statement.{statement}
use Rattle.raw_store.proofs.block.Bytes.push.Code as code

pub push_spec : {M : Type 1} → statement M
push_spec 𝓤 𝓛 𝓜 𝓡 wired =
    let H = 𝓛.H in let fn : Fn = code.function in let S = ended.signature.params in
    let stays : Stays S ended.kept = (stay_ref (0 ∷ []) tt (plain (λ _. R)), (stay_dropped (slot_at 1 S) ended.kept.1.0, (stay_dropped (slot_at 2 S) ended.kept.1.1.0, (stay_dropped (slot_at 3 S) ended.kept.1.1.1.0, tt)))) in
    let c = clauses 𝓛 𝓜.mem 𝓡.returns in
    let C = (tables 𝓤 H 𝓜 𝓡 𝓡.env).C in let Λ = (tables 𝓤 H 𝓜 𝓡 𝓡.env).Λ in
    proved_at 𝓛 ended stays c 𝓜 𝓡
    (Goes-ref 𝓛 1 0 tt (plain (λ _. R)), (Goes-dropped 𝓛 1 (slot_at 1 S) ended.kept.1.0 (λ κs x f. refl), (Goes-dropped 𝓛 1 (slot_at 2 S) ended.kept.1.1.0 (λ κs x f. refl), (Goes-dropped 𝓛 1 (slot_at 3 S) ended.kept.1.1.1.0 (λ κs x f. refl), tt))))
    #self fn (code.unfolded 𝓤 H 𝓜 𝓡 wired) (λ z are.
    let Post : Val → SProp 𝓤 = (walk_of 𝓛 ended stays c).post z in
    let a = z.0.3 in let vss = z.0.4 in let κ : Lft = z.0.0.0 in let q : Share = z.0.1.0 in
    let rb = a.0.ref_ptr.0 in let ro = a.0.ref_ptr.1 in let d = a.0.now in let base = a.1.0 in let i = a.1.1.0 in let x = a.1.1.1.0 in
    let xs = d.items in let fits : i < 2 ^ 64 = are.1.1.0.1 in let good : x < 2 ^ 8 = are.1.1.1.0.1 in
    let Asked : Type 0 = (base.ptr ≡ d.at) × (i ≡ length xs) × (0 < d.spare) in
    qed 𝓛 ((raw (alive 𝓛 ended.signature z.0.0 z.0.1) ⊛ ‵ (owns (types_at S z.0.0) a vss)) ∷ raw (fact 𝓤 Asked) ∷ []) ∵
    move ! (1 ∷ []) $ heard ! Asked (λ asked. split ! $ use1 𝓛 (‵ (flft κ q) ⊛ ‵ ftrue) (id⊢ 𝓤 _) $ split ! $ move ! (2 ∷ []) $
    fsplit ! $ fsplit3 ! $ drop ! $ keep ! (0 ∷ 1 ∷ 3 ∷ []) $
    regoal ! (λ (us : List Val). prop (WpFn 𝓤 H C Λ fn us Post)) (λ j. are.0.0 j ++ (base_shown base.ptr vss.1.0 are.1.0 j ++ (are.1.1.0.0 j ++ (are.1.1.1.0.0 j ++ [])))) refl $
    enter ! C Λ fn (vptr rb ro ∷ base_val base.ptr ∷ vint w64 i ∷ vint w8 x ∷ []) Post $
    alloc_all ! (λ l. pass_all ! refl ((tt, tt), (word-Good [] base.ptr, ((tt, record { fits = fits }), ((tt, record { fits = good }), tt)))) $ let En : Env 𝓤 H = env fn.locals l in
    opens ! tt R {h = d} rb ro (λ vs. move ! (1 ∷ []) $ fsplit ! $ move ! (1 ∷ []) $ in_a_block ! d.at (λ p. block_owns p xs d.spare) (id⊢ 𝓤 (never 𝓤)) (λ b o e. fsplit ! $ flt_l ! (λ small. fsplit ! $
    -- [the bytes; the room; the owner's fields; its cell; the open borrow, in three entries]
    take_at ! 2 $ rewrite ! 0 (λ (p : Ptr). ‵ (fat full_share (layout Base) (l 2) 0 (base_val p))) (asked.0 ∙ e) refl $ give_at ! 2 $
    first ! $ blocks ! $
    sets ! (bin ! (get_in ! (fld ! refl (stop !)) (sub ! 0 refl (whole !))) (get ! refl) tt) refl (tt, tt) $
    let n = d.spare - 1 in let more : d.spare ≡ suc n = omega (arith, asked.2) in let end : ℕ = i + o in
    move ! (1 ∷ []) $ rewrite ! 0 (λ (w : ℕ × ℕ). ‵ (froom (bytes_type w.0) b (w.1 + o))) (λ j. (more j, sym asked.1 j)) refl $
    use1 𝓛 (‵ (froom (ty_int w8) b end) ⊛ ‵ (froom (bytes_type n) b (end + 1))) (𝓛.laws.room_uncons (ty_int w8) n b end) $ split ! $
    -- [the room for the byte; the other room; the bytes; ..]
    assigns_last ! (of_opd ! (get ! refl)) (through ! refl (stop !)) (init ! 0 refl (tt, record { fits = good })) $
    exec ! C Λ En (after 1 fn.body) (at_ret En Post) $ sets ! (of_opd ! (unit_lit !)) refl (tt, tt) $
    use1 𝓛 (‵ (part_at u8 full_share x b end)) (uint_in 𝓛 full_share w8 x b end) $ nothing ! $ move ! (1 ∷ 0 ∷ []) $ fjoin ! $ move ! (2 ∷ 0 ∷ []) $
    use2 𝓛 (‵ (owns_bytes_at b o (xs ++ x ∷ []))) (glue 𝓛 b xs (x ∷ []) o end (ap (λ k. k + o) asked.1)) $
    let new : R.Denot = record { at = d.at; items = xs ++ x ∷ []; spare = n } in let long = length-append xs (x ∷ []) in
    move ! (1 ∷ []) $ rewrite ! 0 (λ (k : ℕ). ‵ (froom (bytes_type n) b k)) {x = length new.items + o} (omega (arith, long, asked.1)) refl $ move ! (1 ∷ 0 ∷ []) $ fjoin ! $
    flt_i ! (length new.items + new.spare) (2 ^ 63) (omega (arith, long, more, small)) $ fjoin ! $
    rewrite ! 0 (λ (p : Ptr). ‵ (block_owns p new.items new.spare)) (sym e) refl $ move ! (1 ∷ 0 ∷ []) $ fjoin ! $ move ! (1 ∷ 0 ∷ []) $ closes ! tt R new vs rb ro $
    returns ! (look_at ! 0 refl) $ free_all ! refl $ keep ! (2 ∷ 0 ∷ 1 ∷ []) $ nothing ! $ move ! (1 ∷ 0 ∷ []) $ join ! $ move ! (1 ∷ 2 ∷ []) $
    feq_i ! (List Val) vss.0 (vptr rb ro ∷ []) are.0.0 $ fjoin3 ! $ nothing ! $ nothing ! $ fjoin ! $ nothing ! $ fjoin ! $ nothing ! $ fjoin ! $ move ! (1 ∷ 0 ∷ []) $ fjoin ! $
    use0 𝓛 (raw (fact 𝓤 ((d.at ≡ d.at) × (new.items ≡ xs ++ x ∷ []) × (n + 1 ≡ d.spare)))) (fact_i 𝓤 ((d.at ≡ d.at) × (new.items ≡ xs ++ x ∷ []) × (n + 1 ≡ d.spare)) (emp 𝓤) (refl, refl, omega (arith, more))) $ feq_i ! (List Val) (vunit ∷ []) (vunit ∷ []) refl $
    move ! (3 ∷ 2 ∷ 0 ∷ 1 ∷ []) $ by ! (leaves 𝓛 ended stays c z vunit tt (new, (tt, (tt, (tt, tt)))) (tt, (tt, (tt, (tt, tt)))))))))))
