-- `lend_mut` lends a run of bytes for writing, and the owner follows it. Assumes `Logic`.
use Rattle.std.proofs.Common.{◌≡◌, ℕ, ◌+◌, ◌-◌, ◌*◌, ◌^◌, ◌<◌, ◌≤◌, List, [], ◌∷◌, ◌++◌, length, take, drop as drop_l, slice_range, refl, sym, ◌∙◌, ap, subst, arith, length-take, length-drop, w64, MutBor}
use Rattle.std.proofs.lemmas.List.{take_all}
use Rattle.std.proofs.RcSteps.{word-Good}
use Rattle.std.proofs.VecSteps.Shapes.{after}
use Rattle.std.proofs.raw_atomic.Walks.{proved_at, leaves}
use seplogic.Ra.Ura.{Ura}
use base.Fraction.{full_share}
use mir.Syntax.{Fn, named}
use mir.Val.{Val, vptr, vint}
use base.Logic.{SProp, ent, sep, emp, never, id⊢}
use base.Fml.{Lft, GName, Share, Fml, ftrue, fsep, fat, froom, flft}
use prog.Wp.{Env, WpFn}
use contract.Monad.{fact, fact_i}
use contract.Running.{tables}
use types.Logic.{Logic, sem}
use types.Kit.{‵, raw, ◌⊛◌, some, later, await, pick, prop, at_ret, ◌$◌, ◌∵◌, !, qed, by, move, keep, drop, use0, use1, use2, split, join, group, regoal, rewrite, fsplit, fsplit3, fjoin, fpack, flt_l, flt_i, done}
use types.Part.{whole, sub, agg}
use types.Run.{stop, fld, of_opd, bin, and_then, no_more, first, blocks, exec, returns, enter}
use types.ByLocal.{alloc_all, pass_all, free_all, look_at, get, get_in, sets, sets_last, take_at, give_at, env}
use types.SemTy.{cells}
use denote.Array.{Array}
use denote.RattleType.{owns}
use denote.Builtin.{u8}
use denote.Follow.{follows}
use denote.FollowSlice.{Elements, lends_Elements}
use denote.Memory.{mem, cell_at, part_of}
use denote.Param.{layout}
use denote.RawPtr.{Ptr, block_ptr, in_a_block}
use denote.Signature.{plain, types_at, mut_ref_to}
use denote.Slice.{MutSlice, slice_val}
use denote.Steps.{nothing, heard, opens}
use denote.Triple.Entry.{alive}
use denote.Triple.Walked.{Stays, stay_dropped, walk_of, Goes-dropped, Goes-spent_ref}
use Rattle.raw_store.specs.Lends.{bytes_with_items}
use Rattle.raw_store.specs.Ownership.{bytes_type, owns_bytes_at, block_owns}
use Rattle.raw_store.specs.Region.{bytes_after_write}
use Rattle.raw_store.proofs.Memory.{Around, run_out, run_in, to_cells, of_cells}
use Rattle.raw_store.proofs.Values.{base_val, base_shown, none_own}
use Rattle.raw_store.proofs.Walks.{slot_at}
use Rattle.raw_store.proofs.Written.{length-written}
use Rattle.raw_store.specs.contracts.block.Base.{the_row as Base}
use Rattle.raw_store.specs.contracts.block.Bytes.{the_row as R}
use Rattle.raw_store.specs.contracts.block.Bytes.lend_mut.{ended, clauses}
use Rattle.raw_store.specs.contracts.block.Bytes.lend_mut.Key.{name as #self}
use Rattle.raw_store.proofs.block.Bytes.lend_mut.Statement.{statement}
use Rattle.raw_store.proofs.block.Bytes.lend_mut.Code as code

module _ {M : Type 1} {𝓤 : Ura M} (𝓛 : Logic 𝓤) (d : R.Denot) (i n rb ro : ℕ) where
  abbrev after_loan : List ℕ → R.Denot
  after_loan ws = bytes_with_items d (bytes_after_write d.items i (take n ws))

  module _ (vs : List Val) (b o : ℕ) where
    -- all but the run
    abbrev Rest : Fml
    Rest = fsep (Around 𝓛 b o d.items i n) (fsep (froom (bytes_type d.spare) b (length d.items + o)) (fsep (none_own vs) (cell_at full_share R.mir vs rb ro)))

    back : d.at ≡ block_ptr b o → i + n ≤ length d.items → length d.items + d.spare < 2 ^ 63 → (xs : List ℕ) → length xs ≡ n → (ws : List ℕ) → length ws ≡ length xs
        → ent 𝓤 (sep 𝓤 (sem 𝓛 (cells (mem u8) ws b (i + o))) (sem 𝓛 Rest)) (sem 𝓛 ((mem R).own_at (after_loan ws) rb ro))
    unfolding part_of
    back e within small xs count ws same =
        let new : R.Denot = after_loan ws in let size : length ws ≡ n = same ∙ count in let all : take n ws ≡ ws = take_all n ws (omega (arith, size)) in
        let is : take i d.items ++ (ws ++ drop_l (i + n) d.items) ≡ new.items = (λ j. take i d.items ++ (sym all j ++ drop_l (i + sym (ap length all ∙ size) j) d.items)) in
        let long : length new.items ≡ length d.items = length-written d.items (take n ws) i (omega (arith, within, size, ap length all)) in
        qed 𝓛 (‵ (cells (mem u8) ws b (i + o)) ∷ ‵ Rest ∷ []) ∵ use1 𝓛 (‵ (owns_bytes_at b (i + o) ws)) (of_cells 𝓛 b ws (i + o)) $ move ! (1 ∷ []) $ fsplit ! $ move ! (2 ∷ 0 ∷ []) $
        use2 𝓛 (‵ (owns_bytes_at b o (take i d.items ++ (ws ++ drop_l (i + n) d.items)))) (run_in 𝓛 b o d.items i n within ws (sym size)) $ rewrite ! 0 (λ (l : List ℕ). ‵ (owns_bytes_at b o l)) is refl $
        move ! (1 ∷ []) $ fsplit3 ! $ rewrite ! 0 (λ (k : ℕ). ‵ (froom (bytes_type d.spare) b (k + o))) (sym long) refl $ move ! (3 ∷ 0 ∷ []) $ fjoin ! $
        flt_i ! (length new.items + d.spare) (2 ^ 63) (subst (λ k. k + d.spare < 2 ^ 63) (sym long) small) $ fjoin ! $
        rewrite ! 0 (λ (p : Ptr). ‵ (block_owns p new.items d.spare)) (sym e) refl $ move ! (1 ∷ 0 ∷ []) $ fjoin ! $ move ! (1 ∷ 0 ∷ []) $ fjoin ! $
        fpack ! (List Val) (λ us. fsep (cell_at full_share R.mir us rb ro) (R.own_val new us)) vs $ done !

pub lend_mut_spec : {M : Type 1} → statement M
lend_mut_spec 𝓤 𝓛 𝓜 𝓡 wired =
    let H = 𝓛.H in let fn : Fn = code.function in let S = ended.signature.params in
    let k0 = ended.kept.0 in let k1 = ended.kept.1.0 in let k2 = ended.kept.1.1.0 in let k3 = ended.kept.1.1.1.0 in
    let stays : Stays S ended.kept = (stay_dropped (mut_ref_to (0 ∷ []) tt (plain (λ _. R))) k0, (stay_dropped (slot_at 1 S) k1, (stay_dropped (slot_at 2 S) k2, (stay_dropped (slot_at 3 S) k3, tt)))) in
    let c = clauses 𝓛 𝓜.mem 𝓡.returns in
    let C = (tables 𝓤 H 𝓜 𝓡 𝓡.env).C in let Λ = (tables 𝓤 H 𝓜 𝓡 𝓡.env).Λ in
    proved_at 𝓛 ended stays c 𝓜 𝓡
    (Goes-spent_ref 𝓛 1 (0 ∷ []) tt (plain (λ _. R)), (Goes-dropped 𝓛 1 (slot_at 1 S) k1 (λ κs x f. refl), (Goes-dropped 𝓛 1 (slot_at 2 S) k2 (λ κs x f. refl), (Goes-dropped 𝓛 1 (slot_at 3 S) k3 (λ κs x f. refl), tt))))
    #self fn (code.unfolded 𝓤 H 𝓜 𝓡 wired) (λ z are.
    let Post : Val → SProp 𝓤 = (walk_of 𝓛 ended stays c).post z in
    let a = z.0.3 in let vss = z.0.4 in let κ : Lft = z.0.0.0 in let q : Share = z.0.1.0 in
    let rb = a.0.ref_ptr.0 in let ro = a.0.ref_ptr.1 in let γ = a.0.ghost_name in let d = a.0.now in let base = a.1.0 in let i = a.1.1.0 in let n = a.1.1.1.0 in let xs = d.items in
    let run = take n (drop_l i xs) in let fits : i < 2 ^ 64 = are.1.1.0.1 in let fits_n : n < 2 ^ 64 = are.1.1.1.0.1 in
    let Asked : Type 0 = (base.ptr ≡ d.at) × (i + n ≤ length xs) in
    qed 𝓛 ((raw (alive 𝓛 ended.signature z.0.0 z.0.1) ⊛ ‵ (owns (types_at S z.0.0) a vss)) ∷ raw (fact 𝓤 Asked) ∷ []) ∵
    move ! (1 ∷ []) $ heard ! Asked (λ asked. split ! $ use1 𝓛 (‵ (flft κ q) ⊛ ‵ ftrue) (id⊢ 𝓤 _) $ split ! $ move ! (2 ∷ []) $
    fsplit ! $ fsplit3 ! $ drop ! $ keep ! (0 ∷ 1 ∷ 3 ∷ []) $
    let long : length run ≡ n = omega (arith, asked.1, length-take n (drop_l i xs), length-drop i xs) in
    let size : n ≡ i + n - i = omega arith in let is : run ≡ slice_range xs i (i + n) = ap (λ k. take k (drop_l i xs)) size in
    regoal ! (λ (us : List Val). prop (WpFn 𝓤 H C Λ fn us Post)) (λ j. are.0.0 j ++ (base_shown base.ptr vss.1.0 are.1.0 j ++ (are.1.1.0.0 j ++ (are.1.1.1.0.0 j ++ [])))) refl $
    enter ! C Λ fn (vptr rb ro ∷ base_val base.ptr ∷ vint w64 i ∷ vint w64 n ∷ []) Post $
    alloc_all ! (λ l. pass_all ! refl ((tt, tt), (word-Good [] base.ptr, ((tt, record { fits = fits }), ((tt, record { fits = fits_n }), tt)))) $ let En : Env 𝓤 H = env fn.locals l in
    opens ! tt R {h = d} rb ro (λ vs. move ! (1 ∷ []) $ fsplit ! $ move ! (1 ∷ []) $ in_a_block ! d.at (λ p. block_owns p xs d.spare) (id⊢ 𝓤 (never 𝓤)) (λ b o e. fsplit ! $ flt_l ! (λ small. fsplit ! $
    take_at ! 2 $ rewrite ! 0 (λ (p : Ptr). ‵ (fat full_share (layout Base) (l 2) 0 (base_val p))) (asked.0 ∙ e) refl $ give_at ! 2 $
    first ! $ blocks ! $
    sets ! (bin ! (get_in ! (fld ! refl (stop !)) (sub ! 0 refl (whole !))) (get ! refl) tt) refl (tt, tt) $
    sets_last ! (agg ! (and_then ! (get ! refl) (and_then ! (get ! refl) (no_more !)))) refl (tt, (tt, (record { fits = fits_n }, tt))) $
    exec ! C Λ En (after 1 fn.body) (at_ret En Post) $ sets ! (of_opd ! (get ! refl)) refl (tt, (tt, (record { fits = fits_n }, tt))) $
    -- [the bytes; the room; the owner's fields; its cell; the open borrow, in three entries]
    use1 𝓛 (‵ (owns_bytes_at b (i + o) run) ⊛ ‵ (Around 𝓛 b o xs i n)) (run_out 𝓛 b o xs i n asked.1) $ split ! $ use1 𝓛 (‵ (cells (mem u8) run b (i + o))) (to_cells 𝓛 b run (i + o)) $
    move ! (3 ∷ 4 ∷ []) $ fjoin ! $ move ! (3 ∷ 0 ∷ []) $ fjoin ! $ move ! (2 ∷ 0 ∷ []) $ fjoin ! $ move ! (2 ∷ 3 ∷ 4 ∷ 1 ∷ 0 ∷ []) $ group ! 5 $
    let new = after_loan 𝓛 d i n rb ro in let at = i + o in let way = back 𝓛 d i n rb ro vs b o e asked.1 small run long in
    let roomy : length run < 2 ^ 64 = omega (arith, long) in let fitting : length run * 1 < 2 ^ 63 = omega (arith, long, asked.1, small) in
    let Loan = λ (δ : GName). Elements 𝓛 R u8 new (named 0) κ q rb ro b at γ run (roomy, fitting) (sem 𝓛 (Rest 𝓛 d i n rb ro vs b o)) way δ in
    use1 𝓛 (later (some (λ (δ : GName). raw (Loan δ)))) (lends_Elements 𝓛 R u8 new (named 0) κ q rb ro b at γ run (roomy, fitting) (sem 𝓛 (Rest 𝓛 d i n rb ro vs b o)) way (R.coded.code d) (R.coded.code d)) $ await ! tt $ pick ! (λ δ.
    let r : MutBor (List ℕ) = record { ref_ptr = (b, at); ghost_name = δ; now = run } in
    returns ! (look_at ! 0 refl) $ free_all ! refl $
    use1 𝓛 (‵ ((MutSlice (named 0) κ u8).own_val r (slice_val (b, at) (length run) ∷ [])) ⊛ ‵ (flft κ q) ⊛ ‵ (follows R (Array u8 0) γ δ new)) (id⊢ 𝓤 _) $ split ! $ move ! (1 ∷ []) $ split ! $ move ! (2 ∷ []) $
    rewrite ! 0 (λ (k : ℕ). ‵ ((MutSlice (named 0) κ u8).own_val r (slice_val (b, at) k ∷ []))) long refl $ move ! (1 ∷ []) $ nothing ! $ move ! (1 ∷ 0 ∷ []) $ join ! $
    use0 𝓛 (raw (fact 𝓤 (run ≡ slice_range xs i (i + n)))) (fact_i 𝓤 (run ≡ slice_range xs i (i + n)) (emp 𝓤) is) $ move ! (3 ∷ 0 ∷ []) $ join ! $
    nothing ! $ nothing ! $ fjoin ! $ nothing ! $ fjoin ! $ nothing ! $ fjoin ! $ nothing ! $ fjoin ! $ move ! (2 ∷ 0 ∷ 3 ∷ 1 ∷ []) $
    by ! (leaves 𝓛 ended stays c z (slice_val (b, at) n) r (tt, (tt, (tt, (tt, tt)))) (tt, (tt, (tt, (tt, tt))))))))))))
