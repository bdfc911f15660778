-- `lend` shows a run of bytes that the owner lends. Assumes `Logic`.
use Rattle.std.proofs.Common.{◌≡◌, ℕ, ◌+◌, ◌-◌, ◌*◌, ◌^◌, ◌<◌, ◌≤◌, List, [], ◌∷◌, ◌++◌, length, take, drop as drop_l, slice_range, refl, sym, ◌∙◌, ap, arith, length-take, length-drop, w64}
use Rattle.std.proofs.VecSteps.Shapes.{after}
use Rattle.std.proofs.raw_atomic.Walks.{proved_at, leaves}
use mir.Syntax.{Fn}
use mir.Val.{Val, vptr, vint}
use base.Logic.{SProp, emp, never, id⊢}
use base.Fml.{Lft, Share, ftrue, flft}
use prog.Wp.{Env, WpFn}
use contract.Monad.{fact, fact_i}
use contract.Running.{tables}
use types.Kit.{‵, raw, ◌⊛◌, prop, at_ret, ◌$◌, ◌∵◌, !, qed, by, move, keep, drop, use0, use1, split, join, regoal, fsplit, fjoin, feq_i, flt_l, flt_i}
use types.Part.{whole, sub, agg}
use types.Run.{stop, fld, of_opd, bin, and_then, no_more, first, blocks, exec, returns, enter}
use types.ByLocal.{alloc_all, pass_all, free_all, look_at, get, get_in, sets, sets_last, env}
use denote.RattleType.{owns}
use denote.Builtin.{u8}
use denote.Opens.{hide, unhide}
use denote.RawPtr.{Ptr, block_ptr, in_a_block}
use denote.Signature.{types_at}
use denote.Slice.{slice_val, elements_shared}
use denote.Steps.{nothing, heard}
use denote.Triple.Entry.{alive}
use denote.Triple.Walked.{Stays, stay_dropped, walk_of, Goes-dropped}
use Rattle.raw_store.specs.Ownership.{block_lent}
use Rattle.raw_store.proofs.Memory.{run_seen}
use Rattle.raw_store.proofs.Values.{base_val, base_shown}
use Rattle.raw_store.proofs.Walks.{slot_at}
use Rattle.raw_store.specs.contracts.block.Bytes.lend.{ended, clauses}
use Rattle.raw_store.specs.contracts.block.Bytes.lend.Key.{name as #self}
use Rattle.raw_store.proofs.block.Bytes.lend.Statement.{statement}
use Rattle.raw_store.proofs.block.Bytes.lend.Code as code

pub lend_spec : {M : Type 1} → statement M
lend_spec 𝓤 𝓛 𝓜 𝓡 wired =
    let H = 𝓛.H in let fn : Fn = code.function in let S = ended.signature.params in
    let k0 = ended.kept.0 in let k1 = ended.kept.1.0 in let k2 = ended.kept.1.1.0 in let k3 = ended.kept.1.1.1.0 in
    let stays : Stays S ended.kept = (stay_dropped (slot_at 0 S) k0, (stay_dropped (slot_at 1 S) k1, (stay_dropped (slot_at 2 S) k2, (stay_dropped (slot_at 3 S) k3, tt)))) in
    let c = clauses 𝓛 𝓜.mem 𝓡.returns in
    let C = (tables 𝓤 H 𝓜 𝓡 𝓡.env).C in let Λ = (tables 𝓤 H 𝓜 𝓡 𝓡.env).Λ in
    proved_at 𝓛 ended stays c 𝓜 𝓡
    (Goes-dropped 𝓛 1 (slot_at 0 S) k0 (λ κs x f. refl), (Goes-dropped 𝓛 1 (slot_at 1 S) k1 (λ κs x f. refl), (Goes-dropped 𝓛 1 (slot_at 2 S) k2 (λ κs x f. refl), (Goes-dropped 𝓛 1 (slot_at 3 S) k3 (λ κs x f. refl), tt))))
    #self fn (code.unfolded 𝓤 H 𝓜 𝓡 wired) (λ z are.
    let Post : Val → SProp 𝓤 = (walk_of 𝓛 ended stays c).post z in
    let a = z.0.3 in let vss = z.0.4 in let κ : Lft = z.0.0.0 in let q : Share = z.0.1.0 in
    let ref = a.0.ref_ptr in let d = a.0.now in let base = a.1.0 in let i = a.1.1.0 in let n = a.1.1.1.0 in let xs = d.items in
    let run = take n (drop_l i xs) in let fits : i < 2 ^ 64 = are.1.1.0.1 in let fits_n : n < 2 ^ 64 = are.1.1.1.0.1 in
    let Asked : Type 0 = (base.ptr ≡ d.at) × (i + n ≤ length xs) in
    qed 𝓛 ((raw (alive 𝓛 ended.signature z.0.0 z.0.1) ⊛ ‵ (owns (types_at S z.0.0) a vss)) ∷ raw (fact 𝓤 Asked) ∷ []) ∵
    move ! (1 ∷ []) $ heard ! Asked (λ asked. split ! $ use1 𝓛 (‵ (flft κ q) ⊛ ‵ ftrue) (id⊢ 𝓤 _) $ split ! $ move ! (2 ∷ []) $
    fsplit ! $ fsplit ! $ drop ! $ unhide ! $ fsplit ! $ drop ! $ in_a_block ! d.at (λ p. block_lent p xs d.spare κ) (id⊢ 𝓤 (never 𝓤)) (λ b o e. fsplit ! $ flt_l ! (λ small. keep ! (0 ∷ 2 ∷ []) $
    let long : length run ≡ n = omega (arith, asked.1, length-take n (drop_l i xs), length-drop i xs) in
    let size : n ≡ i + n - i = omega arith in let at : ℕ × ℕ = (b, i + o) in
    regoal ! (λ (us : List Val). prop (WpFn 𝓤 H C Λ fn us Post)) (λ j. are.0.0 j ++ ((base_shown base.ptr vss.1.0 are.1.0 ∙ ap (λ (p : Ptr). base_val p ∷ []) (asked.0 ∙ e)) j ++ (are.1.1.0.0 j ++ (are.1.1.1.0.0 j ++ [])))) refl $
    enter ! C Λ fn (vptr ref.0 ref.1 ∷ base_val (block_ptr b o) ∷ vint w64 i ∷ vint w64 n ∷ []) Post $
    alloc_all ! (λ l. pass_all ! refl ((tt, tt), ((tt, (tt, tt)), ((tt, record { fits = fits }), ((tt, record { fits = fits_n }), tt)))) $ let En : Env 𝓤 H = env fn.locals l in
    first ! $ blocks ! $
    sets ! (bin ! (get_in ! (fld ! refl (stop !)) (sub ! 0 refl (whole !))) (get ! refl) tt) refl (tt, tt) $
    sets_last ! (agg ! (and_then ! (get ! refl) (and_then ! (get ! refl) (no_more !)))) refl (tt, (tt, (record { fits = fits_n }, tt))) $
    exec ! C Λ En (after 1 fn.body) (at_ret En Post) $ sets ! (of_opd ! (get ! refl)) refl (tt, (tt, (record { fits = fits_n }, tt))) $
    returns ! (look_at ! 0 refl) $ free_all ! refl $
    use1 𝓛 (‵ (elements_shared u8 run b (i + o) κ)) (run_seen 𝓛 b κ o xs i n (omega (arith, asked.1))) $ hide ! $
    flt_i ! (length run * 1) (2 ^ 63) (omega (arith, long, asked.1, small)) $ flt_i ! (length run) (2 ^ 64) (omega (arith, long)) $ fjoin ! $
    feq_i ! (List Val) (slice_val at n ∷ []) (slice_val at (length run) ∷ []) (ap (λ k. slice_val at k ∷ []) (sym long)) $ fjoin ! $ fjoin ! $
    move ! (1 ∷ []) $ nothing ! $ move ! (1 ∷ 0 ∷ []) $ join ! $
    let is : run ≡ slice_range xs i (i + n) = ap (λ k. take k (drop_l i xs)) size in
    use0 𝓛 (raw (fact 𝓤 (run ≡ slice_range xs i (i + n)))) (fact_i 𝓤 (run ≡ slice_range xs i (i + n)) (emp 𝓤) is) $
    nothing ! $ nothing ! $ fjoin ! $ nothing ! $ fjoin ! $ nothing ! $ fjoin ! $ nothing ! $ fjoin ! $ move ! (2 ∷ 0 ∷ 3 ∷ 1 ∷ []) $
    by ! (leaves 𝓛 ended stays c z (slice_val at n) (record { ref_ptr = at; now = run }) (tt, (tt, (tt, (tt, tt)))) (tt, (tt, (tt, (tt, tt))))))))))
