-- `read` sees one byte that the owner lends. Assumes `Logic`.
use Rattle.std.proofs.Common.{◌≡◌, ◌+◌, ◌^◌, ◌<◌, List, [], ◌∷◌, ◌++◌, length, get_or, refl, ◌∙◌, ap, w8, w64}
use Rattle.std.proofs.VecSteps.Shapes.{after}
use Rattle.std.proofs.raw_atomic.Walks.{proved_at, leaves}
use mir.Syntax.{Fn}
use mir.Val.{Val, vptr, vint}
use base.Logic.{SProp, emp, never, id⊢}
use base.Fml.{Lft, Share, ftrue, flft}
use prog.Wp.{Env, WpFn}
use contract.Monad.{fact, fact_i}
use contract.Running.{tables}
use types.Kit.{‵, raw, ◌⊛◌, prop, at_ret, ◌$◌, ◌∵◌, !, qed, by, move, keep, drop, use0, use1, split, join, regoal, rewrite, fsplit, fjoin, feq_l, feq_i, flt_l, flt_i}
use types.Part.{whole, sub}
use types.Run.{stop, fld, of_opd, bin, load, look, first, blocks, exec, returns, enter}
use types.ByLocal.{alloc_all, pass_all, free_all, look_at, get, get_in, through, sets, sets_last, env}
use denote.RattleType.{owns}
use denote.Builtin.{u8}
use denote.Copied.{uint_Copied}
use denote.Memory.{cell_at, shared_of}
use denote.Opens.{hide, unhide}
use denote.RawPtr.{Ptr, block_ptr, in_a_block}
use denote.Signature.{types_at}
use denote.Steps.{nothing, heard, looks, shuts}
use denote.Triple.Entry.{alive}
use denote.Triple.Walked.{Stays, stay_dropped, walk_of, Goes-dropped}
use Rattle.raw_store.specs.Ownership.{block_lent}
use Rattle.raw_store.proofs.Memory.{byte_seen}
use Rattle.raw_store.proofs.Values.{base_val, base_shown}
use Rattle.raw_store.proofs.Walks.{slot_at}
use Rattle.raw_store.specs.contracts.block.Bytes.read.{ended, clauses}
use Rattle.raw_store.specs.contracts.block.Bytes.read.Key.{name as #self}
use Rattle.raw_store.proofs.block.Bytes.read.Statement.{statement}
use Rattle.raw_store.proofs.block.Bytes.read.Code as code

pub read_spec : {M : Type 1} → statement M
read_spec 𝓤 𝓛 𝓜 𝓡 wired =
    let H = 𝓛.H in let fn : Fn = code.function in let S = ended.signature.params in
    let stays : Stays S ended.kept = (stay_dropped (slot_at 0 S) ended.kept.0, (stay_dropped (slot_at 1 S) ended.kept.1.0, (stay_dropped (slot_at 2 S) ended.kept.1.1.0, tt))) in
    let c = clauses 𝓛 𝓜.mem 𝓡.returns in
    let C = (tables 𝓤 H 𝓜 𝓡 𝓡.env).C in let Λ = (tables 𝓤 H 𝓜 𝓡 𝓡.env).Λ in
    proved_at 𝓛 ended stays c 𝓜 𝓡
    (Goes-dropped 𝓛 1 (slot_at 0 S) ended.kept.0 (λ κs x f. refl), (Goes-dropped 𝓛 1 (slot_at 1 S) ended.kept.1.0 (λ κs x f. refl), (Goes-dropped 𝓛 1 (slot_at 2 S) ended.kept.1.1.0 (λ κs x f. refl), tt)))
    #self fn (code.unfolded 𝓤 H 𝓜 𝓡 wired) (λ z are.
    let Post : Val → SProp 𝓤 = (walk_of 𝓛 ended stays c).post z in
    let a = z.0.3 in let vss = z.0.4 in let κ : Lft = z.0.0.0 in let q : Share = z.0.1.0 in
    let ref = a.0.ref_ptr in let d = a.0.now in let base = a.1.0 in let i = a.1.1.0 in let x = get_or d.items i 0 in
    let fits : i < 2 ^ 64 = are.1.1.0.1 in
    let Asked : Type 0 = (base.ptr ≡ d.at) × (i < length d.items) in
    qed 𝓛 ((raw (alive 𝓛 ended.signature z.0.0 z.0.1) ⊛ ‵ (owns (types_at S z.0.0) a vss)) ∷ raw (fact 𝓤 Asked) ∷ []) ∵
    move ! (1 ∷ []) $ heard ! Asked (λ asked. split ! $ use1 𝓛 (‵ (flft κ q) ⊛ ‵ ftrue) (id⊢ 𝓤 _) $ split ! $ move ! (2 ∷ []) $
    fsplit ! $ fsplit ! $ drop ! $ unhide ! $ fsplit ! $ drop ! $ in_a_block ! d.at (λ p. block_lent p d.items d.spare κ) (id⊢ 𝓤 (never 𝓤)) (λ b o e. fsplit ! $ drop ! $ keep ! (0 ∷ 2 ∷ []) $
    regoal ! (λ (us : List Val). prop (WpFn 𝓤 H C Λ fn us Post)) (λ j. are.0.0 j ++ ((base_shown base.ptr vss.1.0 are.1.0 ∙ ap (λ (p : Ptr). base_val p ∷ []) (asked.0 ∙ e)) j ++ (are.1.1.0.0 j ++ []))) refl $
    enter ! C Λ fn (vptr ref.0 ref.1 ∷ base_val (block_ptr b o) ∷ vint w64 i ∷ []) Post $
    alloc_all ! (λ l. pass_all ! refl ((tt, tt), ((tt, (tt, tt)), ((tt, record { fits = fits }), tt))) $ let En : Env 𝓤 H = env fn.locals l in
    first ! $ blocks ! $
    sets ! (bin ! (get_in ! (fld ! refl (stop !)) (sub ! 0 refl (whole !))) (get ! refl) tt) refl (tt, tt) $
    use1 𝓛 (‵ (shared_of u8 x b (i + o) κ)) (byte_seen 𝓛 b κ o d.items i asked.1) $ hide ! $
    looks ! tt u8 (uint_Copied 𝓛 w8).opens x b (i + o) (λ q' vs. move ! (1 ∷ []) $ fsplit ! $ feq_l ! (λ ev. flt_l ! (λ small.
    rewrite ! 0 (λ (us : List Val). ‵ (cell_at q' u8.mir us b (i + o))) ev refl $
    sets_last ! (of_opd ! (load ! (through ! refl (stop !)) (look ! 0 refl))) refl (tt, record { fits = small }) $
    exec ! C Λ En (after 1 fn.body) (at_ret En Post) $ sets ! (of_opd ! (get ! refl)) refl (tt, record { fits = small }) $
    flt_i ! x (2 ^ 8) small $ feq_i ! (List Val) (vint w8 x ∷ []) (vint w8 x ∷ []) refl $ fjoin ! $ move ! (1 ∷ 0 ∷ []) $ shuts ! tt u8 q' x (vint w8 x ∷ []) b (i + o) $
    returns ! (look_at ! 0 refl) $ free_all ! refl $ keep ! (0 ∷ []) $ nothing ! $ move ! (1 ∷ 0 ∷ []) $ join ! $
    use0 𝓛 (raw (fact 𝓤 (x ≡ x))) (fact_i 𝓤 (x ≡ x) (emp 𝓤) refl) $ flt_i ! x (2 ^ 8) small $ feq_i ! (List Val) (vint w8 x ∷ []) (vint w8 x ∷ []) refl $ fjoin ! $
    nothing ! $ nothing ! $ fjoin ! $ nothing ! $ fjoin ! $ nothing ! $ fjoin ! $ move ! (3 ∷ 0 ∷ 1 ∷ 2 ∷ []) $
    by ! (leaves 𝓛 ended stays c z (vint w8 x) x (tt, (tt, (tt, tt))) (tt, (tt, (tt, tt)))))))))))
