-- `lend_two` lends two runs of bytes for writing, and the owner follows both. Assumes `Logic`.
use Rattle.std.proofs.Common.{◌≡◌, ℕ, ◌+◌, ◌-◌, ◌*◌, ◌^◌, ◌<◌, ◌≤◌, List, [], ◌∷◌, ◌++◌, length, take, drop as drop_l, slice_range, refl, sym, ◌∙◌, ap, subst, arith, length-take, length-drop, w64, MutBor}
use Rattle.std.proofs.lemmas.List.{take_all}
use Rattle.std.proofs.VecSteps.Shapes.{after}
use Rattle.std.proofs.raw_atomic.Walks.{proved_at, leaves}
use seplogic.Ra.Ura.{Ura}
use base.Stored.{coded_list}
use base.Fraction.{full_share}
use mir.Syntax.{Fn, named}
use mir.Val.{Val, vptr, vint, vstruct, of_list}
use base.Logic.{SProp, ent, sep, emp, never, id⊢}
use base.Fml.{Lft, GName, Share, Fml, ftrue, fsep, froom, flft, fobs, fbor}
use prog.Wp.{Env, WpFn}
use contract.Monad.{fact, fact_i}
use contract.Running.{tables}
use types.Logic.{Logic, sem}
use types.Kit.{‵, raw, ◌⊛◌, some, later, await, pick, prop, at_ret, ◌$◌, ◌∵◌, !, qed, by, move, keep, drop, use0, use1, use2, use3, split, split3, join, group, regoal, rewrite, fsplit, fsplit3, fjoin, feq_i, feq_l, fpick, fpack, flt_l, flt_i, done}
use types.Part.{whole, sub, agg, look_in}
use types.Run.{stop, fld, of_opd, bin, load, and_then, no_more, first, blocks, exec, returns, enter}
use types.ByLocal.{alloc_all, pass_all, free_all, look_at, get, through, sets, sets_last, env}
use types.SemTy.{cells, Arr, Body}
use types.Follow.{after₂, takes_two}
use denote.RattleType.{RattleType, Valss, owns}
use denote.Laws.{Is, shows}
use denote.Builtin.{u8, usize}
use denote.Follow.{both_by}
use denote.FollowSlice.{slice_of}
use denote.Memory.{mem, cell_at, part_of}
use denote.RawPtr.{Ptr, block_ptr, in_a_block}
use denote.Signature.{plain, types_at, mut_ref_to}
use denote.Slice.{MutSlice, slice_val}
use denote.Struct.Struct.{within}
use denote.Struct.Declared.{shape}
use denote.Struct.Tuple.{Tuple}
use denote.Steps.{nothing, heard, opens, peeks}
use denote.Triple.Entry.{alive}
use denote.Triple.Walked.{Stays, stay_dropped, walk_of, Goes-dropped, Goes-spent_ref}
use Rattle.raw_store.specs.Lends.{bytes_with_items}
use Rattle.raw_store.specs.Ownership.{bytes_type, owns_bytes_at, block_owns}
use Rattle.raw_store.specs.Region.{AreApartOrEmpty, Region, bytes_after_write, region_with_items as with_written}
use Rattle.raw_store.proofs.Memory.{to_cells, of_cells}
use Rattle.raw_store.proofs.Two.{Others, two_out, two_in}
use Rattle.raw_store.proofs.Values.{base_val, base_shown, none_own, two_val, two_of}
use Rattle.raw_store.proofs.Walks.{slot_at}
use Rattle.raw_store.proofs.Written.{length-written}
use Rattle.raw_store.specs.declared.store.RawStore.TheInside.{Inside}
use Rattle.raw_store.specs.contracts.block.Base.{the_row as Base}
use Rattle.raw_store.specs.contracts.store.RawStore.{the_row as R, the_view, the_invariant}
use Rattle.raw_store.specs.contracts.store.RawStore.TheInside.{the_type as I, the_row as inside}
use Rattle.raw_store.specs.contracts.store.RawStore.lend_two.{ended, clauses}
use Rattle.raw_store.specs.contracts.store.RawStore.lend_two.Key.{name as #self}
use Rattle.raw_store.proofs.store.RawStore.lend_two.Statement.{statement}
use Rattle.raw_store.proofs.store.RawStore.lend_two.Code as code

abbrev Fields : List RattleType
Fields = (shape I).fields

abbrev rest_of : List RattleType → List RattleType
rest_of [] = []
rest_of (r ∷ rs) = rs

-- the fields but for the base, and but for the bytes' owner too
abbrev Later : List RattleType
Later = rest_of Fields

abbrev Deeds : List RattleType
Deeds = rest_of (rest_of Later)

-- what comes after the base in a store's machine value
abbrev others_of : Valss Fields → List Val
others_of vss = vss.1.0 ++ (vss.1.1.0 ++ (vss.1.1.1.0 ++ (vss.1.1.1.1.0 ++ [])))

-- a store whose bytes are others
abbrev with_bytes : Inside → List ℕ → Inside
with_bytes s xs = record s { bytes = bytes_with_items s.bytes xs }

module _ {M : Type 1} {𝓤 : Ura M} (𝓛 : Logic 𝓤) (s : Inside) (i n k m rb ro : ℕ) where
  abbrev after_loan : List ℕ → List ℕ → List ℕ
  after_loan ws zs = bytes_after_write (bytes_after_write s.bytes.items i (take n ws)) k (take m zs)

  abbrev region_after : List ℕ → List ℕ → Region
  region_after ws zs = record { items = after_loan ws zs; spare = s.bytes.spare }

  module _ (vs : List Val) (vss : Valss Fields) (b o : ℕ) (apart : AreApartOrEmpty i n k m) where
    -- all but the two runs: the room, what the fields own, and the store's cell
    abbrev Rest : Fml
    Rest = fsep (Others 𝓛 b o s.bytes.items i n k m apart) (fsep (froom (bytes_type s.bytes.spare) b (length s.bytes.items + o)) (fsep (none_own vss.1.1.0)
        (fsep (Base.own_val s.base vss.0) (fsep (usize.own_val s.len vss.1.0) (fsep (owns Deeds (I.to s).1.1.1 vss.1.1.1) (cell_at full_share R.mir vs rb ro))))))

    back : vs ≡ vstruct (of_list (vss.0 ++ others_of vss)) ∷ [] → the_invariant s → s.bytes.at ≡ block_ptr b o → i + n ≤ length s.bytes.items → k + m ≤ length s.bytes.items → length s.bytes.items + s.bytes.spare < 2 ^ 63
        → (xs ys : List ℕ) → length xs ≡ n → length ys ≡ m → (ws zs : List ℕ)
        → ent 𝓤 (sep 𝓤 (sem 𝓛 ((Arr (mem u8) (length xs)).own_at ws b (i + o))) (sep 𝓤 (sem 𝓛 ((Arr (mem u8) (length ys)).own_at zs b (k + o))) (sem 𝓛 Rest))) (sem 𝓛 ((mem R).own_at (region_after ws zs) rb ro))
    unfolding part_of
    back spelt holds e within_n within_m small xs ys count_n count_m ws zs =
        let items = s.bytes.items in let spare = s.bytes.spare in let new = after_loan ws zs in let t : Inside = with_bytes s new in
        qed 𝓛 (‵ ((Arr (mem u8) (length xs)).own_at ws b (i + o)) ∷ ‵ ((Arr (mem u8) (length ys)).own_at zs b (k + o)) ∷ ‵ Rest ∷ []) ∵
        fsplit ! $ feq_l ! (λ same_n. move ! (1 ∷ []) $ fsplit ! $ feq_l ! (λ same_m.
        let all_n : take n ws ≡ ws = take_all n ws (omega (arith, same_n, count_n)) in let all_m : take m zs ≡ zs = take_all m zs (omega (arith, same_m, count_m)) in
        let long_n : n ≡ length (take n ws) = omega (arith, same_n, count_n, ap length all_n) in let long_m : m ≡ length (take m zs) = omega (arith, same_m, count_m, ap length all_m) in
        let half = bytes_after_write items i (take n ws) in let once : length half ≡ length items = length-written items (take n ws) i (omega (arith, within_n, long_n)) in
        let long : length new ≡ length items = length-written half (take m zs) k (omega (arith, within_m, long_m, once)) ∙ once in
        let still : the_invariant t = (holds.0, long ∙ holds.1, ap (λ j. j + spare) long ∙ holds.2, holds.3, holds.4) in let region : Region = region_after ws zs in
        use1 𝓛 (‵ (owns_bytes_at b (k + o) zs)) (of_cells 𝓛 b zs (k + o)) $ rewrite ! 0 (λ (l : List ℕ). ‵ (owns_bytes_at b (k + o) l)) (sym all_m) refl $ move ! (1 ∷ []) $
        use1 𝓛 (‵ (owns_bytes_at b (i + o) ws)) (of_cells 𝓛 b ws (i + o)) $ rewrite ! 0 (λ (l : List ℕ). ‵ (owns_bytes_at b (i + o) l)) (sym all_n) refl $
        -- [the first run; the second; the rest]
        move ! (2 ∷ []) $ fsplit ! $ move ! (2 ∷ 3 ∷ 0 ∷ []) $ use3 𝓛 (‵ (owns_bytes_at b o new)) (two_in 𝓛 b o items i n k m apart within_n within_m (take n ws) (take m zs) long_n long_m) $
        move ! (1 ∷ []) $ fsplit3 ! $ rewrite ! 0 (λ (j : ℕ). ‵ (froom (bytes_type spare) b (j + o))) (sym long) refl $ move ! (3 ∷ 0 ∷ []) $ fjoin ! $
        flt_i ! (length new + spare) (2 ^ 63) (subst (λ j. j + spare < 2 ^ 63) (sym long) small) $ fjoin ! $
        rewrite ! 0 (λ (p : Ptr). ‵ (block_owns p new spare)) (sym e) refl $ move ! (1 ∷ 0 ∷ []) $ fjoin ! $
        -- [the owner of the bytes; what the other fields own, and the cell]
        move ! (1 ∷ []) $ fsplit3 ! $ move ! (2 ∷ []) $ fsplit ! $
        -- [the deed and the room; the cell; the base; the length; the owner]
        move ! (4 ∷ 0 ∷ []) $ fjoin ! $ move ! (3 ∷ 0 ∷ []) $ fjoin ! $ move ! (2 ∷ 0 ∷ []) $ fjoin ! $
        feq_i ! (List Val) vs (vstruct (of_list (vss.0 ++ others_of vss)) ∷ []) spelt $ fjoin ! $ fpack ! (Valss Fields) (within (shape I) (I.to t) vs) vss $
        nothing ! $ move ! (1 ∷ 0 ∷ []) $ fjoin ! $ fpack ! ((u : Inside) × ((the_view u ≡ region) × the_invariant u)) (λ u. fsep (inside.own_val u.0 vs) ftrue) (t, (refl, still)) $ move ! (1 ∷ 0 ∷ []) $ fjoin ! $
        fpack ! (List Val) (λ us. fsep (cell_at full_share R.mir us rb ro) (R.own_val region us)) vs $ done !))

pub lend_two_spec : {M : Type 1} → statement M
unfolding both_by
lend_two_spec 𝓤 𝓛 𝓜 𝓡 wired =
    let H = 𝓛.H in let fn : Fn = code.function in let S = ended.signature.params in
    let k0 = ended.kept.0 in let k1 = ended.kept.1.0 in let k2 = ended.kept.1.1.0 in let k3 = ended.kept.1.1.1.0 in let k4 = ended.kept.1.1.1.1.0 in
    let stays : Stays S ended.kept = (stay_dropped (mut_ref_to (0 ∷ []) tt (plain (λ _. R))) k0, (stay_dropped (slot_at 1 S) k1, (stay_dropped (slot_at 2 S) k2, (stay_dropped (slot_at 3 S) k3, (stay_dropped (slot_at 4 S) k4, tt))))) in
    let c = clauses 𝓛 𝓜.mem 𝓡.returns in
    let C = (tables 𝓤 H 𝓜 𝓡 𝓡.env).C in let Λ = (tables 𝓤 H 𝓜 𝓡 𝓡.env).Λ in
    proved_at 𝓛 ended stays c 𝓜 𝓡 (
      Goes-spent_ref 𝓛 1 (0 ∷ []) tt (plain (λ _. R)),
      (
        Goes-dropped 𝓛 1 (slot_at 1 S) k1 (λ κs x f. refl),
        (
          Goes-dropped 𝓛 1 (slot_at 2 S) k2 (λ κs x f. refl),
          (
            Goes-dropped 𝓛 1 (slot_at 3 S) k3 (λ κs x f. refl),
            (Goes-dropped 𝓛 1 (slot_at 4 S) k4 (λ κs x f. refl), tt),
          ),
        ),
      ),
    )
    #self fn (code.unfolded 𝓤 H 𝓜 𝓡 wired) (λ z are.
    let Post : Val → SProp 𝓤 = (walk_of 𝓛 ended stays c).post z in
    let a = z.0.3 in let vss = z.0.4 in let κ : Lft = z.0.0.0 in let q : Share = z.0.1.0 in
    let rb = a.0.ref_ptr.0 in let ro = a.0.ref_ptr.1 in let γ = a.0.ghost_name in let xs = a.0.now in
    let i = a.1.0 in let n = a.1.1.0 in let k = a.1.1.1.0 in let m = a.1.1.1.1.0 in
    let fits : i < 2 ^ 64 = are.1.0.1 in let fits_n : n < 2 ^ 64 = are.1.1.0.1 in let fits_k : k < 2 ^ 64 = are.1.1.1.0.1 in let fits_m : m < 2 ^ 64 = are.1.1.1.1.0.1 in
    qed 𝓛 ((raw (alive 𝓛 ended.signature z.0.0 z.0.1) ⊛ ‵ (owns (types_at S z.0.0) a vss)) ∷ (raw (fact 𝓤 (i + n ≤ length xs.items)) ⊛ raw (fact 𝓤 (k + m ≤ length xs.items)) ⊛ raw (fact 𝓤 (AreApartOrEmpty i n k m))) ∷ []) ∵
    move ! (1 ∷ []) $ split3 ! $ heard ! (i + n ≤ length xs.items) (λ within_n. heard ! (k + m ≤ length xs.items) (λ within_m. heard ! (AreApartOrEmpty i n k m) (λ apart. split ! $ use1 𝓛 (‵ (flft κ q) ⊛ ‵ ftrue) (id⊢ 𝓤 _) $ split ! $ move ! (2 ∷ []) $
    fsplit ! $ fsplit3 ! $ drop ! $ keep ! (0 ∷ 1 ∷ 3 ∷ []) $
    regoal ! (λ (us : List Val). prop (WpFn 𝓤 H C Λ fn us Post)) (λ j. are.0.0 j ++ (are.1.0.0 j ++ (are.1.1.0.0 j ++ (are.1.1.1.0.0 j ++ (are.1.1.1.1.0.0 j ++ []))))) refl $
    enter ! C Λ fn (vptr rb ro ∷ vint w64 i ∷ vint w64 n ∷ vint w64 k ∷ vint w64 m ∷ []) Post $
    alloc_all ! (λ l. pass_all ! refl ((tt, tt), ((tt, record { fits = fits }), ((tt, record { fits = fits_n }), ((tt, record { fits = fits_k }), ((tt, record { fits = fits_m }), tt))))) $ let En : Env 𝓤 H = env fn.locals l in
    opens ! tt R {h = xs} rb ro (λ vs. move ! (1 ∷ []) $ fpick ! (λ hidden. let s : Inside = hidden.0 in let view_is = hidden.1.0 in let holds = hidden.1.1 in
    fsplit ! $ move ! (1 ∷ []) $ drop ! $ fpick ! (λ us. fsplit ! $ feq_l ! (λ spelt. fsplit ! $ peeks ! Base (Is Base) (shows 𝓛 Base) s.base us.0 (λ reported.
    move ! (1 ∷ []) $ fsplit ! $ move ! (1 ∷ []) $ fsplit ! $ fsplit ! $ move ! (1 ∷ []) $ in_a_block ! s.bytes.at (λ p. block_owns p s.bytes.items s.bytes.spare) (id⊢ 𝓤 (never 𝓤)) (λ b o e. fsplit ! $ flt_l ! (λ small. fsplit ! $
    -- [the bytes; the room; the owner's fields; the deed and the room; the length; the base; the
    -- store's cell; the open borrow, in three entries]
    let spelt_out : vs ≡ vstruct (of_list (base_val (block_ptr b o) ∷ others_of us)) ∷ [] = spelt ∙ (λ j. vstruct (of_list ((base_shown s.base.ptr us.0 reported ∙ ap (λ (p : Ptr). base_val p ∷ []) (holds.0 ∙ e)) j ++ others_of us)) ∷ []) in
    let ys = s.bytes.items in let items_are : ys ≡ xs.items = ap (λ (r : Region). r.items) view_is in let in_n : i + n ≤ length ys = omega (arith, within_n, ap length items_are) in let in_m : k + m ≤ length ys = omega (arith, within_m, ap length items_are) in
    let one = take n (drop_l i ys) in let two = take m (drop_l k ys) in
    let long : length one ≡ n = omega (arith, in_n, length-take n (drop_l i ys), length-drop i ys) in let long_m : length two ≡ m = omega (arith, in_m, length-take m (drop_l k ys), length-drop k ys) in
    let size : n ≡ i + n - i = omega arith in let size_m : m ≡ k + m - k = omega arith in
    let First : Type 0 = one ≡ slice_range xs.items i (i + n) in let Second : Type 0 = two ≡ slice_range xs.items k (k + m) in
    let first_is : First = (λ j. take (size j) (drop_l i (items_are j))) in let second_is : Second = (λ j. take (size_m j) (drop_l k (items_are j))) in
    let Cell = λ (ws : List Val). ‵ (cell_at full_share R.mir ws rb ro) in
    rewrite ! 6 Cell spelt_out refl $ first ! $ blocks ! $
    sets ! (of_opd ! (load ! (through ! refl (fld ! refl (fld ! refl (stop !)))) (look_in ! 6 (sub ! 0 refl (sub ! 0 refl (whole !)))))) refl (tt, tt) $ sets ! (bin ! (get ! refl) (get ! refl) tt) refl (tt, tt) $
    sets ! (agg ! (and_then ! (get ! refl) (and_then ! (get ! refl) (no_more !)))) refl (tt, (tt, (record { fits = fits_n }, tt))) $
    sets ! (of_opd ! (load ! (through ! refl (fld ! refl (fld ! refl (stop !)))) (look_in ! 6 (sub ! 0 refl (sub ! 0 refl (whole !)))))) refl (tt, tt) $ sets ! (bin ! (get ! refl) (get ! refl) tt) refl (tt, tt) $
    sets ! (agg ! (and_then ! (get ! refl) (and_then ! (get ! refl) (no_more !)))) refl (tt, (tt, (record { fits = fits_m }, tt))) $
    sets_last ! (agg ! (and_then ! (get ! refl) (and_then ! (get ! refl) (no_more !)))) refl (tt, ((tt, (record { fits = fits_n }, tt)), ((tt, (record { fits = fits_m }, tt)), tt))) $
    exec ! C Λ En (after 1 fn.body) (at_ret En Post) $ sets ! (of_opd ! (get ! refl)) refl (tt, ((tt, (record { fits = fits_n }, tt)), ((tt, (record { fits = fits_m }, tt)), tt))) $
    rewrite ! 6 Cell (sym spelt_out) refl $
    let at : ℕ = i + o in let at_m : ℕ = k + o in let new = region_after 𝓛 s i n k m rb ro in
    let T = Arr (mem u8) (length one) in let U = Arr (mem u8) (length two) in let around = Rest 𝓛 s i n k m rb ro vs us b o apart in
    let way = back 𝓛 s i n k m rb ro vs us b o apart spelt holds e in_n in_m small one two long long_m in
    let roomy : (length one < 2 ^ 64) × (length one * 1 < 2 ^ 63) = (omega (arith, long), omega (arith, long, in_n, small)) in
    let roomy_m : (length two < 2 ^ 64) × (length two * 1 < 2 ^ 63) = (omega (arith, long_m), omega (arith, long_m, in_m, small)) in
    use1 𝓛 (‵ (owns_bytes_at b at one) ⊛ ‵ (owns_bytes_at b at_m two) ⊛ ‵ (Others 𝓛 b o ys i n k m apart)) (two_out 𝓛 b o ys i n k m apart in_n in_m) $ split3 ! $
    use1 𝓛 (‵ (cells (mem u8) one b at)) (to_cells 𝓛 b one at) $ feq_i ! ℕ (length one) (length one) refl $ fjoin ! $ move ! (1 ∷ []) $
    use1 𝓛 (‵ (cells (mem u8) two b at_m)) (to_cells 𝓛 b two at_m) $ feq_i ! ℕ (length two) (length two) refl $ fjoin ! $
    -- [the second run; the first; the others; the room; the owner's fields; the deed and the room;
    -- the length; the base; the cell; the open borrow]
    move ! (5 ∷ 8 ∷ []) $ fjoin ! $ move ! (6 ∷ 0 ∷ []) $ fjoin ! $ move ! (6 ∷ 0 ∷ []) $ fjoin ! $ move ! (5 ∷ 0 ∷ []) $ fjoin ! $ move ! (4 ∷ 0 ∷ []) $ fjoin ! $ move ! (3 ∷ 0 ∷ []) $ fjoin ! $
    move ! (3 ∷ 4 ∷ 5 ∷ 2 ∷ 1 ∷ 0 ∷ []) $ group ! 6 $
    use1 𝓛 (later (some (λ (γs : GName × GName). (‵ (fobs γs.0 ((coded_list u8.coded).code one)) ⊛ ‵ (fbor κ (Body T b at γs.0))) ⊛ (‵ (fobs γs.1 ((coded_list u8.coded).code two)) ⊛ ‵ (fbor κ (Body U b at_m γs.1)))
    ⊛ ‵ (flft κ q) ⊛ ‵ (after₂ (mem R) T U γ γs.0 γs.1 new))))
    (takes_two 𝓛 (mem R) T U new κ q rb ro b at b at_m γ (sem 𝓛 around) way (R.coded.code xs) (R.coded.code xs) one two) $ await ! tt $ pick ! (λ γs.
    let r : MutBor (List ℕ) = record { ref_ptr = (b, at); ghost_name = γs.0; now = one } in let r_m : MutBor (List ℕ) = record { ref_ptr = (b, at_m); ghost_name = γs.1; now = two } in
    let Part = MutSlice (named 0) κ u8 in
    returns ! (look_at ! 0 refl) $ free_all ! refl $
    split3 ! $ use1 𝓛 (‵ (Part.own_val r (slice_val (b, at) (length one) ∷ []))) (slice_of 𝓛 u8 (named 0) κ b at γs.0 one roomy) $ rewrite ! 0 (λ (j : ℕ). ‵ (Part.own_val r (slice_val (b, at) j ∷ []))) long refl $
    move ! (1 ∷ []) $ use1 𝓛 (‵ (Part.own_val r_m (slice_val (b, at_m) (length two) ∷ []))) (slice_of 𝓛 u8 (named 0) κ b at_m γs.1 two roomy_m) $ rewrite ! 0 (λ (j : ℕ). ‵ (Part.own_val r_m (slice_val (b, at_m) j ∷ []))) long_m refl $
    let v = two_val (slice_val (b, at) n) (slice_val (b, at_m) m) in
    move ! (1 ∷ 0 ∷ []) $ use2 𝓛 (‵ ((Tuple (Part ∷ Part ∷ [])).own_val (r, r_m) (v ∷ []))) (two_of 𝓛 Part Part r r_m (slice_val (b, at) n) (slice_val (b, at_m) m)) $
    -- [the pair; the token and what the store follows]
    move ! (1 ∷ []) $ split ! $ nothing ! $ move ! (1 ∷ 0 ∷ []) $ join ! $ move ! (1 ∷ []) $
    rewrite ! 0 (λ (l : Region). ‵ (after₂ (mem R) T U γ γs.0 γs.1 (λ ws zs. with_written l (bytes_after_write (bytes_after_write l.items i (take n ws)) k (take m zs))))) view_is refl $
    use0 𝓛 (raw (fact 𝓤 Second)) (fact_i 𝓤 Second (emp 𝓤) second_is) $ use0 𝓛 (raw (fact 𝓤 First)) (fact_i 𝓤 First (emp 𝓤) first_is) $ join ! $ move ! (1 ∷ 0 ∷ []) $ join ! $
    nothing ! $ nothing ! $ fjoin ! $ nothing ! $ fjoin ! $ nothing ! $ fjoin ! $ nothing ! $ fjoin ! $ nothing ! $ fjoin ! $ move ! (2 ∷ 0 ∷ 3 ∷ 1 ∷ []) $
    by ! (leaves 𝓛 ended stays c z v (r, r_m) (tt, (tt, (tt, (tt, (tt, tt))))) (tt, (tt, (tt, (tt, (tt, tt)))))))))))))))))))
