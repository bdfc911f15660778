-- What calls on one block answer, and what they leave.
use Rattle.std.proofs.Common.{◌≡◌, ℕ, Bool, ◌+◌, ◌-◌, ◌^◌, ◌<◌, ◌≤◌, ◌||◌, true, false, nat_eq, List, [], ◌∷◌, ◌++◌, length, take, drop, replicate, Some, None, Result, Ok, Err, arith, refl, sym, ◌∙◌, ap, inl, inr, subst, zero, suc}
use Rattle.std.specs.Prelude.{if◌then◌else◌}
use Rattle.std.proofs.lemmas.Bool.{cases_Bool, cases_lt, eqb-true, or_cases, or_left, or_right, le-leb, lt-leb, lt-ltb, le-ltb, eq-eqb, ne_eqb}
use Rattle.std.proofs.Math.Seq.{take-length, drop-length}
use Rattle.std.proofs.lemmas.List.{append-nil}
use Rattle.profile.specs.Outcome.{Gives}
use Rattle.profile.specs.ErrorNumber.{ErrorNumber}
use Rattle.profile.specs.ErrorNumber.TheVariants.{FlexBadAnchor, FlexBadRange, FlexHoldsAnchor}
use Rattle.os_heap.proofs.Bytes.{is_mapped-layout}
use Rattle.os_heap.specs.Memory.{anchor_of, byte_at}
use Rattle.os_heap.specs.AddressMap.{AddressMap}
use Rattle.flex_store.specs.declared.flex.Extent.{Extent}
use Rattle.flex_store.specs.declared.splice.Splice.{Splice}
use Rattle.flex_store.specs.Blocks.{Block, contents, cut_of, find_block, has_anchor, block_holding, more_of, bytes_with_size, bytes_after_splice, bytes_taken_by_all, with_block}
use Rattle.flex_store.specs.Calls.{breaks_anchor, end_in, flex_after_extend, flex_if_room, FlexState, header_place_in, is_anchor_byte, mid_extended, flex_block_size, spliced_at, with_blocks}
use Rattle.flex_store.specs.Changes.{Fits, GotBlocks}
use Rattle.flex_store.specs.Memory.{laid_out, standing}
use Rattle.flex_store.specs.Relaid.{blocks_behind_first, first_at, blocks_after_splice}
use Rattle.flex_store.specs.Shifts.{following, splice_shifts}
use Rattle.flex_store.specs.State.{IsAnchorAllowed, IsStoreAt, KeepsBesidesFlex, blocks_of, held_in, flex_store_in}
use Rattle.flex_store.proofs.Finding.{IsHeaderWord, IsPlaced}
use Rattle.flex_store.proofs.Lists.{anchor-append}
use Rattle.flex_store.proofs.Replacing.{IsChange, new_old}
use Rattle.flex_store.proofs.Standing.{standing_has}

-- nothing changed
pub same_keeps : (m : AddressMap) (e : Extent) → IsStoreAt m e → KeepsBesidesFlex m e m e
same_keeps m e s = record {
  store = s;
  same = refl;
  heads = λ clear. record { bytes = λ a is. refl; classes = λ a. refl };
  anchors = λ a has. inl has;
  start = refl;
  end = refl;
}

pub got_state : (m n : AddressMap) (e f : Extent) (front news : List Block) → GotBlocks m e front news n f
    → held_in n f ≡ with_blocks (held_in m e) (flex_store_in m e) front news
got_state m n e f front news g =
    let bytes : byte_at n ≡ laid_out (e.start + bytes_taken_by_all front) news (byte_at m) = λ i a. g.bytes a i in
    let blocks : blocks_of n f ≡ standing (laid_out (e.start + bytes_taken_by_all front) news (byte_at m)) e.start (front ++ news) =
    g.blocks_are ∙ ap (λ (h : ℕ → ℕ). standing h e.start (front ++ news)) bytes in
    λ i. record {
      bytes = record { mapped = is_mapped-layout m n g.same i; at = bytes i };
      flex = Some (record { start = g.start i; end = g.end i; blocks = blocks i });
    }

-- the anchors of some blocks are those of the store's, or words that may be anchors, or lie in the
-- store
abbrev pub AreAllowed : AddressMap → Extent → List Block → Type 0
AreAllowed m e bs = (a : ℕ) → has_anchor bs a ≡ true → IsAnchorAllowed m e a

pub has_with : (anchor : ℕ) (new : Block) (bs : List Block) (a : ℕ) → new.anchor ≡ anchor → has_anchor (with_block anchor new bs) a ≡ true → has_anchor bs a ≡ true
has_with anchor new [] a same has = has
has_with anchor new (b ∷ bs) a same has = elim (cases_Bool (nat_eq b.anchor anchor)) [
  | inl here ↦
      let has' = rw here at has in
      let e : new.anchor ≡ b.anchor = same ∙ sym (eqb-true b.anchor anchor here) in
      ap (λ (x : ℕ). nat_eq a x || has_anchor bs a) (sym e) ∙ has'
  | inr other ↦
      let has' = rw other at has in
      elim (cases_Bool (nat_eq a b.anchor)) [
        | inl own ↦ or_left (nat_eq a b.anchor) (has_anchor bs a) own
        | inr apart ↦ or_right (nat_eq a b.anchor) (has_anchor bs a) (has_with anchor new bs a same (rw apart at has'))
      ]
]

pub got_keeps : (m n : AddressMap) (e f : Extent) (front news : List Block) → AreAllowed m e (front ++ news) → GotBlocks m e front news n f → KeepsBesidesFlex m e n f
got_keeps m n e f front news allowed g = record {
  store = g.store;
  same = g.same;
  heads = g.heads;
  anchors = λ a has. allowed a (sym (standing_has (byte_at n) e.start (front ++ news) a) ∙ (ap (λ (l : List Block). has_anchor l a) (sym g.blocks_are) ∙ has));
  start = g.start;
  end = g.end;
}

-- the answer of a change
pub fits_state : (m n : AddressMap) (e f : Extent) (front news : List Block) (done : Bool) → Fits m e front news done n f
    → Gives {U = Bool} {E = ErrorNumber} (held_in m e) (Ok (flex_if_room (held_in m e) (flex_store_in m e) front news)) (Ok done) (held_in n f)
fits_state m n e f front news true fits = rw (le-leb (e.start + bytes_taken_by_all (front ++ news)) e.end fits.0) (got_state m n e f front news fits.1, refl)
fits_state m n e f front news false fits =
    rw (lt-leb (e.start + bytes_taken_by_all (front ++ news)) e.end fits.0) ((λ i. held_in (fits.1.0 i) (fits.1.1 i)), refl)

pub fits_keeps : (m n : AddressMap) (e f : Extent) (front news : List Block) (done : Bool) → IsStoreAt m e → AreAllowed m e (front ++ news) → Fits m e front news done n f
    → KeepsBesidesFlex m e n f
fits_keeps m n e f front news true s allowed fits = got_keeps m n e f front news allowed fits.1
fits_keeps m n e f front news false s allowed fits =
    subst (λ (x : Extent). KeepsBesidesFlex m e n x) (sym fits.1.1) (subst (λ (x : AddressMap). KeepsBesidesFlex m e x e) (sym fits.1.0) (same_keeps m e s))

-- A splice, by the place of its block.
pub spliced_is : (m : AddressMap) (e : Extent) (anchor header : ℕ) (front : List Block) (s : Splice) → IsStoreAt m e → IsPlaced m e anchor header front
    → spliced_at (held_in m e) (flex_store_in m e) anchor (first_at m header) s.at s.cut s.more
    ≡ (if breaks_anchor (anchor_of m) (header + 8) (first_at m header).size s.at s.cut s.more then Err FlexHoldsAnchor else
    Ok (flex_if_room (held_in m e) (flex_store_in m e) front (blocks_after_splice m header (e.start + e.used) s)))
spliced_is m e anchor header front s is p =
    let b : Block = first_at m header in
    let at_is : header_place_in (flex_store_in m e) anchor ≡ header = ap (λ (l : List Block). e.start + bytes_taken_by_all l) p.split.front_is ∙ sym p.place in
    let end_is : end_in (flex_store_in m e) ≡ e.start + e.used = ap (λ (n : ℕ). e.start + n) is.used_is in
    let anchors : is_anchor_byte (flex_store_in m e) ≡ anchor_of m = λ i a. sym (is.store.anchors a) i in
    λ i. if breaks_anchor (anchors i) (at_is i + 8) b.size s.at s.cut s.more then Err FlexHoldsAnchor else
    Ok (flex_if_room (held_in m e) (flex_store_in m e) (p.split.front_is i)
    (block_holding b (bytes_after_splice (contents b) s.at s.cut s.more) ∷ following (splice_shifts (at_is i) (end_is i) b.size s.at s.cut s.more) (p.split.rest_is i)))

pub splice_broken : (m : AddressMap) (e : Extent) (anchor header : ℕ) (front : List Block) (s : Splice) → IsStoreAt m e → IsPlaced m e anchor header front
    → breaks_anchor (anchor_of m) (header + 8) (first_at m header).size s.at s.cut s.more ≡ true
    → Gives {U = Bool} (held_in m e) (spliced_at (held_in m e) (flex_store_in m e) anchor (first_at m header) s.at s.cut s.more) (Err FlexHoldsAnchor) (held_in m e)
splice_broken m e anchor header front s is p broken =
    let way = spliced_is m e anchor header front s is p
    ∙ ap (λ (t : Bool). let r : Result (FlexState × Bool) ErrorNumber = if t then Err FlexHoldsAnchor else Ok (flex_if_room (held_in m e) (flex_store_in m e) front (blocks_after_splice m header (e.start + e.used) s)) in r) broken in
    subst (λ (x : Result (FlexState × Bool) ErrorNumber). Gives (held_in m e) x (Err FlexHoldsAnchor) (held_in m e)) (sym way) (refl, refl)

pub splice_done : (m n : AddressMap) (e f : Extent) (anchor header : ℕ) (front : List Block) (s : Splice) (done : Bool) → IsStoreAt m e → IsPlaced m e anchor header front
    → breaks_anchor (anchor_of m) (header + 8) (first_at m header).size s.at s.cut s.more ≡ false → Fits m e front (blocks_after_splice m header (e.start + e.used) s) done n f
    → Gives {U = Bool} (held_in m e) (spliced_at (held_in m e) (flex_store_in m e) anchor (first_at m header) s.at s.cut s.more) (Ok done) (held_in n f)
splice_done m n e f anchor header front s done is p free fits =
    let way = spliced_is m e anchor header front s is p
    ∙ ap (λ (t : Bool). let r : Result (FlexState × Bool) ErrorNumber = if t then Err FlexHoldsAnchor else Ok (flex_if_room (held_in m e) (flex_store_in m e) front (blocks_after_splice m header (e.start + e.used) s)) in r) free in
    subst (λ (x : Result (FlexState × Bool) ErrorNumber). Gives (held_in m e) x (Ok done) (held_in n f)) (sym way)
    (fits_state m n e f front (blocks_after_splice m header (e.start + e.used) s) done fits)

-- its anchors
pub splice_allowed : (m : AddressMap) (e : Extent) (anchor header : ℕ) (front : List Block) (s : Splice) (p : IsPlaced m e anchor header front) → IsChange m e header s
    → AreAllowed m e (front ++ blocks_after_splice m header (e.start + e.used) s)
splice_allowed m e anchor header front s p c a has =
    let old : List Block = front ++ first_at m header ∷ blocks_behind_first m header (e.start + e.used) in
    let was : has_anchor old a ≡ true → IsAnchorAllowed m e a = λ had. inl (ap (λ (l : List Block). has_anchor l a) p.split.list ∙ had) in
    elim (or_cases (has_anchor front a) (has_anchor (blocks_after_splice m header (e.start + e.used) s) a) (sym (anchor-append front (blocks_after_splice m header (e.start + e.used) s) a) ∙ has)) [
      | inl own ↦ was (anchor-append front (first_at m header ∷ blocks_behind_first m header (e.start + e.used)) a ∙ or_left (has_anchor front a) _ own)
      | inr new ↦ elim (new_old m e anchor header front s p c a new) [
        | inl had ↦ was had
        | inr within ↦ inr (inr (omega (arith, within.0, p.place), omega (arith, within.1)))
      ]
    ]

take_past : (n : ℕ) (c : List ℕ) → length c ≤ n → take n c ≡ c
take_past zero [] fits = refl
take_past (suc n) [] fits = refl
take_past zero (x ∷ c) fits = absurd (omega arith)
take_past (suc n) (x ∷ c) fits = ap (λ (l : List ℕ). x ∷ l) (take_past n c (omega arith))

-- a new size as a splice at the end
pub resized_is : (c : List ℕ) (old size : ℕ) → length c ≡ old → bytes_with_size c size ≡ bytes_after_splice c old (old - size) (size - old)
resized_is c old size len =
    let none : drop old c ≡ [] = rw (← len) (drop-length c) in
    let more : size - length c ≡ size - old = ap (λ (n : ℕ). size - n) len in
    elim (cases_lt old size) [
      | inl up ↦
          let whole : old - (old - size) ≡ length c = omega arith in
          rw (none, more, whole, take-length c, take_past size c (omega arith)) (ap (λ (l : List ℕ). c ++ l) (sym (append-nil (replicate (size - old) 0))))
      | inr down ↦
          let part : old - (old - size) ≡ size = omega arith in
          let zero_more : size - old ≡ 0 = omega arith in
          rw (none, more, part, zero_more) refl
    ]

pub extend_none : (m : AddressMap) (e : Extent) (anchor size : ℕ) → find_block anchor (blocks_of m e) ≡ None
    → Gives {U = Bool} (held_in m e) (flex_after_extend (held_in m e) anchor size) (Err FlexBadAnchor) (held_in m e)
unfolding flex_after_extend
extend_none m e anchor size none = rw none (refl, refl)

pub extend_same : (m : AddressMap) (e : Extent) (anchor header size : ℕ) → IsHeaderWord m e anchor header → size ≡ (first_at m header).size
    → Gives (held_in m e) (flex_after_extend (held_in m e) anchor size) (Ok true) (held_in m e)
unfolding flex_after_extend
extend_same m e anchor header size w same = rw (w.found, eq-eqb size (first_at m header).size same) (refl, refl)

pub extend_done : (m n : AddressMap) (e f : Extent) (anchor header size old cut more : ℕ) (r : Result Bool ErrorNumber) → IsHeaderWord m e anchor header → old ≡ (first_at m header).size
    → (size ≡ old → ⊥) → cut ≡ old - size → more ≡ size - old
    → Gives (held_in m e) (spliced_at (held_in m e) (flex_store_in m e) anchor (first_at m header) old cut more) r (held_in n f)
    → Gives (held_in m e) (flex_after_extend (held_in m e) anchor size) r (held_in n f)
unfolding flex_after_extend
extend_done m n e f anchor header size old cut more r w old_is differs cut_is more_is given =
    let b : Block = first_at m header in
    let other : nat_eq size b.size ≡ false = ne_eqb size b.size (λ same. differs (same ∙ sym old_is)) in
    let cut_is' : cut ≡ b.size - size = cut_is ∙ ap (λ (n : ℕ). n - size) old_is in
    let more_is' : more ≡ size - b.size = more_is ∙ ap (λ (n : ℕ). size - n) old_is in
    let same : spliced_at (held_in m e) (flex_store_in m e) anchor b old cut more ≡ spliced_at (held_in m e) (flex_store_in m e) anchor b b.size (b.size - size) (size - b.size) =
    λ i. spliced_at (held_in m e) (flex_store_in m e) anchor b (old_is i) (cut_is' i) (more_is' i) in
    rw (w.found, other) (subst (λ (x : Result (FlexState × Bool) ErrorNumber). Gives (held_in m e) x r (held_in n f)) same given)

pub mid_range : (m : AddressMap) (e : Extent) (anchor at by : ℕ) → at < cut_of by
    → Gives {U = Bool} (held_in m e) (mid_extended (held_in m e) anchor at by) (Err FlexBadRange) (held_in m e)
unfolding mid_extended
mid_range m e anchor at by past = rw (lt-ltb at (cut_of by) past) (refl, refl)

pub mid_none : (m : AddressMap) (e : Extent) (anchor at by : ℕ) → cut_of by ≤ at → find_block anchor (blocks_of m e) ≡ None
    → Gives {U = Bool} (held_in m e) (mid_extended (held_in m e) anchor at by) (Err FlexBadAnchor) (held_in m e)
unfolding mid_extended
mid_none m e anchor at by inside none = rw (le-ltb at (cut_of by) inside, none) (refl, refl)

pub mid_past : (m : AddressMap) (e : Extent) (anchor header at by : ℕ) → cut_of by ≤ at → IsHeaderWord m e anchor header → (first_at m header).size < at
    → Gives {U = Bool} (held_in m e) (mid_extended (held_in m e) anchor at by) (Err FlexBadRange) (held_in m e)
unfolding mid_extended
mid_past m e anchor header at by inside w past = rw (le-ltb at (cut_of by) inside, w.found, lt-ltb (first_at m header).size at past) (refl, refl)

pub mid_same : (m : AddressMap) (e : Extent) (anchor header at by : ℕ) → cut_of by ≤ at → IsHeaderWord m e anchor header → at ≤ (first_at m header).size → by ≡ 0
    → Gives (held_in m e) (mid_extended (held_in m e) anchor at by) (Ok true) (held_in m e)
unfolding mid_extended
mid_same m e anchor header at by inside w within none =
    rw (le-ltb at (cut_of by) inside, w.found, le-ltb (first_at m header).size at within, eq-eqb by 0 none) (refl, refl)

pub mid_done : (m n : AddressMap) (e f : Extent) (anchor header at by cut more : ℕ) (r : Result Bool ErrorNumber) → cut_of by ≤ at → IsHeaderWord m e anchor header
    → at ≤ (first_at m header).size → (by ≡ 0 → ⊥) → cut ≡ cut_of by → more ≡ more_of by
    → Gives (held_in m e) (spliced_at (held_in m e) (flex_store_in m e) anchor (first_at m header) at cut more) r (held_in n f)
    → Gives (held_in m e) (mid_extended (held_in m e) anchor at by) r (held_in n f)
unfolding mid_extended
mid_done m n e f anchor header at by cut more r inside w within some cut_is more_is given =
    let b : Block = first_at m header in
    let same : spliced_at (held_in m e) (flex_store_in m e) anchor b at cut more ≡ spliced_at (held_in m e) (flex_store_in m e) anchor b at (cut_of by) (more_of by) =
    λ i. spliced_at (held_in m e) (flex_store_in m e) anchor b at (cut_is i) (more_is i) in
    rw (le-ltb at (cut_of by) inside, w.found, le-ltb b.size at within, ne_eqb by 0 some)
    (subst (λ (x : Result (FlexState × Bool) ErrorNumber). Gives (held_in m e) x r (held_in n f)) same given)

-- a change by a word that is not 0 takes something away or adds something
pub some_change : (by cut more : ℕ) → cut ≡ cut_of by → more ≡ more_of by → (by ≡ 0 → ⊥) → by < 2 ^ 32 → 0 < cut + more
some_change by cut more cut_is more_is some small = elim (cases_lt by (2 ^ 31)) [
  | inl low ↦
      let more' : more ≡ by = more_is ∙ rw (lt-leb (2 ^ 31) by low) refl in
      omega (arith, some)
  | inr high ↦
      let cut' : cut ≡ 2 ^ 32 - by = cut_is ∙ rw (le-leb (2 ^ 31) by high) refl in
      omega arith
]

pub size_none : (m : AddressMap) (e : Extent) (anchor : ℕ) → find_block anchor (blocks_of m e) ≡ None → Err FlexBadAnchor ≡ flex_block_size (held_in m e) anchor
size_none m e anchor none = rw none refl

pub size_done : (m : AddressMap) (e : Extent) (anchor header size : ℕ) → IsHeaderWord m e anchor header → size ≡ (first_at m header).size
    → Ok size ≡ flex_block_size (held_in m e) anchor
size_done m e anchor header size w size_is = rw w.found (ap (λ (n : ℕ). Ok n) size_is)
