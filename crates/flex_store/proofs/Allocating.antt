-- A block that comes.
use Rattle.std.proofs.Common.{◌≡◌, ℕ, Bool, ◌+◌, ◌-◌, ◌%◌, ◌^◌, ◌<◌, ◌≤◌, ◌||◌, ◌&&◌, not, true, false, nat_eq, nat_lt, Ok, Err, List, [], ◌∷◌, ◌++◌, arith, refl, sym, ◌∙◌, ap, inl, inr, ◌⊎◌, ◌↔◌, subst}
use Rattle.std.specs.List.{list_any}
use Rattle.std.proofs.lemmas.Bool.{and_parts, both_ways, cases_Bool, false_from_ne_true, cases_lt, eqb-true, eq-eqb, lt-ltb, ne_eqb, not-true, or_cases, or_left, true≢false, false≢true}
use Rattle.std.proofs.lemmas.List.{append-nil}
use Rattle.os_heap_words.proofs.AddressMapWords.{class_of-word}
use Rattle.os_heap_words.proofs.Spans.{mapped_below}
use Rattle.profile.specs.Outcome.{Gives}
use Rattle.profile.specs.ErrorNumber.TheVariants.{FlexAnchorInUse, FlexBadAnchor}
use Rattle.os_heap.specs.Store.{is_flex_store, Store, others_in, store_of}
use Rattle.os_heap.specs.Region.{Region}
use Rattle.os_heap.proofs.Frame.{store_bytes}
use Rattle.os_heap.specs.Bytes.{AreMapped, Bytes, shares_address, word_start}
use Rattle.os_heap.specs.Classes.{is_anchor, is_heap_class}
use Rattle.os_heap.specs.Memory.{byte_at, class_of, is_mapped, regions}
use Rattle.os_heap.specs.Records.{is_heap_kind}
use Rattle.os_heap.specs.AddressMap.{AddressMap}
use Rattle.flex_store.specs.declared.flex.Extent.{Extent}
use Rattle.flex_store.specs.Blocks.{Block, has_anchor, is_in_contents, new_block, bytes_taken_by, bytes_taken_by_all}
use Rattle.flex_store.specs.Calls.{flex_after_alloc, is_anchor_place, is_in_store, may_stand}
use Rattle.os_heap.specs.Payloads.{is_other, payload_of}
use Rattle.flex_store.specs.Changes.{Fits}
use Rattle.flex_store.specs.Memory.{standing}
use Rattle.flex_store.specs.Relaid.{MayLie, Relaid}
use Rattle.flex_store.specs.State.{IsFlexStore, IsMappedWord, IsNewAnchor, IsStoreAt, blocks_of, held_in, flex_store_in}
use Rattle.flex_store.proofs.Answering.{AreAllowed, fits_state}
use Rattle.flex_store.proofs.Changing.{got}
use Rattle.flex_store.proofs.Finding.{has_by, store_low}
use Rattle.flex_store.proofs.Fitting.{before_laid, MayFollow}
use Rattle.flex_store.proofs.Keeping.{IsPlace, place_parts}
use Rattle.flex_store.proofs.Lists.{anchor-append, used-append, used_aligned}
use Rattle.flex_store.proofs.Sliding.{new_whole}
use Rattle.flex_store.proofs.Storing.{IsBefore}
use Rattle.flex_store.proofs.Words.{contents_within, IsHeld, words_within}

own_only : (p anchor : ℕ) → (nat_eq p anchor || false) ≡ true → p ≡ anchor
own_only p anchor has = elim (or_cases (nat_eq p anchor) false has) [
  | inl here ↦ eqb-true p anchor here
  | inr never ↦ absurd (false≢true never)
]

alloc_follows : (m : AddressMap) (e : Extent) (anchor size : ℕ) → IsStoreAt m e → IsNewAnchor m e anchor → has_anchor (blocks_of m e) anchor ≡ false → size < 2 ^ 32
    → e.start + (e.used + bytes_taken_by size) ≤ e.end → MayFollow (is_mapped m) e.start e.end (blocks_of m e) (new_block anchor size ∷ [])
alloc_follows m e anchor size s may none small fits =
    let bs : List Block = blocks_of m e in
    let total : bytes_taken_by_all bs ≡ e.used = s.used_is in
    record {
      fits = omega arith;
      whole = new_whole m e.start anchor size small;
      words = ((may.word, refl), tt);
      fresh = λ p has. false_from_ne_true (nat_eq p anchor || false) (λ own.
          both_ways (has_anchor bs anchor) none (ap (has_anchor bs) (sym (own_only p anchor own)) ∙ has));
      inner = λ p has up below.
          let same : p ≡ anchor = own_only p anchor has in
          or_left (is_in_contents e.start bs p) (is_in_contents (e.start + bytes_taken_by_all bs) (new_block anchor size ∷ []) p)
          (ap (is_in_contents e.start bs) same ∙ may.inside (omega arith) (omega arith));
    }

pub alloc_before : (m : AddressMap) (e : Extent) (anchor size : ℕ) → IsStoreAt m e → IsNewAnchor m e anchor → has_anchor (blocks_of m e) anchor ≡ false → size < 2 ^ 32
    → e.start + (e.used + bytes_taken_by size) ≤ e.end → IsBefore m e.start e.end (standing (byte_at m) e.start (blocks_of m e)) [] (new_block anchor size ∷ [])
alloc_before m e anchor size s may none small fits =
    before_laid m m e.start e.end (blocks_of m e) [] (new_block anchor size ∷ [])
    (subst (λ (l : List Block). IsFlexStore m e.start e.end l) (sym (append-nil (blocks_of m e))) s.store) refl refl (λ a is. refl) s.store.anchored
    (alloc_follows m e anchor size s may none small fits)

pub alloc_may : (m : AddressMap) (e : Extent) (anchor size header : ℕ) → IsStoreAt m e → IsNewAnchor m e anchor
    → e.start + (e.used + bytes_taken_by size) ≤ e.end → header ≡ e.start + e.used → MayLie m header (new_block anchor size ∷ [])
alloc_may m e anchor size header s may fits place =
    let total : bytes_taken_by_all (blocks_of m e) ≡ e.used = s.used_is in
    record {
      words = words_within (is_mapped m) (e.start + bytes_taken_by_all (blocks_of m e)) e.end header (header + bytes_taken_by_all (new_block anchor size ∷ [])) (new_block anchor size ∷ [])
          (omega arith) (omega arith) ((may.word, refl), tt);
      there = λ a low high. s.store.range.there a (omega arith) (omega arith);
    }

pub record AllocNumbers (m : AddressMap) (e : Extent) (size : ℕ) : Type 0 where
  pub low : e.end ≤ 2 ^ 26
  pub aligned : (e.start + e.used) % 4 ≡ 0

pub alloc_numbers : (m : AddressMap) (e : Extent) (size : ℕ) → IsStoreAt m e → e.start + (e.used + bytes_taken_by size) ≤ e.end → AllocNumbers m e size
alloc_numbers m e size s fits =
    let total : bytes_taken_by_all (blocks_of m e) ≡ e.used = s.used_is in
    let multiple : bytes_taken_by_all (blocks_of m e) % 4 ≡ 0 = used_aligned (blocks_of m e) in
    let start : e.start % 4 ≡ 0 = s.store.range.start_aligned in
    record {
      low = store_low m e.start e.end (blocks_of m e) s.store (omega arith);
      aligned = omega arith;
    }

pub alloc_none : (m : AddressMap) (e : Extent) (anchor size : ℕ) → IsStoreAt m e → e.end < e.start + (e.used + bytes_taken_by size)
    → Fits m e (blocks_of m e) (new_block anchor size ∷ []) false m e
alloc_none m e anchor size s past =
    let total : bytes_taken_by_all (blocks_of m e) ≡ e.used = s.used_is in
    let sum : bytes_taken_by_all (blocks_of m e ++ new_block anchor size ∷ []) ≡ bytes_taken_by_all (blocks_of m e) + (bytes_taken_by size + 0) = used-append (blocks_of m e) (new_block anchor size ∷ []) in
    (omega arith, (refl, refl))

pub alloc_done : (m n : AddressMap) (e f : Extent) (anchor size header : ℕ) → IsStoreAt m e → IsNewAnchor m e anchor
    → has_anchor (blocks_of m e) anchor ≡ false → is_heap_class (class_of m anchor) ≡ false → size < 2 ^ 32 → e.start + (e.used + bytes_taken_by size) ≤ e.end
    → header ≡ e.start + e.used → Relaid m n header [] (new_block anchor size ∷ []) → f.start ≡ e.start → f.end ≡ e.end → f.used ≡ e.used + bytes_taken_by size
    → Fits m e (blocks_of m e) (new_block anchor size ∷ []) true n f
alloc_done m n e f anchor size header s may none head small fits place r same_start same_end used_is =
    let bs : List Block = blocks_of m e in
    let total : bytes_taken_by_all bs ≡ e.used = s.used_is in
    let sum : bytes_taken_by_all (bs ++ new_block anchor size ∷ []) ≡ bytes_taken_by_all bs + (bytes_taken_by size + 0) = used-append bs (new_block anchor size ∷ []) in
    let at : header ≡ e.start + bytes_taken_by_all bs = omega arith in (
      omega arith,
      got m n e f (byte_at m) bs [] (new_block anchor size ∷ []) (alloc_before m e anchor size s may none small fits)
          (subst (λ (q : ℕ). Relaid m n q [] (new_block anchor size ∷ [])) at r)
          (λ clear a has. no_head m anchor a may.word.aligned head (own_only (word_start a) anchor has)) same_start same_end (omega arith),
    ) where
      no_head : (m : AddressMap) (anchor a : ℕ) → anchor % 4 ≡ 0 → is_heap_class (class_of m anchor) ≡ false → word_start a ≡ anchor → is_heap_class (class_of m a) ≡ false
      no_head m anchor a aligned head here =
          let same : word_start a ≡ word_start anchor = omega arith in
          ap is_heap_class (class_of-word m a anchor same) ∙ head

-- what an alloc answers
pub alloc_gives : (m n : AddressMap) (e f : Extent) (places : Store) (anchor size : ℕ) (done : Bool) → (is_anchor_place places anchor && may_stand (flex_store_in m e) anchor) ≡ true
    → has_anchor (blocks_of m e) anchor ≡ false → Fits m e (blocks_of m e) (new_block anchor size ∷ []) done n f
    → Gives (held_in m e) (flex_after_alloc places (held_in m e) anchor size) (Ok done) (held_in n f)
unfolding flex_after_alloc
alloc_gives m n e f places anchor size done place none fits =
    rw (place, none) (fits_state m n e f (blocks_of m e) (new_block anchor size ∷ []) done fits)

pub alloc_bad : (m : AddressMap) (e : Extent) (places : Store) (anchor size : ℕ) → (is_anchor_place places anchor && may_stand (flex_store_in m e) anchor) ≡ false
    → Gives {U = Bool} (held_in m e) (flex_after_alloc places (held_in m e) anchor size) (Err FlexBadAnchor) (held_in m e)
unfolding flex_after_alloc
alloc_bad m e places anchor size place = rw place (refl, refl)

pub alloc_used : (m : AddressMap) (e : Extent) (places : Store) (anchor size : ℕ) → (is_anchor_place places anchor && may_stand (flex_store_in m e) anchor) ≡ true
    → has_anchor (blocks_of m e) anchor ≡ true
    → Gives {U = Bool} (held_in m e) (flex_after_alloc places (held_in m e) anchor size) (Err FlexAnchorInUse) (held_in m e)
unfolding flex_after_alloc
alloc_used m e places anchor size place has = rw (place, has) (refl, refl)

-- where an anchor may stand
pub place_word : (m : AddressMap) (e : Extent) (places : Store) (anchor : ℕ) → places.bytes.mapped ≡ is_mapped m → is_anchor_place places anchor ≡ true
    → IsMappedWord (is_mapped m) anchor
place_word m e places anchor mapped place =
    let p : IsPlace places anchor = place_parts places anchor place in
    let there : is_mapped m anchor ≡ true = ap (λ (p : ℕ → Bool). p anchor) (sym mapped) ∙ p.mapped in
    record { aligned = p.aligned; there = there; low = mapped_below m anchor there }

-- beside the store
pub beside : (start end anchor : ℕ) → start ≤ end → start % 4 ≡ 0 → anchor % 4 ≡ 0 → shares_address anchor 4 start (end - start) ≡ false → (anchor + 4 ≤ start) ⊎ (end ≤ anchor)
beside start end anchor some aligned aligned' clear = elim (cases_lt start (anchor + 4)) [
  | inr low ↦ inl low
  | inl up ↦ elim (cases_lt anchor end) [
    | inr high ↦ inr high
    | inl below ↦
        let more : start < end = omega arith in
        let len : nat_lt 0 (end - start) ≡ true = lt-ltb 0 (end - start) (omega arith) in
        let one : nat_lt anchor (start + (end - start)) ≡ true = lt-ltb anchor (start + (end - start)) (omega arith) in
        let two : nat_lt start (anchor + 4) ≡ true = lt-ltb start (anchor + 4) up in
        let both : shares_address anchor 4 start (end - start) ≡ true = rw (len, one, two) refl in
        absurd (true≢false (sym both ∙ clear))
  ]
]

-- or in it
stands : (m : AddressMap) (e : Extent) (anchor : ℕ) → IsStoreAt m e → IsMappedWord (is_mapped m) anchor
    → (not (is_in_store (flex_store_in m e) anchor) ≡ true) ⊎ (is_in_contents e.start (blocks_of m e) anchor ≡ true) → IsNewAnchor m e anchor
stands m e anchor s w (inl outside) =
    let fits : e.start + bytes_taken_by_all (blocks_of m e) ≤ e.end = s.store.fits in
    let out : (anchor + 4 ≤ e.start) ⊎ (e.end ≤ anchor) =
    beside e.start e.end anchor (omega arith) s.store.range.start_aligned w.aligned (not-true (is_in_store (flex_store_in m e) anchor) outside) in
    record {
      word = record {
        aligned = w.aligned;
        there = w.there;
        low = w.low;
        outside = elim out [ inl before ↦ inl (omega arith) | inr behind ↦ inr behind ];
      };
      inside = λ up below. absurd (elim out [ inl before ↦ omega arith | inr behind ↦ omega arith ]);
    }
stands m e anchor s w (inr held) =
    let h : IsHeld e.start (bytes_taken_by_all (blocks_of m e)) anchor = contents_within e.start (blocks_of m e) anchor held in
    record {
      word = record { aligned = w.aligned; there = w.there; low = w.low; outside = inl h.below };
      inside = λ up below. held;
    }

pub live_has : (m : AddressMap) (e : Extent) (anchor : ℕ) → IsStoreAt m e → anchor % 4 ≡ 0 → (nat_eq (anchor % 4) 0 && is_anchor (class_of m anchor)) ≡ has_anchor (blocks_of m e) anchor
live_has m e anchor s aligned = rw (eq-eqb (anchor % 4) 0 aligned) (has_by m e anchor s aligned)

pub record MayAppend (m : AddressMap) (e : Extent) (anchor : ℕ) : Type 0 where
  pub word : IsNewAnchor m e anchor
  pub has : (nat_eq (anchor % 4) 0 && is_anchor (class_of m anchor)) ≡ has_anchor (blocks_of m e) anchor

pub may_append : (m : AddressMap) (e : Extent) (anchor : ℕ) → IsStoreAt m e
    → (is_anchor_place (store_of m) anchor && may_stand (flex_store_in m e) anchor) ≡ true → MayAppend m e anchor
may_append m e anchor s place =
    let parts = and_parts (is_anchor_place (store_of m) anchor) (may_stand (flex_store_in m e) anchor) place in
    let w : IsMappedWord (is_mapped m) anchor = place_word m e (store_of m) anchor (ap (λ (b : Bytes). b.mapped) (store_bytes m)) parts.0 in
    record {
      word = stands m e anchor s w (or_cases (not (is_in_store (flex_store_in m e) anchor)) (is_in_contents e.start (blocks_of m e) anchor) parts.1);
      has = live_has m e anchor s w.aligned;
    }

-- the other records, as the record of all ranges has them
others_any : (anchor : ℕ) (rs : List Region) → list_any (λ r. not (is_heap_kind r.kind) && (not (is_flex_store r.kind) && shares_address anchor 4 r.at r.len)) rs
    ≡ list_any (λ r. not (is_flex_store r.kind) && shares_address anchor 4 r.at r.len) (others_in rs)
others_any anchor [] = refl
others_any anchor (r ∷ rs) = elim (cases_Bool (is_heap_kind r.kind)) [
  | inl heap ↦ rw heap (others_any anchor rs)
  | inr other ↦ rw other (ap (λ (t : Bool). (not (is_flex_store r.kind) && shares_address anchor 4 r.at r.len) || t) (others_any anchor rs))
]

others_met : (m : AddressMap) (anchor : ℕ) → list_any (λ r. not (is_heap_kind r.kind) && (not (is_flex_store r.kind) && shares_address anchor 4 r.at r.len)) (regions m)
    ≡ list_any (λ r. not (is_flex_store r.kind) && shares_address anchor 4 r.at r.len) (store_of m).others
unfolding store_of
others_met m anchor = others_any anchor (regions m)

-- the test of a place
pub place_tested : (m : AddressMap) (anchor : ℕ) (there met other stood : Bool) → anchor % 4 ≡ 0 → other ≡ is_other (payload_of (store_of m).heaps anchor)
    → ((there ≡ true) ↔ AreMapped (is_mapped m) anchor 1)
    → met ≡ list_any (λ r. not (is_heap_kind r.kind) && (not (is_flex_store r.kind) && shares_address anchor 4 r.at r.len)) (regions m)
    → (there && ((not met && not other) && stood)) ≡ (is_anchor_place (store_of m) anchor && stood)
unfolding is_anchor_place
place_tested m anchor there met other stood aligned other_is tested met_is =
    let mapped : there ≡ (store_of m).bytes.mapped anchor = same_bool there (is_mapped m anchor) (λ e. tested.0 e anchor (omega arith) (omega arith))
    (λ e. tested.1 (λ a low high. let here : a ≡ anchor = omega arith in ap (is_mapped m) here ∙ e)) ∙ ap (λ (b : Bytes). b.mapped anchor) (sym (store_bytes m)) in
    let met' : met ≡ list_any (λ r. not (is_flex_store r.kind) && shares_address anchor 4 r.at r.len) (store_of m).others = met_is ∙ others_met m anchor in
    rw (eq-eqb (anchor % 4) 0 aligned, ← other_is, ← mapped, ← met') (by_cases there met other stood) where
      same_bool : (t u : Bool) → (t ≡ true → u ≡ true) → (u ≡ true → t ≡ true) → t ≡ u
      same_bool true u f g = sym (f refl)
      same_bool false true f g = g refl
      same_bool false false f g = refl

      by_cases : (t u o v : Bool) → (t && ((not u && not o) && v)) ≡ ((t && (not u && not o)) && v)
      by_cases true u o v = refl
      by_cases false u o v = refl

pub place_unaligned : (m : AddressMap) (anchor : ℕ) (stood : Bool) → (anchor % 4 ≡ 0 → ⊥) → false ≡ (is_anchor_place (store_of m) anchor && stood)
unfolding is_anchor_place
place_unaligned m anchor stood odd = rw (ne_eqb (anchor % 4) 0 odd) refl

-- the anchors after an alloc
pub alloc_allowed : (m : AddressMap) (e : Extent) (anchor size : ℕ) → (is_anchor_place (store_of m) anchor && may_stand (flex_store_in m e) anchor) ≡ true
    → AreAllowed m e (blocks_of m e ++ new_block anchor size ∷ [])
alloc_allowed m e anchor size place a has = elim (cases_Bool (has_anchor (blocks_of m e) a)) [
  | inl old ↦ inl old
  | inr none ↦
      let has' : (has_anchor (blocks_of m e) a || (nat_eq a anchor || false)) ≡ true = sym (anchor-append (blocks_of m e) (new_block anchor size ∷ []) a) ∙ has in
      let may : is_anchor_place (store_of m) anchor ≡ true = (and_parts (is_anchor_place (store_of m) anchor) (may_stand (flex_store_in m e) anchor) place).0 in
      elim (cases_Bool (nat_eq a anchor)) [
        | inl same ↦ inr (inl (ap (is_anchor_place (store_of m)) (eqb-true a anchor same) ∙ may))
        | inr other ↦ absurd (false≢true (rw (none, other) at has'))
      ]
]
