-- What is in the way of a heap that grows, by where the heaps lie.
use Rattle.std.proofs.Common.{ℕ, ◌≡◌, ◌+◌, ◌-◌, ◌%◌, ◌≤◌, ◌<◌, ◌==◌, ◌||◌, ◌∙◌, Bool, true, false, List, [], ◌∷◌, Some, None, Result, Ok, Err, refl, sym, ap, inl, inr, arith}
use Rattle.std.specs.Prelude.{nat_lt}
use Rattle.std.specs.List.{list_any}
use Rattle.std.proofs.lemmas.Bool.{and_parts, both_ways, cases_Bool, eq-eqb, false_from_ne_true, le-leb, lt-ltb, ltb-true, not-false, or_from, or_parts}
use Rattle.profile.specs.Outcome.{bind}
use Rattle.profile.specs.ErrorNumber.{ErrorNumber}
use Rattle.profile.specs.ErrorNumber.TheVariants.{HeapOverlaps}
use Rattle.profile.specs.declared.reason.HeapReason.TheVariants as reason
use Rattle.address_map.specs.Bytes.{in_range, shares_address}
use Rattle.address_map.specs.Items.{size_of}
use Rattle.address_map.specs.Records.{anchor_among}
use Rattle.os_heap_words.specs.lists.Heap.{HeapList, IsHeapIn}
use Rattle.os_heap_words.specs.lists.Lists.{changed_by}
use Rattle.os_heap.proofs.Apart.{found_other, within_here}
use Rattle.os_heap.proofs.Beside.{grown_alone}
use Rattle.os_heap.proofs.Ending.{may_grow, unobstructed}
use Rattle.os_heap.proofs.Forgetting.{AreFound, are_found}
use Rattle.os_heap.proofs.Found.{found_heap}
use Rattle.os_heap.proofs.Holding.{HoldsRange, held_range, range_held}
use Rattle.os_heap.proofs.Nesting.{within_low}
use Rattle.os_heap.proofs.Stores.{are_others}
use Rattle.os_heap.specs.Calls.{store_after_change, end_changed, has_own_size}
use Rattle.os_heap.specs.Nesting.{IsWithin, holds_range}
use Rattle.os_heap.specs.Ranges.{has_before, is_heap_region, is_in_heap, is_in_way, overgrows}
use Rattle.os_heap.specs.Store.{IsSound, Store, find_heap}
use Rattle.law_machine.specs.heap_calls.Growths.{GrowthsAreJudged, GrowthsAreRefused, MayGrow, OuterGrowthsMeet}
use Rattle.law_machine.specs.heap_calls.Laws.{LiesInBlock}
use Rattle.law_machine.specs.heap_calls.Turns.{call_on}

-- a test that no heap of a list passes
none_found : (test : HeapList → Bool) (start : ℕ) (hs : List HeapList) (k : HeapList) → list_any test hs ≡ false → find_heap start hs ≡ Some k → test k ≡ false
none_found test start [] k none found = absurd (let no : None ≡ Some k = found in cc)
none_found test start (g ∷ hs) k none found =
    let each = or_parts (test g) (list_any test hs) none in
    elim (cases_Bool (g.start == start)) [
      | inl here ↦
          let found' = rw here at found in
          let same : g ≡ k = cc in
          ap test (sym same) ∙ each.0
      | inr away ↦ none_found test start hs k each.1 (rw away at found)
    ]

none_any : (test : HeapList → Bool) (all hs : List HeapList) → AreFound all hs → ((k : HeapList) → find_heap k.start all ≡ Some k → test k ≡ false)
    → list_any test hs ≡ false
none_any test all [] found each = refl
none_any test all (g ∷ hs) found each = or_from (test g) (list_any test hs) (each g found.0) (none_any test all hs found.1 each)

module _ (s : Store) (h : HeapList) (sound : IsSound s) (found : find_heap h.start s.heaps ≡ Some h) where
  there : IsHeapIn s.bytes h.start h.end h.items
  there = found_heap s.bytes h.start s.heaps h sound.heaps found

  -- a heap that lies round it has its first byte, and one that has it, and starts before, lies
  -- round it
  within_before : (k : HeapList) → find_heap k.start s.heaps ≡ Some k → IsWithin k h → has_before h.start k ≡ true
  within_before k found' w =
      let heap : IsHeapIn s.bytes k.start k.end k.items = found_heap s.bytes k.start s.heaps k sound.heaps found' in
      let low : (k.start + 20 ≤ h.start) × (h.start + h.end ≤ k.start + k.end) = within_low s.bytes k h heap w in
      rw (
        lt-ltb k.start h.start (omega (arith, low.0)),
        le-leb k.start h.start (omega (arith, low.0)),
        lt-ltb h.start (k.start + k.end) (omega (arith, low.1, there.inside)),
      ) refl

  before_within : (k : HeapList) → find_heap k.start s.heaps ≡ Some k → has_before h.start k ≡ true → IsWithin k h
  before_within k found' is =
      let both = and_parts (nat_lt k.start h.start) (in_range k.start k.end h.start) is in
      let less : k.start < h.start = ltb-true k.start h.start both.0 in
      let here : in_range h.start h.end h.start ≡ true =
      rw (le-leb h.start h.start (omega arith), lt-ltb h.start (h.start + h.end) (omega (arith, there.inside))) refl in
      elim (found_other h k.start s.heaps k (are_others s.bytes h.start s.heaps h sound.heaps found) found') [
        | inl same ↦
            let start : k.start ≡ h.start = ap (λ (x : HeapList). x.start) same in
            absurd (omega (arith, start, less))
        | inr apart ↦ elim apart.1 [
          | inl clear ↦ absurd (both_ways (in_range k.start k.end h.start) (clear h.start here) both.1)
          | inr nested ↦ elim nested [
            | inl inner ↦
                let low : (h.start + 20 ≤ k.start) × (k.start + k.end ≤ h.start + h.end) = within_low s.bytes h k there inner in
                absurd (omega (arith, low.0, less))
            | inr within ↦ within
          ]
        ]
      ]

  not_before : (k : HeapList) → find_heap k.start s.heaps ≡ Some k → (IsWithin k h → ⊥) → has_before h.start k ≡ false
  not_before k found' none = false_from_ne_true (has_before h.start k) (λ is. none (before_within k found' is))

  -- the block that holds its new range is the one in which it lies
  held_round : (end : ℕ) (k : HeapList) (w : IsWithin k h) → find_heap k.start s.heaps ≡ Some k → 0 < end
      → holds_range (k.start + 16) k.items h.start end ≡ true → h.start + end + 4 ≤ w.block + w.total
  held_round end k w found' some is =
      let heap : IsHeapIn s.bytes k.start k.end k.items = found_heap s.bytes k.start s.heaps k sound.heaps found' in
      let held : HoldsRange (k.start + 16) k.items h.start end = range_held (k.start + 16) k.items h.start end heap.totals is in
      let here : in_range (held.block - 4) held.total h.start ≡ true =
      rw (le-leb (held.block - 4) h.start (omega (arith, held.low)), lt-ltb h.start (held.block - 4 + held.total) (omega (arith, held.high, held.low, some))) refl in
      let own : in_range h.start h.end h.start ≡ true =
      rw (le-leb h.start h.start (omega arith), lt-ltb h.start (h.start + h.end) (omega (arith, there.inside))) refl in
      let same : (w.block ≡ held.block) × (w.total ≡ held.total) = within_here s.bytes k h held.block held.total h.start heap w held.live here own in
      omega (arith, same.0, same.1, held.high)

  judged : (end : ℕ) → h.end < end → overgrows s h end ≡ false → MayGrow s h end
  judged end more clear =
      let new : ℕ = h.start + h.end in
      let free = unobstructed h.start end new (end - h.end) s (may_grow s h end clear more) in
      let each = λ (k : HeapList) (found' : find_heap k.start s.heaps ≡ Some k). none_found (is_in_way h.start end new (end - h.end)) k.start s.heaps k free.0.0 found' in
      record {
        round = λ k w found'.
            let way = rw (within_before k found' w) at (each k found') in
            held_round end k w found' (omega (arith, more)) (not-false (holds_range (k.start + 16) k.items h.start end) way);
        heaps = λ k found' none. rw (not_before k found' none) at (each k found');
        others = free.0.1;
        anchors = free.1;
      }

  unway : (end : ℕ) → MayGrow s h end → (k : HeapList) → find_heap k.start s.heaps ≡ Some k → is_in_way h.start end (h.start + h.end) (end - h.end) k ≡ false
  unway end may k found' = elim (cases_Bool (has_before h.start k)) [
    | inl before ↦
        let w : IsWithin k h = before_within k found' before in
        let high : h.start + end + 4 ≤ w.block + w.total = may.round k w found' in
        rw (before, held_range w.block w.total (k.start + 16) k.items h.start end w.live w.low high) refl
    | inr other ↦
        let none : IsWithin k h → ⊥ = λ w. both_ways (has_before h.start k) other (within_before k found' w) in
        rw other (may.heaps k found' none)
  ]

  unjudged : (end : ℕ) → h.end < end → MayGrow s h end → overgrows s h end ≡ false
  unjudged end more may =
      let new : ℕ = h.start + h.end in
      let heaps : list_any (is_in_way h.start end new (end - h.end)) s.heaps ≡ false =
      none_any (is_in_way h.start end new (end - h.end)) s.heaps s.heaps (are_found s.bytes s.heaps sound.heaps) (unway end may) in
      rw (lt-ltb h.end end more)
      (or_from (list_any (is_in_way h.start end new (end - h.end)) s.heaps || list_any (λ r. shares_address new (end - h.end) r.at r.len) s.others)
      (anchor_among s.anchor new (end - h.end))
      (or_from (list_any (is_in_way h.start end new (end - h.end)) s.heaps) (list_any (λ r. shares_address new (end - h.end) r.at r.len) s.others) heaps may.others)
      may.anchors)

  in_none : (LiesInBlock s h → ⊥) → is_in_heap h.start s.heaps ≡ false
  in_none outer =
      none_any (has_before h.start) s.heaps s.heaps (are_found s.bytes s.heaps sound.heaps)
      (λ k found'. not_before k found' (λ w. outer (record { outer = k; found = found'; within = w })))

pub growths_judged : GrowthsAreJudged
growths_judged s h end sound found more = (judged s h sound found end more, unjudged s h sound found end more)

pub growths_meet : OuterGrowthsMeet
growths_meet s h end sound found outer more =
    let new : ℕ = h.start + h.end in
    let len : ℕ = end - h.end in
    rw (lt-ltb h.end end more)
    (ap (λ (t : Bool). (t || list_any (λ r. shares_address new len r.at r.len) s.others) || anchor_among s.anchor new len)
    (grown_alone h.start end new len s.heaps (in_none s h sound found outer)))

-- a change of a heap's end, where the heap is found
abbrev reported : Store → HeapList → ℕ → ℕ → Result (Store × (ℕ × ℕ)) ErrorNumber
reported s h block change = bind (end_changed s h change (changed_by h.end change)) (λ r. Ok (r.0, (block, change)))

changed_is : (s : Store) (h : HeapList) (block change : ℕ) → find_heap h.start s.heaps ≡ Some h → has_own_size h.kind ≡ true
    → call_on s h.start reason.ChangeSize block change ≡ reported s h block change
unfolding store_after_change
changed_is s h block change found own = rw (found, own) refl

refused_so : (s : Store) (h : HeapList) (block change : ℕ) → change % 4 ≡ 0 → is_heap_region s.bytes h.start (changed_by h.end change) ≡ true
    → overgrows s h (changed_by h.end change) ≡ true → reported s h block change ≡ Err HeapOverlaps
refused_so s h block change whole region over = rw (eq-eqb (change % 4) 0 whole, region, over) refl

passed_so : (s : Store) (h : HeapList) (block change : ℕ) → change % 4 ≡ 0 → is_heap_region s.bytes h.start (changed_by h.end change) ≡ true
    → overgrows s h (changed_by h.end change) ≡ false → reported s h block change ≡ Err HeapOverlaps → ⊥
passed_so s h block change whole region clear is =
    let is' = rw (eq-eqb (change % 4) 0 whole, region, clear) at is in
    elim (cases_Bool (nat_lt (changed_by h.end change) (16 + size_of h.items))) [
      | inl short ↦ absurd (let no = rw short at is' in cc)
      | inr fits ↦ absurd (let no = rw fits at is' in cc)
    ]

pub growths_refused : GrowthsAreRefused
growths_refused s h block change sound found own whole region more =
    let end : ℕ = changed_by h.end change in
    let same : call_on s h.start reason.ChangeSize block change ≡ reported s h block change = changed_is s h block change found own in
    elim (cases_Bool (overgrows s h end)) [
      | inl over ↦ (
        λ is may. both_ways (overgrows s h end) (unjudged s h sound found end more may) over,
        λ none. same ∙ refused_so s h block change whole region over,
      )
      | inr clear ↦ (
        λ is may. passed_so s h block change whole region clear (sym same ∙ is),
        λ none. absurd (none (judged s h sound found end more clear)),
      )
    ]
