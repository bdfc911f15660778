-- A change of a heap's size, in a store and in that which has the heap alone.
use Rattle.std.proofs.Common.{ℕ, ◌≡◌, ◌+◌, ◌-◌, ◌%◌, ◌≤◌, ◌<◌, ◌==◌, ◌&&◌, ◌||◌, ◌∙◌, Bool, not, true, false, [], ◌∷◌, Some, Result, Ok, Err, refl, sym, ap, inl, inr, arith, if◌then◌else◌}
use Rattle.std.proofs.lemmas.Bool.{and_right, both_ways, cases_Bool, cases_lt, eq-eqb, false_from_ne_true, le-leb, le-ltb, lt-ltb, or_from, or_left, or_right}
use Rattle.std.specs.List.{list_any}
use Rattle.std.specs.Prelude.{nat_le, nat_lt}
use Rattle.profile.specs.ErrorNumber.{ErrorNumber}
use Rattle.profile.specs.ErrorNumber.TheVariants.{HeapBadRegion, HeapBadShrink, HeapOverlaps}
use Rattle.address_map.proofs.Anchors.{among_none}
use Rattle.address_map.proofs.Stores.{in_range-cases}
use Rattle.address_map.specs.Bytes.{AreMapped, in_range, shares_address}
use Rattle.address_map.specs.Items.{size_of}
use Rattle.address_map.specs.Records.{anchor_among}
use Rattle.os_heap_words.specs.lists.Heap.{HeapList, IsHeapIn}
use Rattle.os_heap_words.specs.lists.Lists.{changed_by}
use Rattle.os_heap.proofs.RangeTests.{are_mapped_all, are_mapped_from}
use Rattle.os_heap.proofs.Apart.{range_parts}
use Rattle.os_heap.proofs.Beside.{grown_alone}
use Rattle.os_heap.proofs.Found.{found_ended, found_heap}
use Rattle.os_heap.proofs.Refusals.{changed_own}
use Rattle.os_heap.specs.Calls.{store_after_change, end_changed, ending}
use Rattle.os_heap.specs.Ranges.{are_bytes_mapped, has_before, is_heap_region, is_in_heap, is_in_way, is_obstructed, overgrows}
use Rattle.os_heap.specs.Store.{Store, find_heap}
use Rattle.law_machine.proofs.HeapCallsLemmas.Likeness.{AreAlike, AreLike, IsSameHeap, alone_alike, by_both, heap_like, with_last}
use Rattle.law_machine.specs.heap_calls.Alone.{Alone, Growth, alone_in, bytes_in, growth_to}
use Rattle.law_machine.specs.heap_calls.Laws.{IsGuestHeap}
use Rattle.law_machine.specs.heap_calls.Turns.{others_met, store_with}

same_ended : (s u : Store) (h : HeapList) (end : ℕ) → find_heap h.start s.heaps ≡ Some h → find_heap h.start u.heaps ≡ Some h
    → AreLike h.start end s.bytes.at u.bytes.at → IsSameHeap h (ending s h end) (ending u h end)
same_ended s u h end one two like = λ w.
    alone_alike w (ending s h end) (ending u h end) (with_last h end)
    (found_ended h.start end s.heaps h one) (found_ended h.start end u.heaps h two)
    (λ a here. heap_like s.bytes.at u.bytes.at h.start end h.items a (like a here))

-- the tests in their order, and what is done
abbrev tested : Bool → Bool → Bool → (Store × Unit {0}) → Result (Store × Unit {0}) ErrorNumber
tested bad over short r =
    if bad then Err HeapBadRegion else (
    if over then Err HeapOverlaps else (
    if short then Err HeapBadShrink else Ok r))

tested_alike : (h : HeapList) (bad over short : Bool) (s u : Store) → IsSameHeap h s u
    → AreAlike (Unit {0}) h (tested bad over short (s, tt)) (tested bad over short (u, tt))
tested_alike h true over short s u same = refl
tested_alike h false true short s u same = refl
tested_alike h false false true s u same = refl
tested_alike h false false false s u same = (refl, same)

end_alike : (s u : Store) (h : HeapList) (change end : ℕ) → find_heap h.start s.heaps ≡ Some h → find_heap h.start u.heaps ≡ Some h
    → is_heap_region s.bytes h.start end ≡ is_heap_region u.bytes h.start end
    → overgrows s h end ≡ overgrows u h end
    → AreLike h.start end s.bytes.at u.bytes.at → AreAlike (Unit {0}) h (end_changed s h change end) (end_changed u h change end)
end_alike s u h change end one two region over like =
    let short : Bool = nat_lt end (16 + size_of h.items) in
    let left : Store × Unit {0} = (ending u h end, tt) in
    let over_s : Bool = overgrows s h end in
    let over_u : Bool = overgrows u h end in
    let tests : end_changed u h change end ≡ tested (not (change % 4 == 0 && is_heap_region s.bytes h.start end)) over_s short left =
    ap (λ (x : Bool). tested (not (change % 4 == 0 && x)) over_u short left) (sym region)
    ∙ ap (λ (x : Bool). tested (not (change % 4 == 0 && is_heap_region s.bytes h.start end)) x short left) (sym over) in
    by_both (Unit {0}) h _ _ _ _ refl tests
    (tested_alike h (not (change % 4 == 0 && is_heap_region s.bytes h.start end)) over_s short (ending s h end) (ending u h end)
    (same_ended s u h end one two like))

-- the mapped addresses of a heap that grows
past_end : (start len : ℕ) → in_range start len (start + len) ≡ false
past_end start len = and_right _ _ (le-ltb (start + len) (start + len) (omega arith))

mapped_same : (m : ℕ → Bool) (start old end : ℕ) (grown : Bool) → AreMapped m start old → (old < end → grown ≡ are_bytes_mapped m (start + old) (end - old))
    → are_bytes_mapped m start end ≡ are_bytes_mapped (λ a. in_range start old a || grown) start end
mapped_same m start old end grown mapped is =
    let n : ℕ → Bool = λ a. in_range start old a || grown in
    let within : (a : ℕ) → start ≤ a → a < start + old → n a ≡ true = λ a low high.
    or_left (in_range start old a) grown (rw (le-leb start a low, lt-ltb a (start + old) high) refl) in
    elim (cases_lt old end) [
      | inr less ↦
          are_mapped_from m start end (λ a low high. mapped a low (omega arith))
          ∙ sym (are_mapped_from n start end (λ a low high. within a low (omega arith)))
      | inl more ↦ elim (cases_Bool grown) [
        | inl all ↦
            let rest : AreMapped m (start + old) (end - old) = are_mapped_all m (start + old) (end - old) (sym (is more) ∙ all) in
            are_mapped_from m start end (λ a low high. elim (cases_lt a (start + old)) [
              | inl before ↦ mapped a low before
              | inr behind ↦ rest a behind (omega arith)
            ])
            ∙ sym (are_mapped_from n start end (λ a low high. or_right (in_range start old a) grown all))
        | inr some ↦
            false_from_ne_true (are_bytes_mapped m start end) (λ whole. both_ways grown some
            (is more ∙ are_mapped_from m (start + old) (end - old) (λ a low high. are_mapped_all m start end whole a (omega arith) (omega arith))))
            ∙ sym (false_from_ne_true (are_bytes_mapped n start end) (λ whole. both_ways (n (start + old))
            (or_from (in_range start old (start + old)) grown (past_end start old) some)
            (are_mapped_all n start end whole (start + old) (omega arith) (omega arith))))
      ]
    ]

-- what the growth of a heap alone meets: it does not lie round itself
not_in_itself : (h : HeapList) → is_in_heap h.start (h ∷ []) ≡ false
not_in_itself h = or_from (has_before h.start h) false (rw (le-ltb h.start h.start (omega arith)) refl) refl

only : (a b c : Bool) → a ≡ false → c ≡ false → ((a || b) || c) ≡ b
only a true c none none' = rw none refl
only a false c none none' = rw (none, none') refl

own_unmet : (h : HeapList) (end len : ℕ) → list_any (is_in_way h.start end (h.start + h.end) len) (h ∷ []) ≡ false
own_unmet h end len =
    let at : ℕ = h.start + h.end in
    let past : (nat_lt at (h.start + h.end) && nat_lt h.start (at + len)) ≡ false = rw (le-ltb at at (omega arith)) refl in
    grown_alone h.start end at len (h ∷ []) (not_in_itself h)
    ∙ or_from (shares_address at len h.start h.end) false
    (and_right (nat_lt 0 len && nat_lt 0 h.end) (nat_lt at (h.start + h.end) && nat_lt h.start (at + len)) past) refl

others_as_shown : (h : HeapList) (len : ℕ) (m : Bool) → 0 < len → list_any (λ r. shares_address (h.start + h.end) len r.at r.len) (others_met h m) ≡ m
others_as_shown h len true some =
    rw (lt-ltb 0 len some, lt-ltb (h.start + h.end) (h.start + h.end + 1) (omega arith), lt-ltb (h.start + h.end) (h.start + h.end + len) (omega arith)) refl
others_as_shown h len false some = refl

obstructed_as_shown : (w : Alone) (g : Growth) (end len : ℕ) → 0 < len
    → is_obstructed w.heap.start end (w.heap.start + w.heap.end) len (store_with w g) ≡ g.meets
obstructed_as_shown w g end len some =
    let at : ℕ = w.heap.start + w.heap.end in
    only (list_any (is_in_way w.heap.start end at len) (w.heap ∷ [])) (list_any (λ r. shares_address at len r.at r.len) (others_met w.heap g.meets))
    (anchor_among (λ a. false) at len) (own_unmet w.heap end len) (among_none (λ a. false) at len (λ a low high. refl))
    ∙ others_as_shown w.heap len g.meets some

overgrows_as_shown : (w : Alone) (g : Growth) (end : ℕ) → w.heap.end < end → overgrows (store_with w g) w.heap end ≡ g.meets
overgrows_as_shown w g end more =
    let obstructed : Bool = is_obstructed w.heap.start end (w.heap.start + w.heap.end) (end - w.heap.end) (store_with w g) in
    ap (λ (x : Bool). x && obstructed) (lt-ltb w.heap.end end more) ∙ obstructed_as_shown w g end (end - w.heap.end) (omega (arith, more))

overgrows_same : (s : Store) (h : HeapList) (end : ℕ) (g : Growth) → (h.end < end → g ≡ growth_to s h end)
    → overgrows s h end ≡ overgrows (store_with (alone_in s h) g) h end
overgrows_same s h end g is = elim (cases_lt h.end end) [
  | inl more ↦ sym (ap (λ (x : Growth). x.meets) (is more)) ∙ sym (overgrows_as_shown (alone_in s h) g end more)
  | inr less ↦ rw (le-ltb h.end end less) refl
]

-- and its bytes
grown_like : (s : Store) (h : HeapList) (end : ℕ) (g : Growth) → (h.end < end → g ≡ growth_to s h end)
    → AreLike h.start end s.bytes.at (store_with (alone_in s h) g).bytes.at
grown_like s h end g is a here = elim (in_range-cases h.start h.end a) [
  | inl inside ↦ rw inside.0 refl
  | inr out ↦
      let parts : (h.start ≤ a) × (a < h.start + end) = range_parts h.start end a here in
      let behind : h.start + h.end ≤ a = elim out.1 [ inl low ↦ absurd (omega (arith, parts.0)) | inr past ↦ past ] in
      let given : g.bytes a ≡ bytes_in (h.start + h.end) (end - h.end) s.bytes.at a = ap (λ (x : Growth). x.bytes a) (is (omega (arith, parts.1))) in
      let reported : bytes_in (h.start + h.end) (end - h.end) s.bytes.at a ≡ s.bytes.at a =
      rw (le-leb (h.start + h.end) a behind, lt-ltb a (h.start + h.end + (end - h.end)) (omega (arith, parts.1))) refl in
      rw out.0 (sym (given ∙ reported))
]

pub found_alone : (w : Alone) (g : Growth) → find_heap w.heap.start (store_with w g).heaps ≡ Some w.heap
found_alone w g = rw (eq-eqb w.heap.start w.heap.start refl) refl

pub changed_alike : (s : Store) (h : HeapList) (change : ℕ) (g : Growth) → IsGuestHeap s h
    → (h.end < changed_by h.end change → g ≡ growth_to s h (changed_by h.end change))
    → AreAlike (Unit {0}) h (store_after_change s h.start change) (store_after_change (store_with (alone_in s h) g) h.start change)
changed_alike s h change g guest is =
    let u : Store = store_with (alone_in s h) g in
    let end : ℕ = changed_by h.end change in
    let heap : IsHeapIn s.bytes h.start h.end h.items = found_heap s.bytes h.start s.heaps h guest.sound.heaps guest.found in
    let region : is_heap_region s.bytes h.start end ≡ is_heap_region u.bytes h.start end =
    ap (λ (m : Bool). (h.start % 4 == 0 && end % 4 == 0) && ((nat_le 16 end && nat_le end 16777216) && m))
    (mapped_same s.bytes.mapped h.start h.end end g.mapped heap.mapped (λ more. ap (λ (x : Growth). x.mapped) (is more))) in
    by_both (Unit {0}) h _ _ _ _ (changed_own s h.start change h guest.found guest.own) (changed_own u h.start change h (found_alone (alone_in s h) g) guest.own)
    (end_alike s u h change end guest.found (found_alone (alone_in s h) g) region (overgrows_same s h end g is) (grown_like s h end g is))
