-- What is in the way of a heap's range: some record by itself, or else the innermost heap round it.
use Rattle.std.proofs.Common.{List, ℕ, [], ◌∷◌, ◌≡◌, ◌+◌, ◌<◌, ◌&&◌, ◌||◌, ◌∙◌, Bool, Option, cond, not, true, false, leb, ltb, refl, sym, ap, inl, inr, arith}
use Rattle.std.proofs.lemmas.Bool.{both_ways, cases_Bool, and_parts, or_left, or_right, or_parts, false_from_ne_true, le-leb, lt-ltb, ltb-true, ltb-false}
use Rattle.std.specs.List.{list_any}
use Rattle.os_heap_words.specs.Bytes.{Bytes, in_range, shares_address}
use Rattle.os_heap_words.specs.Memory.{anchor_of, bytes_of, regions}
use Rattle.os_heap_words.specs.Records.{anchor_among, is_heap_kind}
use Rattle.os_heap_words.specs.AddressMap.{AddressMap}
use Rattle.os_heap_words.specs.Region.{Region}
use Rattle.os_heap_words.specs.lists.Heap.{HeapList, IsHeapIn}
use Rattle.os_heap.proofs.RangeTests.{or_middle, or_next, or_none}
use Rattle.os_heap.proofs.Holding.{range_bounds}
use Rattle.os_heap.proofs.Innermost.{IsRound, round_so, so_round, last_shows, ranges_nested}
use Rattle.os_heap.specs.Bars.{bars, bars_record}
use Rattle.os_heap.specs.Laws.{passes_if_there}
use Rattle.os_heap.specs.Nesting.{holds_range, innermost_heap, is_crossed, is_round}
use Rattle.os_heap.specs.Probes.{counted_of, is_barred, region_probes, walked_to}
use Rattle.os_heap.specs.Ranges.{has_before, is_in_way, is_obstructed, overlaps}
use Rattle.os_heap.specs.Store.{AreHeapsIn, IsSound, Store, heap_in, heaps_in, others_in, store_of}

-- a heap that begins before a range and has its first byte
pub record IsBefore (at : ℕ) (h : HeapList) : Type 0 where
  pub low : h.start < at
  pub high : at < h.start + h.end

pub before_so : (at : ℕ) (h : HeapList) → has_before at h ≡ true → IsBefore at h
before_so at h is =
    let both = and_parts (ltb h.start at) (in_range h.start h.end at) is in
    let inside = and_parts (leb h.start at) (ltb at (h.start + h.end)) both.1 in
    record { low = ltb-true h.start at both.0; high = ltb-true at (h.start + h.end) inside.1 }

pub so_before : (at : ℕ) (h : HeapList) → IsBefore at h → has_before at h ≡ true
so_before at h is =
    let low : h.start < at = is.low in
    rw (lt-ltb h.start at low, le-leb h.start at (omega (arith, low)), lt-ltb at (h.start + h.end) is.high) refl

-- a heap that does not bar the range by itself is in its way where it is round it and does not hold it in one block
in_way_round : (at len new more : ℕ) (h : HeapList) → 0 < len → bars at len new more h ≡ false
    → is_in_way at len new more h ≡ (is_round at len h && not (holds_range (h.start + 16) h.items at len))
in_way_round at len new more h some none = elim (cases_Bool (has_before at h)) [
  | inl before ↦
      let ends = rw before at none in
      let is : IsBefore at h = before_so at h before in
      let round : is_round at len h ≡ true = so_round at len h (record { low = is.low; high = ltb-false (h.start + h.end) (at + len) ends }) in
      rw (before, round) refl
  | inr after ↦
      let out : is_round at len h ≡ false = false_from_ne_true (is_round at len h) (λ is.
      let round : IsRound at len h = round_so at len h is in
      both_ways (has_before at h) after (so_before at h (record { low = round.low; high = omega (arith, round.high, some) }))) in
      let none' = rw after at none in
      rw (after, out, none') refl
]

pub in_way_shown : (b : Bytes) (at len new more : ℕ) (hs : List HeapList) → 0 < len → AreHeapsIn b hs → list_any (bars at len new more) hs ≡ false
    → list_any (is_in_way at len new more) hs ≡ passes_if_there (λ h. not (holds_range (h.start + 16) h.items at len)) (innermost_heap at len hs)
in_way_shown b at len new more hs some parts none =
    all hs none ∙ last_shows (is_round at len) (λ h. not (holds_range (h.start + 16) h.items at len)) hs (ranges_nested b at len hs some parts) where
      all : (gs : List HeapList) → list_any (bars at len new more) gs ≡ false
          → list_any (is_in_way at len new more) gs ≡ list_any (λ h. is_round at len h && not (holds_range (h.start + 16) h.items at len)) gs
      all [] none = refl
      all (g ∷ gs) none =
          let each = or_parts (bars at len new more g) (list_any (bars at len new more) gs) none in
          rw (in_way_round at len new more g some each.0, all gs each.1) refl

barred_way : (b : Bytes) (at len new more : ℕ) (h : HeapList) → IsHeapIn b h.start h.end h.items → bars at len new more h ≡ true
    → is_in_way at len new more h ≡ true
barred_way b at len new more h heap is = elim (cases_Bool (has_before at h)) [
  | inr after ↦ rw after (rw after at is)
  | inl before ↦
      let ends : h.start + h.end < at + len = ltb-true (h.start + h.end) (at + len) (rw before at is) in
      let none : holds_range (h.start + 16) h.items at len ≡ false = false_from_ne_true (holds_range (h.start + 16) h.items at len) (λ held.
      absurd (omega (arith, ends, (range_bounds (h.start + 16) h.items at len held).1, heap.inside))) in
      rw (before, none) refl
]

pub barred_in_way : (b : Bytes) (at len new more : ℕ) (hs : List HeapList) → AreHeapsIn b hs → list_any (bars at len new more) hs ≡ true
    → list_any (is_in_way at len new more) hs ≡ true
barred_in_way b at len new more [] parts is = is
barred_in_way b at len new more (h ∷ hs) parts is = elim (cases_Bool (bars at len new more h)) [
  | inl here ↦ or_left (is_in_way at len new more h) (list_any (is_in_way at len new more) hs) (barred_way b at len new more h parts.0 here)
  | inr other ↦ or_right (is_in_way at len new more h) (list_any (is_in_way at len new more) hs)
      (barred_in_way b at len new more hs parts.1.1 (rw other at is))
]

pub bars_split : (at len new more : ℕ) (b : Bytes) (rs : List Region)
    → list_any (bars_record at len new more) rs ≡ (list_any (bars at len new more) (heaps_in b rs) || list_any (λ r. shares_address new more r.at r.len) (others_in rs))
bars_split at len new more b [] = refl
bars_split at len new more b (r ∷ rs) =
    let parts : Bool = list_any (bars at len new more) (heaps_in b rs) in
    let others : Bool = list_any (λ q. shares_address new more q.at q.len) (others_in rs) in
    elim (cases_Bool (is_heap_kind r.kind)) [
      | inl heap ↦ rw (heap, bars_split at len new more b rs) (sym (or_next (bars at len new more (heap_in b r)) parts others))
      | inr other ↦ rw (other, bars_split at len new more b rs) (or_middle (shares_address new more r.at r.len) parts others)
    ]

-- for a heap that is made, all of whose range is new, this is the rule of ranges that lie in blocks
and_true : (t : Bool) → (t && true) ≡ t
and_true true = refl
and_true false = refl

way_crossed : (b : Bytes) (at len : ℕ) (h : HeapList) → 0 < len → IsHeapIn b h.start h.end h.items → is_in_way at len at len h ≡ is_crossed at len h
way_crossed b at len h some heap = elim (cases_Bool (has_before at h)) [
  | inl before ↦
      let is : IsBefore at h = before_so at h before in
      let low : h.start < at = is.low in
      let high : at < h.start + h.end = is.high in
      let met : shares_address at len h.start h.end ≡ true =
      rw (lt-ltb 0 len some, lt-ltb 0 h.end (omega (arith, low, high)), lt-ltb at (h.start + h.end) high, lt-ltb h.start (at + len) (omega (arith, low))) refl in
      rw (before, met) refl
  | inr after ↦
      let none : holds_range (h.start + 16) h.items at len ≡ false = false_from_ne_true (holds_range (h.start + 16) h.items at len) (λ held.
      let bounds = range_bounds (h.start + 16) h.items at len held in
      both_ways (has_before at h) after (so_before at h (record { low = omega (arith, bounds.0); high = omega (arith, bounds.1, heap.inside, some) }))) in
      rw (after, none) (sym (and_true (shares_address at len h.start h.end)))
]

pub ways_crossed : (b : Bytes) (at len : ℕ) (hs : List HeapList) → 0 < len → AreHeapsIn b hs
    → list_any (is_in_way at len at len) hs ≡ list_any (is_crossed at len) hs
ways_crossed b at len [] some parts = refl
ways_crossed b at len (h ∷ hs) some parts = rw (way_crossed b at len h some parts.0, ways_crossed b at len hs some parts.1.1) refl

-- the tests that the code makes
pub obstructed_barred : (m : AddressMap) (at len new more : ℕ) → IsSound (store_of m)
    → (list_any (bars_record at len new more) (regions m) || anchor_among (anchor_of m) new more) ≡ true → is_obstructed at len new more (store_of m) ≡ true
unfolding store_of
obstructed_barred m at len new more sound is =
    let hs : List HeapList = heaps_in (bytes_of m) (regions m) in
    let ways : Bool = list_any (is_in_way at len new more) hs in
    let barred : Bool = list_any (bars at len new more) hs in
    let others : Bool = list_any (λ r. shares_address new more r.at r.len) (others_in (regions m)) in
    let anchors : Bool = anchor_among (anchor_of m) new more in
    let is' : ((barred || others) || anchors) ≡ true = ap (λ (t : Bool). t || anchors) (sym (bars_split at len new more (bytes_of m) (regions m))) ∙ is in
    elim (cases_Bool barred) [
      | inl here ↦ or_left (ways || others) anchors (or_left ways others (barred_in_way (bytes_of m) at len new more hs sound.heaps here))
      | inr none ↦
          let rest : (others || anchors) ≡ true = rw none at is' in
          elim (cases_Bool others) [
            | inl other ↦ or_left (ways || others) anchors (or_right ways others other)
            | inr clear ↦ or_right (ways || others) anchors (rw clear at rest)
          ]
    ]

pub obstructed_shown : (m : AddressMap) (at len new more : ℕ) → IsSound (store_of m) → 0 < len → list_any (bars_record at len new more) (regions m) ≡ false
    → anchor_among (anchor_of m) new more ≡ false
    → is_obstructed at len new more (store_of m) ≡ passes_if_there (λ h. not (holds_range (h.start + 16) h.items at len)) (innermost_heap at len (heaps_in (bytes_of m) (regions m)))
unfolding store_of
obstructed_shown m at len new more sound some barred unanchored =
    let hs : List HeapList = heaps_in (bytes_of m) (regions m) in
    let others : Bool = list_any (λ r. shares_address new more r.at r.len) (others_in (regions m)) in
    let anchors : Bool = anchor_among (anchor_of m) new more in
    let none = or_parts (list_any (bars at len new more) hs) others (sym (bars_split at len new more (bytes_of m) (regions m)) ∙ barred) in
    let reported : Bool = passes_if_there (λ h. not (holds_range (h.start + 16) h.items at len)) (innermost_heap at len hs) in
    let clear : others ≡ false = none.1 in
    let free : anchors ≡ false = unanchored in
    ap (λ (t : Bool). (t || others) || anchors) (in_way_shown (bytes_of m) at len new more hs some sound.heaps none.0)
    ∙ ap (λ (t : Bool). (reported || t) || anchors) clear ∙ ap (λ (t : Bool). (reported || false) || t) free ∙ or_none (reported || false) ∙ or_none reported

-- a heap that is made: nothing is in its way just where its range overlaps nothing
pub obstructed_over : (s : Store) (at len : ℕ) → 0 < len → IsSound s → is_obstructed at len at len s ≡ overlaps at len s
obstructed_over s at len some sound =
    let others : Bool = list_any (λ r. shares_address at len r.at r.len) s.others in
    ap (λ (t : Bool). (t || others) || anchor_among s.anchor at len) (ways_crossed s.bytes at len s.heaps some sound.heaps)

-- what is looked at: nothing where something is in the way by itself, and else the items of the innermost heap
barred_records : (m : AddressMap) (at len new more : ℕ)
    → is_barred at len new more (store_of m) ≡ (list_any (bars_record at len new more) (regions m) || anchor_among (anchor_of m) new more)
unfolding store_of
barred_records m at len new more =
    ap (λ (t : Bool). t || anchor_among (anchor_of m) new more) (sym (bars_split at len new more (bytes_of m) (regions m)))

pub barred_probes : (m : AddressMap) (at len new more : ℕ)
    → (list_any (bars_record at len new more) (regions m) || anchor_among (anchor_of m) new more) ≡ true → region_probes (store_of m) at len new more ≡ 0
unfolding region_probes
barred_probes m at len new more is =
    ap (λ (t : Bool). cond t 0 (counted_of (λ h. walked_to at (h.start + 16) h.items) (innermost_heap at len (store_of m).heaps)))
    (barred_records m at len new more ∙ is)

pub walk_probes_of : (m : AddressMap) (at len new more : ℕ) (round : Option HeapList) → list_any (bars_record at len new more) (regions m) ≡ false
    → anchor_among (anchor_of m) new more ≡ false → innermost_heap at len (heaps_in (bytes_of m) (regions m)) ≡ round
    → region_probes (store_of m) at len new more ≡ counted_of (λ h. walked_to at (h.start + 16) h.items) round
unfolding region_probes store_of
walk_probes_of m at len new more round free unanchored found =
    let anchors : Bool = anchor_among (anchor_of m) new more in
    let clear : (list_any (bars_record at len new more) (regions m) || anchors) ≡ false = ap (λ (t : Bool). t || anchors) free ∙ unanchored in
    ap (λ (t : Bool). cond t 0 (counted_of (λ h. walked_to at (h.start + 16) h.items) (innermost_heap at len (heaps_in (bytes_of m) (regions m)))))
    (barred_records m at len new more ∙ clear)
    ∙ ap (counted_of (λ h. walked_to at (h.start + 16) h.items)) found
