-- What the tests of ranges say: of memory that is mapped, of a heap's range, and of all that a store records.
use Rattle.std.proofs.Common.{ap, Bool, arith, inl, ◌+◌, ◌≡◌, ℕ, true, inr, suc, zero, refl, false, [], List, ◌∷◌, ◌≤◌, ◌%◌, ◌==◌, ◌&&◌, ◌-◌, leb, ◌^◌, ◌<◌, ◌⊎◌, sym, ◌↔◌, ◌||◌}
use Rattle.std.proofs.lemmas.Bool.{cases_lt, and_parts, false_from_ne_true, or_parts, leb-true, ltb-true, eqb-true, le-leb, cases_Bool, false≢true, eq-eqb, not-false}
use Rattle.std.proofs.Math.Dec.{ltb}
use Rattle.std.proofs.lemmas.Bool.Decides.{nat_tests}
use Rattle.std.specs.List.{list_any}
use Rattle.os_heap_words.proofs.Spans.{mapped_below}
use Rattle.os_heap_words.specs.Bytes.{AreMapped, in_range, shares_address, Bytes}
use Rattle.os_heap_words.specs.Memory.{anchor_of, is_mapped, bytes_of, regions}
use Rattle.os_heap_words.specs.Records.{anchor_among, is_heap_kind}
use Rattle.os_heap_words.specs.AddressMap.{AddressMap}
use Rattle.os_heap_words.specs.Region.{Region}
use Rattle.os_heap_words.specs.lists.Heap.{HeapList, IsHeapIn}
use Rattle.os_heap.proofs.Holding.{HoldsRange, range_held}
use Rattle.os_heap.specs.Ranges.{are_bytes_mapped, is_heap_region, meets_any, overlaps}
use Rattle.os_heap.specs.Nesting.{holds_range, is_crossed}
use Rattle.os_heap.specs.Store.{AreClear, IsClearOfHeaps, Store, heaps_in, others_in, store_of}

-- a range that is mapped whole
pub are_mapped_all : (mapped : ℕ → Bool) (at n : ℕ) → are_bytes_mapped mapped at n ≡ true → AreMapped mapped at n
are_mapped_all mapped at zero h a low high = absurd (omega arith)
are_mapped_all mapped at (suc n) h a low high =
    let parts = and_parts (mapped at) (are_bytes_mapped mapped (at + 1) n) h in
    elim (cases_lt at a) [
      | inl later ↦ are_mapped_all mapped (at + 1) n parts.1 a (omega arith) (omega arith)
      | inr here ↦ let e : a ≡ at = omega arith in rw e parts.0
    ]

pub are_mapped_from : (mapped : ℕ → Bool) (at n : ℕ) → AreMapped mapped at n → are_bytes_mapped mapped at n ≡ true
are_mapped_from mapped at zero h = refl
are_mapped_from mapped at (suc n) h =
    rw (h at (omega arith) (omega arith)) (are_mapped_from mapped (at + 1) n (λ a low high. h a (omega arith) (omega arith)))

pub same_tests : (t u : Bool) → (t ≡ true → u ≡ true) → (u ≡ true → t ≡ true) → t ≡ u
same_tests true u h g = sym (h refl)
same_tests false u h g = sym (false_from_ne_true u (λ e. false≢true (g e)))

-- ranges without a byte in common
pub clear_unless : (at len other other_len : ℕ) → shares_address at len other other_len ≡ false → AreClear at len other other_len
clear_unless at len other other_len h a inside = grind (arith, nat_tests)

pub clear_of_heaps : (at len : ℕ) (hs : List HeapList) → list_any (λ h. shares_address at len h.start h.end) hs ≡ false → IsClearOfHeaps at len hs
clear_of_heaps at len [] none = tt
clear_of_heaps at len (h ∷ hs) none =
    let parts = or_parts (shares_address at len h.start h.end) (list_any (λ h. shares_address at len h.start h.end) hs) none in
    (clear_unless at len h.start h.end parts.0, clear_of_heaps at len hs parts.1)

pub range_low : (at len a : ℕ) → in_range at len a ≡ true → at ≤ a
range_low at len a inside = leb-true at a (and_parts (leb at a) (ltb a (at + len)) inside).0

pub range_high : (at len a : ℕ) → in_range at len a ≡ true → a < at + len
range_high at len a inside = ltb-true a (at + len) (and_parts (leb at a) (ltb a (at + len)) inside).1

-- what meets neither a record nor an anchor
pub unmet : (at len : ℕ) (s : Store) → meets_any at len s ≡ false
    → ((list_any (λ h. shares_address at len h.start h.end) s.heaps ≡ false) × (list_any (λ r. shares_address at len r.at r.len) s.others ≡ false))
    × (anchor_among s.anchor at len ≡ false)
unmet at len s clear =
    let heaps : Bool = list_any (λ h. shares_address at len h.start h.end) s.heaps in
    let others : Bool = list_any (λ r. shares_address at len r.at r.len) s.others in
    let both = or_parts (heaps || others) (anchor_among s.anchor at len) clear in
    (or_parts heaps others both.0, both.1)

-- what meets neither another record nor an anchor, and heaps only by lying in their blocks
pub unlapped : (at len : ℕ) (s : Store) → overlaps at len s ≡ false
    → ((list_any (is_crossed at len) s.heaps ≡ false) × (list_any (λ r. shares_address at len r.at r.len) s.others ≡ false)) × (anchor_among s.anchor at len ≡ false)
unlapped at len s clear =
    let heaps : Bool = list_any (is_crossed at len) s.heaps in
    let others : Bool = list_any (λ r. shares_address at len r.at r.len) s.others in
    let both = or_parts (heaps || others) (anchor_among s.anchor at len) clear in
    (or_parts heaps others both.0, both.1)

-- a heap that the range does not cross is clear of it, or holds it in one block
pub uncrossed : (b : Bytes) (at len : ℕ) (h : HeapList) → IsHeapIn b h.start h.end h.items → is_crossed at len h ≡ false
    → AreClear at len h.start h.end ⊎ HoldsRange (h.start + 16) h.items at len
uncrossed b at len h heap none = elim (cases_Bool (shares_address at len h.start h.end)) [
  | inr apart ↦ inl (clear_unless at len h.start h.end apart)
  | inl met ↦ inr (range_held (h.start + 16) h.items at len heap.totals (not-false (holds_range (h.start + 16) h.items at len) (rw met at none)))
]

-- what the test of a heap's range says
pub record CanHold (b : Bytes) (at size : ℕ) : Type 0 where
  pub aligned : at % 4 ≡ 0
  pub whole : size % 4 ≡ 0
  pub low : 16 ≤ size
  pub high : size ≤ 16777216
  pub mapped : AreMapped b.mapped at size

pub can_hold : (b : Bytes) (at size : ℕ) → is_heap_region b at size ≡ true → CanHold b at size
can_hold b at size h =
    let outer = and_parts (at % 4 == 0 && size % 4 == 0) ((leb 16 size && leb size 16777216) && are_bytes_mapped b.mapped at size) h in
    let multiples = and_parts (at % 4 == 0) (size % 4 == 0) outer.0 in
    let inner = and_parts (leb 16 size && leb size 16777216) (are_bytes_mapped b.mapped at size) outer.1 in
    let limits = and_parts (leb 16 size) (leb size 16777216) inner.0 in
    record {
      aligned = eqb-true (at % 4) 0 multiples.0;
      whole = eqb-true (size % 4) 0 multiples.1;
      low = leb-true 16 size limits.0;
      high = leb-true size 16777216 limits.1;
      mapped = are_mapped_all b.mapped at size inner.1;
    }

-- and the test that the code makes
pub region_tested : (b : Bytes) (at size : ℕ) (mapped : Bool) → at % 4 ≡ 0 → size % 4 ≡ 0 → 16 ≤ size → size ≤ 16777216
    → ((mapped ≡ true) ↔ AreMapped b.mapped at size) → mapped ≡ is_heap_region b at size
region_tested b at size mapped aligned whole low high tested =
    rw (eq-eqb (at % 4) 0 aligned, eq-eqb (size % 4) 0 whole, le-leb 16 size low, le-leb size 16777216 high)
    (same_tests mapped (are_bytes_mapped b.mapped at size) (λ e. are_mapped_from b.mapped at size (tested.0 e)) (λ e. tested.1 (are_mapped_all b.mapped at size e)))

-- tests of which one is enough
pub or_middle : (a b c : Bool) → (a || (b || c)) ≡ (b || (a || c))
or_middle true true c = refl
or_middle true false c = refl
or_middle false true c = refl
or_middle false false c = refl

pub or_next : (a b c : Bool) → ((a || b) || c) ≡ (a || (b || c))
or_next true b c = refl
or_next false b c = refl

pub or_none : (t : Bool) → (t || false) ≡ t
or_none true = refl
or_none false = refl

-- a test of ranges is made of heaps and of the other records
pub ranges_split : (test : ℕ → ℕ → Bool) (b : Bytes) (rs : List Region)
    → list_any (λ r. test r.at r.len) rs ≡ (list_any (λ h. test h.start h.end) (heaps_in b rs) || list_any (λ r. test r.at r.len) (others_in rs))
ranges_split test b [] = refl
ranges_split test b (r ∷ rs) =
    let parts : Bool = list_any (λ h. test h.start h.end) (heaps_in b rs) in
    let others : Bool = list_any (λ r. test r.at r.len) (others_in rs) in
    elim (cases_Bool (is_heap_kind r.kind)) [
      | inl heap ↦ rw (heap, ranges_split test b rs) (sym (or_next (test r.at r.len) parts others))
      | inr other ↦ rw (other, ranges_split test b rs) (or_middle (test r.at r.len) parts others)
    ]

pub meets_recorded : (m : AddressMap) (at len : ℕ)
    → (list_any (λ r. shares_address at len r.at r.len) (regions m) || anchor_among (anchor_of m) at len) ≡ meets_any at len (store_of m)
unfolding store_of
meets_recorded m at len = ap (λ (t : Bool). t || anchor_among (anchor_of m) at len) (ranges_split (shares_address at len) (bytes_of m) (regions m))

-- what is mapped ends at 2^26 at the latest
pub range_end : (m : AddressMap) (at len : ℕ) → AreMapped (is_mapped m) at len → 0 < len → at + len ≤ 2 ^ 26
range_end m at len mapped some = omega (arith, mapped_below m (at + len - 1) (mapped (at + len - 1) (omega arith) (omega arith)))
