-- Heaps and ranges beside a heap that gets another end.
use Rattle.std.specs.List.{list_any}
use Rattle.std.proofs.Common.{ap, ◌≡◌, arith, ℕ, List, ◌∙◌, inr, ◌-◌, inl, ◌+◌, ◌≢◌, sym, ◌<◌, ◌⊎◌, [], ◌∷◌, ◌&&◌, true, false, subst, ltb, refl}
use Rattle.std.proofs.lemmas.Bool.{and_parts, and_right, both_ways, cases_Bool, or_from, le-ltb, cases_lt, eq-eqb, false≢true, le-leb, lt-ltb, ne_eqb, not-false, or_parts}
use Rattle.os_heap_words.proofs.Stores.{in_range-cases}
use Rattle.os_heap_words.specs.Bytes.{Bytes, in_range, shares_address}
use Rattle.os_heap_words.specs.lists.Heap.{HeapList, IsHeapIn}
use Rattle.os_heap.proofs.RangeTests.{clear_unless}
use Rattle.os_heap.proofs.Holding.{HoldsRange, range_held}
use Rattle.os_heap.proofs.Nesting.{apart_turned, not_itself, within_low}
use Rattle.os_heap.proofs.Stores.{AreOthers}
use Rattle.os_heap.specs.Calls.{with_end}
use Rattle.os_heap.specs.Nesting.{IsWithin, StandApart, StandsApart, holds_range}
use Rattle.os_heap.specs.Ranges.{has_before, is_in_heap, is_in_way}
use Rattle.os_heap.specs.Store.{AreClear, AreHeapsIn, is_module_area}

-- a range that meets neither the heap nor what it grows by does not meet the heap with its other end
pub clear_grown : (start end other at len : ℕ) → AreClear start end at len → (end < other → AreClear (start + end) (other - end) at len)
    → AreClear start other at len
clear_grown start end other at len clear grown a inside =
    elim (in_range-cases start other a) [
      | inl r ↦ elim (cases_lt a (start + end)) [
        | inl below ↦ clear a (rw (le-leb start a (omega (arith, r.1)), lt-ltb a (start + end) below) refl)
        | inr past ↦ grown (omega (arith, r.1)) a (rw (le-leb (start + end) a past, lt-ltb a (start + end + (other - end)) (omega (arith, r.1))) refl)
      ]
      | inr r ↦ absurd (false≢true (sym r.0 ∙ inside))
    ]

-- the heap with its other end
abbrev pub ended : HeapList → ℕ → HeapList
ended h end = record { kind = h.kind; start = h.start; end = end; items = h.items }

-- No heap is in the way of one that grows.
pub record MayGrow (h : HeapList) (end : ℕ) (hs : List HeapList) : Type 0 where
  pub free : h.end < end → list_any (is_in_way h.start end (h.start + h.end) (end - h.end)) hs ≡ false

may_grow_rest : (h g : HeapList) (end : ℕ) (hs : List HeapList) → MayGrow h end (g ∷ hs) → MayGrow h end hs
may_grow_rest h g end hs may = record {
  free = λ more. (or_parts (is_in_way h.start end (h.start + h.end) (end - h.end) g)
      (list_any (is_in_way h.start end (h.start + h.end) (end - h.end)) hs) (may.free more)).1;
}

-- a heap that shares no byte with it has none of what it grows by, and one that it lies in holds its new range
not_grown_into : (b : Bytes) (h g : HeapList) (end : ℕ) → IsHeapIn b h.start h.end h.items → is_in_way h.start end (h.start + h.end) (end - h.end) g ≡ false
    → AreClear h.start h.end g.start g.end → AreClear (h.start + h.end) (end - h.end) g.start g.end
not_grown_into b h g end heap free clear = elim (cases_Bool (has_before h.start g)) [
  | inr apart ↦ clear_unless (h.start + h.end) (end - h.end) g.start g.end (rw apart at free)
  | inl before ↦
      let there = (and_parts (ltb g.start h.start) (in_range g.start g.end h.start) before).1 in
      let here : in_range h.start h.end h.start ≡ true =
      rw (le-leb h.start h.start (omega arith), lt-ltb h.start (h.start + h.end) (omega (arith, heap.inside))) refl in
      absurd (both_ways (in_range g.start g.end h.start) (clear h.start here) there)
]

grown_within : (b : Bytes) (h g : HeapList) (end : ℕ) → IsHeapIn b h.start h.end h.items → IsHeapIn b g.start g.end g.items
    → is_in_way h.start end (h.start + h.end) (end - h.end) g ≡ false → IsWithin g h → IsWithin g (ended h end)
grown_within b h g end heap other free within =
    let low = within_low b g h other within in
    let before : has_before h.start g ≡ true =
    rw (lt-ltb g.start h.start (omega (arith, low.0)), le-leb g.start h.start (omega (arith, low.0)), lt-ltb h.start (g.start + g.end) (omega (arith, low.1, heap.inside))) refl in
    let free' = rw before at free in
    let holds : holds_range (g.start + 16) g.items h.start end ≡ true = not-false (holds_range (g.start + 16) g.items h.start end) free' in
    let held : HoldsRange (g.start + 16) g.items h.start end = range_held (g.start + 16) g.items h.start end other.totals holds in
    record {
      guest = within.guest;
      block = held.block;
      total = held.total;
      live = held.live;
      low = held.low;
      high = held.high;
    }

stands_ended : (b : Bytes) (h g : HeapList) (end : ℕ) (hs : List HeapList) → IsHeapIn b h.start h.end h.items → IsHeapIn b g.start g.end g.items
    → MayGrow h end (g ∷ hs) → StandsApart h g → StandsApart (ended h end) g
stands_ended b h g end hs heap other may (inl clear) = inl (clear_grown h.start h.end end g.start g.end clear (λ more.
    not_grown_into b h g end heap (or_parts (is_in_way h.start end (h.start + h.end) (end - h.end) g)
    (list_any (is_in_way h.start end (h.start + h.end) (end - h.end)) hs) (may.free more)).0 clear))
stands_ended b h g end hs heap other may (inr (inl within)) = inr (inl (record {
  guest = within.guest;
  block = within.block;
  total = within.total;
  live = within.live;
  low = within.low;
  high = within.high;
}))
stands_ended b h g end hs heap other may (inr (inr within)) = elim (cases_lt h.end end) [
  | inl more ↦ inr (inr (grown_within b h g end heap other (or_parts (is_in_way h.start end (h.start + h.end) (end - h.end) g)
      (list_any (is_in_way h.start end (h.start + h.end) (end - h.end)) hs) (may.free more)).0 within))
  | inr less ↦ inr (inr (record {
    guest = within.guest;
    block = within.block;
    total = within.total;
    live = within.live;
    low = within.low;
    high = omega (arith, within.high, less);
  }))
]

-- each heap is the one, or stands apart from it, whichever end it has
abbrev pub IsBeside : HeapList → ℕ → HeapList → Type 0
IsBeside h end g = (g ≡ h) ⊎ ((g.start ≢ h.start) × (StandsApart h g × StandsApart (ended h end) g))

abbrev pub AreBeside : HeapList → ℕ → List HeapList → Type 0
AreBeside h end [] = Unit {0}
AreBeside h end (g ∷ gs) = IsBeside h end g × AreBeside h end gs

pub are_beside : (b : Bytes) (h : HeapList) (end : ℕ) (hs : List HeapList) → IsHeapIn b h.start h.end h.items → AreHeapsIn b hs → AreOthers h hs
    → MayGrow h end hs → AreBeside h end hs
are_beside b h end [] heap parts others may = tt
are_beside b h end (g ∷ hs) heap parts others may = (
  elim others.0 [
    | inl same ↦ inl same
    | inr apart ↦ inr (apart.0, (apart.1, stands_ended b h g end hs heap parts.0 may apart.1))
  ],
  are_beside b h end hs heap parts.1.1 others.1 (may_grow_rest h g end hs may),
)

-- none of the heaps is the one
abbrev pub AreElsewhere : HeapList → List HeapList → Type 0
AreElsewhere h [] = Unit {0}
AreElsewhere h (g ∷ gs) = ((g.start ≢ h.start) × StandsApart h g) × AreElsewhere h gs

pub elsewhere : (b : Bytes) (h : HeapList) (end : ℕ) (hs : List HeapList) → IsHeapIn b h.start h.end h.items → StandApart h hs → AreBeside h end hs
    → AreElsewhere h hs
elsewhere b h end [] heap stand beside = tt
elsewhere b h end (g ∷ hs) heap stand beside =
    elim beside.0 [
      | inl same ↦ absurd (not_itself b h heap (subst (λ (x : HeapList). StandsApart h x) same stand.0))
      | inr apart ↦ ((apart.0, apart.1.0), elsewhere b h end hs heap stand.1 beside.1)
    ]

-- the heap with its other end stands apart from all others, and they from it
pub own_ended : (b : Bytes) (h : HeapList) (end : ℕ) (hs : List HeapList) → IsHeapIn b h.start h.end h.items → AreBeside h end hs → StandApart h hs
    → StandApart (ended h end) (with_end h.start end hs)
own_ended b h end [] heap beside stand = tt
own_ended b h end (g ∷ hs) heap beside stand =
    elim beside.0 [
      | inl same ↦ absurd (not_itself b h heap (subst (λ (x : HeapList). StandsApart h x) same stand.0))
      | inr apart ↦ rw (ne_eqb g.start h.start apart.0) (apart.1.1, own_ended b h end hs heap beside.1 stand.1)
    ]

pub stand_ended : (g h : HeapList) (end : ℕ) (hs : List HeapList) → StandsApart (ended h end) g → AreBeside h end hs → StandApart g hs
    → StandApart g (with_end h.start end hs)
stand_ended g h end [] own beside stand = tt
stand_ended g h end (k ∷ hs) own beside stand =
    let rest : StandApart g (with_end h.start end hs) = stand_ended g h end hs own beside.1 stand.1 in
    elim beside.0 [
      | inl same ↦
          let start : k.start ≡ h.start = ap (λ (x : HeapList). x.start) same in
          let here : StandsApart g (ended k end) =
          subst (λ (x : HeapList). StandsApart g (ended x end)) (sym same) (apart_turned (ended h end) g own) in
          rw (eq-eqb k.start h.start start) (here, rest)
      | inr apart ↦ rw (ne_eqb k.start h.start apart.0) (stand.0, rest)
    ]

-- of a heap that lies in no other, only what it grows by shows
pub grown_alone : (at len new more : ℕ) (hs : List HeapList) → is_in_heap at hs ≡ false
    → list_any (is_in_way at len new more) hs ≡ list_any (λ h. shares_address new more h.start h.end) hs
grown_alone at len new more [] alone = refl
grown_alone at len new more (h ∷ hs) alone =
    let each = or_parts (has_before at h) (is_in_heap at hs) alone in
    rw (each.0, grown_alone at len new more hs each.1) refl

-- the module area lies in no other heap
pub area_alone : (b : Bytes) (h : HeapList) (hs : List HeapList) → is_module_area h.kind ≡ true → IsHeapIn b h.start h.end h.items → AreHeapsIn b hs
    → AreOthers h hs → is_in_heap h.start hs ≡ false
area_alone b h [] area heap parts others = refl
area_alone b h (g ∷ hs) area heap parts others =
    or_from (ltb g.start h.start && in_range g.start g.end h.start) (is_in_heap h.start hs) (elim others.0 [
      | inl same ↦
          let start : g.start ≡ h.start = ap (λ (x : HeapList). x.start) same in
          rw (le-ltb g.start h.start (omega (arith, start))) refl
      | inr apart ↦ outside apart.1
    ]) (area_alone b h hs area heap parts.1.1 others.1) where
      here : in_range h.start h.end h.start ≡ true
      here = rw (le-leb h.start h.start (omega arith), lt-ltb h.start (h.start + h.end) (omega (arith, heap.inside))) refl

      outside : StandsApart h g → (ltb g.start h.start && in_range g.start g.end h.start) ≡ false
      outside (inl clear) = and_right _ _ (clear h.start here)
      outside (inr (inl within)) =
          let low = within_low b h g heap within in
          rw (le-ltb g.start h.start (omega (arith, low.0))) refl
      outside (inr (inr within)) = absurd (both_ways (is_module_area h.kind) within.guest area)
