-- The heaps beside the one whose blocks slide: memory spells each of them as it did.
use Rattle.std.proofs.Common.{List, ℕ, [], ◌∷◌, ◌≡◌, ◌≢◌, ◌≤◌, ◌<◌, ◌⊎◌, ◌+◌, ◌-◌, Option, Some, false, refl, sym, ap, subst, inl, inr, arith}
use Rattle.std.proofs.lemmas.Bool.{both_ways, cases_Bool, eq-eqb, false_from_ne_true, ne_eqb, or_parts}
use Rattle.dynamic_areas.proofs.AddressMapStores.{in_range-cases}
use Rattle.dynamic_areas.specs.Bytes.{Bytes, in_range, word_at, word_start}
use Rattle.dynamic_areas.specs.Items.{is_heap_word, items_in}
use Rattle.dynamic_areas.specs.Moves.{moved_to}
use Rattle.dynamic_areas.specs.Records.{is_heap_kind}
use Rattle.dynamic_areas.specs.Item.{Item}
use Rattle.dynamic_areas.specs.Region.{Region}
use Rattle.dynamic_areas.proofs.HeadWords.{law_heap_frame}
use Rattle.dynamic_areas.proofs.HeapWords.{cons_part, heap_kept}
use Rattle.dynamic_areas.proofs.Reading.{items_in-heap}
use Rattle.dynamic_areas.specs.Heap.{AreTotals, HeapList, IsHeapIn}
use Rattle.dynamic_areas.specs.OsHeapWordsLists.{live_total}
use Rattle.dynamic_areas.proofs.Forgetting.{StartsIn, so_starts}
use Rattle.dynamic_areas.proofs.Nesting.{KeepsHeaps, listed, within_unspelled}
use Rattle.dynamic_areas.proofs.Stores.{AreOthers, clear_both_ways, own_held, stand_held}
use Rattle.dynamic_areas.specs.Calls.{total_or_0, heaps_with_items}
use Rattle.dynamic_areas.specs.Forgetting.{holds_heap, starts_in}
use Rattle.dynamic_areas.specs.Nesting.{IsWithin, StandApart, StandsApart}
use Rattle.dynamic_areas.specs.Store.{AreHeapsIn, heap_in, heaps_in}
use Rattle.rma.proofs.HeapSlideLemmas.Places.{moved_live, moved_stays}
use Rattle.rma.specs.heap_slide.Slide.{HoldNoHeap, is_listed, moves_of, slid}

-- each heap is the one that slides, or is spelled by the bytes after it
abbrev pub IsBeside : Bytes → HeapList → HeapList → Type 0
IsBeside c h g = (g ≡ h) ⊎ ((g.start ≢ h.start) × IsHeapIn c g.start g.end g.items)

abbrev pub AreBeside : Bytes → HeapList → List HeapList → Type 0
AreBeside c h [] = Unit {0}
AreBeside c h (g ∷ gs) = IsBeside c h g × AreBeside c h gs

-- What a slide leaves of memory: no byte out of the heap's range changed, and none that a block
-- holds which stays.
pub record KeepsBytes (b c : Bytes) (h : HeapList) (movable : List ℕ) : Type 0 where
  pub mapped : c.mapped ≡ b.mapped
  pub beyond : (a : ℕ) → in_range h.start h.end a ≡ false → c.at a ≡ b.at a
  pub fixed : (block total a : ℕ) → is_listed movable block ≡ false → live_total block (h.start + 16) h.items ≡ Some total
      → block ≤ a → a + 4 < block + total → c.at a ≡ b.at a

-- the block round a heap is none of those that can be moved
pub fixed_round : (b : Bytes) (h g : HeapList) (movable : List ℕ) (gs : List HeapList) → IsHeapIn b g.start g.end g.items → HoldNoHeap (g ∷ gs) h movable
    → (within : IsWithin h g) → is_listed movable within.block ≡ false
fixed_round b h g movable gs heap none within = false_from_ne_true (is_listed movable within.block) (λ moves.
    let empty : holds_heap (g ∷ gs) within.block (within.total - 4) ≡ false =
    subst (λ (o : Option ℕ). holds_heap (g ∷ gs) within.block (total_or_0 o - 4) ≡ false) within.live (none within.block moves) in
    let starts : StartsIn within.block (within.total - 4) g = record {
      guest = within.guest;
      low = within.low;
      high = omega (arith, within.high, heap.inside);
    } in
    both_ways (starts_in within.block (within.total - 4) g)
    (or_parts (starts_in within.block (within.total - 4) g) (holds_heap gs within.block (within.total - 4)) empty).0
    (so_starts within.block (within.total - 4) g starts))

pub holds_rest : (h g : HeapList) (movable : List ℕ) (gs : List HeapList) → HoldNoHeap (g ∷ gs) h movable → HoldNoHeap gs h movable
holds_rest h g movable gs none b moves =
    let total : ℕ = total_or_0 (live_total b (h.start + 16) h.items) in
    (or_parts (starts_in b (total - 4) g) (holds_heap gs b (total - 4)) (none b moves)).1

-- such a block stays, with what lies in it
pub stays_live : (h : HeapList) (movable : List ℕ) (block total : ℕ) → AreTotals h.items → is_listed movable block ≡ false
    → live_total block (h.start + 16) h.items ≡ Some total
    → live_total block (h.start + 16) (slid (is_listed movable) (h.start + 16) (h.start + 16) h.items) ≡ Some total
stays_live h movable block total totals fixed live =
    let at : ℕ = h.start + 16 in
    let there : live_total (moved_to (moves_of (is_listed movable) at at h.items) block) at (slid (is_listed movable) at at h.items) ≡ Some total =
    moved_live (is_listed movable) at at h.items block total (omega arith) totals live in
    subst (λ (b : ℕ). live_total b at (slid (is_listed movable) at at h.items) ≡ Some total) (moved_stays (is_listed movable) at at h.items block fixed) there

pub heaps_stay : (b : Bytes) (h : HeapList) (movable : List ℕ) (gs : List HeapList) → AreTotals h.items → AreHeapsIn b gs → HoldNoHeap gs h movable
    → KeepsHeaps h (slid (is_listed movable) (h.start + 16) (h.start + 16) h.items) gs
heaps_stay b h movable [] totals parts none = tt
heaps_stay b h movable (g ∷ gs) totals parts none = (
  λ within. record {
    guest = within.guest;
    block = within.block;
    total = within.total;
    live = stays_live h movable within.block within.total totals (fixed_round b h g movable gs parts.0 none within) within.live;
    low = within.low;
    high = within.high;
  },
  heaps_stay b h movable gs totals parts.1.1 (holds_rest h g movable gs none),
)

-- a heap beside it is clear of it, or lies in a block that stays, or has it in one of its own
beside_kept : (b c : Bytes) (h g : HeapList) (movable : List ℕ) → KeepsBytes b c h movable → ((within : IsWithin h g) → is_listed movable within.block ≡ false)
    → StandsApart h g → IsHeapIn b g.start g.end g.items → IsHeapIn c g.start g.end g.items
beside_kept b c h g movable kept fixed (inl clear) heap =
    heap_kept b c g.start g.end g.items heap kept.mapped (λ a low high. kept.beyond a (elim (in_range-cases g.start g.end a) [
      | inl r ↦ clear_both_ways h.start h.end g.start g.end clear a r.0
      | inr r ↦ elim r.1 [ inl less ↦ absurd (omega (arith, low, less)) | inr past ↦ absurd (omega (arith, high, past)) ]
    ]))
beside_kept b c h g movable kept fixed (inr (inl within)) heap =
    heap_kept b c g.start g.end g.items heap kept.mapped (λ a low high.
    kept.fixed within.block within.total a (fixed within) within.live (omega (arith, within.low, low)) (omega (arith, within.high, high)))
beside_kept b c h g movable kept fixed (inr (inr within)) heap =
    law_heap_frame b c g.start g.end g.items kept.mapped (λ a is. kept.beyond a (false_from_ne_true (in_range h.start h.end a) (λ inside.
    both_ways (is_heap_word g.start g.items (word_start a)) (within_unspelled b g h a heap within inside) is))) heap

pub heaps_beside : (b c : Bytes) (h : HeapList) (movable : List ℕ) (hs : List HeapList) → KeepsBytes b c h movable → HoldNoHeap hs h movable
    → AreOthers h hs → AreHeapsIn b hs → AreBeside c h hs
heaps_beside b c h movable [] kept none others parts = tt
heaps_beside b c h movable (g ∷ hs) kept none others parts = (
  elim others.0 [
    | inl same ↦ inl same
    | inr apart ↦ inr (apart.0, beside_kept b c h g movable kept (fixed_round b h g movable hs parts.0 none) apart.1 parts.0)
  ],
  heaps_beside b c h movable hs kept (holds_rest h g movable hs none) others.1 parts.1.1,
)

-- all heaps after the slide are spelled, each apart from the others
pub parts_beside : (b c : Bytes) (h : HeapList) (items : List Item) (hs : List HeapList) → IsHeapIn c h.start h.end items → AreBeside c h hs
    → AreOthers h hs → KeepsHeaps h items hs → AreHeapsIn b hs → AreHeapsIn c (heaps_with_items h.start items hs)
parts_beside b c h items [] heap beside others keeps parts = tt
parts_beside b c h items (g ∷ hs) heap beside others keeps parts =
    let rest : AreHeapsIn c (heaps_with_items h.start items hs) = parts_beside b c h items hs heap beside.1 others.1 keeps.1 parts.1.1 in
    elim beside.0 [
      | inl same ↦
          let start : g.start ≡ h.start = ap (λ (x : HeapList). x.start) same in
          let end : g.end ≡ h.end = ap (λ (x : HeapList). x.end) same in
          let old : IsHeapIn b h.start h.end h.items = subst (λ (x : HeapList). IsHeapIn b x.start x.end x.items) same parts.0 in
          let own : StandApart (listed h items) (heaps_with_items h.start items hs) =
          own_held b h items hs old others.1 keeps.1 (subst (λ (x : HeapList). StandApart x hs) same parts.1.0) in
          let stand : StandApart (listed g items) (heaps_with_items h.start items hs) =
          subst (λ (x : HeapList). StandApart (listed x items) (heaps_with_items h.start items hs)) (sym same) own in
          rw (eq-eqb g.start h.start start) (rw (start, end) heap, (stand, rest))
      | inr apart ↦ rw (ne_eqb g.start h.start apart.0) (apart.1, (stand_held g h items hs keeps.0 others.1 parts.1.0, rest))
    ]

-- what memory spells at each record
pub read_beside : (b c : Bytes) (h : HeapList) (items : List Item) (rs : List Region) → IsHeapIn c h.start h.end items → AreBeside c h (heaps_in b rs)
    → heaps_in c rs ≡ heaps_with_items h.start items (heaps_in b rs)
read_beside b c h items [] heap beside = refl
read_beside b c h items (r ∷ rs) heap beside = elim (cases_Bool (is_heap_kind r.kind)) [
  | inl is_heap ↦
      let beside' = rw is_heap at beside in
      rw is_heap (one beside'.0 (read_beside b c h items rs heap beside'.1))
  | inr other ↦ rw other (read_beside b c h items rs heap (rw other at beside))
] where
  one : IsBeside c h (heap_in b r) → heaps_in c rs ≡ heaps_with_items h.start items (heaps_in b rs)
      → heap_in c r ∷ heaps_in c rs ≡ heaps_with_items h.start items (heap_in b r ∷ heaps_in b rs)
  one (inl same) rest =
      let start : r.at ≡ h.start = ap (λ (x : HeapList). x.start) same in
      let list : items_in (word_at c.at) r.at ≡ items = rw start (items_in-heap c h.start h.end items heap) in
      rw (eq-eqb r.at h.start start) (cons_part _ _ _ _ (ap (listed (heap_in b r)) list) rest)
  one (inr apart) rest =
      let list : items_in (word_at c.at) r.at ≡ items_in (word_at b.at) r.at = items_in-heap c r.at r.len (items_in (word_at b.at) r.at) apart.1 in
      rw (ne_eqb r.at h.start apart.0) (cons_part _ _ _ _ (ap (listed (heap_in b r)) list) rest)
