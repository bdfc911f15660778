-- No heap lies in the block of a module image, and a block of the module area in which none lies may become one.
use Rattle.std.proofs.Common.{List, ℕ, [], ◌∷◌, ◌⊎◌, ◌≡◌, ◌≤◌, ◌<◌, ◌+◌, ◌-◌, ◌∙◌, Some, true, false, refl, sym, subst, inl, inr, arith}
use Rattle.std.proofs.lemmas.Bool.{both_ways, cases_eq, false_from_ne_true, le-leb, lt-ltb, or_from, or_parts}
use Rattle.os_heap_words.specs.Bytes.{Bytes, in_range}
use Rattle.os_heap_words.specs.Items.{size_of}
use Rattle.os_heap_words.specs.Region.{Region}
use Rattle.os_heap_words.proofs.ListsLemmas.LiveBlocks.{LiveBytes, live_apart, law_live_bytes}
use Rattle.os_heap_words.specs.lists.Heap.{HeapList, IsHeapIn}
use Rattle.os_heap_words.specs.lists.Lists.{live_total}
use Rattle.os_heap.proofs.Apart.{block_inside, range_parts}
use Rattle.os_heap.proofs.Forgetting.{StartsIn, so_starts, starts_so}
use Rattle.os_heap.proofs.Stores.{AreOthers, IsOther}
use Rattle.os_heap.specs.Forgetting.{holds_heap, starts_in}
use Rattle.os_heap.specs.Nesting.{AreClear, IsWithin, StandsApart, is_module_area}
use Rattle.os_heap.specs.Store.{AreHeapsIn, IsImageBlock, IsPlacedIn}

pub image_unheaped : (b : Bytes) (r : Region) (hs : List HeapList) → AreHeapsIn b hs → IsPlacedIn hs r → holds_heap hs r.at r.len ≡ false
image_unheaped b r [] parts placed = refl
image_unheaped b r (g ∷ hs) parts placed =
    or_from (starts_in r.at r.len g) (holds_heap hs r.at r.len) (false_from_ne_true (starts_in r.at r.len g) (λ is.
    let starts : StartsIn r.at r.len g = starts_so r.at r.len g is in
    let here : in_range r.at r.len g.start ≡ true = rw (le-leb r.at g.start starts.low, lt-ltb g.start (r.at + r.len) starts.high) refl in
    let there : in_range g.start g.end g.start ≡ true =
    rw (le-leb g.start g.start (omega arith), lt-ltb g.start (g.start + g.end) (omega (arith, parts.0.inside))) refl in
    elim placed.0 [
      | inl clear ↦ both_ways (in_range g.start g.end g.start) (clear g.start here) there
      | inr image ↦ both_ways (is_module_area g.kind) starts.guest image.area
    ])) (image_unheaped b r hs parts.1.1 placed.1)

-- what lies in another block of the same heap is clear of this one
block_clear : (b : Bytes) (h g : HeapList) (r : Region) → IsHeapIn b h.start h.end h.items → IsHeapIn b g.start g.end g.items → IsImageBlock h r
    → starts_in r.at r.len g ≡ false → IsWithin h g → AreClear r.at r.len g.start g.end
block_clear b h g r heap other image none within a inside = elim (cases_eq within.block r.at) [
  | inl same ↦
      let both : Some within.total ≡ Some (r.len + 4) =
      sym (subst (λ (x : ℕ). live_total x (h.start + 16) h.items ≡ Some within.total) same within.live) ∙ image.live in
      let size : within.total ≡ r.len + 4 = cc in
      let starts : StartsIn r.at r.len g = record {
        guest = within.guest;
        low = omega (arith, within.low, same);
        high = omega (arith, within.high, same, size, other.inside);
      } in
      absurd (both_ways (starts_in r.at r.len g) none (so_starts r.at r.len g starts))
  | inr apart ↦ false_from_ne_true (in_range g.start g.end a) (λ there.
      let byte : (r.at ≤ a) × (a < r.at + r.len) = range_parts r.at r.len a inside in
      let byte' : (g.start ≤ a) × (a < g.start + g.end) = range_parts g.start g.end a there in
      elim (live_apart within.block within.total r.at (r.len + 4) (h.start + 16) h.items heap.totals within.live image.live apart) [
        | inl before ↦ omega (arith, before, byte.0, byte'.1, within.high)
        | inr behind ↦ omega (arith, behind, byte.1, byte'.0, within.low)
      ])
]

pub image_placed : (b : Bytes) (h : HeapList) (r : Region) (hs : List HeapList) → IsHeapIn b h.start h.end h.items → IsImageBlock h r → AreHeapsIn b hs
    → AreOthers h hs → holds_heap hs r.at r.len ≡ false → IsPlacedIn hs r
image_placed b h r [] heap image parts others none = tt
image_placed b h r (g ∷ hs) heap image parts others none = (placed others.0, image_placed b h r hs heap image parts.1.1 others.1 empty.1) where
  empty : (starts_in r.at r.len g ≡ false) × (holds_heap hs r.at r.len ≡ false)
  empty = or_parts (starts_in r.at r.len g) (holds_heap hs r.at r.len) none

  lies : LiveBytes r.at (r.len + 4) (h.start + 16) (h.start + 16 + size_of h.items)
  lies = law_live_bytes r.at (r.len + 4) (h.start + 16) h.items heap.totals image.live

  in_heap : (a : ℕ) → in_range r.at r.len a ≡ true → in_range h.start h.end a ≡ true
  in_heap a inside =
      let byte : (r.at ≤ a) × (a < r.at + r.len) = range_parts r.at r.len a inside in
      block_inside b h r.at (r.len + 4) a heap image.live
      (rw (le-leb (r.at - 4) a (omega (arith, byte.0)), lt-ltb a (r.at - 4 + (r.len + 4)) (omega (arith, byte.1, lies.low))) refl)

  beside : StandsApart h g → AreClear r.at r.len g.start g.end
  beside (inl clear) = λ a inside. clear a (in_heap a inside)
  beside (inr (inl within)) = block_clear b h g r heap parts.0 image empty.0 within
  beside (inr (inr within)) = absurd (both_ways (is_module_area h.kind) within.guest image.area)

  placed : IsOther h g → AreClear r.at r.len g.start g.end ⊎ IsImageBlock g r
  placed (inl same) = inr (subst (λ (x : HeapList). IsImageBlock x r) (sym same) image)
  placed (inr apart) = inl (beside apart.1)
