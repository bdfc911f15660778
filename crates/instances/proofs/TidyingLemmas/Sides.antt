-- A slide keeps each address on its side of the module area's edge: blocks go from one place in
-- that area to another.
use Rattle.instances_table.specs.MemoryMap.{module_area_start, system_start}
use Rattle.std.proofs.Common.{◌≡◌, ℕ, Bool, true, ◌+◌, ◌≤◌, ◌<◌, ◌==◌, ◌∙◌, List, [], ◌∷◌, refl, sym, Option, Some, None, inl, inr, arith}
use Rattle.std.proofs.lemmas.Bool.{cases_Bool, eq-eqb, eqb-true}
use Rattle.rma.proofs.InRange.{range_inside}
use Rattle.rma.specs.Items.{size_of}
use Rattle.rma.specs.Moves.{moved_to}
use Rattle.rma.specs.Item.{Item}
use Rattle.rma.specs.Item.TheVariants.{Free, Live}
use Rattle.rma.proofs.Reading.{total_facts}
use Rattle.rma.specs.lists.Heap.{AreTotals, HeapList, IsHeapIn}
use Rattle.rma.proofs.Found.{found_heap, found_start}
use Rattle.rma.specs.Store.{find_heap}
use Rattle.rma.specs.heap_slide.Slide.{is_listed, moves_of}
use Rattle.rma.specs.Ground.{AreaStore, IsAreaStore}
use Rattle.instances_table.specs.ModuleArea.{is_in_module_area}
use Rattle.instances.proofs.TidyingLemmas.LawLemmas.{is_low}
use Rattle.instances.specs.tidying.Laws.{TidyKeepsSides, tidy_moves_in}
use Rattle.instances.specs.tidying.Movable.{movable_blocks}
use Rattle.instances.specs.tidying.Slid.{moves_in, private_words_of}

inside : (a : ℕ) → module_area_start ≤ a → a < system_start → is_in_module_area a ≡ true
inside a low high = range_inside module_area_start 4194304 a low (omega (arith, high))

-- the items before these end at `top` after the slide; the first of these is at `at` before it
sides_of : (listed : ℕ → Bool) (top at : ℕ) (xs : List Item) → AreTotals xs → module_area_start ≤ top → top ≤ at → at + size_of xs ≤ system_start
    → (a : ℕ) → is_in_module_area (moved_to (moves_of listed top at xs) a) ≡ is_in_module_area a
sides_of listed top at [] totals low under high a = refl
sides_of listed top at (Free t ∷ xs) totals low under high a =
    let reach : at + (t + size_of xs) ≤ system_start = high in
    sides_of listed top (at + t) xs totals.1 low (omega (arith, under)) (omega (arith, reach)) a
sides_of listed top at (Live t ∷ xs) totals low under high a =
    let reach : at + (t + size_of xs) ≤ system_start = high in
    let least = total_facts t totals.0 in
    elim (cases_Bool (listed (at + 4))) [
      | inr fixed ↦
          rw (fixed, eq-eqb at at refl)
          (sides_of listed (at + t) (at + t) xs totals.1 (omega (arith, low, under)) (omega arith) (omega (arith, reach)) a)
      | inl moves ↦
          let rest = sides_of listed (top + t) (at + t) xs totals.1 (omega (arith, low)) (omega (arith, under)) (omega (arith, reach)) a in
          rw moves (elim (cases_Bool (top == at)) [
            | inl stays ↦ rw stays rest
            | inr goes ↦ rw goes (elim (cases_Bool (at + 4 == a)) [
              | inl this ↦
                  let e : at + 4 ≡ a = eqb-true (at + 4) a this in
                  rw this (inside (top + 4) (omega (arith, low)) (omega (arith, under, reach, least.0))
                  ∙ sym (inside a (omega (arith, e, low, under)) (omega (arith, e, reach, least.0))))
              | inr other ↦ rw other rest
            ])
          ])
    ]

-- so for the heap of the module area
pub sides_kept : (e : AreaStore) (h : HeapList) (movable : List ℕ) → IsAreaStore e → find_heap module_area_start e.store.heaps ≡ Some h
    → (a : ℕ) → is_in_module_area (moved_to (moves_in h movable) a) ≡ is_in_module_area a
sides_kept e h movable good found =
    let start : h.start ≡ module_area_start = found_start module_area_start e.store.heaps h found in
    let heap : IsHeapIn e.store.bytes h.start h.end h.items = found_heap e.store.bytes module_area_start e.store.heaps h good.ground.sound.heaps found in
    sides_of (is_listed movable) (h.start + 16) (h.start + 16) h.items heap.totals (omega (arith, start)) (omega arith)
    (omega (arith, start, heap.inside, is_low e h good found))

pub tidy_keeps_sides : TidyKeepsSides
tidy_keeps_sides return_address w module_state block = go (find_heap module_area_start w.area_store.store.heaps) refl where
  go : (o : Option HeapList) → find_heap module_area_start w.area_store.store.heaps ≡ o
      → is_in_module_area (moved_to (tidy_moves_in return_address w o) block) ≡ is_in_module_area block
  go None none = refl
  go (Some h) found =
      sides_kept w.area_store h (movable_blocks w.area_store.store w.modules (private_words_of w) return_address h) module_state.area_store found block
