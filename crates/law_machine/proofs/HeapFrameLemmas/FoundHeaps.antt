-- Which heaps are found after the module area's heap got another list or another end, and after
-- heaps were forgotten.
use Rattle.profile.specs.MemoryMap.{module_area_start}
use Rattle.std.proofs.Common.{ℕ, ◌≡◌, ◌≢◌, ◌+◌, ◌-◌, ◌==◌, ◌≤◌, ◌<◌, ◌∙◌, true, false, List, [], ◌∷◌, None, is_some, refl, sym, ap, inl, inr, arith}
use Rattle.std.proofs.lemmas.Bool.{both_ways, cases_Bool, eqb-true, false_from_ne_true, false≢true, le-leb, lt-ltb}
use Rattle.address_map.specs.Bytes.{in_range}
use Rattle.address_map.specs.declared.item.Item.{Item}
use Rattle.os_heap_words.specs.lists.Heap.{HeapList}
use Rattle.os_heap.proofs.Apart.{range_parts}
use Rattle.os_heap.proofs.Forgetting.{StartsIn, so_starts, starts_so}
use Rattle.os_heap.specs.Calls.{with_end, heaps_with_items}
use Rattle.os_heap.specs.Forgetting.{store_after_forget, lowest_lost, starts_in, without_heaps_in}
use Rattle.os_heap.specs.Store.{StandAreas, Store, find_heap, is_module_area}
use Rattle.law_machine.specs.heap_calls.Laws.{IsNotForgotten}

-- no other place gets a module area
pub held_areas : (start : ℕ) (items : List Item) (hs : List HeapList) → StandAreas hs → StandAreas (heaps_with_items start items hs)
held_areas start items [] place = tt
held_areas start items (h ∷ hs) place = elim (cases_Bool (h.start == start)) [
  | inl here ↦ rw here (place.0, held_areas start items hs place.1)
  | inr other ↦ rw other (place.0, held_areas start items hs place.1)
]

pub ended_areas : (start end : ℕ) (hs : List HeapList) → StandAreas hs → StandAreas (with_end start end hs)
ended_areas start end [] place = tt
ended_areas start end (h ∷ hs) place = elim (cases_Bool (h.start == start)) [
  | inl here ↦ rw here (place.0, ended_areas start end hs place.1)
  | inr other ↦ rw other (place.0, ended_areas start end hs place.1)
]

-- a guest's heap that starts in a range is found no more once the heaps there were forgotten, and
-- all others are
dropped_none : (at len start : ℕ) (hs : List HeapList) → StandAreas hs → start ≢ module_area_start → in_range at len start ≡ true
    → find_heap start (without_heaps_in at len hs) ≡ None
dropped_none at len start [] place other here = refl
dropped_none at len start (g ∷ hs) place other here =
    let rest : find_heap start (without_heaps_in at len hs) ≡ None = dropped_none at len start hs place.1 other here in
    elim (cases_Bool (starts_in at len g)) [
      | inl gone ↦ rw gone rest
      | inr kept ↦ elim (cases_Bool (g.start == start)) [
        | inr away ↦ rw (kept, away) rest
        | inl same ↦
            let start' : g.start ≡ start = eqb-true g.start start same in
            elim (cases_Bool (is_module_area g.kind)) [
              | inl area ↦ absurd (other (sym start' ∙ place.0 area))
              | inr guest ↦
                  let parts : (at ≤ start) × (start < at + len) = range_parts at len start here in
                  absurd (both_ways (starts_in at len g) kept
                  (so_starts at len g (record { guest = guest; low = omega (arith, parts.0, start'); high = omega (arith, parts.1, start') })))
            ]
      ]
    ]

pub same_unless : (at len start : ℕ) (hs : List HeapList) → in_range at len start ≡ false → find_heap start (without_heaps_in at len hs) ≡ find_heap start hs
same_unless at len start [] out = refl
same_unless at len start (g ∷ hs) out =
    let rest : find_heap start (without_heaps_in at len hs) ≡ find_heap start hs = same_unless at len start hs out in
    elim (cases_Bool (g.start == start)) [
      | inl here ↦
          let start' : g.start ≡ start = eqb-true g.start start here in
          let kept : starts_in at len g ≡ false = false_from_ne_true (starts_in at len g) (λ is.
          let starts : StartsIn at len g = starts_so at len g is in
          both_ways (in_range at len start) out
          (rw (le-leb at start (omega (arith, starts.low, start')), lt-ltb start (at + len) (omega (arith, starts.high, start'))) refl)) in
          rw (kept, here) refl
      | inr away ↦ elim (cases_Bool (starts_in at len g)) [ inl gone ↦ rw (gone, away) rest | inr kept ↦ rw (kept, away) rest ]
    ]

-- one that is found then starts in no part that was given up, and is the one that was found
pub record IsLeftIn (s : Store) (block total from start : ℕ) : Type 0 where
  pub out : in_range (lowest_lost block (total - 4) from s.heaps) (block - 4 + total - lowest_lost block (total - 4) from s.heaps) start ≡ false
  pub found : find_heap start (store_after_forget s block total from).heaps ≡ find_heap start s.heaps

pub left_in : (s : Store) (block total from start : ℕ) → StandAreas s.heaps → start ≢ module_area_start → IsNotForgotten (store_after_forget s block total from) start
    → IsLeftIn s block total from start
left_in s block total from start place other still =
    let low : ℕ = lowest_lost block (total - 4) from s.heaps in
    let len : ℕ = block - 4 + total - low in
    let out : in_range low len start ≡ false = false_from_ne_true (in_range low len start) (λ is.
    false≢true (sym (ap is_some (dropped_none low len start s.heaps place other is)) ∙ still)) in
    record { out = out; found = same_unless low len start s.heaps out }
