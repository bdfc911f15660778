-- The system pages stay mapped while an area's size changes.
use Rattle.profile.specs.MemoryMap.{application_start, module_area_start, system_start}
use Rattle.std.proofs.Common.{◌≡◌, ℕ, ◌+◌, ◌-◌, ◌*◌, ◌/◌, ◌≤◌, ◌==◌, ◌||◌, Bool, true, false, Some, None, refl, sym, ap, ◌∙◌, inl, inr, arith}
use Rattle.std.specs.Prelude.{Option}
use Rattle.std.proofs.lemmas.Bool.{cases_Bool, false≢true, false_from_ne_true}
use Rattle.os_heap.proofs.InRange.{range_inside}
use Rattle.os_heap.specs.Bytes.{in_range}
use Rattle.os_heap.proofs.RangeTests.{range_high, range_low}
use Rattle.os_heap.specs.lists.Heap.{HeapList}
use Rattle.os_heap.specs.Store.{Store, find_heap}
use Rattle.dynamic_areas.specs.declared.area.Area.{Area}
use Rattle.dynamic_areas.specs.Areas.{AreaTable, find_area}
use Rattle.dynamic_areas.specs.Changing.{change_answer, store_after_end, is_growth, store_changed, store_extended, store_reduced, with_heap_end}
use Rattle.dynamic_areas.specs.Ground.{AreAreas}
use Rattle.dynamic_areas.specs.Remapped.{with_pages_at}
use Rattle.dynamic_areas.specs.Rooms.{IsAreaRoom}
use Rattle.dynamic_areas.proofs.GroundLemmas.{or_true}
use Rattle.dynamic_areas.proofs.HeapCalls.{system_mapped}
use Rattle.dynamic_areas.proofs.AreaTableLemmas.{fixed_outside}
use Rattle.dynamic_areas.proofs.RoomLemmas.{found_room}

-- no page of an area is a system page
outside : (s : Store) (free : ℕ) (l : AreaTable) (number : ℕ) (a : Area) (count x : ℕ) → AreAreas s free l → find_area number l.areas ≡ Some a
    → count ≤ a.pages → in_range system_start 0x3000 x ≡ true → in_range (a.base + 4096 * (a.pages - count)) (4096 * count) x ≡ false
outside s free l number a count x areas e fits system = false_from_ne_true _ (λ there.
    let room : IsAreaRoom a = found_room number l.areas a areas.ground.table.rooms e in
    let within : 4096 * a.pages ≤ a.maximum = room.within in
    let low : a.base + 4096 * (a.pages - count) ≤ x = range_low (a.base + 4096 * (a.pages - count)) (4096 * count) x there in
    let high = range_high (a.base + 4096 * (a.pages - count)) (4096 * count) x there in
    let inside : in_range a.base a.maximum x ≡ true = range_inside a.base a.maximum x (omega arith) (omega (arith, high)) in
    false≢true (sym (fixed_outside l.sizes a x areas.ground.sizes room inside) ∙ rw system (or_true (in_range application_start (4096 * l.sizes.app) x))))

ended_mapped : (s : Store) (end : ℕ) (found : Option HeapList) → (store_after_end s end found).bytes.mapped ≡ s.bytes.mapped
ended_mapped s end None = refl
ended_mapped s end (Some h) = refl

heap_mapped : (s : Store) (end : ℕ) → (with_heap_end s end).bytes.mapped ≡ s.bytes.mapped
heap_mapped s end = ended_mapped s end (find_heap module_area_start s.heaps)

more_mapped : (s : Store) (number count : ℕ) (a : Area) (x : ℕ) → s.bytes.mapped x ≡ true → (store_extended s number count (Some a)).bytes.mapped x ≡ true
more_mapped s number count a x there =
    let top : ℕ = a.base + 4096 * a.pages in
    let more : (in_range (a.base + 4096 * a.pages) (4096 * count) x || s.bytes.mapped x) ≡ true = rw there (or_true (in_range top (4096 * count) x)) in
    elim (cases_Bool (number == 1)) [
      | inl area ↦ rw area (ap (λ (f : ℕ → Bool). f x) (heap_mapped (with_pages_at s (a.base + 4096 * a.pages) (4096 * count)) (4096 * (a.pages + count))) ∙ more)
      | inr other ↦ rw other more
    ]

less_mapped : (s : Store) (number count : ℕ) (a : Area) (x : ℕ) → s.bytes.mapped x ≡ true
    → in_range (a.base + 4096 * (a.pages - count)) (4096 * count) x ≡ false → (store_reduced s number count (Some a)).bytes.mapped x ≡ true
less_mapped s number count a x there out =
    elim (cases_Bool (number == 1)) [
      | inl area ↦ (
          let mapped : (with_heap_end s (4096 * (a.pages - count))).bytes.mapped x ≡ true =
          ap (λ (f : ℕ → Bool). f x) (heap_mapped s (4096 * (a.pages - count))) ∙ there in
          rw (area, mapped, out) refl)
      | inr other ↦ rw (other, there, out) refl
    ]

changed_mapped : (s : Store) (free : ℕ) (l : AreaTable) (number amount bytes : ℕ) (a : Area) (x : ℕ) → AreAreas s free l → find_area number l.areas ≡ Some a
    → in_range system_start 0x3000 x ≡ true → (is_growth amount ≡ false → bytes / 4096 ≤ a.pages)
    → (store_changed s l.areas number amount bytes).bytes.mapped x ≡ true
changed_mapped s free l number amount bytes a x areas e system fits =
    let there : s.bytes.mapped x ≡ true = system_mapped s free l areas x system in
    elim (cases_Bool (is_growth amount)) [
      | inl grows ↦ rw (e, grows) (more_mapped s number (bytes / 4096) a x there)
      | inr shrinks ↦ rw (e, shrinks) (less_mapped s number (bytes / 4096) a x there
          (outside s free l number a (bytes / 4096) x areas e (fits shrinks) system))
    ]

change_fits : (s : Store) (free : ℕ) (l : AreaTable) (number amount : ℕ) (a : Area) → find_area number l.areas ≡ Some a → is_growth amount ≡ false
    → (change_answer l.areas s free number amount).bytes / 4096 ≤ a.pages
unfolding change_answer
change_fits s free l number amount a e shrinks = rw (e, shrinks) (omega arith)

pub change_keeps_system : (s : Store) (free : ℕ) (l : AreaTable) (number amount : ℕ) (a : Area) (x : ℕ) → AreAreas s free l → find_area number l.areas ≡ Some a
    → in_range system_start 0x3000 x ≡ true
    → (store_changed s l.areas number amount (change_answer l.areas s free number amount).bytes).bytes.mapped x ≡ true
change_keeps_system s free l number amount a x areas e system =
    changed_mapped s free l number amount (change_answer l.areas s free number amount).bytes a x areas e system
    (change_fits s free l number amount a e)
