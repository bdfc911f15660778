-- The ground of the areas where one of them grows or shrinks.
use Rattle.profile.specs.MemoryMap.{area_window_end, module_area_start}
use Rattle.std.proofs.Common.{◌≡◌, ℕ, ◌+◌, ◌-◌, ◌*◌, ◌<◌, ◌≤◌, ◌==◌, ◌%◌, ◌&&◌, ◌||◌, not, Bool, true, false, List, [], ◌∷◌, refl, sym, ap, ◌∙◌, Some, None, inl, inr, arith}
use Rattle.std.proofs.Math.Bool.{and-true}
use Rattle.std.specs.List.{list_any}
use Rattle.std.proofs.lemmas.Bool.{cases_Bool}
use Rattle.os_heap.proofs.InRange.{range_inside, range_past}
use Rattle.os_heap.specs.Region.{Region}
use Rattle.os_heap.specs.Records.{anchor_among}
use Rattle.os_heap.specs.Bytes.{in_range, AreUnmapped}
use Rattle.os_heap.proofs.RangeTests.{or_middle, range_high, range_low}
use Rattle.os_heap.specs.Store.{Store, IsClearOfHeaps}
use Rattle.os_heap.proofs.Stores.{clear_both_ways}
use Rattle.dynamic_areas.specs.declared.area.Area.{Area}
use Rattle.dynamic_areas.specs.Areas.{AreaTable, find_area, with_pages, with_areas, area_with_pages, pages_of}
use Rattle.dynamic_areas.specs.Changing.{AreRangesClear}
use Rattle.dynamic_areas.specs.Ground.{is_fixed, is_in_area, IsGround, AreRangesMapped}
use Rattle.dynamic_areas.specs.Remapped.{with_pages_at, without_pages_at}
use Rattle.dynamic_areas.specs.Rooms.{IsAreaRoom}
use Rattle.dynamic_areas.proofs.AreaTableLemmas.{area_table_grown, held_alone, pages_same, pages_counted, rooms_paged, some_paged, fixed_outside, lies_apart}
use Rattle.dynamic_areas.proofs.Remapped.{sound_grown, sound_shrunk}
use Rattle.dynamic_areas.proofs.RoomLemmas.{found_room, pages_none, room_small}

pub or_true : (t : Bool) → (t || true) ≡ true
or_true true = refl
or_true false = refl

-- below its top an area holds its pages alone, and above it nothing is mapped up to its maximum
pub unmapped_above : (s : Store) (free : ℕ) (l : AreaTable) (number : ℕ) (a : Area) (count : ℕ) → IsGround s free l → find_area number l.areas ≡ Some a
    → 4096 * (a.pages + count) ≤ a.maximum → AreUnmapped s.bytes.mapped (a.base + 4096 * a.pages) (4096 * count)
unmapped_above s free l number a count ground e fits x low high =
    let room : IsAreaRoom a = found_room number l.areas a ground.table.rooms e in
    let inside : in_range a.base a.maximum x ≡ true = range_inside a.base a.maximum x (omega arith) (omega arith) in
    let alone : list_any (is_in_area x) (with_pages number a.pages l.areas) ≡ in_range a.base (4096 * a.pages) x =
    held_alone number l.areas a a.pages x ground.table.rooms e inside in
    let none : list_any (is_in_area x) l.areas ≡ false =
    ap (λ (xs : List Area). list_any (is_in_area x) xs) (sym (pages_same number l.areas a e)) ∙ (alone ∙ range_past a.base (4096 * a.pages) x low) in
    ground.area_table x ∙ rw (fixed_outside l.sizes a x ground.sizes room inside, none) refl

ranges_more : (s : Store) (at len : ℕ) (rs : List Region) → AreRangesMapped s.bytes.mapped rs
    → AreRangesMapped (λ a. in_range at len a || s.bytes.mapped a) rs
ranges_more s at len [] mapped = tt
ranges_more s at len (r ∷ rs) mapped = (
  λ a low high. rw (mapped.0 a low high) (or_true (in_range at len a)),
  ranges_more s at len rs mapped.1,
)

pub ground_grown : (s : Store) (free : ℕ) (l : AreaTable) (number : ℕ) (a : Area) (count : ℕ) → IsGround s free l → find_area number l.areas ≡ Some a
    → 4096 * (a.pages + count) ≤ a.maximum → count ≤ free
    → IsGround (with_pages_at s (a.base + 4096 * a.pages) (4096 * count)) (free - count) (with_areas l (with_pages number (a.pages + count) l.areas))
ground_grown s free l number a count ground e fits pool =
    let top : ℕ = a.base + 4096 * a.pages in
    let counted : pages_of (with_pages number (a.pages + count) l.areas) + a.pages ≡ pages_of l.areas + (a.pages + count) =
    pages_counted number l.areas a (a.pages + count) e in
    let sum : pages_of l.areas + (l.sizes.app + 3) + free ≡ l.sizes.pages = ground.pages in
    record {
      sizes = ground.sizes;
      table = record {
        rooms = rooms_paged number l.areas a (a.pages + count) ground.table.rooms e fits;
        first = some_paged number (a.pages + count) 1 l.areas ∙ ground.table.first;
      };
      area_table = λ x. rw (ground.area_table x, area_table_grown number l.areas a count x e)
          (or_middle (in_range (a.base + 4096 * a.pages) (4096 * count) x) (is_fixed l.sizes x) (list_any (is_in_area x) l.areas));
      pages = omega arith;
      ranges = ranges_more s (a.base + 4096 * a.pages) (4096 * count) s.others ground.ranges;
      sound = sound_grown s (a.base + 4096 * a.pages) (4096 * count) ground.sound (unmapped_above s free l number a count ground e fits);
    }

-- fewer pages
pub find_paged : (number pages : ℕ) (areas : List Area) (a : Area) → find_area number areas ≡ Some a
    → find_area number (with_pages number pages areas) ≡ Some (area_with_pages pages a)
find_paged number pages [] a e = absurd (let none : None ≡ Some a = e in cc)
find_paged number pages (g ∷ others) a e =
    elim (cases_Bool (g.number == number)) [
      | inl this ↦
          let e' = rw this at e in
          let same : g ≡ a = cc in
          rw (this, this) (ap (λ (y : Area). Some (area_with_pages pages y)) same)
      | inr other ↦ rw (other, other) (find_paged number pages others a (rw other at e))
    ]

pub paged_twice : (number first pages : ℕ) (areas : List Area) → with_pages number pages (with_pages number first areas) ≡ with_pages number pages areas
paged_twice number first pages [] = refl
paged_twice number first pages (g ∷ others) =
    elim (cases_Bool (g.number == number)) [
      | inl this ↦ rw (this, this) refl
      | inr other ↦ rw (other, other) (ap (λ (xs : List Area). g ∷ xs) (paged_twice number first pages others))
    ]

ranges_less : (s : Store) (at len : ℕ) (rs : List Region) → AreRangesMapped s.bytes.mapped rs → AreRangesClear at len rs
    → AreRangesMapped (λ a. s.bytes.mapped a && not (in_range at len a)) rs
ranges_less s at len [] mapped clear = tt
ranges_less s at len (r ∷ rs) mapped clear = (
  λ a low high. rw (mapped.0 a low high, clear_both_ways at len r.at r.len clear.0 a (range_inside r.at r.len a low high)) refl,
  ranges_less s at len rs mapped.1 clear.1,
)

-- the area table without the pages at the top
area_table_less : (f t k : Bool) → (t ≡ true → (f ≡ false) × (k ≡ false)) → ((f || (t || k)) && not t) ≡ (f || k)
area_table_less f true k none = let both = none refl in rw (both.0, both.1) refl
area_table_less f false k none = and-true (f || k)

module _ (s : Store) (free : ℕ) (l : AreaTable) (number : ℕ) (a : Area) (count : ℕ) (ground : IsGround s free l) (e : find_area number l.areas ≡ Some a)
    (fits : count ≤ a.pages) where
  shrunk_area_table : (x : ℕ) → list_any (is_in_area x) l.areas
      ≡ (in_range (a.base + 4096 * (a.pages - count)) (4096 * count) x || list_any (is_in_area x) (with_pages number (a.pages - count) l.areas))
  shrunk_area_table x =
      let sum : a.pages - count + count ≡ a.pages = omega arith in
      let grown = area_table_grown number (with_pages number (a.pages - count) l.areas) (area_with_pages (a.pages - count) a) count x
      (find_paged number (a.pages - count) l.areas a e) in
      let back : with_pages number (a.pages - count + count) (with_pages number (a.pages - count) l.areas) ≡ l.areas =
      paged_twice number (a.pages - count) (a.pages - count + count) l.areas ∙ (ap (λ (n : ℕ). with_pages number n l.areas) sum ∙ pages_same number l.areas a e) in
      ap (λ (xs : List Area). list_any (is_in_area x) xs) (sym back) ∙ grown

  pub ground_shrunk : IsClearOfHeaps (a.base + 4096 * (a.pages - count)) (4096 * count) s.heaps
      → AreRangesClear (a.base + 4096 * (a.pages - count)) (4096 * count) s.others
      → anchor_among s.anchor (a.base + 4096 * (a.pages - count)) (4096 * count) ≡ false
      → IsGround (without_pages_at s (a.base + 4096 * (a.pages - count)) (4096 * count)) (free + count)
      (with_areas l (with_pages number (a.pages - count) l.areas))
  ground_shrunk heaps ranges anchors =
      let room : IsAreaRoom a = found_room number l.areas a ground.table.rooms e in
      let within : 4096 * a.pages ≤ a.maximum = room.within in
      let counted : pages_of (with_pages number (a.pages - count) l.areas) + a.pages ≡ pages_of l.areas + (a.pages - count) =
      pages_counted number l.areas a (a.pages - count) e in
      let sum : pages_of l.areas + (l.sizes.app + 3) + free ≡ l.sizes.pages = ground.pages in
      record {
        sizes = ground.sizes;
        table = record {
          rooms = rooms_paged number l.areas a (a.pages - count) ground.table.rooms e (omega arith);
          first = some_paged number (a.pages - count) 1 l.areas ∙ ground.table.first;
        };
        area_table = λ x. rw (ground.area_table x, shrunk_area_table x) (area_table_less (is_fixed l.sizes x) (in_range (a.base + 4096 * (a.pages - count)) (4096 * count) x)
            (list_any (is_in_area x) (with_pages number (a.pages - count) l.areas)) (λ there.
            let low : a.base + 4096 * (a.pages - count) ≤ x = range_low (a.base + 4096 * (a.pages - count)) (4096 * count) x there in
            let high : x < a.base + 4096 * (a.pages - count) + 4096 * count = range_high (a.base + 4096 * (a.pages - count)) (4096 * count) x there in
            let inside : in_range a.base a.maximum x ≡ true = range_inside a.base a.maximum x (omega arith) (omega arith) in (
              fixed_outside l.sizes a x ground.sizes room inside,
              held_alone number l.areas a (a.pages - count) x ground.table.rooms e inside ∙ range_past a.base (4096 * (a.pages - count)) x low,
            )));
        pages = omega arith;
        ranges = ranges_less s (a.base + 4096 * (a.pages - count)) (4096 * count) s.others ground.ranges ranges;
        sound = sound_shrunk s (a.base + 4096 * (a.pages - count)) (4096 * count) ground.sound heaps anchors;
      }

pub mapped_held : (s : Store) (free : ℕ) (l : AreaTable) (number : ℕ) (a : Area) → IsGround s free l → find_area number l.areas ≡ Some a
    → (x : ℕ) → a.base ≤ x → x < a.base + 4096 * a.pages → s.bytes.mapped x ≡ true
mapped_held s free l number a ground e x low high =
    let room : IsAreaRoom a = found_room number l.areas a ground.table.rooms e in
    let within : 4096 * a.pages ≤ a.maximum = room.within in
    let inside : in_range a.base a.maximum x ≡ true = range_inside a.base a.maximum x low (omega arith) in
    let alone : list_any (is_in_area x) (with_pages number a.pages l.areas) ≡ in_range a.base (4096 * a.pages) x =
    held_alone number l.areas a a.pages x ground.table.rooms e inside in
    let held : list_any (is_in_area x) l.areas ≡ true =
    ap (λ (xs : List Area). list_any (is_in_area x) xs) (sym (pages_same number l.areas a e)) ∙ (alone ∙ range_inside a.base (4096 * a.pages) x low high) in
    ground.area_table x ∙ rw held (or_true (is_fixed l.sizes x))

-- pages of an area's room lie in the address space
pub record FitsWindow (a : Area) (pages count : ℕ) : Type 0 where
  pub aligned : (a.base + 4096 * pages) % 4096 ≡ 0
  pub below : a.base + 4096 * pages + 4096 * count ≤ area_window_end
  pub sum : pages + count ≤ 0x1000

pub fits_window : (a : Area) (pages count : ℕ) → IsAreaRoom a → 4096 * (pages + count) ≤ a.maximum → FitsWindow a pages count
fits_window a pages count room fits =
    let page : a.base % 4096 ≡ 0 = room.page in
    let high : a.base + a.maximum ≤ area_window_end = (lies_apart a room).high in
    let low : module_area_start ≤ a.base = (lies_apart a room).low in
    record { aligned = omega arith; below = omega arith; sum = omega (arith, room_small a room) }

-- where no area has the number, the area table is as it was
pub area_table_none : (l : AreaTable) (number pages : ℕ) → find_area number l.areas ≡ None → l ≡ with_areas l (with_pages number pages l.areas)
area_table_none l number pages none = sym (ap (λ (xs : List Area). with_areas l xs) (pages_none number pages l.areas none))
