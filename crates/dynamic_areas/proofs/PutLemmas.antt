-- The ground of the areas where one without pages is put in or taken out.
use Rattle.profile.specs.MemoryMap.{module_area_start}
use Rattle.std.proofs.Common.{◌≡◌, ◌≢◌, ℕ, ◌+◌, ◌-◌, ◌*◌, ◌==◌, ◌||◌, Bool, false, leb, List, [], ◌∷◌, refl, sym, ap, subst, ◌∙◌, Some, None, inl, inr, arith}
use Rattle.std.specs.Prelude.{is_some}
use Rattle.std.specs.List.{list_any}
use Rattle.std.proofs.lemmas.Bool.{cases_Bool, cases_lt, cases_eq, ne_eqb, eq-eqb, lt-ltb, le-ltb, lt-leb, and_right}
use Rattle.os_heap.specs.Store.{Store, find_heap}
use Rattle.dynamic_areas.specs.declared.area.Area.{Area}
use Rattle.dynamic_areas.specs.Areas.{AreaTable, find_area, with_area, without_area, with_pages, with_areas, area_with_pages, pages_of}
use Rattle.dynamic_areas.specs.Ground.{is_in_area, IsGround, AreAreas, EndsWithArea}
use Rattle.dynamic_areas.specs.Rooms.{IsAreaRoom, meets_area}
use Rattle.dynamic_areas.proofs.GroundLemmas.{find_paged}
use Rattle.dynamic_areas.proofs.RoomLemmas.{rooms_with, rooms_without, find_with_other, find_without_other}

-- an area without pages holds no address
empty_held : (a : Area) (x : ℕ) → a.pages ≡ 0 → is_in_area x a ≡ false
empty_held a x none =
    elim (cases_lt x a.base) [
      | inl below ↦ rw (lt-leb a.base x below) refl
      | inr above ↦ rw (le-ltb x (a.base + 4096 * a.pages) (omega arith)) (and_right (leb a.base x) false refl)
    ]

pub held_with : (area : Area) (areas : List Area) (x : ℕ) → area.pages ≡ 0 → list_any (is_in_area x) (with_area area areas) ≡ list_any (is_in_area x) areas
held_with area [] x none = rw (empty_held area x none) refl
held_with area (a ∷ others) x none =
    elim (cases_lt area.number a.number) [
      | inl here ↦ rw (lt-ltb area.number a.number here, empty_held area x none) refl
      | inr later ↦ rw (le-ltb area.number a.number later) (ap (λ (t : Bool). is_in_area x a || t) (held_with area others x none))
    ]

pub held_without : (number : ℕ) (areas : List Area) (a : Area) (x : ℕ) → find_area number areas ≡ Some a → a.pages ≡ 0
    → list_any (is_in_area x) (without_area number areas) ≡ list_any (is_in_area x) areas
held_without number [] a x e none = refl
held_without number (g ∷ others) a x e none =
    elim (cases_Bool (g.number == number)) [
      | inl this ↦
          let e' = rw this at e in
          let same : g ≡ a = cc in
          let empty : g.pages ≡ 0 = ap (λ (y : Area). y.pages) same ∙ none in
          rw (this, empty_held g x empty) refl
      | inr other ↦ rw other (ap (λ (t : Bool). is_in_area x g || t) (held_without number others a x (rw other at e) none))
    ]

pub pages_with : (area : Area) (areas : List Area) → pages_of (with_area area areas) ≡ area.pages + pages_of areas
pages_with area [] = refl
pages_with area (a ∷ others) =
    elim (cases_lt area.number a.number) [
      | inl here ↦ rw (lt-ltb area.number a.number here) refl
      | inr later ↦ rw (le-ltb area.number a.number later) (omega (arith, pages_with area others))
    ]

pub pages_without : (number : ℕ) (areas : List Area) (a : Area) → find_area number areas ≡ Some a → pages_of (without_area number areas) + a.pages ≡ pages_of areas
pages_without number [] a e = absurd (let none : None ≡ Some a = e in cc)
pages_without number (g ∷ others) a e =
    elim (cases_Bool (g.number == number)) [
      | inl this ↦
          let e' = rw this at e in
          let same : g ≡ a = cc in
          let count : g.pages ≡ a.pages = ap (λ (y : Area). y.pages) same in
          rw this (omega arith)
      | inr other ↦ let rest = pages_without number others a (rw other at e) in rw other (omega (arith, rest))
    ]

pub find_with : (area : Area) (areas : List Area) → find_area area.number areas ≡ None → find_area area.number (with_area area areas) ≡ Some area
find_with area [] none = rw (eq-eqb area.number area.number refl) refl
find_with area (a ∷ others) none =
    elim (cases_eq a.number area.number) [
      | inl same ↦ absurd (let e = rw (eq-eqb a.number area.number same) at none in let e' : Some a ≡ None = e in cc)
      | inr differ ↦
          let none' = rw (ne_eqb a.number area.number differ) at none in
          elim (cases_lt area.number a.number) [
            | inl here ↦ rw (lt-ltb area.number a.number here, eq-eqb area.number area.number refl) refl
            | inr later ↦ rw (le-ltb area.number a.number later, ne_eqb a.number area.number differ) (find_with area others none')
          ]
    ]

pub paged_with : (area : Area) (pages : ℕ) (areas : List Area) → find_area area.number areas ≡ None
    → with_pages area.number pages (with_area area areas) ≡ with_area (area_with_pages pages area) areas
paged_with area pages [] none = rw (eq-eqb area.number area.number refl) refl
paged_with area pages (a ∷ others) none =
    elim (cases_eq a.number area.number) [
      | inl same ↦ absurd (let e = rw (eq-eqb a.number area.number same) at none in let e' : Some a ≡ None = e in cc)
      | inr differ ↦
          let none' = rw (ne_eqb a.number area.number differ) at none in
          elim (cases_lt area.number a.number) [
            | inl here ↦ rw (lt-ltb area.number a.number here, eq-eqb area.number area.number refl) refl
            | inr later ↦ rw (le-ltb area.number a.number later, ne_eqb a.number area.number differ)
                (ap (λ (xs : List Area). a ∷ xs) (paged_with area pages others none'))
          ]
    ]

pub without_paged : (number pages : ℕ) (areas : List Area) → without_area number (with_pages number pages areas) ≡ without_area number areas
without_paged number pages [] = refl
without_paged number pages (g ∷ others) =
    elim (cases_Bool (g.number == number)) [
      | inl this ↦ rw (this, this) refl
      | inr other ↦ rw (other, other) (ap (λ (xs : List Area). g ∷ xs) (without_paged number pages others))
    ]

pub ground_put : (s : Store) (free : ℕ) (l : AreaTable) (area : Area) → IsGround s free l → IsAreaRoom area → area.pages ≡ 0 → area.number ≢ 1
    → find_area area.number l.areas ≡ None → meets_area area.base area.maximum l.areas ≡ false → IsGround s free (with_areas l (with_area area l.areas))
ground_put s free l area ground room none other new clear =
    let sum : pages_of l.areas + (l.sizes.app + 3) + free ≡ l.sizes.pages = ground.pages in
    let counted : pages_of (with_area area l.areas) ≡ area.pages + pages_of l.areas = pages_with area l.areas in
    record {
      sizes = ground.sizes;
      table = record {
        rooms = rooms_with area l.areas room new clear ground.table.rooms;
        first = ap is_some (find_with_other area 1 l.areas other) ∙ ground.table.first;
      };
      area_table = λ x. rw (held_with area l.areas x none) (ground.area_table x);
      pages = omega arith;
      ranges = ground.ranges;
      sound = ground.sound;
    }

pub ground_taken : (s : Store) (free : ℕ) (l : AreaTable) (number : ℕ) (a : Area) → IsGround s free l → find_area number l.areas ≡ Some a → a.pages ≡ 0
    → number ≢ 1 → IsGround s free (with_areas l (without_area number l.areas))
ground_taken s free l number a ground e none other =
    let sum : pages_of l.areas + (l.sizes.app + 3) + free ≡ l.sizes.pages = ground.pages in
    let counted : pages_of (without_area number l.areas) + a.pages ≡ pages_of l.areas = pages_without number l.areas a e in
    record {
      sizes = ground.sizes;
      table = record {
        rooms = rooms_without number l.areas ground.table.rooms;
        first = ap is_some (find_without_other number 1 l.areas other) ∙ ground.table.first;
      };
      area_table = λ x. rw (held_without number l.areas a x e none) (ground.area_table x);
      pages = omega arith;
      ranges = ground.ranges;
      sound = ground.sound;
    }

pub find_paged_other : (number pages other : ℕ) (areas : List Area) → number ≢ other → find_area other (with_pages number pages areas) ≡ find_area other areas
find_paged_other number pages other [] differ = refl
find_paged_other number pages other (g ∷ others) differ =
    elim (cases_eq g.number number) [
      | inl this ↦ rw (eq-eqb g.number number this, ne_eqb g.number other (λ same. differ (sym this ∙ same))) refl
      | inr later ↦ rw (ne_eqb g.number number later) (
          elim (cases_Bool (g.number == other)) [
            | inl here ↦ rw here refl
            | inr unlike ↦ rw unlike (find_paged_other number pages other others differ)
          ]
          )
    ]

-- what holds after an area was emptied and taken out
pub areas_removed : (s t : Store) (now : ℕ) (l : AreaTable) (number : ℕ) (a : Area) → find_area number l.areas ≡ Some a → number ≢ 1
    → IsGround t now (with_areas l (with_pages number (a.pages - a.pages) l.areas)) → t.heaps ≡ s.heaps
    → EndsWithArea (find_heap module_area_start s.heaps) (find_area 1 l.areas) → AreAreas t now (with_areas l (without_area number l.areas))
areas_removed s t now l number a e other ground heaps ends =
    let empty : a.pages - a.pages ≡ 0 = omega arith in
    let taken = ground_taken t now (with_areas l (with_pages number (a.pages - a.pages) l.areas)) number (area_with_pages (a.pages - a.pages) a) ground
    (find_paged number (a.pages - a.pages) l.areas a e) empty other in
    record {
      ground = subst (λ (xs : List Area). IsGround t now (with_areas l xs)) (without_paged number (a.pages - a.pages) l.areas) taken;
      heap = rw (heaps, find_without_other number 1 l.areas other) ends;
    }
