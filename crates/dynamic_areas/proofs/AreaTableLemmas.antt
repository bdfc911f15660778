-- Which addresses the areas hold where one of them gets another count of pages.
use Rattle.profile.specs.MemoryMap.{application_start, area_window_end, area_window_start, module_area_start, system_start}
use Rattle.std.proofs.Common.{◌≡◌, ℕ, ◌+◌, ◌*◌, ◌<◌, ◌≤◌, ◌==◌, ◌||◌, true, false, leb, List, [], ◌∷◌, ◌⊎◌, refl, sym, ap, subst, ◌∙◌, Some, None, inl, inr, arith}
use Rattle.std.proofs.Math.Bool.{or-false, or_assoc}
use Rattle.std.specs.Prelude.{is_some}
use Rattle.std.specs.List.{list_any}
use Rattle.std.proofs.lemmas.Bool.{cases_Bool, cases_eq, cases_lt, eqb-true, eq-eqb, lt-ltb, le-ltb, le-leb, lt-leb, leb-true, and_parts, and_right, false≢true, false_from_ne_true}
use Rattle.profile.specs.Sizes.{Sizes, AreGood}
use Rattle.os_heap.specs.Bytes.{shares_address, in_range}
use Rattle.dynamic_areas.specs.declared.area.Area.{Area}
use Rattle.dynamic_areas.specs.Areas.{find_area, with_pages, area_with_pages, pages_of}
use Rattle.dynamic_areas.specs.Ground.{is_fixed, is_in_area}
use Rattle.dynamic_areas.specs.Rooms.{IsAreaRoom, IsBefore, AreRooms}
use Rattle.dynamic_areas.proofs.RoomLemmas.{meets_turned, found_behind, in_window}
use Rattle.os_heap.proofs.RangeTests.{or_middle, range_high, range_low}

-- the addresses of the first pages, and of those after them
pub held_split : (base p c x : ℕ) → in_range base (4096 * (p + c)) x ≡ (in_range (base + 4096 * p) (4096 * c) x || in_range base (4096 * p) x)
held_split base p c x =
    elim (cases_lt x (base + 4096 * p)) [
      | inl low ↦ elim (cases_lt x base) [
        | inl below ↦ rw (lt-leb base x below, lt-leb (base + 4096 * p) x low) refl
        | inr from ↦ rw (le-leb base x from, lt-ltb x (base + 4096 * (p + c)) (omega arith), lt-leb (base + 4096 * p) x low, lt-ltb x (base + 4096 * p) low) refl
      ]
      | inr high ↦ elim (cases_lt x (base + 4096 * (p + c))) [
        | inl inside ↦ rw (
          le-leb base x (omega arith),
          lt-ltb x (base + 4096 * (p + c)) inside,
          le-leb (base + 4096 * p) x high,
          lt-ltb x (base + 4096 * p + 4096 * c) (omega arith),
        ) refl
        | inr past ↦ rw (
          le-leb base x (omega arith),
          le-ltb x (base + 4096 * (p + c)) past,
          le-leb (base + 4096 * p) x high,
          le-ltb x (base + 4096 * p + 4096 * c) (omega arith),
          le-ltb x (base + 4096 * p) high,
        ) refl
      ]
    ]

-- more pages
pub area_table_grown : (number : ℕ) (areas : List Area) (a : Area) (count x : ℕ) → find_area number areas ≡ Some a
    → list_any (is_in_area x) (with_pages number (a.pages + count) areas)
    ≡ (in_range (a.base + 4096 * a.pages) (4096 * count) x || list_any (is_in_area x) areas)
area_table_grown number [] a count x e = absurd (let none : None ≡ Some a = e in cc)
area_table_grown number (g ∷ others) a count x e =
    elim (cases_Bool (g.number == number)) [
      | inl this ↦
          let e' = rw this at e in
          let same : g ≡ a = cc in
          subst (λ (y : Area). list_any (is_in_area x) (with_pages number (y.pages + count) (g ∷ others))
          ≡ (in_range (y.base + 4096 * y.pages) (4096 * count) x || list_any (is_in_area x) (g ∷ others))) same
          (rw (this, held_split g.base g.pages count x)
          (or_assoc (in_range (g.base + 4096 * g.pages) (4096 * count) x) (is_in_area x g) (list_any (is_in_area x) others)))
      | inr other ↦
          let rest = area_table_grown number others a count x (rw other at e) in
          rw (other, rest) (or_middle (is_in_area x g) (in_range (a.base + 4096 * a.pages) (4096 * count) x) (list_any (is_in_area x) others))
    ]

-- an address of an area's room is held by no other area
outside : (g a : Area) (x : ℕ) → IsAreaRoom g → shares_address g.base g.maximum a.base a.maximum ≡ false → in_range a.base a.maximum x ≡ true
    → is_in_area x g ≡ false
outside g a x room apart inside =
    false_from_ne_true (is_in_area x g) (λ held.
    let low : a.base ≤ x = range_low a.base a.maximum x inside in
    let high : x < a.base + a.maximum = range_high a.base a.maximum x inside in
    let low' : g.base ≤ x = range_low g.base (4096 * g.pages) x held in
    let high' : x < g.base + 4096 * g.pages = range_high g.base (4096 * g.pages) x held in
    let within : 4096 * g.pages ≤ g.maximum = room.within in
    let met : shares_address g.base g.maximum a.base a.maximum ≡ true = rw (
      lt-ltb 0 g.maximum (omega arith),
      lt-ltb 0 a.maximum (omega arith),
      lt-ltb g.base (a.base + a.maximum) (omega arith),
      lt-ltb a.base (g.base + g.maximum) (omega arith),
    ) refl in
    false≢true (sym apart ∙ met))

rest_outside : (a : Area) (others : List Area) (x : ℕ) → AreRooms others → IsBefore a others → in_range a.base a.maximum x ≡ true
    → list_any (is_in_area x) others ≡ false
rest_outside a [] x rooms before inside = refl
rest_outside a (b ∷ others) x rooms before inside =
    let here : is_in_area x b ≡ false = outside b a x rooms.0 (meets_turned b.base b.maximum a.base a.maximum ∙ before.0.1) inside in
    rw (here, rest_outside a others x rooms.1.1 before.1 inside) refl

pub held_alone : (number : ℕ) (areas : List Area) (a : Area) (pages x : ℕ) → AreRooms areas → find_area number areas ≡ Some a
    → in_range a.base a.maximum x ≡ true → list_any (is_in_area x) (with_pages number pages areas) ≡ in_range a.base (4096 * pages) x
held_alone number [] a pages x rooms e inside = absurd (let none : None ≡ Some a = e in cc)
held_alone number (g ∷ others) a pages x rooms e inside =
    elim (cases_Bool (g.number == number)) [
      | inl this ↦
          let e' = rw this at e in
          let same : g ≡ a = cc in
          let base : g.base ≡ a.base = ap (λ (y : Area). y.base) same in
          let inside' : in_range g.base g.maximum x ≡ true = subst (λ (y : Area). in_range y.base y.maximum x ≡ true) (sym same) inside in
          rw (this, rest_outside g others x rooms.1.1 rooms.1.0 inside', ← base) (or-false (in_range g.base (4096 * pages) x))
      | inr other ↦
          let e' = rw other at e in
          let no : is_in_area x g ≡ false = outside g a x rooms.0 (found_behind g a number others rooms.1.0 e').1 inside in
          rw (other, no) (held_alone number others a pages x rooms.1.1 e' inside)
    ]

pub pages_same : (number : ℕ) (areas : List Area) (a : Area) → find_area number areas ≡ Some a → with_pages number a.pages areas ≡ areas
pages_same number [] a e = refl
pages_same number (g ∷ others) a e =
    elim (cases_Bool (g.number == number)) [
      | inl this ↦
          let e' = rw this at e in
          let same : g ≡ a = cc in
          rw this (subst (λ (y : Area). area_with_pages y.pages g ∷ others ≡ g ∷ others) same refl)
      | inr other ↦ rw other (ap (λ (xs : List Area). g ∷ xs) (pages_same number others a (rw other at e)))
    ]

pub pages_counted : (number : ℕ) (areas : List Area) (a : Area) (pages : ℕ) → find_area number areas ≡ Some a
    → pages_of (with_pages number pages areas) + a.pages ≡ pages_of areas + pages
pages_counted number [] a pages e = absurd (let none : None ≡ Some a = e in cc)
pages_counted number (g ∷ others) a pages e =
    elim (cases_Bool (g.number == number)) [
      | inl this ↦
          let e' = rw this at e in
          let same : g ≡ a = cc in
          let count : g.pages ≡ a.pages = ap (λ (y : Area). y.pages) same in
          rw this (omega arith)
      | inr other ↦
          let rest = pages_counted number others a pages (rw other at e) in
          rw other (omega (arith, rest))
    ]

-- the rooms stay as they are
before_paged : (g : Area) (number pages : ℕ) (areas : List Area) → IsBefore g areas → IsBefore g (with_pages number pages areas)
before_paged g number pages [] before = tt
before_paged g number pages (b ∷ others) before =
    elim (cases_Bool (b.number == number)) [
      | inl here ↦ rw here before
      | inr other ↦ rw other (before.0, before_paged g number pages others before.1)
    ]

pub rooms_paged : (number : ℕ) (areas : List Area) (a : Area) (pages : ℕ) → AreRooms areas → find_area number areas ≡ Some a
    → 4096 * pages ≤ a.maximum → AreRooms (with_pages number pages areas)
rooms_paged number [] a pages rooms e fits = tt
rooms_paged number (g ∷ others) a pages rooms e fits =
    elim (cases_Bool (g.number == number)) [
      | inl this ↦
          let e' = rw this at e in
          let same : g ≡ a = cc in
          let maximum : g.maximum ≡ a.maximum = ap (λ (y : Area). y.maximum) same in
          let room = rooms.0 in
          rw this (
            record { page = room.page; whole = room.whole; within = omega arith; place = room.place; named = room.named },
            (rooms.1.0, rooms.1.1),
          )
      | inr other ↦ rw other (rooms.0, (before_paged g number pages others rooms.1.0, rooms_paged number others a pages rooms.1.1 (rw other at e) fits))
    ]

pub some_paged : (number pages other : ℕ) (areas : List Area) → is_some (find_area other (with_pages number pages areas)) ≡ is_some (find_area other areas)
some_paged number pages other [] = refl
some_paged number pages other (g ∷ others) =
    elim (cases_Bool (g.number == number)) [
      | inl this ↦ elim (cases_Bool (g.number == other)) [
        | inl here ↦ rw (this, here) refl
        | inr unlike ↦ rw (this, unlike) refl
      ]
      | inr later ↦ elim (cases_Bool (g.number == other)) [
        | inl here ↦ rw (later, here) refl
        | inr unlike ↦ rw (later, unlike) (some_paged number pages other others)
      ]
    ]

-- where an area can lie
pub record LiesApart (a : Area) : Type 0 where
  pub low : module_area_start ≤ a.base
  pub beside : (a.base + a.maximum ≤ system_start) ⊎ (area_window_start ≤ a.base)
  pub high : a.base + a.maximum ≤ area_window_end

pub lies_apart : (a : Area) → IsAreaRoom a → LiesApart a
lies_apart a room =
    elim (cases_eq a.number 1) [
      | inl first ↦
          let e = rw (eq-eqb a.number 1 first) at room.place in
          let parts = and_parts (a.base == module_area_start) (a.maximum == 4194304) e in
          let base : a.base ≡ module_area_start = eqb-true a.base module_area_start parts.0 in
          let maximum : a.maximum ≡ 4194304 = eqb-true a.maximum 4194304 parts.1 in
          record { low = omega arith; beside = inl (omega arith); high = omega arith }
      | inr other ↦
          let parts = and_parts (leb area_window_start a.base) (leb (a.base + a.maximum) area_window_end) (in_window a.number a.base a.maximum other room.place) in
          let low : area_window_start ≤ a.base = leb-true area_window_start a.base parts.0 in
          let high : a.base + a.maximum ≤ area_window_end = leb-true (a.base + a.maximum) area_window_end parts.1 in
          record { low = omega arith; beside = inr low; high = high }
    ]

pub fixed_outside : (sizes : Sizes) (a : Area) (x : ℕ) → AreGood sizes → IsAreaRoom a → in_range a.base a.maximum x ≡ true → is_fixed sizes x ≡ false
fixed_outside sizes a x good room inside =
    let lies : LiesApart a = lies_apart a room in
    let low : a.base ≤ x = range_low a.base a.maximum x inside in
    let high : x < a.base + a.maximum = range_high a.base a.maximum x inside in
    let base : module_area_start ≤ a.base = lies.low in
    let most : sizes.pages ≤ 1024 = good.in_limit in
    let fits : sizes.app + sizes.rma + 3 ≤ sizes.pages = good.has_room in
    rw (le-leb application_start x (omega arith), le-ltb x (application_start + 4096 * sizes.app) (omega arith)) (
    elim lies.beside [
      | inl below ↦ rw (lt-leb system_start x (omega arith)) refl
      | inr above ↦ rw (le-ltb x (system_start + 0x3000) (omega arith)) (and_right (leb system_start x) false refl)
    ]
    )
