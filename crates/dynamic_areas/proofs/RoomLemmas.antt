-- The areas stay apart and in order where one is taken away, put in, or gets another number.
use Rattle.profile.specs.MemoryMap.{area_window_end, area_window_start, module_area_start}
use Rattle.std.proofs.Common.{◌≡◌, ◌≢◌, ℕ, ◌+◌, ◌*◌, ◌<◌, ◌≤◌, ◌==◌, true, false, leb, List, [], ◌∷◌, length, refl, sym, ap, subst, ◌∙◌, Some, None, inl, inr, arith}
use Rattle.std.specs.Prelude.{is_some, Option, ok_or, Ok}
use Rattle.profile.specs.ErrorNumber.TheVariants.{AreaUnknown}
use Rattle.std.proofs.Math.Bool.{and_comm}
use Rattle.std.proofs.Math.Dec.{ltb}
use Rattle.std.proofs.lemmas.Bool.{cases_Bool, cases_eq, cases_lt, eqb-true, eq-eqb, ne_eqb, lt-ltb, le-ltb, leb-true, or_parts, and_parts, false≢true}
use Rattle.os_heap.specs.Bytes.{shares_address}
use Rattle.dynamic_areas.specs.declared.area.Area.{Area}
use Rattle.dynamic_areas.specs.Areas.{find_area, area_in, with_area, without_area, with_pages, with_number, is_created}
use Rattle.dynamic_areas.specs.Creating.{least_number}
use Rattle.dynamic_areas.specs.Rooms.{IsAreaRoom, IsBefore, AreRooms, IsAreaTable, meets_area, is_place, is_in_window}

pub meets_turned : (at len other other_len : ℕ) → shares_address at len other other_len ≡ shares_address other other_len at len
meets_turned at len other other_len =
    rw (and_comm (ltb 0 len) (ltb 0 other_len), and_comm (ltb at (other + other_len)) (ltb other (at + len))) refl

-- what is known of an area that was found
pub found_number : (number : ℕ) (others : List Area) (a : Area) → find_area number others ≡ Some a → a.number ≡ number
found_number number [] a e = cc
found_number number (g ∷ others) a e =
    elim (cases_Bool (g.number == number)) [
      | inl here ↦
          let e' = rw here at e in
          let same : g ≡ a = cc in
          subst (λ (x : Area). x.number ≡ number) same (eqb-true g.number number here)
      | inr other ↦ found_number number others a (rw other at e)
    ]

pub found_room : (number : ℕ) (others : List Area) (a : Area) → AreRooms others → find_area number others ≡ Some a → IsAreaRoom a
found_room number [] a rooms e = absurd (let none : None ≡ Some a = e in cc)
found_room number (g ∷ others) a rooms e =
    elim (cases_Bool (g.number == number)) [
      | inl here ↦
          let e' = rw here at e in
          let same : g ≡ a = cc in
          subst IsAreaRoom same rooms.0
      | inr other ↦ found_room number others a rooms.1.1 (rw other at e)
    ]

-- an area that comes before others
pub found_behind : (g a : Area) (number : ℕ) (others : List Area) → IsBefore g others → find_area number others ≡ Some a
    → (g.number < a.number) × (shares_address g.base g.maximum a.base a.maximum ≡ false)
found_behind g a number [] before e = absurd (let none : None ≡ Some a = e in cc)
found_behind g a number (b ∷ bs) before e =
    elim (cases_Bool (b.number == number)) [
      | inl here ↦
          let e' = rw here at e in
          let same : b ≡ a = cc in
          subst (λ (x : Area). (g.number < x.number) × (shares_address g.base g.maximum x.base x.maximum ≡ false)) same before.0
      | inr other ↦ found_behind g a number bs before.1 (rw other at e)
    ]

before_clear : (a : Area) (others : List Area) → IsBefore a others → meets_area a.base a.maximum others ≡ false
before_clear a [] before = refl
before_clear a (b ∷ bs) before = rw (before.0.1, before_clear a bs before.1) refl

before_rest : (area a : Area) (others : List Area) → area.number < a.number → IsBefore a others → meets_area area.base area.maximum others ≡ false
    → IsBefore area others
before_rest area a [] less before clear = tt
before_rest area a (b ∷ bs) less before clear =
    let parts = or_parts (shares_address area.base area.maximum b.base b.maximum) (meets_area area.base area.maximum bs) clear in
    let ahead : a.number < b.number = before.0.0 in
    ((omega arith, parts.0), before_rest area a bs less before.1 parts.1)

before_with : (a area : Area) (others : List Area) → a.number < area.number → shares_address a.base a.maximum area.base area.maximum ≡ false
    → IsBefore a others → IsBefore a (with_area area others)
before_with a area [] less clear before = ((less, clear), tt)
before_with a area (b ∷ bs) less clear before =
    elim (cases_lt area.number b.number) [
      | inl here ↦ rw (lt-ltb area.number b.number here) ((less, clear), before)
      | inr later ↦ rw (le-ltb area.number b.number later) (before.0, before_with a area bs less clear before.1)
    ]

before_without : (a : Area) (number : ℕ) (others : List Area) → IsBefore a others → IsBefore a (without_area number others)
before_without a number [] before = tt
before_without a number (b ∷ bs) before =
    elim (cases_Bool (b.number == number)) [
      | inl here ↦ rw here before.1
      | inr other ↦ rw other (before.0, before_without a number bs before.1)
    ]

before_none : (a : Area) (number : ℕ) (others : List Area) → number ≤ a.number → IsBefore a others → find_area number others ≡ None
before_none a number [] low before = refl
before_none a number (b ∷ bs) low before =
    let ahead : a.number < b.number = before.0.0 in
    rw (ne_eqb b.number number (omega arith)) (before_none a number bs low before.1)

-- one area more
pub rooms_with : (area : Area) (others : List Area) → IsAreaRoom area → find_area area.number others ≡ None → meets_area area.base area.maximum others ≡ false
    → AreRooms others → AreRooms (with_area area others)
rooms_with area [] room new clear rooms = (room, (tt, tt))
rooms_with area (a ∷ others) room new clear rooms =
    let parts = or_parts (shares_address area.base area.maximum a.base a.maximum) (meets_area area.base area.maximum others) clear in
    elim (cases_eq a.number area.number) [
      | inl same ↦ absurd (let e = rw (eq-eqb a.number area.number same) at new in let e' : Some a ≡ None = e in cc)
      | inr differ ↦
          let new' = rw (ne_eqb a.number area.number differ) at new in
          elim (cases_lt area.number a.number) [
            | inl here ↦ rw (lt-ltb area.number a.number here) (room, (((here, parts.0), before_rest area a others here rooms.1.0 parts.1), rooms))
            | inr later ↦ rw (le-ltb area.number a.number later) (
              rooms.0,
              (
                before_with a area others (omega (arith, differ)) (meets_turned a.base a.maximum area.base area.maximum ∙ parts.0) rooms.1.0,
                rooms_with area others room new' parts.1 rooms.1.1,
              ),
            )
          ]
    ]

-- and one less
pub rooms_without : (number : ℕ) (others : List Area) → AreRooms others → AreRooms (without_area number others)
rooms_without number [] rooms = tt
rooms_without number (a ∷ others) rooms =
    elim (cases_Bool (a.number == number)) [
      | inl here ↦ rw here rooms.1.1
      | inr other ↦ rw other (rooms.0, (before_without a number others rooms.1.0, rooms_without number others rooms.1.1))
    ]

-- the area taken away shares no address with those that are left
pub clear_rest : (number : ℕ) (others : List Area) (a : Area) → AreRooms others → find_area number others ≡ Some a
    → meets_area a.base a.maximum (without_area number others) ≡ false
clear_rest number [] a rooms e = refl
clear_rest number (g ∷ others) a rooms e =
    elim (cases_Bool (g.number == number)) [
      | inl here ↦
          let e' = rw here at e in
          let same : g ≡ a = cc in
          rw here (subst (λ (x : Area). meets_area x.base x.maximum others ≡ false) same (before_clear g others rooms.1.0))
      | inr other ↦
          let e' = rw other at e in
          let apart : shares_address a.base a.maximum g.base g.maximum ≡ false =
          meets_turned a.base a.maximum g.base g.maximum ∙ (found_behind g a number others rooms.1.0 e').1 in
          let rest : meets_area a.base a.maximum (without_area number others) ≡ false = clear_rest number others a rooms.1.1 e' in
          rw (other, apart, rest) refl
    ]

-- where no area has the number, nothing changes
pub pages_none : (number pages : ℕ) (areas : List Area) → find_area number areas ≡ None → with_pages number pages areas ≡ areas
pages_none number pages [] none = refl
pages_none number pages (a ∷ others) none =
    elim (cases_Bool (a.number == number)) [
      | inl same ↦ absurd (let e = rw same at none in let e' : Some a ≡ None = e in cc)
      | inr differ ↦ rw differ (ap (λ (xs : List Area). a ∷ xs) (pages_none number pages others (rw differ at none)))
    ]

pub without_none : (number : ℕ) (areas : List Area) → find_area number areas ≡ None → without_area number areas ≡ areas
without_none number [] none = refl
without_none number (a ∷ others) none =
    elim (cases_Bool (a.number == number)) [
      | inl same ↦ absurd (let e = rw same at none in let e' : Some a ≡ None = e in cc)
      | inr differ ↦ rw differ (ap (λ (xs : List Area). a ∷ xs) (without_none number others (rw differ at none)))
    ]

-- numbers after one area more or less
pub new_without : (number other : ℕ) (others : List Area) → find_area other others ≡ None → find_area other (without_area number others) ≡ None
new_without number other [] none = refl
new_without number other (a ∷ others) none =
    elim (cases_Bool (a.number == other)) [
      | inl same ↦ absurd (let e = rw same at none in let e' : Some a ≡ None = e in cc)
      | inr differ ↦
          let none' = rw differ at none in
          elim (cases_Bool (a.number == number)) [
            | inl here ↦ rw here none'
            | inr later ↦ rw (later, differ) (new_without number other others none')
          ]
    ]

pub find_without_other : (number other : ℕ) (others : List Area) → number ≢ other → find_area other (without_area number others) ≡ find_area other others
find_without_other number other [] differ = refl
find_without_other number other (a ∷ others) differ =
    elim (cases_eq a.number number) [
      | inl here ↦ rw (eq-eqb a.number number here, ne_eqb a.number other (λ same. differ (sym here ∙ same))) refl
      | inr later ↦ rw (ne_eqb a.number number later) (
          elim (cases_Bool (a.number == other)) [
            | inl same ↦ rw same refl
            | inr unlike ↦ rw unlike (find_without_other number other others differ)
          ]
          )
    ]

pub find_with_other : (area : Area) (other : ℕ) (others : List Area) → area.number ≢ other → find_area other (with_area area others) ≡ find_area other others
find_with_other area other [] differ = rw (ne_eqb area.number other differ) refl
find_with_other area other (a ∷ others) differ =
    elim (cases_lt area.number a.number) [
      | inl here ↦ rw (lt-ltb area.number a.number here, ne_eqb area.number other differ) refl
      | inr later ↦ rw (le-ltb area.number a.number later) (
          elim (cases_Bool (a.number == other)) [
            | inl same ↦ rw same refl
            | inr unlike ↦ rw unlike (find_with_other area other others differ)
          ]
          )
    ]

-- a created area with another number
pub created_place : (number base maximum : ℕ) → is_created number ≡ true → is_in_window base maximum ≡ true → is_place number base maximum ≡ true
created_place number base maximum good inside =
    let limits = and_parts (leb 256 number) (leb number 0x7FFFFFFF) good in
    let low : 256 ≤ number = leb-true 256 number limits.0 in
    rw (ne_eqb number 1 (omega arith), limits.0, limits.1) inside

pub in_window : (number base maximum : ℕ) → number ≢ 1 → is_place number base maximum ≡ true → is_in_window base maximum ≡ true
in_window number base maximum other place =
    let e = rw (ne_eqb number 1 other) at place in
    (and_parts (is_created number) (is_in_window base maximum) e).1

-- no area is larger than the window
pub room_small : (a : Area) → IsAreaRoom a → a.maximum ≤ 0x01000000
room_small a room =
    elim (cases_eq a.number 1) [
      | inl first ↦
          let e = rw (eq-eqb a.number 1 first) at room.place in
          let same : a.maximum ≡ 4194304 = eqb-true a.maximum 4194304 (and_parts (a.base == module_area_start) (a.maximum == 4194304) e).1 in
          omega arith
      | inr other ↦
          let inside = and_parts (leb area_window_start a.base) (leb (a.base + a.maximum) area_window_end) (in_window a.number a.base a.maximum other room.place) in
          omega (arith, leb-true area_window_start a.base inside.0, leb-true (a.base + a.maximum) area_window_end inside.1)
    ]

known : (found : Option Area) (a : Area) → ok_or found AreaUnknown ≡ Ok a → found ≡ Some a
known None a e = cc
known (Some b) a e = cc

pub held_small : (areas : List Area) (number : ℕ) (a : Area) → IsAreaTable areas → area_in areas number ≡ Ok a → 4096 * a.pages ≤ 0x01000000
held_small areas number a table e =
    let room : IsAreaRoom a = found_room number areas a table.rooms (known (find_area number areas) a e) in
    omega (arith, room.within, room_small a room)

pub none_there : (found : Option Area) → is_some found ≡ false → found ≡ None
none_there None e = refl
none_there (Some a) e = absurd (false≢true (sym e))

pub table_renumbered : (areas : List Area) (old new : ℕ) (a : Area) → IsAreaTable areas → find_area old areas ≡ Some a → old ≢ 1
    → is_created new ≡ true → is_some (find_area new areas) ≡ false → IsAreaTable (with_area (with_number new a) (without_area old areas))
table_renumbered areas old new a table found other good free =
    let room : IsAreaRoom a = found_room old areas a table.rooms found in
    let number : a.number ≡ old = found_number old areas a found in
    let limits = and_parts (leb 256 new) (leb new 0x7FFFFFFF) good in
    let low : 256 ≤ new = leb-true 256 new limits.0 in
    let inside : is_in_window a.base a.maximum ≡ true = in_window a.number a.base a.maximum (λ is. other (sym number ∙ is)) room.place in
    record {
      rooms = rooms_with (with_number new a) (without_area old areas)
          (record { page = room.page; whole = room.whole; within = room.within; place = created_place new a.base a.maximum good inside; named = room.named })
          (new_without old new areas (none_there (find_area new areas) free)) (clear_rest old areas a table.rooms found) (rooms_without old areas table.rooms);
      first = ap is_some (find_with_other (with_number new a) 1 (without_area old areas) (omega arith) ∙ find_without_other old 1 areas other) ∙ table.first;
    }

-- the least number that is free, is free
pub record IsLeast (number : ℕ) (areas : List Area) (least : ℕ) : Type 0 where
  pub free : find_area least areas ≡ None
  pub low : number ≤ least
  pub high : least ≤ number + length areas

pub least_free : (number : ℕ) (areas : List Area) → AreRooms areas → IsLeast number areas (least_number number areas)
least_free number [] rooms = record { free = refl; low = omega arith; high = omega arith }
least_free number (a ∷ others) rooms =
    elim (cases_lt number a.number) [
      | inl above ↦ rw (lt-ltb number a.number above) (record {
        free = rw (ne_eqb a.number number (omega arith)) (before_none a number others (omega arith) rooms.1.0);
        low = omega arith;
        high = omega arith;
      })
      | inr below ↦ elim (cases_eq a.number number) [
        | inl same ↦
            let rest = least_free (number + 1) others rooms.1.1 in
            rw (le-ltb number a.number below, eq-eqb a.number number same) (record {
              free = rw (ne_eqb a.number (least_number (number + 1) others) (omega (arith, rest.low))) rest.free;
              low = omega (arith, rest.low);
              high = omega (arith, rest.high);
            })
        | inr differ ↦
            let rest = least_free number others rooms.1.1 in
            rw (le-ltb number a.number below, ne_eqb a.number number differ) (record {
              free = rw (ne_eqb a.number (least_number number others) (omega (arith, rest.low, differ))) rest.free;
              low = rest.low;
              high = omega (arith, rest.high);
            })
      ]
    ]
