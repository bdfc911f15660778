-- What stands on the areas stands on them still where one gets another number.
use Rattle.std.proofs.Common.{◌≡◌, ◌≢◌, ℕ, ◌+◌, ◌≤◌, ◌==◌, ◌||◌, not, Bool, true, false, leb, List, [], ◌∷◌, refl, sym, ap, subst, ◌∙◌, Some, None, Ok, Err, inl, inr, arith}
use Rattle.std.specs.Prelude.{is_some, Option, Result, ok_or, if◌then◌else◌}
use Rattle.std.specs.List.{list_any}
use Rattle.std.proofs.lemmas.Bool.{cases_Bool, cases_lt, eq-eqb, lt-ltb, le-ltb, leb-true, and_parts, or_parts, false≢true}
use Rattle.profile.specs.Outcome.{bind, Leaves}
use Rattle.profile.specs.ErrorNumber.{ErrorNumber}
use Rattle.profile.specs.ErrorNumber.TheVariants.{AreaUnknown, AreaBad, AreaTaken}
use Rattle.os_heap.proofs.RangeTests.{or_middle}
use Rattle.os_heap.specs.Store.{Store}
use Rattle.dynamic_areas.specs.declared.area.Area.{Area}
use Rattle.dynamic_areas.specs.Areas.{AreaTable, find_area, with_area, without_area, with_areas, with_number, pages_of, is_created, areas_after_renumber}
use Rattle.dynamic_areas.specs.Ground.{is_fixed, is_in_area, AreAreas}
use Rattle.dynamic_areas.specs.Rooms.{IsAreaTable}
use Rattle.dynamic_areas.proofs.PutLemmas.{pages_with, pages_without}
use Rattle.dynamic_areas.proofs.RoomLemmas.{find_with_other, find_without_other}

held_put : (area : Area) (areas : List Area) (x : ℕ) → list_any (is_in_area x) (with_area area areas) ≡ (is_in_area x area || list_any (is_in_area x) areas)
held_put area [] x = refl
held_put area (a ∷ others) x =
    elim (cases_lt area.number a.number) [
      | inl here ↦ rw (lt-ltb area.number a.number here) refl
      | inr later ↦ rw (le-ltb area.number a.number later, held_put area others x) (or_middle (is_in_area x a) (is_in_area x area) (list_any (is_in_area x) others))
    ]

held_take : (number : ℕ) (areas : List Area) (a : Area) (x : ℕ) → find_area number areas ≡ Some a
    → (is_in_area x a || list_any (is_in_area x) (without_area number areas)) ≡ list_any (is_in_area x) areas
held_take number [] a x e = absurd (let none : None ≡ Some a = e in cc)
held_take number (g ∷ others) a x e =
    elim (cases_Bool (g.number == number)) [
      | inl this ↦
          let e' = rw this at e in
          let same : g ≡ a = cc in
          rw this (ap (λ (y : Area). is_in_area x y || list_any (is_in_area x) others) (sym same))
      | inr other ↦
          let rest = held_take number others a x (rw other at e) in
          rw other (or_middle (is_in_area x a) (is_in_area x g) (list_any (is_in_area x) (without_area number others)) ∙ ap (λ (t : Bool). is_in_area x g || t) rest)
    ]

moved : (l : AreaTable) (areas : List Area) (old new : ℕ) (a : Area) → find_area old l.areas ≡ Some a
    → areas ≡ with_area (with_number new a) (without_area old l.areas) → old ≢ 1 → new ≢ 1 → IsAreaTable areas → (s : Store) (free : ℕ)
    → AreAreas s free l → AreAreas s free (with_areas l areas)
moved l areas old new a e is old_other new_other table s free before =
    let put : pages_of (with_area (with_number new a) (without_area old l.areas)) ≡ a.pages + pages_of (without_area old l.areas) =
    pages_with (with_number new a) (without_area old l.areas) in
    let taken : pages_of (without_area old l.areas) + a.pages ≡ pages_of l.areas = pages_without old l.areas a e in
    let count : pages_of areas ≡ pages_of l.areas = ap pages_of is ∙ (omega arith) in
    record {
      ground = record {
        sizes = before.ground.sizes;
        table = table;
        area_table = λ x.
            let same : list_any (is_in_area x) areas ≡ list_any (is_in_area x) l.areas =
            ap (λ (xs : List Area). list_any (is_in_area x) xs) is ∙ held_put (with_number new a) (without_area old l.areas) x ∙ held_take old l.areas a x e in
            before.ground.area_table x ∙ ap (λ (t : Bool). is_fixed l.sizes x || t) (sym same);
        pages = rw count before.ground.pages;
        ranges = before.ground.ranges;
        sound = before.ground.sound;
      };
      heap =
          let first : find_area 1 areas ≡ find_area 1 l.areas =
          ap (λ (xs : List Area). find_area 1 xs) is ∙ find_with_other (with_number new a) 1 (without_area old l.areas) new_other
          ∙ find_without_other old 1 l.areas old_other in
          rw first before.heap;
    }

err_leaves : (x y : List Area) (f : ErrorNumber) (r : Result (Unit {0}) ErrorNumber) → Leaves x (Err f) r y → y ≡ x
err_leaves x y f (Ok u) leaves = absurd leaves
err_leaves x y f (Err e) leaves = leaves.1

ok_leaves : (x y z : List Area) (r : Result (Unit {0}) ErrorNumber) → Leaves x (Ok z) r y → y ≡ z
ok_leaves x y z (Ok u) leaves = leaves
ok_leaves x y z (Err e) leaves = absurd leaves

-- the tests of a new number
tested : (areas : List Area) (old new : ℕ) (found : Option Area) → Result (List Area) ErrorNumber
tested areas old new found =
    bind (ok_or found AreaUnknown) (λ a.
    if old == 1 || not (is_created new) then Err AreaBad else (
    if is_some (find_area new areas) then Err AreaTaken else
    Ok (with_area (with_number new a) (without_area old areas))))

same_area_table : (l : AreaTable) (areas : List Area) (s : Store) (free : ℕ) → areas ≡ l.areas → AreAreas s free l → AreAreas s free (with_areas l areas)
same_area_table l areas s free same before = subst (λ (xs : List Area). AreAreas s free (with_areas l xs)) (sym same) before

kept : (l : AreaTable) (areas : List Area) (old new : ℕ) (found : Option Area) (r : Result (Unit {0}) ErrorNumber) → find_area old l.areas ≡ found
    → Leaves l.areas (tested l.areas old new found) r areas → IsAreaTable areas → (s : Store) (free : ℕ)
    → AreAreas s free l → AreAreas s free (with_areas l areas)
unfolding tested
kept l areas old new None r e leaves table s free before = same_area_table l areas s free (err_leaves l.areas areas AreaUnknown r leaves) before
kept l areas old new (Some a) r e leaves table s free before =
    elim (cases_Bool (old == 1 || not (is_created new))) [
      | inl bad ↦ same_area_table l areas s free (err_leaves l.areas areas AreaBad r (rw bad at leaves)) before
      | inr good ↦
          let leaves' = rw good at leaves in
          let parts = or_parts (old == 1) (not (is_created new)) good in
          let created : is_created new ≡ true = not_false (is_created new) parts.1 in
          let low : 256 ≤ new = leb-true 256 new (and_parts (leb 256 new) (leb new 0x7FFFFFFF) created).0 in
          elim (cases_Bool (is_some (find_area new l.areas))) [
            | inl taken ↦ same_area_table l areas s free (err_leaves l.areas areas AreaTaken r (rw taken at leaves')) before
            | inr new_one ↦ moved l areas old new a e (ok_leaves l.areas areas (with_area (with_number new a) (without_area old l.areas)) r (rw new_one at leaves'))
                (λ is. false≢true (sym parts.0 ∙ eq-eqb old 1 is)) (λ is. absurd (omega arith)) table s free before
          ]
    ] where
      not_false : (t : Bool) → not t ≡ false → t ≡ true
      not_false true h = refl
      not_false false h = sym h

pub areas_renumbered : (l m : AreaTable) (old new : ℕ) (r : Result (Unit {0}) ErrorNumber) → Leaves l.areas (areas_after_renumber l.areas old new) r m.areas
    → m.sizes ≡ l.sizes → IsAreaTable m.areas → (s : Store) (free : ℕ) → AreAreas s free l → AreAreas s free m
unfolding areas_after_renumber tested
areas_renumbered l m old new r leaves sizes table s free before =
    let is : with_areas l m.areas ≡ m = λ i. record { sizes = sizes_back i; areas = m.areas } in
    subst (λ (k : AreaTable). AreAreas s free k) is (kept l m.areas old new (find_area old l.areas) r refl leaves table s free before) where
      sizes_back : l.sizes ≡ m.sizes
      sizes_back = sym sizes
