-- What is known of an area that was wanted and may be made.
use Rattle.profile.specs.MemoryMap.{area_window_end, area_window_start}
use Rattle.std.proofs.Common.{◌≡◌, ◌≢◌, ℕ, ◌+◌, ◌*◌, ◌%◌, ◌<◌, ◌≤◌, ◌==◌, ◌&&◌, true, false, leb, List, length, suc, zero, refl, subst, Some, None, Ok, Err, inl, inr, arith}
use Rattle.std.specs.Prelude.{is_some, Option, ok_or, if◌then◌else◌}
use Rattle.std.proofs.Math.Dec.{ltb}
use Rattle.std.proofs.lemmas.Bool.{cases_Bool, eqb-true, leb-true, leb-false, ltb-false, le-leb, and_parts}
use Rattle.profile.specs.Outcome.{bind}
use Rattle.profile.specs.Sizes.{Sizes}
use Rattle.profile.specs.ErrorNumber.TheVariants.{AreaTaken, AreaTableFull, AreaNoPages}
use Rattle.dynamic_areas.specs.declared.area.Area.{Area}
use Rattle.dynamic_areas.specs.declared.area.Wanted.{Wanted}
use Rattle.dynamic_areas.specs.Areas.{AreaTable, minus_one, find_area, area_with_pages, is_created}
use Rattle.dynamic_areas.specs.Creating.{pages_for, least_number, lowest_from, lowest_gap, gap_count, wanted_maximum, wanted_number, wanted_base, are_good_sizes, is_good_number, is_good_base, is_good, new_area, area_wanted}
use Rattle.dynamic_areas.specs.Laws.{IsGap}
use Rattle.dynamic_areas.specs.Rooms.{IsAreaRoom, AreRooms, can_name_area, is_in_window, meets_area}
use Rattle.dynamic_areas.proofs.RoomLemmas.{none_there, created_place, least_free, IsLeast}

lowest_is : (areas : List Area) (maximum base n b : ℕ) → lowest_from areas maximum base n ≡ Some b
    → (k : ℕ) × (k < n) × (b ≡ base + 4096 * k) × (meets_area b maximum areas ≡ false)
lowest_is areas maximum base zero b e = absurd (let none : None ≡ Some b = e in cc)
lowest_is areas maximum base (suc n) b e =
    elim (cases_Bool (meets_area base maximum areas)) [
      | inl met ↦
          let rest = lowest_is areas maximum (base + 4096) n b (rw met at e) in
          let k : ℕ = rest.0 in
          let below : k < n = rest.1 in
          let at : b ≡ base + 4096 + 4096 * k = rest.2 in
          (k + 1, omega arith, omega arith, rest.3)
      | inr clear ↦
          let e' = rw clear at e in
          let same : base ≡ b = cc in
          (0, omega arith, omega arith, subst (λ (x : ℕ). meets_area x maximum areas ≡ false) same clear)
    ]

pub gap_found : (areas : List Area) (maximum base : ℕ) → maximum ≤ 16777216 → lowest_gap areas maximum ≡ Some base → IsGap areas maximum base
unfolding lowest_gap
gap_found areas maximum base small e =
    let found = lowest_is areas maximum area_window_start (gap_count maximum) base e in
    let k : ℕ = found.0 in
    let below : k < gap_count maximum = found.1 in
    let at : base ≡ area_window_start + 4096 * k = found.2 in
    record {
      clear = found.3;
      page = omega arith;
      inside = rw (le-leb area_window_start base (omega arith), le-leb (base + maximum) area_window_end (omega arith)) refl;
    }

base_found : (areas : List Area) (word maximum base : ℕ) → maximum ≤ 16777216 → is_good_base word maximum ≡ true → wanted_base areas word maximum ≡ Some base
    → IsGap areas maximum base
base_found areas word maximum base small good e =
    elim (cases_Bool (word == minus_one)) [
      | inl any ↦ gap_found areas maximum base small (rw any at e)
      | inr given ↦
          let e' = rw given at e in
          let good' = rw given at good in
          let parts = and_parts (word % 4096 == 0) (is_in_window word maximum) good' in
          elim (cases_Bool (meets_area word maximum areas)) [
            | inl met ↦ absurd (let none = rw met at e' in let none' : None ≡ Some base = none in cc)
            | inr clear ↦
                let e'' = rw clear at e' in
                let same : word ≡ base = cc in
                subst (IsGap areas maximum) same (record { clear = clear; page = eqb-true (word % 4096) 0 parts.0; inside = parts.1 })
          ]
    ]

number_created : (areas : List Area) (word : ℕ) → length areas < 32 → AreRooms areas → is_good_number word ≡ true → is_created (wanted_number areas word) ≡ true
number_created areas word few rooms good =
    elim (cases_Bool (word == minus_one)) [
      | inl any ↦
          let least : IsLeast 256 areas (least_number 256 areas) = least_free 256 areas rooms in
          rw any (rw (le-leb 256 (least_number 256 areas) least.low, le-leb (least_number 256 areas) 0x7FFFFFFF (omega (arith, least.high))) refl)
      | inr given ↦ let good' = rw given at good in rw given good'
    ]

whole_pages : (sizes : Sizes) (word : ℕ) → wanted_maximum sizes word % 4096 ≡ 0
whole_pages sizes word =
    elim (cases_Bool (word == minus_one)) [
      | inl all ↦ rw all (multiple sizes.pages)
      | inr given ↦ rw given (multiple (pages_for word))
    ] where
      multiple : (n : ℕ) → (4096 * n) % 4096 ≡ 0
      multiple n = omega arith

pub record IsWanted (l : AreaTable) (free : ℕ) (w : Wanted) (a : Area) : Type 0 where
  pub room : IsAreaRoom (area_with_pages 0 a)
  pub other : a.number ≢ 1
  pub new : find_area a.number l.areas ≡ None
  pub clear : meets_area a.base a.maximum l.areas ≡ false
  pub few : length l.areas < 32
  pub pool : a.pages ≤ free
  pub fits : 4096 * a.pages ≤ a.maximum
  pub pages : a.pages ≡ pages_for w.size

-- what is left of the tests once a base is found
made : (l : AreaTable) (free : ℕ) (w : Wanted) (name : List ℕ) (number maximum base : ℕ) (a : Area) → AreRooms l.areas → is_good maximum w name ≡ true
    → maximum % 4096 ≡ 0 → find_area number l.areas ≡ None → number ≡ wanted_number l.areas w.number → wanted_base l.areas w.base maximum ≡ Some base
    → length l.areas < 32 → pages_for w.size ≤ free → new_area number base maximum w name ≡ a → IsWanted l free w a
made l free w name number maximum base a rooms good whole new is_number e few pool same =
    let parts = and_parts (are_good_sizes maximum w.size) ((is_good_number w.number && w.handler == 0) && (is_good_base w.base maximum && can_name_area name)) good in
    let sizes = and_parts (leb 1 maximum && leb maximum 16777216) (leb (4096 * pages_for w.size) maximum) parts.0 in
    let limits = and_parts (leb 1 maximum) (leb maximum 16777216) sizes.0 in
    let small : maximum ≤ 16777216 = leb-true maximum 16777216 limits.1 in
    let fits : 4096 * pages_for w.size ≤ maximum = leb-true (4096 * pages_for w.size) maximum sizes.1 in
    let words = and_parts (is_good_number w.number && w.handler == 0) (is_good_base w.base maximum && can_name_area name) parts.1 in
    let numbers = and_parts (is_good_number w.number) (w.handler == 0) words.0 in
    let places = and_parts (is_good_base w.base maximum) (can_name_area name) words.1 in
    let gap : IsGap l.areas maximum base = base_found l.areas w.base maximum base small places.0 e in
    let created : is_created number ≡ true = rw is_number (number_created l.areas w.number few rooms numbers.0) in
    let low : 256 ≤ number = leb-true 256 number (and_parts (leb 256 number) (leb number 0x7FFFFFFF) created).0 in
    subst (IsWanted l free w) same (record {
      room = record { page = gap.page; whole = whole; within = omega arith; place = created_place number base maximum created gap.inside; named = places.1 };
      other = λ is. absurd (omega arith);
      new = new;
      clear = gap.clear;
      few = few;
      pool = pool;
      fits = fits;
      pages = refl;
    })

-- the tests that follow the base
after_base : (l : AreaTable) (free : ℕ) (w : Wanted) (name : List ℕ) (number maximum : ℕ) (found : Option ℕ) (a : Area)
    → bind (ok_or found AreaTaken) (λ base.
    if leb 32 (length l.areas) then Err AreaTableFull else (
    if ltb free (pages_for w.size) then Err AreaNoPages else
    Ok (new_area number base maximum w name))) ≡ Ok a
    → (base : ℕ) × (found ≡ Some base) × (length l.areas < 32) × (pages_for w.size ≤ free) × (new_area number base maximum w name ≡ a)
after_base l free w name number maximum None a e = absurd (cc)
after_base l free w name number maximum (Some base) a e =
    elim (cases_Bool (leb 32 (length l.areas))) [
      | inl full ↦ absurd (let e' = rw full at e in cc)
      | inr few ↦
          let e' = rw few at e in
          elim (cases_Bool (ltb free (pages_for w.size))) [
            | inl short ↦ absurd (let e'' = rw short at e' in cc)
            | inr enough ↦
                let e'' = rw enough at e' in
                let same : new_area number base maximum w name ≡ a = cc in
                (base, refl, omega (arith, leb-false 32 (length l.areas) few), ltb-false free (pages_for w.size) enough, same)
          ]
    ]

pub wanted_area : (l : AreaTable) (free : ℕ) (w : Wanted) (name : List ℕ) (a : Area) → AreRooms l.areas → area_wanted l free w name ≡ Ok a → IsWanted l free w a
unfolding area_wanted
wanted_area l free w name a rooms e =
    elim (cases_Bool (is_good (wanted_maximum l.sizes w.maximum) w name)) [
      | inr bad ↦ absurd (let e' = rw bad at e in cc)
      | inl good ↦
          let e' = rw good at e in
          elim (cases_Bool (is_some (find_area (wanted_number l.areas w.number) l.areas))) [
            | inl taken ↦ absurd (let e'' = rw taken at e' in cc)
            | inr new ↦
                let e'' = rw new at e' in
                let rest = after_base l free w name (wanted_number l.areas w.number) (wanted_maximum l.sizes w.maximum)
                (wanted_base l.areas w.base (wanted_maximum l.sizes w.maximum)) a e'' in
                made l free w name (wanted_number l.areas w.number) (wanted_maximum l.sizes w.maximum) rest.0 a rooms good
                (whole_pages l.sizes w.maximum) (none_there (find_area (wanted_number l.areas w.number) l.areas) new) refl rest.1 rest.2 rest.3 rest.4
          ]
    ]
