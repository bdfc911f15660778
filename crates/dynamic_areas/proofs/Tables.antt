-- What a search in the list of areas knows: the areas that were passed are others.
use Rattle.std.proofs.Common.{◌≡◌, ◌≢◌, ℕ, ◌+◌, ◌-◌, ◌<◌, ◌≤◌, ◌++◌, ◌==◌, true, false, List, [], length, take, drop, get_or, set, suc, zero, refl, sym, ap, ◌∙◌, append_assoc, add-one, Some, None, arith}
use Rattle.std.specs.List.{insert}
use Rattle.std.proofs.lemmas.Bool.{eq-eqb, ne_eqb, lt-ltb, le-ltb}
use Rattle.std.proofs.lemmas.List.{drop_more, drop_all, take_more, set_split, get_or_default}
use Rattle.dynamic_areas.specs.declared.area.Area.{Area}
use Rattle.dynamic_areas.specs.Areas.{find_area, with_area, without_area, with_pages, area_with_pages}
use Rattle.dynamic_areas.specs.Creating.{lowest_from}
use Rattle.dynamic_areas.specs.Places.{IsPlaceOf}
use Rattle.dynamic_areas.specs.Rooms.{meets_area}

-- the first `i` areas have other numbers
pub record IsSearched (number : ℕ) (areas : List Area) (i : ℕ) : Type 0 where
  pub found : find_area number areas ≡ find_area number (drop i areas)
  pub without : without_area number areas ≡ take i areas ++ without_area number (drop i areas)
  pub pages : (pages : ℕ) → with_pages number pages areas ≡ take i areas ++ with_pages number pages (drop i areas)

pub searched_more : (number : ℕ) (areas : List Area) (i : ℕ) (d : Area) → i < length areas → (get_or areas i d).number ≢ number
    → IsSearched number areas i → IsSearched number areas (i + 1)
searched_more number areas i d below differ so_far =
    let other : ((get_or areas i d).number == number) ≡ false = ne_eqb (get_or areas i d).number number differ in
    record {
      found = let e = rw (drop_more areas i d below, other) at so_far.found in e;
      without = let e = rw (drop_more areas i d below, other) at so_far.without in e ∙ rw (take_more areas i d below, append_assoc) refl;
      pages = λ pages. let e = rw (drop_more areas i d below, other) at (so_far.pages pages) in e ∙ rw (take_more areas i d below, append_assoc) refl;
    }

pub searched_found : (number : ℕ) (areas : List Area) (i : ℕ) (e : Area) → i < length areas → (get_or areas i e).number ≡ number
    → IsSearched number areas i → IsPlaceOf number areas i
searched_found number areas i e below same so_far =
    let here : ((get_or areas i e).number == number) ≡ true = eq-eqb (get_or areas i e).number number same in
    record {
      below = below;
      found = λ d. let f = rw (drop_more areas i e below, here) at so_far.found in f ∙ ap Some (get_or_default areas i e d below);
      without = let f = rw (drop_more areas i e below, here, add-one i) at so_far.without in f;
      pages = λ d pages.
          let f = rw (drop_more areas i e below, here, add-one i) at (so_far.pages pages) in
          f ∙ sym (set_split areas i (area_with_pages pages (get_or areas i e)) below)
          ∙ ap (λ (x : Area). set areas i (area_with_pages pages x)) (get_or_default areas i e d below);
    }

pub searched_none : (number : ℕ) (areas : List Area) (i : ℕ) → length areas ≤ i → IsSearched number areas i → find_area number areas ≡ None
searched_none number areas i past so_far = let e = rw (drop_all i areas past) at so_far.found in e

-- the first `i` areas have numbers that are not greater
abbrev pub IsPassed : ℕ → List Area → ℕ → Type 0
IsPassed number areas i = (area : Area) → area.number ≡ number → with_area area areas ≡ take i areas ++ with_area area (drop i areas)

pub passed_more : (number : ℕ) (areas : List Area) (i : ℕ) (d : Area) → i < length areas → (get_or areas i d).number ≤ number
    → IsPassed number areas i → IsPassed number areas (i + 1)
passed_more number areas i d below low so_far area same =
    let test = le-ltb area.number (get_or areas i d).number (omega arith) in
    let e = rw (drop_more areas i d below, test) at (so_far area same) in
    e ∙ rw (take_more areas i d below, append_assoc) refl

pub passed_here : (number : ℕ) (areas : List Area) (i : ℕ) (d : Area) → i < length areas → number < (get_or areas i d).number
    → IsPassed number areas i → (area : Area) → area.number ≡ number → with_area area areas ≡ insert areas i area
passed_here number areas i d below high so_far area same =
    let test = lt-ltb area.number (get_or areas i d).number (omega arith) in
    let e = rw (drop_more areas i d below, test, ← drop_more areas i d below) at (so_far area same) in e

pub passed_all : (number : ℕ) (areas : List Area) (i : ℕ) → i ≡ length areas → IsPassed number areas i
    → (area : Area) → area.number ≡ number → with_area area areas ≡ insert areas i area
passed_all number areas i past so_far area same =
    let none : drop i areas ≡ [] = drop_all i areas (omega arith) in
    let e = rw none at (so_far area same) in e ∙ rw none refl

-- the lowest gap is not at an address where an area is met
pub gap_passed : (areas : List Area) (maximum base n : ℕ) → meets_area base maximum areas ≡ true → 0 < n
    → lowest_from areas maximum base n ≡ lowest_from areas maximum (base + 4096) (n - 1)
gap_passed areas maximum base zero met some = absurd (omega arith)
gap_passed areas maximum base (suc n) met some = let e : suc n - 1 ≡ n = omega arith in rw (met, e) refl

pub gap_here : (areas : List Area) (maximum base n : ℕ) → meets_area base maximum areas ≡ false → 0 < n
    → lowest_from areas maximum base n ≡ Some base
gap_here areas maximum base zero clear some = absurd (omega arith)
gap_here areas maximum base (suc n) clear some = rw clear refl
