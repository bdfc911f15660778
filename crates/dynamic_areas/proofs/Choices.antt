-- What the searches over gaps, numbers and pages leave behind.
use Rattle.profile.specs.MemoryMap.{area_window_end, area_window_start}
use Rattle.std.proofs.Common.{◌≡◌, ℕ, ◌+◌, ◌-◌, ◌*◌, ◌/◌, ◌<◌, ◌≤◌, true, leb, List, [], ◌∷◌, suc, zero, refl, sym, subst, ◌∙◌, Some, None, inl, inr, arith}
use Rattle.std.specs.Prelude.{Option, is_some, MatchOption}
use Rattle.std.proofs.lemmas.Bool.{cases_Bool, cases_eq, cases_lt, eq-eqb, ne_eqb, lt-ltb, le-ltb, leb-true, and_parts, false≢true}
use Rattle.dynamic_areas.specs.declared.area.Area.{Area}
use Rattle.dynamic_areas.specs.Areas.{find_area}
use Rattle.dynamic_areas.specs.Changing.{held_from}
use Rattle.dynamic_areas.specs.Creating.{least_number, lowest_from, lowest_gap, gap_count}
use Rattle.dynamic_areas.specs.Laws.{IsGap, LowestGapIsChosen, LeastNumberIsChosen, IsHeldAt, ShrinksToFirstHeld}
use Rattle.dynamic_areas.specs.Rooms.{meets_area}
use Rattle.dynamic_areas.proofs.RoomLemmas.{least_free, IsLeast}
use Rattle.dynamic_areas.proofs.WantedLemmas.{gap_found}

by_found : (o : Option ℕ) (P : Type 0) (Q : ℕ → Type 0) → (o ≡ None → P) → ((n : ℕ) → o ≡ Some n → Q n) → MatchOption o P Q
by_found None P Q none some = none refl
by_found (Some n) P Q none some = some n refl

-- each page address below the answer meets an area, and each one where there is no answer
met_below : (areas : List Area) (maximum base n found k : ℕ) → lowest_from areas maximum base n ≡ Some found → base + 4096 * k < found
    → meets_area (base + 4096 * k) maximum areas ≡ true
met_below areas maximum base zero found k e low = absurd (let none : None ≡ Some found = e in cc)
met_below areas maximum base (suc n) found zero e low =
    elim (cases_Bool (meets_area base maximum areas)) [
      | inl met ↦ let here : base + 4096 * 0 ≡ base = omega arith in rw here met
      | inr clear ↦
          let e' = rw clear at e in
          let same : base ≡ found = cc in
          absurd (omega arith)
    ]
met_below areas maximum base (suc n) found (suc k) e low =
    elim (cases_Bool (meets_area base maximum areas)) [
      | inl met ↦
          let there : base + 4096 * suc k ≡ base + 4096 + 4096 * k = omega arith in
          rw there (met_below areas maximum (base + 4096) n found k (rw met at e) (omega arith))
      | inr clear ↦
          let e' = rw clear at e in
          let same : base ≡ found = cc in
          absurd (omega arith)
    ]

met_everywhere : (areas : List Area) (maximum base n k : ℕ) → lowest_from areas maximum base n ≡ None → k < n
    → meets_area (base + 4096 * k) maximum areas ≡ true
met_everywhere areas maximum base zero k e below = absurd (omega arith)
met_everywhere areas maximum base (suc n) zero e below =
    elim (cases_Bool (meets_area base maximum areas)) [
      | inl met ↦ let here : base + 4096 * 0 ≡ base = omega arith in rw here met
      | inr clear ↦ absurd (let some : Some base ≡ None = rw clear at e in cc)
    ]
met_everywhere areas maximum base (suc n) (suc k) e below =
    elim (cases_Bool (meets_area base maximum areas)) [
      | inl met ↦
          let there : base + 4096 * suc k ≡ base + 4096 + 4096 * k = omega arith in
          rw there (met_everywhere areas maximum (base + 4096) n k (rw met at e) (omega arith))
      | inr clear ↦ absurd (let some : Some base ≡ None = rw clear at e in cc)
    ]

-- the number of a page address in the window
record IsPage (maximum base : ℕ) : Type 0 where
  page : ℕ
  is : base ≡ area_window_start + 4096 * page
  below : page < gap_count maximum

page_of : (areas : List Area) (maximum base : ℕ) → maximum ≤ 16777216 → IsGap areas maximum base → IsPage maximum base
page_of areas maximum base small gap =
    let parts = and_parts (leb area_window_start base) (leb (base + maximum) area_window_end) gap.inside in
    let low : area_window_start ≤ base = leb-true area_window_start base parts.0 in
    let high : base + maximum ≤ area_window_end = leb-true (base + maximum) area_window_end parts.1 in
    record { page = (base - area_window_start) / 4096; is = omega (arith, gap.page); below = omega (arith, gap.page) }

not_lower : (areas : List Area) (maximum base other : ℕ) → maximum ≤ 16777216 → lowest_from areas maximum area_window_start (gap_count maximum) ≡ Some base
    → IsGap areas maximum other → base ≤ other
not_lower areas maximum base other small e gap =
    elim (cases_lt other base) [
      | inr low ↦ low
      | inl lower ↦
          let at : IsPage maximum other = page_of areas maximum other small gap in
          let met : meets_area (area_window_start + 4096 * at.page) maximum areas ≡ true =
          met_below areas maximum area_window_start (gap_count maximum) base at.page e (omega (arith, at.is)) in
          absurd (false≢true (sym gap.clear ∙ subst (λ (a : ℕ). meets_area a maximum areas ≡ true) (sym at.is) met))
    ]

nowhere : (areas : List Area) (maximum other : ℕ) → maximum ≤ 16777216 → lowest_from areas maximum area_window_start (gap_count maximum) ≡ None
    → IsGap areas maximum other → ⊥
nowhere areas maximum other small e gap =
    let at : IsPage maximum other = page_of areas maximum other small gap in
    let met : meets_area (area_window_start + 4096 * at.page) maximum areas ≡ true =
    met_everywhere areas maximum area_window_start (gap_count maximum) at.page e at.below in
    false≢true (sym gap.clear ∙ subst (λ (a : ℕ). meets_area a maximum areas ≡ true) (sym at.is) met)

pub lowest_gap_is : LowestGapIsChosen
unfolding lowest_gap
lowest_gap_is areas maximum small =
    by_found (lowest_gap areas maximum) ((other : ℕ) → IsGap areas maximum other → ⊥)
    (λ base. IsGap areas maximum base × ((other : ℕ) → IsGap areas maximum other → base ≤ other))
    (λ e other gap. nowhere areas maximum other small e gap)
    (λ base e. (gap_found areas maximum base small e, λ other gap. not_lower areas maximum base other small e gap))

-- each number below the least free one is taken
taken_below : (areas : List Area) (first number : ℕ) → first ≤ number → number < least_number first areas → is_some (find_area number areas) ≡ true
taken_below [] first number from below = absurd (omega arith)
taken_below (a ∷ others) first number from below =
    elim (cases_lt first a.number) [
      | inl above ↦ absurd (let low = rw (lt-ltb first a.number above) at below in omega arith)
      | inr low ↦ elim (cases_eq a.number first) [
        | inl same ↦
            let rest = rw (le-ltb first a.number low, eq-eqb a.number first same) at below in
            elim (cases_eq a.number number) [
              | inl here ↦ rw (eq-eqb a.number number here) refl
              | inr there ↦ rw (ne_eqb a.number number there) (taken_below others (first + 1) number (omega arith) rest)
            ]
        | inr differ ↦
            let rest = rw (le-ltb first a.number low, ne_eqb a.number first differ) at below in
            rw (ne_eqb a.number number (omega arith)) (taken_below others first number from rest)
      ]
    ]

pub least_number_is : LeastNumberIsChosen
least_number_is areas first table =
    let least : IsLeast first areas (least_number first areas) = least_free first areas table.rooms in
    record { from = least.low; free = least.free; taken = λ number from below. taken_below areas first number from below }

-- the pages from the top down to the first that stays
pub shrinks_to : ShrinksToFirstHeld
shrinks_to stays base zero = record { within = omega arith; loose = λ page low high. absurd (omega arith); last = λ some. absurd (omega arith) }
shrinks_to stays base (suc n) =
    elim (cases_Bool (stays (base + 4096 * n))) [
      | inl here ↦ rw here (record {
        within = omega arith;
        loose = λ page low high. absurd (omega arith);
        last = λ some. let top : suc n - 1 ≡ n = omega arith in rw top here;
      })
      | inr gone ↦
          let rest : IsHeldAt stays base n (held_from stays base n) = shrinks_to stays base n in
          rw gone (record {
            within = omega (arith, rest.within);
            loose = λ page low high. elim (cases_eq page n) [
              | inl top ↦ rw top gone
              | inr lower ↦ rest.loose page low (omega arith)
            ];
            last = rest.last;
          })
    ]
