-- The bytes of the module area that a copy may be made of are those that one live block holds.
use Rattle.dynamic_areas.specs.MemoryMap.{module_area_start}
use Rattle.std.proofs.Common.{◌≡◌, ◌≢◌, ℕ, ◌+◌, ◌-◌, ◌*◌, ◌<◌, ◌≤◌, ◌⊎◌, Bool, true, false, Some, List, [], ◌∷◌, max, min, zero, suc, refl, sym, ap, subst, ◌∙◌, inl, inr, arith}
use Rattle.std.specs.Prelude.{Option, nat_lt}
use Rattle.std.specs.List.{list_any, range_with_len}
use Rattle.std.proofs.lemmas.Bool.{cases_Bool, cases_lt, le-ltb, lt-ltb, or_left, or_right}
use Rattle.dynamic_areas.proofs.InRange.{range_before, range_inside, range_past}
use Rattle.dynamic_areas.specs.Bytes.{in_range}
use Rattle.dynamic_areas.specs.Item.{Item}
use Rattle.dynamic_areas.specs.Item.TheVariants.{Live, Free}
use Rattle.dynamic_areas.specs.Heap.{AreTotals, HeapList}
use Rattle.dynamic_areas.proofs.Reading.{total_facts}
use Rattle.dynamic_areas.specs.Payloads.{area_payload, is_other, payload_from, payload_in}
use Rattle.dynamic_areas.specs.Store.{find_heap}
use Rattle.dynamic_areas.specs.Payload.TheVariants.{Inside, Other}
use Rattle.dynamic_areas.proofs.Apart.{range_parts}
use Rattle.dynamic_areas.specs.Changing.{pages_had}
use Rattle.dynamic_areas.specs.Ground.{AreaStore, IsAreaStore}
use Rattle.dynamic_areas.specs.declared.area.Area.{Area}
use Rattle.rma.specs.Calls.{area_pages}
use Rattle.rma.specs.Copies.{has_bare, is_bare}
use Rattle.rma.proofs.GrowthLemmas.{HasArea, area_there}

-- Among the items of a heap a byte is in no block, or in one, whose bytes all are in it; the one
-- after these is in none.
record IsPayload (at : ℕ) (items : List Item) (a block held : ℕ) : Type 0 where
  pub low : at + 4 ≤ block
  pub here : block ≤ a
  pub below : a < block + held
  pub same : (x : ℕ) → block ≤ x → x < block + held → is_other (payload_from at items x) ≡ false
  pub behind : is_other (payload_from at items (block + held)) ≡ true

none_before : (at : ℕ) (items : List Item) (a : ℕ) → a < at + 4 → payload_from at items a ≡ Other
none_before at [] a low = refl
none_before at (Live t ∷ xs) a low = rw (range_before (at + 4) (t - 4) a low) (none_before (at + t) xs a (omega arith))
none_before at (Free t ∷ xs) a low = none_before (at + t) xs a (omega arith)

first_payload : (at t : ℕ) (xs : List Item) (a : ℕ) → 8 ≤ t → in_range (at + 4) (t - 4) a ≡ true → IsPayload at (Live t ∷ xs) a (at + 4) (t - 4)
first_payload at t xs a least inside =
    let parts : (at + 4 ≤ a) × (a < at + 4 + (t - 4)) = range_parts (at + 4) (t - 4) a inside in
    let end : at + 4 + (t - 4) ≡ at + t = omega (arith, least) in
    record {
      low = omega arith;
      here = parts.0;
      below = parts.1;
      same = λ x low high. rw (range_inside (at + 4) (t - 4) x low high) refl;
      behind = rw (range_past (at + 4) (t - 4) (at + 4 + (t - 4)) (omega arith))
          (ap is_other (none_before (at + t) xs (at + 4 + (t - 4)) (omega (arith, end))));
    }

is_payload : (at : ℕ) (items : List Item) (a block held : ℕ) → AreTotals items → payload_from at items a ≡ Inside block held
    → IsPayload at items a block held
is_payload at [] a block held totals reported = absurd (let no : Other ≡ Inside block held = reported in cc)
is_payload at (Free t ∷ xs) a block held totals reported =
    let rest : IsPayload (at + t) xs a block held = is_payload (at + t) xs a block held totals.1 reported in
    record { low = omega (arith, rest.low); here = rest.here; below = rest.below; same = rest.same; behind = rest.behind }
is_payload at (Live t ∷ xs) a block held totals reported = elim (cases_Bool (in_range (at + 4) (t - 4) a)) [
  | inl own ↦
      let reported' : Inside (at + 4) (t - 4) ≡ Inside block held = rw own at reported in
      let first : at + 4 ≡ block = cc in
      let size : t - 4 ≡ held = cc in
      rw (← first, ← size) (first_payload at t xs a (total_facts t totals.0).0 own)
  | inr later ↦
      let reported' : payload_from (at + t) xs a ≡ Inside block held = rw later at reported in
      let rest : IsPayload (at + t) xs a block held = is_payload (at + t) xs a block held totals.1 reported' in
      record {
        low = omega (arith, rest.low);
        here = rest.here;
        below = rest.below;
        same = λ x low high. rw (range_past (at + 4) (t - 4) x (omega (arith, (total_facts t totals.0).0, rest.low, low))) (rest.same x low high);
        behind = rw (range_past (at + 4) (t - 4) (block + held) (omega (arith, (total_facts t totals.0).0, rest.low))) rest.behind;
      }
]

-- no item says that a byte is outside
shown_cases : (at : ℕ) (items : List Item) (a : ℕ) → (payload_from at items a ≡ Other) ⊎ ((block : ℕ) × (held : ℕ) × (payload_from at items a ≡ Inside block held))
shown_cases at [] a = inl refl
shown_cases at (Free t ∷ xs) a = shown_cases (at + t) xs a
shown_cases at (Live t ∷ xs) a = elim (cases_Bool (in_range (at + 4) (t - 4) a)) [
  | inl own ↦ rw own (inr (at + 4, t - 4, refl))
  | inr later ↦ rw later (shown_cases (at + t) xs a)
]

-- a byte of a range, or none
some_in : (test : ℕ → Bool) (at n a : ℕ) → at ≤ a → a < at + n → test a ≡ true → list_any test (range_with_len at n) ≡ true
some_in test at zero a low high is = absurd (omega arith)
some_in test at (suc n) a low high is = elim (cases_lt at a) [
  | inl later ↦ or_right (test at) (list_any test (range_with_len (at + 1) n)) (some_in test (at + 1) n a (omega arith) (omega arith) is)
  | inr first ↦
      let same : a ≡ at = omega arith in
      or_left (test at) (list_any test (range_with_len (at + 1) n)) (subst (λ (x : ℕ). test x ≡ true) same is)
]

none_in : (test : ℕ → Bool) (at n : ℕ) → ((a : ℕ) → at ≤ a → a < at + n → test a ≡ false) → list_any test (range_with_len at n) ≡ false
none_in test at zero none = refl
none_in test at (suc n) none =
    rw (none at (omega arith) (omega arith)) (none_in test (at + 1) n (λ a low high. none a (omega arith) (omega arith)))

-- the module area's heap
record IsArea (e : AreaStore) (h : HeapList) : Type 0 where
  pub found : find_heap module_area_start e.store.heaps ≡ Some h
  pub totals : AreTotals h.items
  pub start : h.start ≡ module_area_start
  pub end : h.end ≡ 4096 * area_pages e

is_area : (e : AreaStore) (good : IsAreaStore e) → IsArea e (area_there e good).known.heap
is_area e good =
    let area : HasArea e = area_there e good in
    record {
      found = area.known.found;
      totals = area.known.spelled.totals;
      start = area.known.start;
      end = area.known.end ∙ sym (ap (λ (x : Option Area). 4096 * pages_had x) area.found);
    }

bare_in : (e : AreaStore) (h : HeapList) (a : ℕ) → IsArea e h → in_range module_area_start (4096 * area_pages e) a ≡ true
    → is_bare e a ≡ is_other (payload_in h a)
bare_in e h a area inside =
    let inside' : in_range h.start h.end a ≡ true = rw (area.start, area.end) inside in
    rw (inside, area.found, inside') refl

-- the part of a range that lies in the area: from its first byte there up to its end there
pub record IsPart (e : AreaStore) (at len from to : ℕ) : Type 0 where
  pub first : from ≡ max at module_area_start
  pub end : to ≡ min (at + len) (module_area_start + 4096 * area_pages e)

outside_part : (e : AreaStore) (at len from to a : ℕ) → IsPart e at len from to → at ≤ a → a < at + len → (a < from) ⊎ (to ≤ a) → is_bare e a ≡ false
outside_part e at len from to a part low high (inl before) =
    rw (range_before module_area_start (4096 * area_pages e) a (omega (arith, part.first, before, low))) refl
outside_part e at len from to a part low high (inr behind) =
    rw (range_past module_area_start (4096 * area_pages e) a (omega (arith, part.end, behind, high))) refl

pub none_met : (e : AreaStore) (at len from to : ℕ) → IsPart e at len from to → to ≤ from → has_bare e at len ≡ false
none_met e at len from to part empty = none_in (is_bare e) at len (λ a low high. outside_part e at len from to a part low high (elim (cases_lt a from) [
  | inl before ↦ inl before
  | inr later ↦ inr (omega arith)
]))

in_area : (e : AreaStore) (at len from to a : ℕ) → IsPart e at len from to → from ≤ a → a < to → in_range module_area_start (4096 * area_pages e) a ≡ true
in_area e at len from to a part low high =
    range_inside module_area_start (4096 * area_pages e) a (omega (arith, part.first, low)) (omega (arith, part.end, high))

first_shown : (e : AreaStore) (h : HeapList) (at len from to : ℕ) → IsArea e h → IsPart e at len from to → from < to
    → area_payload e.store from ≡ payload_in h from
first_shown e h at len from to area part some =
    let inside : in_range h.start h.end from ≡ true = rw (area.start, area.end) (in_area e at len from to from part (omega arith) some) in
    rw (area.found, inside) refl

pub shown_inside : (e : AreaStore) (at len from to block held : ℕ) → IsAreaStore e → IsPart e at len from to → from < to
    → area_payload e.store from ≡ Inside block held → nat_lt (block + held) to ≡ has_bare e at len
shown_inside e at len from to block held good part some reported =
    let h : HeapList = (area_there e good).known.heap in
    let area : IsArea e h = is_area e good in
    let reported' : payload_from (h.start + 16) h.items from ≡ Inside block held = sym (first_shown e h at len from to area part some) ∙ reported in
    let place : IsPayload (h.start + 16) h.items from block held = is_payload (h.start + 16) h.items from block held area.totals reported' in
    elim (cases_lt (block + held) to) [
      | inl past ↦ rw (lt-ltb (block + held) to past) (sym (some_in (is_bare e) at len (block + held)
          (omega (arith, part.first, place.below)) (omega (arith, part.end, past))
          (bare_in e h (block + held) area (in_area e at len from to (block + held) part (omega (arith, place.below)) past) ∙ place.behind)))
      | inr within ↦ rw (le-ltb (block + held) to within) (sym (none_in (is_bare e) at len (λ a low high. elim (cases_lt a from) [
        | inl before ↦ outside_part e at len from to a part low high (inl before)
        | inr later ↦ elim (cases_lt a to) [
          | inl inside ↦
              bare_in e h a area (in_area e at len from to a part later inside)
              ∙ place.same a (omega (arith, place.here, later)) (omega (arith, within, inside))
          | inr behind ↦ outside_part e at len from to a part low high (inr behind)
        ]
      ])))
    ]

pub shown_other : (e : AreaStore) (at len from to : ℕ) → IsAreaStore e → IsPart e at len from to → from < to
    → ((block held : ℕ) → area_payload e.store from ≢ Inside block held) → has_bare e at len ≡ true
shown_other e at len from to good part some other =
    let h : HeapList = (area_there e good).known.heap in
    let area : IsArea e h = is_area e good in
    let reported : area_payload e.store from ≡ payload_in h from = first_shown e h at len from to area part some in
    elim (shown_cases (h.start + 16) h.items from) [
      | inl bare ↦ some_in (is_bare e) at len from (omega (arith, part.first)) (omega (arith, part.end, some))
          (bare_in e h from area (in_area e at len from to from part (omega arith) some) ∙ ap is_other bare)
      | inr held ↦ absurd (other held.0 held.1 (reported ∙ held.2))
    ]
