-- What a table reports the modules of a title, and of those of other titles, is what the list
-- shows.
use Rattle.std.proofs.Common.{◌≡◌, ℕ, ◌+◌, ◌<◌, ◌≤◌, ◌&&◌, ◌==◌, true, false, List, [], ◌∷◌, append-nil, length, drop, get_or, refl, ◌∙◌, not, inl, inr, arith}
use Rattle.std.specs.List.{list_any}
use Rattle.std.specs.Str.{str_eq_ignore_ascii_case}
use Rattle.std.proofs.lemmas.Bool.{cases_Bool}
use Rattle.std.proofs.lemmas.List.{drop_more}
use Rattle.arrayvec.specs.ArrayVec.{ArrayVec}
use Rattle.instances_table.specs.declared.loaded.Loaded.{Loaded}
use Rattle.instances_table.specs.Modules.{Module, has_slot, has_title, number_passing, slots_of}
use Rattle.instances_table.specs.Changes.{is_slot_held, modules_of_title, titled_otherwise}
use Rattle.instances_table.specs.Table.{instance_of, modules_of, titled_slots}
use Rattle.instances_table.proofs.ViewLemmas.{list_any-map, slots_same}

pub beside_view : (names : List (ArrayVec ℕ)) (title : List ℕ) (slot : ℕ) (ls : List Loaded)
    → is_slot_held slot (titled_otherwise title (modules_of names ls))
    ≡ list_any (λ l. not (str_eq_ignore_ascii_case l.header.title.items title) && list_any (λ s. s == slot) l.slots.items) ls
beside_view names title slot [] = refl
beside_view names title slot (l ∷ ls) = elim (cases_Bool (str_eq_ignore_ascii_case l.header.title.items title)) [
  | inl is ↦ rw (is, beside_view names title slot ls) refl
  | inr other ↦ rw (other, list_any-map (instance_of names) (has_slot slot) l.slots.items, beside_view names title slot ls) refl
]

-- the first module of a title, from a place in the list on
pub titled_passed : (title : List ℕ) (ls : List Loaded) (i : ℕ) (d : Loaded) → i < length ls
    → str_eq_ignore_ascii_case (get_or ls i d).header.title.items title ≡ false → titled_slots title (drop i ls) ≡ titled_slots title (drop (i + 1) ls)
titled_passed title ls i d within other = rw (drop_more ls i d within, other) refl

pub titled_found : (title : List ℕ) (ls : List Loaded) (i : ℕ) (d : Loaded) → i < length ls
    → str_eq_ignore_ascii_case (get_or ls i d).header.title.items title ≡ true → titled_slots title (drop i ls) ≡ (get_or ls i d).slots.items
titled_found title ls i d within is = rw (drop_more ls i d within, is) refl

none_titled : (title : List ℕ) (ms : List Module) → number_passing (has_title title) ms ≡ 0 → modules_of_title title ms ≡ []
none_titled title [] none = refl
none_titled title (m ∷ ms) none = elim (cases_Bool (has_title title m)) [
  | inl is ↦ absurd (let n = rw is at none in omega arith)
  | inr other ↦ rw other (none_titled title ms (let n = rw other at none in omega (arith, n)))
]

-- a title is that of one module at most, so its slots are those of the first
pub titled_view : (names : List (ArrayVec ℕ)) (title : List ℕ) (ls : List Loaded) → number_passing (has_title title) (modules_of names ls) ≤ 1
    → slots_of (modules_of_title title (modules_of names ls)) ≡ titled_slots title ls
titled_view names title [] few = refl
titled_view names title (l ∷ ls) few = elim (cases_Bool (str_eq_ignore_ascii_case l.header.title.items title)) [
  | inl is ↦
      let n = rw is at few in
      let none : modules_of_title title (modules_of names ls) ≡ [] = none_titled title (modules_of names ls) (omega (arith, n)) in
      rw (is, none) (append-nil _ ∙ slots_same names l.slots.items)
  | inr other ↦ rw other (titled_view names title ls (let n = rw other at few in omega (arith, n)))
]
