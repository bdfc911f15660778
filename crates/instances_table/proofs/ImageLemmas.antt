-- The image that goes with an instance.
use Rattle.std.proofs.Common.{◌≡◌, ℕ, ◌<◌, ◌≤◌, true, false, List, [], ◌∷◌, length, get_or, refl, sym, ◌∙◌, zero, suc, Some, None, inl, inr, arith}
use Rattle.std.specs.Prelude.{slice_get}
use Rattle.std.specs.List.{position, list_any}
use Rattle.std.proofs.lemmas.Bool.{cases_Bool, or_parts}
use Rattle.std.proofs.lemmas.List.{length-map}
use Rattle.std.proofs.lemmas.List.Quantifiers.{position-Some}
use Rattle.std.proofs.lemmas.Option.{slice_get-get_or}
use Rattle.arrayvec.specs.ArrayVec.{ArrayVec}
use Rattle.instances_table.specs.declared.loaded.Loaded.{Loaded}
use Rattle.instances_table.specs.Modules.{Instance, Module, has_slot, has_instance}
use Rattle.instances_table.specs.Changes.{without_first_passing, still, module_without}
use Rattle.instances_table.specs.Images.{image_unless, last_image}
use Rattle.instances_table.specs.Table.{instance_of, module_of, modules_of}
use Rattle.instances_table.proofs.PlaceLemmas.{nowhere}
use Rattle.instances_table.proofs.ViewLemmas.{has_slot_in, holding_view, module_view}

-- no instance has the slot
pub last_none : (slot : ℕ) (ms : List Module) → list_any (has_instance slot) ms ≡ false → last_image slot ms ≡ None
last_none slot [] none = refl
last_none slot (m ∷ ms) none =
    let parts = or_parts (has_instance slot m) (list_any (has_instance slot) ms) none in
    rw parts.0 (last_none slot ms parts.1)

-- the first module with the slot is asked
last_at : (slot : ℕ) (ms : List Module) (k : ℕ) (d : Module) → k < length ms → has_instance slot (get_or ms k d) ≡ true
    → ((j : ℕ) → j < k → has_instance slot (get_or ms j d) ≡ false)
    → last_image slot ms ≡ image_unless (get_or ms k d) (module_without slot (get_or ms k d))
last_at slot [] k d within here before = absurd (omega arith)
last_at slot (m ∷ ms) zero d within here before = rw here refl
last_at slot (m ∷ ms) (suc k) d within here before =
    rw (before 0 (omega arith)) (last_at slot ms k d (omega arith) here (λ j less. before (suc j) (omega arith)))

-- what is left of its instances
more_left : (slot : ℕ) (is : List Instance) → 1 < length is → 0 < length (without_first_passing (has_slot slot) is)
more_left slot [] more = absurd (omega arith)
more_left slot (i ∷ is) more = elim (cases_Bool (has_slot slot i)) [
  | inl e ↦ rw e (omega (arith, more))
  | inr e ↦ rw e (omega arith)
]

none_left : (slot : ℕ) (is : List Instance) → length is ≤ 1 → list_any (has_slot slot) is ≡ true → without_first_passing (has_slot slot) is ≡ []
none_left slot [] few some = refl
none_left slot (i ∷ []) few some = elim (cases_Bool (has_slot slot i)) [
  | inl e ↦ rw e refl
  | inr e ↦ absurd (let no : false ≡ true = rw e at some in cc)
]
none_left slot (i ∷ (j ∷ is)) few some = absurd (omega arith)

still_none : (slot : ℕ) (m : Module) (left : List Instance) → 0 < length left → image_unless m (still slot m left) ≡ None
still_none slot m [] some = absurd (omega arith)
still_none slot m (i ∷ is) some = refl

-- the module at an index of a table
pub last_shown : (names : List (ArrayVec ℕ)) (slot : ℕ) (ms : List Loaded) (k : ℕ) (l : Loaded) → position (has_slot_in slot) ms ≡ Some k
    → slice_get ms k ≡ Some l → length l.slots.items ≤ 1 → last_image slot (modules_of names ms) ≡ Some l.image
last_shown names slot ms k l found there few =
    let m : Module = module_of names l in
    let first = position-Some (has_instance slot) (modules_of names ms) k m (holding_view names slot ms ∙ found) in
    let same : get_or (modules_of names ms) k m ≡ m = some_same (sym (slice_get-get_or (modules_of names ms) k m first.0) ∙ module_view names ms k l there) in
    let has : has_instance slot m ≡ true = rw same at first.1 in
    let short : length m.instances ≤ 1 = omega (arith, length-map l.slots.items (instance_of names), few) in
    last_at slot (modules_of names ms) k m first.0 first.1 first.2
    ∙ rw same (rw (none_left slot m.instances short has) refl)
  where
    some_same : {x y : Module} → Some x ≡ Some y → x ≡ y
    some_same e = cc

pub last_of_more : (names : List (ArrayVec ℕ)) (slot : ℕ) (ms : List Loaded) (k : ℕ) (l : Loaded) → position (has_slot_in slot) ms ≡ Some k
    → slice_get ms k ≡ Some l → 1 < length l.slots.items → last_image slot (modules_of names ms) ≡ None
last_of_more names slot ms k l found there more =
    let m : Module = module_of names l in
    let first = position-Some (has_instance slot) (modules_of names ms) k m (holding_view names slot ms ∙ found) in
    let same : get_or (modules_of names ms) k m ≡ m = some_same (sym (slice_get-get_or (modules_of names ms) k m first.0) ∙ module_view names ms k l there) in
    let long : 1 < length m.instances = omega (arith, length-map l.slots.items (instance_of names), more) in
    last_at slot (modules_of names ms) k m first.0 first.1 first.2
    ∙ rw same (still_none slot m (without_first_passing (has_slot slot) m.instances) (more_left slot m.instances long))
  where
    some_same : {x y : Module} → Some x ≡ Some y → x ≡ y
    some_same e = cc

pub last_of_none : (names : List (ArrayVec ℕ)) (slot : ℕ) (ms : List Loaded) → position (has_slot_in slot) ms ≡ None
    → last_image slot (modules_of names ms) ≡ None
last_of_none names slot ms none =
    last_none slot (modules_of names ms) (nowhere (has_instance slot) (modules_of names ms) (holding_view names slot ms ∙ none))

-- a place within a list has an item
pub missing : {X : Type 0} (xs : List X) (k : ℕ) → k < length xs → slice_get xs k ≡ None → ⊥
missing [] k within none = omega arith
missing (x ∷ xs) zero within none = let no : Some x ≡ None = none in cc
missing (x ∷ xs) (suc k) within none = missing xs k (omega arith) none
