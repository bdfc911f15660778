-- The plans of calls find what they name: the slots that they are made of are those of instances,
-- and the slot of a new instance is free.
use Rattle.std.proofs.Common.{◌≡◌, ℕ, ◌<◌, ◌≤◌, ◌==◌, ◌||◌, Bool, true, false, List, [], ◌∷◌, refl, sym, ap, ◌∙◌, inl, inr, zero, suc, arith}
use Rattle.std.specs.Prelude.{slice_get}
use Rattle.std.specs.List.{list_any}
use Rattle.std.proofs.lemmas.Bool.{cases_Bool, eqb-true, eq-eqb, or_left, or_parts, or_right, false≢true, both_ways, false_from_ne_true}
use Rattle.instances_table.specs.plans.Calls.{clear_plan, delete_plan, instantiate_plan, load_plan, reinit_plan, tidy_plan}
use Rattle.instances_table.specs.plans.Doable.{AreSlots, IsDoable, is_used, without, without_all}
use Rattle.instances_table.specs.declared.plans.given.Given.{Given}
use Rattle.instances_table.proofs.PlansLemmas.Doable.{clear_is_doable, instantiate_is_doable, load_is_doable, reinit_is_doable, tidy_is_doable}
use Rattle.instances_table.specs.Modules.{AreModules, Module, has_instance, has_title, number_passing, slot_count, slots_of}
use Rattle.instances_table.specs.Changes.{module_has_slot, is_slot_held, modules_of_title, titled_otherwise}
use Rattle.instances_table.proofs.Counting.{none_counted}
use Rattle.instances_table.proofs.RoomLemmas.{at_most_one, slots_counted}
use Rattle.instances.proofs.ActionsLemmas.Slots.{used_slots}

-- a slot is used exactly where an instance has it
used_here : (s k : ℕ) (ms : List Module) → module_has_slot s (slice_get ms k) ≡ true → is_used s (slots_of ms) ≡ true
used_here s k ms here = used_slots s ms ∙ go k ms here where
  go : (k : ℕ) (ms : List Module) → module_has_slot s (slice_get ms k) ≡ true → is_slot_held s ms ≡ true
  go k [] here = here
  go zero (m ∷ ms) here = or_left (has_instance s m) (is_slot_held s ms) here
  go (suc k) (m ∷ ms) here = or_right (has_instance s m) (is_slot_held s ms) (go k ms here)

-- slots of instances, each once
used_once : (x : ℕ) (xs : List ℕ) → number_passing (λ y. y == x) xs ≡ 0 → is_used x xs ≡ false
used_once x xs none = same xs ∙ none_counted (λ y. y == x) xs none where
  same : (ys : List ℕ) → is_used x ys ≡ list_any (λ y. y == x) ys
  same [] = refl
  same (y ∷ ys) = ap (λ (b : Bool). y == x || b) (same ys)

are_slots : (used old : List ℕ) → ((s : ℕ) → is_used s old ≡ true → is_used s used ≡ true) → ((s : ℕ) → number_passing (λ x. x == s) old ≤ 1) → AreSlots used old
are_slots used [] within once = tt
are_slots used (o ∷ os) within once =
    let self : (o == o) ≡ true = eq-eqb o o refl in
    let here = rw self at (once o) in (
      within o (rw self refl),
      (
        used_once o os (omega (arith, here)),
        are_slots used os (λ s is. within s (or_right (o == s) (is_used s os) is)) (λ s. omega (arith, once s)),
      ),
    )

slots_once : (ms : List Module) → AreModules ms → (s : ℕ) → number_passing (λ x. x == s) (slots_of ms) ≤ 1
slots_once ms are s = omega (arith, slots_counted s ms, at_most_one s (slot_count s ms) (are.slots s))

pub all_slots : (ms : List Module) → AreModules ms → AreSlots (slots_of ms) (slots_of ms)
all_slots ms are = are_slots (slots_of ms) (slots_of ms) (λ s is. is) (slots_once ms are)

-- those of the modules of a title, and those of the others
titled_count : (s : ℕ) (title : List ℕ) (ms : List Module) → slot_count s (modules_of_title title ms) ≤ slot_count s ms
titled_count s title [] = omega arith
titled_count s title (m ∷ ms) = elim (cases_Bool (has_title title m)) [
  | inl is ↦ rw is (omega (arith, titled_count s title ms))
  | inr other ↦ rw other (omega (arith, titled_count s title ms))
]

titled_held : (s : ℕ) (title : List ℕ) (ms : List Module) → is_slot_held s (modules_of_title title ms) ≡ true → is_slot_held s ms ≡ true
titled_held s title [] is = is
titled_held s title (m ∷ ms) is = elim (cases_Bool (has_title title m)) [
  | inr other ↦ or_right (has_instance s m) (is_slot_held s ms) (titled_held s title ms (rw other at is))
  | inl own ↦
      let is' = rw own at is in
      elim (cases_Bool (has_instance s m)) [
        | inl here ↦ or_left (has_instance s m) (is_slot_held s ms) here
        | inr later ↦ or_right (has_instance s m) (is_slot_held s ms) (titled_held s title ms (rw later at is'))
      ]
]

otherwise_held : (s : ℕ) (title : List ℕ) (ms : List Module) → is_slot_held s (titled_otherwise title ms) ≡ false → is_slot_held s (modules_of_title title ms) ≡ false
    → is_slot_held s ms ≡ false
otherwise_held s title [] beside own = refl
otherwise_held s title (m ∷ ms) beside own = elim (cases_Bool (has_title title m)) [
  | inl is ↦
      let own' = or_parts (has_instance s m) (is_slot_held s (modules_of_title title ms)) (rw is at own) in
      rw (own'.0, otherwise_held s title ms (rw is at beside) own'.1) refl
  | inr other ↦
      let beside' = or_parts (has_instance s m) (is_slot_held s (titled_otherwise title ms)) (rw other at beside) in
      rw (beside'.0, otherwise_held s title ms beside'.1 (rw other at own)) refl
]

pub titled_slots : (title : List ℕ) (ms : List Module) → AreModules ms → AreSlots (slots_of ms) (slots_of (modules_of_title title ms))
titled_slots title ms are =
    are_slots (slots_of ms) (slots_of (modules_of_title title ms))
    (λ s is. used_slots s ms ∙ titled_held s title ms (sym (used_slots s (modules_of_title title ms)) ∙ is))
    (λ s. omega (arith, slots_counted s (modules_of_title title ms), titled_count s title ms, at_most_one s (slot_count s ms) (are.slots s)))

-- what is used still, once some slots are not
still_used : (s slot : ℕ) (used : List ℕ) → is_used s (without slot used) ≡ true → (is_used s used ≡ true) × ((slot == s) ≡ false)
still_used s slot [] is = absurd (false≢true is)
still_used s slot (x ∷ xs) is = elim (cases_Bool (x == slot)) [
  | inl gone ↦
      let rest = still_used s slot xs (rw gone at is) in
      (or_right (x == s) (is_used s xs) rest.0, rest.1)
  | inr kept ↦
      let is' = rw kept at is in
      elim (cases_Bool (x == s)) [
        | inr later ↦
            let rest = still_used s slot xs (rw later at is') in
            (rw later rest.0, rest.1)
        | inl here ↦ (
          rw here refl,
          false_from_ne_true (slot == s) (λ same.
              both_ways (x == slot) kept (eq-eqb x slot (eqb-true x s here ∙ sym (eqb-true slot s same)))),
        )
      ]
]

still_used_all : (s : ℕ) (old used : List ℕ) → is_used s (without_all old used) ≡ true → (is_used s used ≡ true) × (is_used s old ≡ false)
still_used_all s [] used is = (is, refl)
still_used_all s (o ∷ os) used is =
    let rest = still_used_all s os (without o used) is in
    let one = still_used s o used rest.0 in
    (one.0, (rw (one.1, rest.1) refl))

pub free_then : (slot : ℕ) (title : List ℕ) (ms : List Module) → is_slot_held slot (titled_otherwise title ms) ≡ false
    → is_used slot (without_all (slots_of (modules_of_title title ms)) (slots_of ms)) ≡ false
free_then slot title ms beside =
    false_from_ne_true (is_used slot (without_all (slots_of (modules_of_title title ms)) (slots_of ms))) (λ is.
    let both = still_used_all slot (slots_of (modules_of_title title ms)) (slots_of ms) is in
    both_ways (is_slot_held slot ms) (otherwise_held slot title ms beside (sym (used_slots slot (modules_of_title title ms)) ∙ both.1))
    (sym (used_slots slot ms) ∙ both.0))

-- the plans
pub load_doable : (given : Given) (title : List ℕ) (slot : ℕ) (ms : List Module) → AreModules ms → slot < 64 → is_slot_held slot (titled_otherwise title ms) ≡ false
    → IsDoable (slots_of ms) (load_plan given (slots_of (modules_of_title title ms)) slot)
load_doable given title slot ms are below free =
    load_is_doable given (slots_of ms) (slots_of (modules_of_title title ms)) slot (titled_slots title ms are) (free_then slot title ms free) below

pub instantiate_doable : (given : Given) (slot : ℕ) (ms : List Module) → slot < 64 → is_slot_held slot ms ≡ false
    → IsDoable (slots_of ms) (instantiate_plan given slot)
instantiate_doable given slot ms below free = instantiate_is_doable given (slots_of ms) slot (used_slots slot ms ∙ free) below

pub clear_doable : (given : Given) (ms : List Module) → AreModules ms → IsDoable (slots_of ms) (clear_plan given (slots_of ms))
clear_doable given ms are = clear_is_doable given (slots_of ms) (slots_of ms) (all_slots ms are)

pub tidy_doable : (given : Given) (ms : List Module) → AreModules ms → IsDoable (slots_of ms) (tidy_plan given (slots_of ms))
tidy_doable given ms are = tidy_is_doable given (slots_of ms) (slots_of ms) (all_slots ms are)

pub delete_doable : (given : Given) (slot k : ℕ) (ms : List Module) → module_has_slot slot (slice_get ms k) ≡ true → IsDoable (slots_of ms) (delete_plan given slot)
delete_doable given slot k ms here = clear_is_doable given (slots_of ms) (slot ∷ []) (used_here slot k ms here, (refl, tt))

pub reinit_doable : (given : Given) (slot k : ℕ) (ms : List Module) → module_has_slot slot (slice_get ms k) ≡ true → IsDoable (slots_of ms) (reinit_plan given slot)
reinit_doable given slot k ms here = reinit_is_doable given (slots_of ms) slot (used_here slot k ms here)
