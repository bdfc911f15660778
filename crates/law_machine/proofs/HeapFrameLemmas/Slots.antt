-- Slots below 64, of instances that are added and removed, and of the actions of a plan.
use Rattle.std.proofs.Common.{ℕ, ◌==◌, ◌≡◌, ◌≤◌, ◌<◌, ◌++◌, true, List, [], ◌∷◌, map, zero, suc, Option, Some, None, refl, subst, inl, inr, arith}
use Rattle.std.proofs.lemmas.Bool.{cases_Bool, eq-eqb, eqb-true, false≢true, or_cases}
use Rattle.instances_table.specs.declared.plans.action.PlanAction.{PlanAction}
use Rattle.instances_table.specs.declared.plans.action.PlanAction.TheVariants as act
use Rattle.instances_table.specs.declared.plans.given.Given.{Given}
use Rattle.instances_table.specs.plans.Doable.{CanDo, is_used, without}
use Rattle.instances_table.specs.plans.Plans.{actions_owed}
use Rattle.instances_table.specs.Additions.{added_to}
use Rattle.instances_table.specs.Changes.{still, with_instance, with_module, without_first_passing, without_instance, is_new, new_module}
use Rattle.instances_table.specs.Lookup.{number_of_title}
use Rattle.instances_table.specs.Modules.{Instance, Module, changed_at, has_instance, has_slot, number_passing, slots_of}
use Rattle.instances.specs.actions.Actions.{image_given, with_another, with_new}
use Rattle.instances.specs.tidying.Slid.{image_moved}
use Rattle.address_map.specs.declared.follow.BlockMove.{BlockMove}
use Rattle.law_machine.proofs.SlidingStoresLemmas.SlidModuleStates.{slots_below}
use Rattle.law_machine.specs.heap_frame.PlanLaws.{AreActionsBelow, AreBelow, DoablePlansAreBelow, ModulesAreBelow}

pub joined_below : (xs ys : List ℕ) → AreBelow xs → AreBelow ys → AreBelow (xs ++ ys)
joined_below [] ys one two = two
joined_below (x ∷ xs) ys one two = (one.0, joined_below xs ys one.1 two)

pub front_below : (xs ys : List ℕ) → AreBelow (xs ++ ys) → AreBelow xs
front_below [] ys all = tt
front_below (x ∷ xs) ys all = (all.0, front_below xs ys all.1)

pub back_below : (xs ys : List ℕ) → AreBelow (xs ++ ys) → AreBelow ys
back_below [] ys all = all
back_below (x ∷ xs) ys all = back_below xs ys all.1

-- the slots of good modules
counted_below : (xs : List ℕ) → ((s : ℕ) → 1 ≤ number_passing (λ x. x == s) xs → s < 64) → AreBelow xs
counted_below [] few = tt
counted_below (x ∷ xs) few = (few x (rw (eq-eqb x x refl) (omega arith)), counted_below xs (λ s some. few s (omega (arith, some))))

pub modules_below : ModulesAreBelow
modules_below modules are = counted_below (slots_of modules) (slots_below modules are)

abbrev slots_in : List Instance → List ℕ
slots_in instances = map (λ (i : Instance). i.slot) instances

-- with an instance less
fewer_below : (slot : ℕ) (instances : List Instance) → AreBelow (slots_in instances) → AreBelow (slots_in (without_first_passing (has_slot slot) instances))
fewer_below slot [] below = tt
fewer_below slot (i ∷ instances) below = elim (cases_Bool (has_slot slot i)) [
  | inl here ↦ rw here below.1
  | inr other ↦ rw other (below.0, fewer_below slot instances below.1)
]

still_below : (slot : ℕ) (m : Module) (left : List Instance) (modules : List Module) → AreBelow (slots_in left) → AreBelow (slots_of modules)
    → AreBelow (slots_of (still slot m left ++ modules))
still_below slot m [] modules one two = two
still_below slot m (i ∷ left) modules one two = joined_below (slots_in (i ∷ left)) (slots_of modules) one two

pub removed_below : (slot : ℕ) (modules : List Module) → AreBelow (slots_of modules) → AreBelow (slots_of (without_instance slot modules))
removed_below slot [] below = tt
removed_below slot (m ∷ modules) below =
    let own : AreBelow (slots_in m.instances) = front_below (slots_in m.instances) (slots_of modules) below in
    let rest : AreBelow (slots_of modules) = back_below (slots_in m.instances) (slots_of modules) below in
    elim (cases_Bool (has_instance slot m)) [
      | inl here ↦ rw here (still_below slot m (without_first_passing (has_slot slot) m.instances) modules (fewer_below slot m.instances own) rest)
      | inr other ↦ rw other (joined_below (slots_in m.instances) (slots_of (without_instance slot modules)) own (removed_below slot modules rest))
    ]

-- with one more
last_below : (m : Module) (modules : List Module) → AreBelow (slots_of modules) → AreBelow (slots_in m.instances) → AreBelow (slots_of (modules ++ m ∷ []))
last_below m [] below new = joined_below (slots_in m.instances) [] new tt
last_below m (k ∷ modules) below new =
    joined_below (slots_in k.instances) (slots_of (modules ++ m ∷ [])) (front_below (slots_in k.instances) (slots_of modules) below)
    (last_below m modules (back_below (slots_in k.instances) (slots_of modules) below) new)

pub new_below : (g : Given) (slot : ℕ) (modules : List Module) → slot < 64 → AreBelow (slots_of modules) → AreBelow (slots_of (with_new g slot modules))
unfolding with_module
new_below g slot modules few below = elim (cases_Bool (is_new g.header.title.items slot modules)) [
  | inl new ↦ rw new (last_below (new_module g.header (image_given g) slot) modules below (few, tt))
  | inr old ↦ rw old below
]

more_below : (name : List ℕ) (slot : ℕ) (instances : List Instance) → slot < 64 → AreBelow (slots_in instances)
    → AreBelow (slots_in (instances ++ record { name = name; slot = slot } ∷ []))
more_below name slot [] few below = (few, tt)
more_below name slot (i ∷ instances) few below = (below.0, more_below name slot instances few below.1)

at_below : (number : ℕ) (name : List ℕ) (slot : ℕ) (modules : List Module) → slot < 64 → AreBelow (slots_of modules)
    → AreBelow (slots_of (changed_at number (with_instance name slot) modules))
at_below number name slot [] few below = tt
at_below zero name slot (m ∷ modules) few below =
    joined_below (slots_in (m.instances ++ record { name = name; slot = slot } ∷ [])) (slots_of modules)
    (more_below name slot m.instances few (front_below (slots_in m.instances) (slots_of modules) below))
    (back_below (slots_in m.instances) (slots_of modules) below)
at_below (suc number) name slot (m ∷ modules) few below =
    joined_below (slots_in m.instances) (slots_of (changed_at number (with_instance name slot) modules))
    (front_below (slots_in m.instances) (slots_of modules) below)
    (at_below number name slot modules few (back_below (slots_in m.instances) (slots_of modules) below))

added_below : (o : Option ℕ) (name : List ℕ) (slot : ℕ) (modules : List Module) → slot < 64 → AreBelow (slots_of modules)
    → AreBelow (slots_of (added_to o name slot modules))
added_below None name slot modules few below = below
added_below (Some number) name slot modules few below = at_below number name slot modules few below

pub another_below : (g : Given) (slot : ℕ) (modules : List Module) → slot < 64 → AreBelow (slots_of modules) → AreBelow (slots_of (with_another g slot modules))
another_below g slot modules few below = added_below (number_of_title g.header.title.items modules) g.name.items slot modules few below

-- wherever images went
pub moved_below : (moves : List BlockMove) (modules : List Module) → AreBelow (slots_of modules) → AreBelow (slots_of (map (image_moved moves) modules))
moved_below moves [] below = tt
moved_below moves (m ∷ modules) below =
    joined_below (slots_in m.instances) (slots_of (map (image_moved moves) modules)) (front_below (slots_in m.instances) (slots_of modules) below)
    (moved_below moves modules (back_below (slots_in m.instances) (slots_of modules) below))

-- the slots of a plan's actions
used_below : (slot : ℕ) (used : List ℕ) → AreBelow used → is_used slot used ≡ true → slot < 64
used_below slot [] below is = absurd (false≢true is)
used_below slot (s ∷ used) below is = elim (or_cases (s == slot) (is_used slot used) is) [
  | inl here ↦ subst (λ (n : ℕ). n < 64) (eqb-true s slot here) below.0
  | inr later ↦ used_below slot used below.1 later
]

without_below : (slot : ℕ) (used : List ℕ) → AreBelow used → AreBelow (without slot used)
without_below slot [] below = tt
without_below slot (s ∷ used) below = elim (cases_Bool (s == slot)) [
  | inl here ↦ rw here (without_below slot used below.1)
  | inr other ↦ rw other (below.0, without_below slot used below.1)
]

doable : (used : List ℕ) (instead actions : List PlanAction) → AreBelow used → CanDo used instead actions → AreActionsBelow actions
doable used instead [] below can = tt
doable used instead (act.Finalise slot fatal ∷ actions) below can =
    (tt, doable used (actions_owed instead (act.Finalise slot fatal)) actions below can.1.1)
doable used instead (act.Remove slot ∷ actions) below can =
    ((used_below slot used below can.0, tt), doable (without slot used) instead actions (without_below slot used below) can.1)
doable used instead (act.FreePrivate slot ∷ actions) below can =
    ((used_below slot used below can.0, tt), doable used instead actions below can.1)
doable used instead (act.Insert slot ∷ actions) below can =
    ((can.1.0, tt), doable (used ++ slot ∷ []) instead actions (joined_below used (slot ∷ []) below (can.1.0, tt)) can.1.1)
doable used instead (act.Instantiate slot ∷ actions) below can =
    ((can.1.0, tt), doable (used ++ slot ∷ []) instead actions (joined_below used (slot ∷ []) below (can.1.0, tt)) can.1.1)
doable used instead (act.GiveUp ∷ actions) below can = (tt, doable used instead actions below can)
doable used instead (act.Slide ∷ actions) below can = (tt, doable used instead actions below can)
doable used instead (act.Initialise slot ∷ actions) below can = (tt, doable used instead actions below can.1.0)

pub doable_below : DoablePlansAreBelow
doable_below modules p are can = doable (slots_of modules) p.instead p.actions (modules_below modules are) can
