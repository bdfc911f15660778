-- Plans of calls on modules: the slots that they name are below 64, and their texts can be kept.
use Rattle.std.proofs.Common.{ℕ, ◌+◌, ◌≡◌, ◌≤◌, ◌<◌, ◌++◌, nat_lt, Bool, true, false, zero, suc, map, length, List, [], ◌∷◌, Option, Some, None, Result, Ok, Err, inl, inr, arith, lit≤}
use Rattle.std.specs.Prelude.{IfOk, IfSome, if◌then◌else◌, ok_or, option_map, slice_get}
use Rattle.std.proofs.lemmas.Bool.{cases_Bool}
use Rattle.std.proofs.lemmas.Bool.Decides.{nat_tests}
use Rattle.profile.specs.Outcome.{bind}
use Rattle.profile.specs.ErrorNumber.{ErrorNumber}
use Rattle.profile.specs.ErrorNumber.TheVariants.{BadString, InstanceTableFull, ModuleNotFound}
use Rattle.instances.proofs.GoingOn.{bound as bound_any}
use Rattle.instances.specs.Given.{is_text_too_long}
use Rattle.instances.specs.Plans.{clearing, deletion, reinitialisation, tidying}
use Rattle.instances.specs.Adding.{instantiation}
use Rattle.instances_table.specs.declared.plans.action.PlanAction.{PlanAction}
use Rattle.instances_table.specs.declared.plans.action.PlanAction.TheVariants as act
use Rattle.instances_table.specs.declared.plans.given.Given.{Given}
use Rattle.instances_table.specs.plans.Calls.{clear_actions, finalise_all, initialise_all, load_plan}
use Rattle.instances_table.specs.plans.Plans.{Plan}
use Rattle.instances_table.specs.declared.parts.NewInstance.{NewInstance}
use Rattle.instances_table.specs.declared.parts.Place.{Place}
use Rattle.instances_table.specs.Changes.{free_slot, instance_room, is_slot_held, is_named, lowest_free, modules_of_title}
use Rattle.instances_table.specs.Lookup.{looked_up, module_at, number_of_title, slot_at, slot_in}
use Rattle.instances_table.specs.Modules.{Instance, Module, has_title, slots_of}
use Rattle.instances_table.specs.Names.{name_given, new_name, full_name_parts}
use Rattle.law_machine.proofs.HeapFrameLemmas.Slots.{back_below, front_below, joined_below}
use Rattle.law_machine.specs.heap_frame.PlanLaws.{AreActionsBelow, AreBelow}

pub record IsFitPlan (p : Plan) : Type 0 where
  pub below : AreActionsBelow p.actions
  pub text : length p.given.text.items ≤ 255

-- what a call comes to that goes on with what it found
pub bound : {A B E : Type 0} (Q : A → Type 0) (P : B → Type 0) (r : Result A E) (next : A → Result B E) → IfOk r Q
    → ((a : A) → Q a → IfOk (next a) P) → IfOk (bind r next) P
bound Q P (Ok a) next found each = each a found
bound Q P (Err e) next found each = tt

pub bound_if : {A E : Type 0} (P : A → Type 0) (t : Bool) (e : E) (r : Result A E) → IfOk r P
    → IfOk (let q : Result A E = if t then Err e else r in q) P
bound_if P true e r all = tt
bound_if P false e r all = all

pub found_or : {A E : Type 0} (P : A → Type 0) (o : Option A) (e : E) → IfSome o P → IfOk (ok_or o e) P
found_or P None e all = tt
found_or P (Some a) e all = all

-- a text that isn't too long
short_text : (text : List ℕ) → nat_lt 255 (length text) ≡ false → length text ≤ 255
short_text text short = grind (arith, nat_tests)

pub bound_short : {A : Type 0} (P : A → Type 0) (text : List ℕ) (r : Result A ErrorNumber) → (length text ≤ 255 → IfOk r P)
    → IfOk (let q : Result A ErrorNumber = if is_text_too_long text then Err BadString else r in q) P
bound_short P text r each = elim (cases_Bool (is_text_too_long text)) [
  | inl long ↦ rw long tt
  | inr short ↦ rw short (each (short_text text short))
]

-- slots of instances that are there
abbrev slots_in : List Instance → List ℕ
slots_in instances = map (λ (i : Instance). i.slot) instances

instance_low : (is : List Instance) (i : ℕ) → AreBelow (slots_in is) → IfSome (option_map (λ (x : Instance). x.slot) (slice_get is i)) (λ slot. slot < 64)
instance_low [] i below = tt
instance_low (x ∷ xs) zero below = below.0
instance_low (x ∷ xs) (suc i) below = instance_low xs i below.1

slot_low : (ms : List Module) (k i : ℕ) → AreBelow (slots_of ms) → IfSome (slot_in i (slice_get ms k)) (λ slot. slot < 64)
slot_low [] k i below = tt
slot_low (m ∷ ms) zero i below = instance_low m.instances i (front_below (slots_in m.instances) (slots_of ms) below)
slot_low (m ∷ ms) (suc k) i below = slot_low ms k i (back_below (slots_in m.instances) (slots_of ms) below)

slot_at_low : (ms : List Module) (place : Place) → AreBelow (slots_of ms) → IfOk (slot_at ms place) (λ slot. slot < 64)
slot_at_low ms place below =
    found_or (λ slot. slot < 64) (slot_in place.instance (slice_get ms place.number)) ModuleNotFound (slot_low ms place.number place.instance below)

pub titled_below : (title : List ℕ) (ms : List Module) → AreBelow (slots_of ms) → AreBelow (slots_of (modules_of_title title ms))
titled_below title [] below = tt
titled_below title (m ∷ ms) below =
    let own : AreBelow (slots_in m.instances) = front_below (slots_in m.instances) (slots_of ms) below in
    let rest : AreBelow (slots_of (modules_of_title title ms)) = titled_below title ms (back_below (slots_in m.instances) (slots_of ms) below) in
    elim (cases_Bool (has_title title m)) [
      | inl is ↦ rw is (joined_below (slots_in m.instances) (slots_of (modules_of_title title ms)) own rest)
      | inr other ↦ rw other rest
    ]

-- free slots
lowest_low : (ms : List Module) (n slot : ℕ) → slot + n ≤ 64 → IfSome (lowest_free ms slot n) (λ s. s < 64)
unfolding lowest_free
lowest_low ms zero slot room = tt
lowest_low ms (suc n) slot room = elim (cases_Bool (is_slot_held slot ms)) [
  | inl held ↦ rw held (lowest_low ms n (slot + 1) (omega (arith, room)))
  | inr free ↦ rw free (omega (arith, room))
]

pub free_low : (ms : List Module) → IfSome (free_slot ms) (λ slot. slot < 64)
unfolding free_slot
free_low ms = lowest_low ms 64 0 (lit≤ tt)

room_low : (ms : List Module) (full : List ℕ) → IfOk (instance_room ms full) (λ new. new.slot < 64)
unfolding instance_room
room_low ms full =
    bound_any (λ new. new.slot < 64) (name_given (full_name_parts full).name) _ (λ given.
    bound_any (λ new. new.slot < 64) (new_name given) _ (λ name.
    bound_any (λ new. new.slot < 64) (ok_or (number_of_title (full_name_parts full).title ms) ModuleNotFound) _ (λ number.
    bound_if (λ new. new.slot < 64) (is_named name (slice_get ms number)) _ _
    (bound (λ slot. slot < 64) (λ new. new.slot < 64) (ok_or (free_slot ms) InstanceTableFull) _
    (found_or (λ slot. slot < 64) (free_slot ms) InstanceTableFull (free_low ms)) (λ slot few. few)))))

-- the plans
cleared_then : (slots : List ℕ) (rest : List PlanAction) → AreBelow slots → AreActionsBelow rest → AreActionsBelow (clear_actions slots ++ rest)
cleared_then [] rest below all = all
cleared_then (slot ∷ slots) rest below all = (tt, ((below.0, tt), cleared_then slots rest below.1 all))

cleared_below : (slots : List ℕ) → AreBelow slots → AreActionsBelow (clear_actions slots)
cleared_below [] below = tt
cleared_below (slot ∷ slots) below = (tt, ((below.0, tt), cleared_below slots below.1))

all_initialised : (slots : List ℕ) → AreActionsBelow (initialise_all slots)
all_initialised [] = tt
all_initialised (slot ∷ slots) = (tt, all_initialised slots)

all_tidied : (slots others : List ℕ) → AreActionsBelow (finalise_all slots ++ act.Slide ∷ initialise_all others)
all_tidied [] others = (tt, all_initialised others)
all_tidied (slot ∷ slots) others = (tt, all_tidied slots others)

pub load_fit : (given : Given) (old : List ℕ) (slot : ℕ) → length given.text.items ≤ 255 → AreBelow old → slot < 64 → IsFitPlan (load_plan given old slot)
load_fit given old slot few below low = record {
  below = cleared_then old (act.Insert slot ∷ act.Initialise slot ∷ []) below ((low, tt), (tt, tt));
  text = few;
}

pub deletion_fit : (ms : List Module) (full : List ℕ) → AreBelow (slots_of ms) → IfOk (deletion ms full) IsFitPlan
unfolding deletion
deletion_fit ms full below =
    bound_any IsFitPlan (looked_up ms full) _ (λ place.
    bound (λ slot. slot < 64) IsFitPlan (slot_at ms place) _ (slot_at_low ms place below) (λ slot low. record {
      below = cleared_below (slot ∷ []) (low, tt);
      text = lit≤ tt;
    }))

pub reinitialisation_fit : (ms : List Module) (full text : List ℕ) → AreBelow (slots_of ms) → IfOk (reinitialisation ms full text) IsFitPlan
unfolding reinitialisation
reinitialisation_fit ms full text below =
    bound_short IsFitPlan text _ (λ few.
    bound_any IsFitPlan (looked_up ms full) _ (λ place.
    bound (λ slot. slot < 64) IsFitPlan (slot_at ms place) _ (slot_at_low ms place below) (λ slot low. record {
      below = (tt, ((low, tt), (tt, tt)));
      text = few;
    })))

pub instantiation_fit : (ms : List Module) (full text : List ℕ) → IfOk (instantiation ms full text) IsFitPlan
unfolding instantiation
instantiation_fit ms full text =
    bound_short IsFitPlan text _ (λ few.
    bound (λ (new : NewInstance). new.slot < 64) IsFitPlan (instance_room ms full) _ (room_low ms full) (λ new low.
    bound_any IsFitPlan (module_at ms new.number) _ (λ m. record {
      below = ((low, tt), (tt, tt));
      text = few;
    })))

pub clearing_fit : (ms : List Module) → AreBelow (slots_of ms) → IsFitPlan (clearing ms)
clearing_fit ms below = record { below = cleared_below (slots_of ms) below; text = lit≤ tt }

pub tidying_fit : (ms : List Module) (return_address : ℕ) → IsFitPlan (tidying ms return_address)
tidying_fit ms return_address = record { below = all_tidied (slots_of ms) (slots_of ms); text = lit≤ tt }
