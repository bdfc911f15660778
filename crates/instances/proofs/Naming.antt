-- A call that is carried on comes to no instance that its plan doesn't name: such a slot is not
-- named later, and is used after as before.
use Rattle.instances_table.specs.MemoryMap.{environment_text_start}
use Rattle.std.proofs.Common.{◌≡◌, ℕ, ◌==◌, ◌||◌, Bool, true, false, Some, None, List, [], ◌∷◌, ◌++◌, refl, sym, ap, subst, ◌∙◌, inl, inr, zero, suc, arith}
use Rattle.std.proofs.Math.Bool.{or-false}
use Rattle.std.specs.Prelude.{IfSome, Option, if◌then◌else◌, slice_get}
use Rattle.std.specs.List.{list_any}
use Rattle.std.proofs.lemmas.Bool.{cases_Bool, or_parts}
use Rattle.std.proofs.lemmas.Bool.Decides.{nat_tests}
use Rattle.std.proofs.lemmas.List.Folds.{list_any-append}
use Rattle.instances_table.proofs.PlansLemmas.Doable.{some_head}
use Rattle.instances_table.specs.declared.plans.action.PlanAction.{PlanAction}
use Rattle.instances_table.specs.declared.plans.action.PlanAction.TheVariants.{Finalise, Remove, FreePrivate, Insert, Instantiate, GiveUp, Slide, Initialise}
use Rattle.instances_table.specs.declared.plans.code.Code.{Code}
use Rattle.instances_table.specs.declared.plans.code.CodeKind.{CodeKind}
use Rattle.instances_table.specs.declared.plans.code.CodeKind.TheVariants as kind
use Rattle.instances_table.specs.declared.plans.code.Outcome.{Outcome}
use Rattle.instances_table.specs.declared.plans.code.Outcome.TheVariants.{Well, Refused}
use Rattle.instances_table.specs.declared.plans.given.Given.{Given}
use Rattle.instances_table.specs.plans.Carrying.{Carried, carry_of_plan, carried_by, carried_from}
use Rattle.instances_table.specs.plans.Doable.{CanDo, IsDoable, is_used}
use Rattle.instances_table.specs.plans.Plans.{Plan, all_but_first, first_action, actions_owed, plan_after_refusal, plan_after_code, settled_by}
use Rattle.instances_table.specs.declared.parts.Place.{Place}
use Rattle.instances_table.specs.Additions.{added_to}
use Rattle.instances_table.specs.Changes.{is_slot_held, is_new, new_module, still, with_instance, with_module, without_first_passing, without_instance}
use Rattle.instances_table.specs.Lookup.{number_of_title, place_of_slot}
use Rattle.instances_table.specs.Modules.{Instance, Module, changed_at, has_instance, has_slot, slots_of}
use Rattle.instances.specs.module_state.ModuleState.{ModuleState, module_state_after_remove}
use Rattle.instances.proofs.ActionsLemmas.Readying.{slots_outlined}
use Rattle.instances.specs.actions.Actions.{module_state_after_action, image_given, with_another, with_new}
use Rattle.instances.specs.actions.Codes.{code_among, code_at, code_to_enter, entered_at, entered_in, entry_offset, fatal_word}
use Rattle.instances.specs.actions.Ready.{HaveSameOutlines}
use Rattle.instances.proofs.ActionsLemmas.Slots.{used_append, used_slots}
use Rattle.instances.specs.tidying.Slid.{module_state_slid}
use Rattle.instances.specs.Naming.{KeepsOtherInstances, slot_of_action, slots_of_actions, slots_of_plan}
use Rattle.instances.specs.Turns.{IsUnderWay, module_doing}
use Rattle.instances.proofs.Turning.{after_slide}

-- a slot that a plan doesn't name
record IsAside (s : ℕ) (p : Plan) : Type 0 where
  pub actions : is_used s (slots_of_actions p.actions) ≡ false
  pub instead : is_used s (slots_of_actions p.instead) ≡ false

is_aside : (s : ℕ) (p : Plan) → is_used s (slots_of_plan p) ≡ false → IsAside s p
is_aside s p none =
    let parts = or_parts (is_used s (slots_of_actions p.actions)) (is_used s (slots_of_actions p.instead))
    (sym (used_append s (slots_of_actions p.actions) (slots_of_actions p.instead)) ∙ none) in
    record { actions = parts.0; instead = parts.1 }

none_named : (s : ℕ) (p : Plan) → IsAside s p → is_used s (slots_of_plan p) ≡ false
none_named s p aside = used_append s (slots_of_actions p.actions) (slots_of_actions p.instead) ∙ rw (aside.actions, aside.instead) refl

-- an action, and the others
rest_aside : (s : ℕ) (a : PlanAction) (others : List PlanAction) → is_used s (slots_of_actions (a ∷ others)) ≡ false
    → (is_used s (slot_of_action a) ≡ false) × (is_used s (slots_of_actions others) ≡ false)
rest_aside s a others none =
    or_parts (is_used s (slot_of_action a)) (is_used s (slots_of_actions others)) (sym (used_append s (slot_of_action a) (slots_of_actions others)) ∙ none)

more_aside : (s : ℕ) (a : PlanAction) (others : List PlanAction) → is_used s (slot_of_action a) ≡ false → is_used s (slots_of_actions others) ≡ false
    → is_used s (slots_of_actions (a ∷ others)) ≡ false
more_aside s a others one rest = used_append s (slot_of_action a) (slots_of_actions others) ∙ rw (one, rest) refl

last_aside : (s : ℕ) (actions : List PlanAction) (a : PlanAction) → is_used s (slots_of_actions actions) ≡ false → is_used s (slot_of_action a) ≡ false
    → is_used s (slots_of_actions (actions ++ a ∷ [])) ≡ false
last_aside s [] a none one = more_aside s a [] one refl
last_aside s (b ∷ others) a none one =
    let parts = rest_aside s b others none in
    more_aside s b (others ++ a ∷ []) parts.0 (last_aside s others a parts.1 one)

first_aside : (s : ℕ) (actions : List PlanAction) (a : PlanAction) → first_action actions ≡ Some a → is_used s (slots_of_actions actions) ≡ false
    → (is_used s (slot_of_action a) ≡ false) × (is_used s (slots_of_actions (all_but_first actions)) ≡ false)
first_aside s [] a first none = cc
first_aside s (b ∷ others) a first none =
    subst (λ (x : PlanAction). (is_used s (slot_of_action x) ≡ false) × (is_used s (slots_of_actions others) ≡ false)) (some_head a b first)
    (rest_aside s b others none)

owed_aside : (s : ℕ) (instead : List PlanAction) (a : PlanAction) → is_used s (slots_of_actions instead) ≡ false → is_used s (slot_of_action a) ≡ false
    → is_used s (slots_of_actions (actions_owed instead a)) ≡ false
owed_aside s instead (Finalise slot true) none one = none
owed_aside s instead (Finalise slot false) none one = last_aside s instead (Initialise slot) none one
owed_aside s instead (Remove slot) none one = none
owed_aside s instead (FreePrivate slot) none one = none
owed_aside s instead (Insert slot) none one = none
owed_aside s instead (Instantiate slot) none one = none
owed_aside s instead GiveUp none one = none
owed_aside s instead Slide none one = none
owed_aside s instead (Initialise slot) none one = none

-- after the code of the first action has come back
refused_aside : (s : ℕ) (p : Plan) (a : PlanAction) (r0 : ℕ) → first_action p.actions ≡ Some a → IsAside s p → IsAside s (plan_after_refusal p a r0)
refused_aside s p (Finalise slot fatal) r0 first aside = record { actions = aside.instead; instead = refl }
refused_aside s p (Initialise slot) r0 first aside =
    let parts = first_aside s p.actions (Initialise slot) first aside.actions in
    record { actions = more_aside s (Remove slot) (all_but_first p.actions) parts.0 parts.1; instead = aside.instead }
refused_aside s p (Remove slot) r0 first aside = aside
refused_aside s p (FreePrivate slot) r0 first aside = aside
refused_aside s p (Insert slot) r0 first aside = aside
refused_aside s p (Instantiate slot) r0 first aside = aside
refused_aside s p GiveUp r0 first aside = aside
refused_aside s p Slide r0 first aside = aside

settled_by_aside : (s : ℕ) (p : Plan) (o : Outcome) (a : Option PlanAction) → first_action p.actions ≡ a → IsAside s p → IsAside s (settled_by p o a)
settled_by_aside s p o None first aside = aside
settled_by_aside s p Well (Some a) first aside =
    let parts = first_aside s p.actions a first aside.actions in
    record { actions = parts.1; instead = owed_aside s p.instead a aside.instead parts.0 }
settled_by_aside s p (Refused r0) (Some a) first aside = refused_aside s p a r0 first aside

either_aside : (s : ℕ) (t : Bool) (p q : Plan) → IsAside s p → IsAside s q → IsAside s (if t then p else q)
either_aside s true p q one other = one
either_aside s false p q one other = other

settled_aside : (s : ℕ) (p : Plan) (o : Outcome) → IsAside s p → IsAside s (plan_after_code p o)
unfolding plan_after_code
settled_aside s p o aside =
    either_aside s p.runs (settled_by p o (first_action p.actions)) p (settled_by_aside s p o (first_action p.actions) refl aside) aside

-- an action leaves the slots that it doesn't name
held_first : (s slot : ℕ) (is : List Instance) → (slot == s) ≡ false → list_any (has_slot s) (without_first_passing (has_slot slot) is) ≡ list_any (has_slot s) is
held_first s slot [] apart = refl
held_first s slot (i ∷ is) apart = elim (cases_Bool (i.slot == slot)) [
  | inl e ↦
      let other : (i.slot == s) ≡ false = grind (arith, nat_tests) in
      rw (e, other) refl
  | inr e ↦ rw e (ap (λ (b : Bool). i.slot == s || b) (held_first s slot is apart))
]

held_still : (s slot : ℕ) (m : Module) (left : List Instance) (ms : List Module)
    → is_slot_held s (still slot m left ++ ms) ≡ (list_any (has_slot s) left || is_slot_held s ms)
held_still s slot m [] ms = refl
held_still s slot m (i ∷ is) ms = refl

held_less : (s slot : ℕ) (ms : List Module) → (slot == s) ≡ false → is_slot_held s (without_instance slot ms) ≡ is_slot_held s ms
held_less s slot [] apart = refl
held_less s slot (m ∷ ms) apart = elim (cases_Bool (has_instance slot m)) [
  | inl own ↦ rw own (held_still s slot m (without_first_passing (has_slot slot) m.instances) ms
      ∙ ap (λ (b : Bool). b || is_slot_held s ms) (held_first s slot m.instances apart))
  | inr its ↦ rw its (ap (λ (b : Bool). has_instance s m || b) (held_less s slot ms apart))
]

held_new : (s slot : ℕ) (g : Given) (ms : List Module) → (slot == s) ≡ false → is_slot_held s (with_new g slot ms) ≡ is_slot_held s ms
unfolding with_module
held_new s slot g ms apart = elim (cases_Bool (is_new g.header.title.items slot ms)) [
  | inl new ↦ rw new (list_any-append (has_instance s) ms (new_module g.header (image_given g) slot ∷ []) ∙ rw apart (or-false (is_slot_held s ms)))
  | inr none ↦ rw none refl
]

held_more : (s slot number : ℕ) (name : List ℕ) (ms : List Module) → (slot == s) ≡ false
    → is_slot_held s (changed_at number (with_instance name slot) ms) ≡ is_slot_held s ms
held_more s slot number name [] apart = refl
held_more s slot zero name (m ∷ ms) apart =
    ap (λ (b : Bool). b || is_slot_held s ms)
    (list_any-append (has_slot s) m.instances (record { name = name; slot = slot } ∷ []) ∙ rw apart (or-false (has_instance s m)))
held_more s slot (suc number) name (m ∷ ms) apart = ap (λ (b : Bool). has_instance s m || b) (held_more s slot number name ms apart)

held_added : (s slot : ℕ) (number : Option ℕ) (name : List ℕ) (ms : List Module) → (slot == s) ≡ false
    → is_slot_held s (added_to number name slot ms) ≡ is_slot_held s ms
held_added s slot None name ms apart = refl
held_added s slot (Some number) name ms apart = held_more s slot number name ms apart

slots_slid : (old new : List Module) → HaveSameOutlines old new → slots_of new ≡ slots_of old
slots_slid old new slid = sym (slots_outlined new) ∙ ap slots_of slid ∙ slots_outlined old

used_by_held : (s : ℕ) (old new : List Module) → is_slot_held s new ≡ is_slot_held s old → is_used s (slots_of new) ≡ is_used s (slots_of old)
used_by_held s old new same = used_slots s new ∙ same ∙ sym (used_slots s old)

pub apart_from : (s slot : ℕ) → is_used s (slot ∷ []) ≡ false → (slot == s) ≡ false
apart_from s slot none = (or_parts (slot == s) false none).0

used_removed : (s slot : ℕ) (w : ModuleState) → (slot == s) ≡ false → is_used s (slots_of (module_state_after_remove w slot).modules) ≡ is_used s (slots_of w.modules)
unfolding module_state_after_remove
used_removed s slot w apart = used_by_held s w.modules (without_instance slot w.modules) (held_less s slot w.modules apart)

used_acted : (s : ℕ) (g : Given) (w : ModuleState) (a : PlanAction) → is_used s (slot_of_action a) ≡ false
    → is_used s (slots_of (module_state_after_action module_state_slid g w a).modules) ≡ is_used s (slots_of w.modules)
used_acted s g w (Finalise slot fatal) none = refl
used_acted s g w (Remove slot) none = used_removed s slot w (apart_from s slot none)
used_acted s g w (FreePrivate slot) none = refl
used_acted s g w (Insert slot) none = used_by_held s w.modules (with_new g slot w.modules) (held_new s slot g w.modules (apart_from s slot none))
used_acted s g w (Instantiate slot) none =
    used_by_held s w.modules (with_another g slot w.modules)
    (held_added s slot (number_of_title g.header.title.items w.modules) g.name.items w.modules (apart_from s slot none))
used_acted s g w GiveUp none = refl
used_acted s g w Slide none = ap (is_used s) (slots_slid w.modules (module_state_slid g.return_address w).modules (after_slide g.return_address w))
used_acted s g w (Initialise slot) none = refl

-- so does a call that is carried on
record Spares (s : ℕ) (w : ModuleState) (c : Carried ModuleState) : Type 0 where
  pub aside : IsAside s c.rest
  pub used : is_used s (slots_of c.module_state.modules) ≡ is_used s (slots_of w.modules)

spares_by : (s : ℕ) (w : ModuleState) (p : Plan) (a : PlanAction) (others : List PlanAction) (code : Option Code) (on : ModuleState → Plan → Carried ModuleState)
    → is_used s (slots_of_actions (a ∷ others)) ≡ false → IsAside s p → ((v : ModuleState) (q : Plan) → IsAside s q → Spares s v (on v q))
    → Spares s w (carried_by module_doing w p a others code on)
spares_by s w p a others (Some code) on none aside later =
    let parts = rest_aside s a others none in
    record { aside = record { actions = none; instead = aside.instead }; used = used_acted s p.given w a parts.0 }
spares_by s w p a others None on none aside later =
    let parts = rest_aside s a others none in
    let rest = later (module_state_after_action module_state_slid p.given w a) (record p { actions = others; instead = actions_owed p.instead a; runs = false })
    (record { actions = parts.1; instead = owed_aside s p.instead a aside.instead parts.0 }) in
    record { aside = rest.aside; used = rest.used ∙ used_acted s p.given w a parts.0 }

spares_from : (s : ℕ) (actions : List PlanAction) (w : ModuleState) (p : Plan) → is_used s (slots_of_actions actions) ≡ false → IsAside s p
    → Spares s w (carried_from module_doing actions w p)
spares_from s [] w p none aside = record { aside = aside; used = refl }
spares_from s (a ∷ others) w p none aside =
    spares_by s w p a others (code_among w.modules a) (carried_from module_doing others) none aside
    (λ v q later. spares_from s others v q (rest_aside s a others none).1 later)

carried_spares : (s : ℕ) (w : ModuleState) (p : Plan) (c : Carried ModuleState) → carry_of_plan module_doing w p ≡ c → IsAside s p → Spares s w c
unfolding carry_of_plan
carried_spares s w p c is aside = subst (Spares s w) is (spares_from s p.actions w p aside.actions aside)

-- The code that is entered next is that of the first action that is left.
abbrev IsCodeOf : ℕ → List PlanAction → Type 0
IsCodeOf slot [] = ⊥
IsCodeOf slot (Finalise s fatal ∷ others) = s ≡ slot
IsCodeOf slot (Initialise s ∷ others) = s ≡ slot
IsCodeOf slot (a ∷ others) = ⊥

slot_or : ℕ → Option Code → ℕ
slot_or slot None = slot
slot_or slot (Some code) = code.slot

slot_at : (k : CodeKind) (slot entry r10 number : ℕ) (m : Module) → slot_or slot (code_at k slot entry r10 number m) ≡ slot
unfolding slot_or
slot_at k slot entry r10 number m = elim (cases_Bool (entry == 0)) [
  | inl none ↦ rw none refl
  | inr some ↦ rw some refl
]

slot_in : (k : CodeKind) (slot r10 number : ℕ) (m : Option Module) → slot_or slot (entered_in k slot r10 number m) ≡ slot
unfolding slot_or
slot_in k slot r10 number None = refl
slot_in k slot r10 number (Some m) = slot_at k slot (entry_offset k m.header) r10 number m

slot_among : (k : CodeKind) (slot r10 : ℕ) (ms : List Module) (place : Option Place) → slot_or slot (entered_at k slot r10 ms place) ≡ slot
unfolding slot_or
slot_among k slot r10 ms None = refl
slot_among k slot r10 ms (Some place) = slot_in k slot r10 place.instance (slice_get ms place.number)

slot_entered : (k : CodeKind) (slot r10 : ℕ) (ms : List Module) (code : Code) → code_to_enter k slot r10 ms ≡ Some code → slot ≡ code.slot
unfolding slot_or
slot_entered k slot r10 ms code is = sym (slot_among k slot r10 ms (place_of_slot slot ms)) ∙ ap (slot_or slot) is

code_of_first : (ms : List Module) (a : PlanAction) (others : List PlanAction) (code : Code) → code_among ms a ≡ Some code → IsCodeOf code.slot (a ∷ others)
unfolding code_among
code_of_first ms (Finalise s f) others code is = slot_entered kind.Finalise s (fatal_word f) ms code is
code_of_first ms (Initialise s) others code is = slot_entered kind.Initialise s environment_text_start ms code is
code_of_first ms (Remove s) others code is = cc
code_of_first ms (FreePrivate s) others code is = cc
code_of_first ms (Insert s) others code is = cc
code_of_first ms (Instantiate s) others code is = cc
code_of_first ms GiveUp others code is = cc
code_of_first ms Slide others code is = cc

code_by : (w : ModuleState) (p : Plan) (a : PlanAction) (others : List PlanAction) (o : Option Code) (on : ModuleState → Plan → Carried ModuleState) (code : Code)
    → code_among w.modules a ≡ o → ((v : ModuleState) (q : Plan) → (on v q).code ≡ Some code → IsCodeOf code.slot (on v q).rest.actions)
    → (carried_by module_doing w p a others o on).code ≡ Some code → IsCodeOf code.slot (carried_by module_doing w p a others o on).rest.actions
code_by w p a others (Some c) on code is later has = code_of_first w.modules a others code (is ∙ has)
code_by w p a others None on code is later has = later _ _ has

code_from : (actions : List PlanAction) (w : ModuleState) (p : Plan) (code : Code) → (carried_from module_doing actions w p).code ≡ Some code
    → IsCodeOf code.slot (carried_from module_doing actions w p).rest.actions
code_from [] w p code has = cc
code_from (a ∷ others) w p code has =
    code_by w p a others (code_among w.modules a) (carried_from module_doing others) code refl (λ v q later. code_from others v q code later) has

code_is_first : (w : ModuleState) (p : Plan) (c : Carried ModuleState) (code : Code) → carry_of_plan module_doing w p ≡ c → c.code ≡ Some code
    → IsCodeOf code.slot c.rest.actions
unfolding carry_of_plan
code_is_first w p c code is has =
    subst (λ (x : Carried ModuleState). IsCodeOf code.slot x.rest.actions) is
    (code_from p.actions w p code (ap (λ (x : Carried ModuleState). x.code) is ∙ has))

-- Its instance is there, and is one that the plan names.
code_used : (slot : ℕ) (used : List ℕ) (instead actions : List PlanAction) → IsCodeOf slot actions → CanDo used instead actions → is_used slot used ≡ true
code_used slot used instead [] is can = absurd is
code_used slot used instead (Finalise s f ∷ others) is can = ap (λ (x : ℕ). is_used x used) (sym is) ∙ can.0
code_used slot used instead (Initialise s ∷ others) is can = ap (λ (x : ℕ). is_used x used) (sym is) ∙ can.0
code_used slot used instead (Remove s ∷ others) is can = absurd is
code_used slot used instead (FreePrivate s ∷ others) is can = absurd is
code_used slot used instead (Insert s ∷ others) is can = absurd is
code_used slot used instead (Instantiate s ∷ others) is can = absurd is
code_used slot used instead (GiveUp ∷ others) is can = absurd is
code_used slot used instead (Slide ∷ others) is can = absurd is

named_apart : (s slot x : ℕ) (others : List ℕ) → x ≡ slot → is_used s (x ∷ others) ≡ false → (slot == s) ≡ false
named_apart s slot x others is none = ap (λ (y : ℕ). y == s) (sym is) ∙ (or_parts (x == s) (is_used s others) none).0

code_apart : (s slot : ℕ) (actions : List PlanAction) → IsCodeOf slot actions → is_used s (slots_of_actions actions) ≡ false → (slot == s) ≡ false
code_apart s slot [] is none = absurd is
code_apart s slot (Finalise x f ∷ others) is none = named_apart s slot x (slots_of_actions others) is none
code_apart s slot (Initialise x ∷ others) is none = named_apart s slot x (slots_of_actions others) is none
code_apart s slot (Remove x ∷ others) is none = absurd is
code_apart s slot (FreePrivate x ∷ others) is none = absurd is
code_apart s slot (Insert x ∷ others) is none = absurd is
code_apart s slot (Instantiate x ∷ others) is none = absurd is
code_apart s slot (GiveUp ∷ others) is none = absurd is
code_apart s slot (Slide ∷ others) is none = absurd is

-- so for a call that is carried on
there_by : (slots : List ℕ) (q : Plan) (code : Option Code) → ((c : Code) → code ≡ Some c → IsCodeOf c.slot q.actions) → IsDoable slots q
    → IfSome code (λ c. is_used c.slot slots ≡ true)
there_by slots q None of doable = tt
there_by slots q (Some c) of doable = code_used c.slot slots q.instead q.actions (of c refl) doable

apart_by : (p q : Plan) (code : Option Code) → ((c : Code) → code ≡ Some c → IsCodeOf c.slot q.actions)
    → ((s : ℕ) → is_used s (slots_of_plan p) ≡ false → IsAside s q) → IfSome code (λ c. (s : ℕ) → is_used s (slots_of_plan p) ≡ false → (c.slot == s) ≡ false)
apart_by p q None of aside = tt
apart_by p q (Some c) of aside = λ s none. code_apart s c.slot q.actions (of c refl) (aside s none).actions

pub keeps_others : (w v : ModuleState) (p q : Plan) (o : Outcome) (code : Option Code)
    → carry_of_plan module_doing w (plan_after_code p o) ≡ record { module_state = v; rest = q; code = code } → IsUnderWay v q → KeepsOtherInstances w.modules v.modules p q code
keeps_others w v p q o code is going =
    let c : Carried ModuleState = record { module_state = v; rest = q; code = code } in
    let spares : (s : ℕ) → is_used s (slots_of_plan p) ≡ false → Spares s w c =
    λ s none. carried_spares s w (plan_after_code p o) c is (settled_aside s p o (is_aside s p none)) in
    let of : (x : Code) → code ≡ Some x → IsCodeOf x.slot q.actions = λ x has. code_is_first w (plan_after_code p o) c x is has in
    record {
      named = λ s none. none_named s q (spares s none).aside;
      held = λ s none. (spares s none).used;
      there = there_by (slots_of v.modules) q code of going.ready.doable;
      apart = apart_by p q code of (λ s none. (spares s none).aside);
    }
