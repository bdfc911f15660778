-- Plans that stay ready, action by action.
use Rattle.std.proofs.Common.{◌≡◌, ◌≢◌, ℕ, ◌<◌, ◌≤◌, ◌==◌, ◌||◌, Bool, true, false, Some, None, List, [], ◌∷◌, ◌++◌, length, map, refl, sym, ap, subst, ◌∙◌, zero, suc, inl, inr, arith, length-append}
use Rattle.std.proofs.Math.Bool.{or_assoc}
use Rattle.std.specs.Prelude.{Option}
use Rattle.std.specs.List.{list_any, position}
use Rattle.std.proofs.lemmas.Bool.{cases_Bool, false≢true, or_parts, lt-ltb}
use Rattle.std.proofs.lemmas.List.{length-map}
use Rattle.std.proofs.lemmas.List.Folds.{list_any-append}
use Rattle.std.proofs.lemmas.List.Quantifiers.{position-Some}
use Rattle.instances_table.specs.declared.plans.action.PlanAction.{PlanAction}
use Rattle.instances_table.specs.declared.plans.action.PlanAction.TheVariants.{Finalise, Remove, FreePrivate, Insert, Instantiate, GiveUp, Slide, Initialise}
use Rattle.instances_table.specs.declared.plans.given.Given.{Given}
use Rattle.instances_table.specs.plans.Doable.{CanDo, is_used, used_after, without}
use Rattle.instances_table.specs.plans.Plans.{Plan, all_but_first, first_action, actions_owed, plan_after_refusal}
use Rattle.instances_table.proofs.PlansLemmas.Doable.{some_head, stays_doable, stays_doable_refused}
use Rattle.instances_table.specs.Additions.{added_to}
use Rattle.instances_table.specs.Lookup.{number_of_title}
use Rattle.instances_table.specs.Modules.{AreModules, EachIsModule, Instance, Module, changed_at, has_instance, has_slot, has_title, slots_of}
use Rattle.instances_table.specs.Changes.{is_slot_held, is_new, new_module, with_instance, with_module, without_instance}
use Rattle.instances_table.proofs.PlaceLemmas.{nowhere}
use Rattle.instances_table.proofs.RoomLemmas.{at_most_one, held_slot}
use Rattle.instances.specs.actions.Actions.{image_given, with_another, with_new}
use Rattle.instances.specs.actions.Asked.{CanAct}
use Rattle.instances.specs.actions.Pending.{AreTitledAfter, SettlesOnce, slots_titled}
use Rattle.instances.specs.actions.Ready.{AreAfter, CanNameFirst, ReadyActs, StaysReady, StaysReadyRefused, instantiates, outline}
use Rattle.instances.proofs.ActionsLemmas.Settling.{stays_settled, stays_settled_refused}
use Rattle.instances.proofs.ActionsLemmas.Slots.{any_header, of_title, slots_all, slots_append, slots_in, slots_less, slots_of_title, used_slots}
use Rattle.instances.proofs.ActionsLemmas.Used.{SameUsed, can_same}

-- where no instance of a title's module has a slot no module has the title
some_instance : (p : Instance → Bool) (is : List Instance) → list_any p is ≡ true → 1 ≤ length is
some_instance p [] some = absurd (false≢true some)
some_instance p (i ∷ is) some = omega arith

no_title : (title : List ℕ) (ms : List Module) → EachIsModule ms → slots_titled title ms ≡ [] → list_any (has_title title) ms ≡ false
no_title title [] each none = refl
no_title title (m ∷ ms) each none = elim (cases_Bool (has_title title m)) [
  | inl e ↦
      let slots : slots_in m.instances ++ slots_titled title ms ≡ [] = rw e at none in
      let long : length (slots_in m.instances ++ slots_titled title ms) ≡ 0 = ap length slots in
      let some : 1 ≤ length m.instances = some_instance (has_slot m.preferred) m.instances each.0.preferred in
      absurd (omega (arith, length-append (slots_in m.instances) (slots_titled title ms), length-map m.instances (λ (i : Instance). i.slot), long, some))
  | inr e ↦ rw e (no_title title ms each.1 (rw e at none))
]

-- what the next action asks for
held_in : (slot : ℕ) (ms : List Module) (t : Bool) → is_used slot (slots_of ms) ≡ t → is_slot_held slot ms ≡ t
held_in slot ms t used = sym (used_slots slot ms) ∙ used

is_new_here : (g : Given) (slot : ℕ) (ms : List Module) → AreModules ms → is_used slot (slots_of ms) ≡ false → slot < 64
    → slots_titled g.header.title.items ms ≡ [] → is_new g.header.title.items slot ms ≡ true
is_new_here g slot ms are free below none =
    rw (lt-ltb slot 64 below, held_in slot ms false free, no_title g.header.title.items ms are.each none) refl

acts : (g : Given) (ms : List Module) (instead : List PlanAction) (a : PlanAction) (others : List PlanAction) → AreModules ms → CanDo (slots_of ms) instead (a ∷ others)
    → SettlesOnce (slots_titled g.header.title.items ms) instead (a ∷ others) → CanNameFirst g ms (a ∷ others) → a ≢ Slide → CanAct g ms a
acts g ms instead (Finalise s f) others are can once names other = tt
acts g ms instead (Remove s) others are can once names other = held_slot s ms are (held_in s ms true can.0)
acts g ms instead (FreePrivate s) others are can once names other = held_slot s ms are (held_in s ms true can.0)
acts g ms instead (Insert s) others are can once names other = is_new_here g s ms are can.0 can.1.0 once.0
acts g ms instead (Instantiate s) others are can once names other =
    record { below = can.1.0; free = held_in s ms false can.0; named = (names.1 refl).named }
acts g ms instead GiveUp others are can once names other = tt
acts g ms instead Slide others are can once names other = absurd (other refl)
acts g ms instead (Initialise s) others are can once names other = tt

acts_from : (g : Given) (ms : List Module) (instead actions : List PlanAction) (a : PlanAction) → first_action actions ≡ Some a → AreModules ms
    → CanDo (slots_of ms) instead actions → SettlesOnce (slots_titled g.header.title.items ms) instead actions → CanNameFirst g ms actions → a ≢ Slide
    → CanAct g ms a
acts_from g ms instead [] a first are can once names other = cc
acts_from g ms instead (b ∷ others) a first are can once names other =
    let same : b ≡ a = some_head a b first in
    subst (CanAct g ms) same (acts g ms instead b others are can once names (λ slide. other (sym same ∙ slide)))

pub ready_acts : ReadyActs
ready_acts ms p a are first ready other = acts_from p.given ms p.instead p.actions a first are ready.doable ready.settles ready.names other

-- the slots after an action
title_of : Given → List ℕ
title_of g = g.header.title.items

slots_removed : (s : ℕ) (ms : List Module) → AreModules ms → slots_of (without_instance s ms) ≡ without s (slots_of ms)
slots_removed s ms are =
    sym (slots_all (without_instance s ms)) ∙ slots_less any_header s ms (at_most_one s _ (are.slots s)) ∙ ap (without s) (slots_all ms)

titled_removed : (title : List ℕ) (s : ℕ) (ms : List Module) → AreModules ms
    → slots_titled title (without_instance s ms) ≡ without s (slots_titled title ms)
titled_removed title s ms are =
    sym (slots_of_title title (without_instance s ms)) ∙ slots_less (of_title title) s ms (at_most_one s _ (are.slots s))
    ∙ ap (without s) (slots_of_title title ms)

slots_new : (g : Given) (s : ℕ) (ms : List Module) → is_new g.header.title.items s ms ≡ true → slots_of (with_new g s ms) ≡ slots_of ms ++ s ∷ []
unfolding with_module
slots_new g s ms is =
    let all : with_new g s ms ≡ ms ++ new_module g.header (image_given g) s ∷ [] = rw is refl in
    ap slots_of all ∙ sym (slots_all (ms ++ new_module g.header (image_given g) s ∷ []))
    ∙ slots_append any_header ms (new_module g.header (image_given g) s ∷ []) ∙ ap (λ (xs : List ℕ). xs ++ s ∷ []) (slots_all ms)

swapped : (a b c : Bool) → ((a || b) || c) ≡ ((a || c) || b)
swapped true b c = refl
swapped false true true = refl
swapped false true false = refl
swapped false false true = refl
swapped false false false = refl

held_more : (t s k : ℕ) (name : List ℕ) (ms : List Module) → k < length ms
    → is_slot_held t (changed_at k (with_instance name s) ms) ≡ (is_slot_held t ms || (s == t || false))
held_more t s k name [] within = absurd (omega arith)
held_more t s zero name (m ∷ ms) within =
    rw (list_any-append (has_slot t) m.instances (record { name = name; slot = s } ∷ [])) (swapped (has_instance t m) (s == t || false) (is_slot_held t ms))
held_more t s (suc k) name (m ∷ ms) within =
    ap (λ (b : Bool). has_instance t m || b) (held_more t s k name ms (omega arith)) ∙ sym (or_assoc (has_instance t m) (is_slot_held t ms) (s == t || false))

another_at : (t s : ℕ) (number : Option ℕ) (name title : List ℕ) (ms : List Module) → position (has_title title) ms ≡ number
    → list_any (has_title title) ms ≡ true → is_slot_held t (added_to number name s ms) ≡ (is_slot_held t ms || (s == t || false))
another_at t s None name title ms found titled = absurd (false≢true (sym (nowhere (has_title title) ms found) ∙ titled))
another_at t s (Some k) name title ms found titled = held_more t s k name ms (within ms k found)
  where
    within : (ms : List Module) (k : ℕ) → position (has_title title) ms ≡ Some k → k < length ms
    within [] k found = absurd (let no : None ≡ Some k = found in cc)
    within (m ∷ ms) k found = (position-Some (has_title title) (m ∷ ms) k m found).0

used_another : (g : Given) (s : ℕ) (ms : List Module) → list_any (has_title g.header.title.items) ms ≡ true
    → SameUsed (slots_of ms ++ s ∷ []) (slots_of (with_another g s ms))
used_another g s ms titled t =
    used_slots t (with_another g s ms)
    ∙ another_at t s (number_of_title g.header.title.items ms) g.name.items g.header.title.items ms refl titled
    ∙ sym (used_both t (slots_of ms) ∙ ap (λ (b : Bool). b || (s == t || false)) (used_slots t ms))
  where
    used_both : (t : ℕ) (xs : List ℕ) → is_used t (xs ++ s ∷ []) ≡ (is_used t xs || (s == t || false))
    used_both t [] = refl
    used_both t (x ∷ xs) = ap (λ (b : Bool). x == t || b) (used_both t xs) ∙ sym (or_assoc (x == t) (is_used t xs) (s == t || false))

-- a slide leaves all slots
pub slots_outlined : (ms : List Module) → slots_of (map outline ms) ≡ slots_of ms
slots_outlined [] = refl
slots_outlined (m ∷ ms) = ap (λ (xs : List ℕ). slots_in m.instances ++ xs) (slots_outlined ms)

titled_outlined : (title : List ℕ) (ms : List Module) → slots_titled title (map outline ms) ≡ slots_titled title ms
titled_outlined title [] = refl
titled_outlined title (m ∷ ms) = rw (titled_outlined title ms) refl

used_after_same : (g : Given) (ms new : List Module) (instead : List PlanAction) (a : PlanAction) (others : List PlanAction) → AreModules ms
    → CanDo (slots_of ms) instead (a ∷ others) → SettlesOnce (slots_titled g.header.title.items ms) instead (a ∷ others) → CanNameFirst g ms (a ∷ others)
    → AreAfter g a ms new → SameUsed (used_after (slots_of ms) a) (slots_of new)
used_after_same g ms new instead (Finalise s f) others are can once names after t = ap (λ (xs : List Module). is_used t (slots_of xs)) after
used_after_same g ms new instead (Remove s) others are can once names after t =
    ap (is_used t) (ap slots_of after ∙ slots_removed s ms are)
used_after_same g ms new instead (FreePrivate s) others are can once names after t = ap (λ (xs : List Module). is_used t (slots_of xs)) after
used_after_same g ms new instead (Insert s) others are can once names after t =
    ap (is_used t) (ap slots_of after ∙ slots_new g s ms (is_new_here g s ms are can.0 can.1.0 once.0))
used_after_same g ms new instead (Instantiate s) others are can once names after t =
    ap (λ (xs : List Module). is_used t (slots_of xs)) after ∙ used_another g s ms (names.1 refl).titled t
used_after_same g ms new instead GiveUp others are can once names after t = ap (λ (xs : List Module). is_used t (slots_of xs)) after
used_after_same g ms new instead Slide others are can once names after t =
    ap (is_used t) (sym (slots_outlined new) ∙ ap slots_of after ∙ slots_outlined ms)
used_after_same g ms new instead (Initialise s) others are can once names after t = ap (λ (xs : List Module). is_used t (slots_of xs)) after

titled_after : (g : Given) (ms new : List Module) (a : PlanAction) → AreModules ms → AreAfter g a ms new
    → AreTitledAfter a (slots_titled g.header.title.items ms) (slots_titled g.header.title.items new)
titled_after g ms new (Finalise s f) are after = ap (slots_titled g.header.title.items) after
titled_after g ms new (Remove s) are after = ap (slots_titled g.header.title.items) after ∙ titled_removed g.header.title.items s ms are
titled_after g ms new (FreePrivate s) are after = ap (slots_titled g.header.title.items) after
titled_after g ms new (Insert s) are after = tt
titled_after g ms new (Instantiate s) are after = tt
titled_after g ms new GiveUp are after = ap (slots_titled g.header.title.items) after
titled_after g ms new Slide are after =
    sym (titled_outlined g.header.title.items new) ∙ ap (slots_titled g.header.title.items) after ∙ titled_outlined g.header.title.items ms
titled_after g ms new (Initialise s) are after = ap (slots_titled g.header.title.items) after

-- no instantiation comes later
pub none_first : (g : Given) (ms : List Module) (actions : List PlanAction) → list_any instantiates actions ≡ false → CanNameFirst g ms actions
none_first g ms [] none = tt
none_first g ms (a ∷ others) none =
    let parts = or_parts (instantiates a) (list_any instantiates others) none in
    (parts.1, λ is. absurd (false≢true (sym parts.0 ∙ is)))

rest_names : (g : Given) (ms new : List Module) (actions : List PlanAction) → CanNameFirst g ms actions → CanNameFirst g new (all_but_first actions)
rest_names g ms new [] names = tt
rest_names g ms new (a ∷ others) names = none_first g new others names.0

owed_names : (instead : List PlanAction) (a : PlanAction) → list_any instantiates instead ≡ false → list_any instantiates (actions_owed instead a) ≡ false
owed_names instead (Finalise s true) none = none
owed_names instead (Finalise s false) none = list_any-append instantiates instead (Initialise s ∷ []) ∙ rw none refl
owed_names instead (Remove s) none = none
owed_names instead (FreePrivate s) none = none
owed_names instead (Insert s) none = none
owed_names instead (Instantiate s) none = none
owed_names instead GiveUp none = none
owed_names instead Slide none = none
owed_names instead (Initialise s) none = none

same_from : (g : Given) (ms new : List Module) (instead actions : List PlanAction) (a : PlanAction) → first_action actions ≡ Some a → AreModules ms
    → CanDo (slots_of ms) instead actions → SettlesOnce (slots_titled g.header.title.items ms) instead actions → CanNameFirst g ms actions
    → AreAfter g a ms new → SameUsed (used_after (slots_of ms) a) (slots_of new)
same_from g ms new instead [] a first are can once names after = cc
same_from g ms new instead (b ∷ others) a first are can once names after =
    let same : b ≡ a = some_head a b first in
    subst (λ (x : PlanAction). AreAfter g x ms new → SameUsed (used_after (slots_of ms) x) (slots_of new)) same
    (used_after_same g ms new instead b others are can once names) after

pub stays_ready : StaysReady
stays_ready ms new p a are first ready after = record {
  doable = can_same (used_after (slots_of ms) a) (slots_of new) (actions_owed p.instead a) (all_but_first p.actions)
      (same_from p.given ms new p.instead p.actions a first are ready.doable ready.settles ready.names after)
      (stays_doable (slots_of ms) p a first ready.doable);
  settles = stays_settled (slots_titled p.given.header.title.items ms) (slots_titled p.given.header.title.items new) p a first
      (titled_after p.given ms new a are after) ready.settles;
  names = rest_names p.given ms new p.actions ready.names;
  instead = owed_names p.instead a ready.instead;
}

-- a refusal
refused_names : (g : Given) (ms : List Module) (instead : List PlanAction) (runs : Bool) (error : Option ℕ) (actions : List PlanAction) (a : PlanAction) (r0 : ℕ)
    → CanNameFirst g ms actions → list_any instantiates instead ≡ false
    → (let p = plan_after_refusal (record { given = g; actions = actions; instead = instead; runs = runs; first = error }) a r0 in
    CanNameFirst g ms p.actions × (list_any instantiates p.instead ≡ false))
refused_names g ms instead runs error actions (Finalise s f) r0 names none = (none_first g ms instead none, refl)
refused_names g ms instead runs error [] (Initialise s) r0 names none = ((refl, λ is. absurd (false≢true is)), none)
refused_names g ms instead runs error (b ∷ others) (Initialise s) r0 names none = ((names.0, λ is. absurd (false≢true is)), none)
refused_names g ms instead runs error actions (Remove s) r0 names none = (names, none)
refused_names g ms instead runs error actions (FreePrivate s) r0 names none = (names, none)
refused_names g ms instead runs error actions (Insert s) r0 names none = (names, none)
refused_names g ms instead runs error actions (Instantiate s) r0 names none = (names, none)
refused_names g ms instead runs error actions GiveUp r0 names none = (names, none)
refused_names g ms instead runs error actions Slide r0 names none = (names, none)

pub given_stays : (p : Plan) (a : PlanAction) (r0 : ℕ) → (plan_after_refusal p a r0).given ≡ p.given
given_stays p (Finalise s f) r0 = refl
given_stays p (Remove s) r0 = refl
given_stays p (FreePrivate s) r0 = refl
given_stays p (Insert s) r0 = refl
given_stays p (Instantiate s) r0 = refl
given_stays p GiveUp r0 = refl
given_stays p Slide r0 = refl
given_stays p (Initialise s) r0 = refl

pub stays_ready_refused : StaysReadyRefused
stays_ready_refused ms p a r0 first ready =
    let given : (plan_after_refusal p a r0).given ≡ p.given = given_stays p a r0 in
    let names = refused_names p.given ms p.instead p.runs p.first p.actions a r0 ready.names ready.instead in
    record {
      doable = stays_doable_refused (slots_of ms) p a r0 first ready.doable;
      settles = rw given (stays_settled_refused (slots_titled p.given.header.title.items ms) p a r0 first ready.settles);
      names = rw given names.0;
      instead = names.1;
    }
