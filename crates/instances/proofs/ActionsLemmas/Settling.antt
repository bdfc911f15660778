-- Plans that settle once what becomes of a new image.
use Rattle.std.proofs.Common.{◌≡◌, ℕ, Bool, true, false, Some, List, [], ◌∷◌, ◌++◌, refl, sym, ap, subst, ◌∙◌}
use Rattle.std.proofs.lemmas.Bool.{true≢false, false≢true}
use Rattle.instances_table.proofs.PlansLemmas.Doable.{some_head}
use Rattle.instances_table.specs.declared.plans.action.PlanAction.{PlanAction}
use Rattle.instances_table.specs.declared.plans.action.PlanAction.TheVariants.{Finalise, Remove, FreePrivate, Insert, Instantiate, GiveUp, Slide, Initialise}
use Rattle.instances_table.specs.declared.plans.given.Given.{Given}
use Rattle.instances_table.specs.plans.Calls.{clear_actions, finalise_all, initialise_all}
use Rattle.instances_table.specs.plans.Doable.{without, without_all}
use Rattle.instances_table.specs.plans.Plans.{Plan, all_but_first, first_action, actions_owed, plan_after_refusal}
use Rattle.instances.specs.actions.Actions.{image_given}
use Rattle.instances.specs.actions.Laws.{ClearSettles, InstantiateSettles, LoadSettles, NoneSlides, PendingIsSettled, PendingOutlastsRefusal, PendingStays, ReinitSettles, StaysSettled, StaysSettledRefused, TidySettles}
use Rattle.instances.specs.actions.Pending.{AreTitledAfter, GivesUpOnce, IsSettledOnce, SettlesOnce, is_pending, pending_by, pending_of, settles}

-- clearing settles nothing
pub clear_then : (slots : List ℕ) (after : List PlanAction) → is_pending (clear_actions slots ++ after) ≡ is_pending after
clear_then [] after = refl
clear_then (slot ∷ others) after = clear_then others after

pub clear_none : (slots : List ℕ) → is_pending (clear_actions slots) ≡ false
clear_none [] = refl
clear_none (slot ∷ others) = clear_none others

load_from : (titled old : List ℕ) (slot : ℕ) → without_all old titled ≡ []
    → SettlesOnce titled (GiveUp ∷ []) (clear_actions old ++ Insert slot ∷ Initialise slot ∷ [])
load_from titled [] slot none = (none, (refl, (tt, tt)))
load_from titled (s ∷ others) slot none =
    (sym (clear_then others (Insert slot ∷ Initialise slot ∷ [])), ((refl, tt), load_from (without s titled) others slot none))

pub load_settles : LoadSettles
load_settles given titled old slot none = load_from titled old slot none

clear_from : (titled slots : List ℕ) → SettlesOnce titled [] (clear_actions slots)
clear_from titled [] = tt
clear_from titled (s ∷ others) = (sym (clear_none others), (tt, clear_from (without s titled) others))

pub clear_settles : ClearSettles
clear_settles given titled slots = clear_from titled slots

pub reinit_settles : ReinitSettles
reinit_settles given titled slot = (refl, (tt, (tt, tt)))

pub instantiate_settles : InstantiateSettles
instantiate_settles given titled slot = (refl, (tt, tt))

-- nor does a tidy
initialise_settles : (titled : List ℕ) (instead : List PlanAction) (slots : List ℕ) → SettlesOnce titled instead (initialise_all slots)
initialise_settles titled instead [] = tt
initialise_settles titled instead (s ∷ others) = (initialise_settles titled instead others, initialise_settles (without s titled) instead others)

initialise_none : (slots : List ℕ) → is_pending (initialise_all slots) ≡ false
initialise_none [] = refl
initialise_none (s ∷ others) = initialise_none others

pub tidy_none : (slots all : List ℕ) → is_pending (finalise_all slots ++ Slide ∷ initialise_all all) ≡ false
tidy_none [] all = initialise_none all
tidy_none (s ∷ others) all = tidy_none others all

-- one initialisation more that is owed
none_more : (instead : List PlanAction) (slot : ℕ) → is_pending instead ≡ false → is_pending (instead ++ Initialise slot ∷ []) ≡ false
none_more [] slot none = refl
none_more (Finalise s f ∷ others) slot none = none_more others slot none
none_more (Remove s ∷ others) slot none = none_more others slot none
none_more (FreePrivate s ∷ others) slot none = none_more others slot none
none_more (Insert s ∷ others) slot none = absurd (true≢false none)
none_more (Instantiate s ∷ others) slot none = none_more others slot none
none_more (GiveUp ∷ others) slot none = absurd (true≢false none)
none_more (Slide ∷ others) slot none = none_more others slot none
none_more (Initialise s ∷ others) slot none = none_more others slot none

once_more : (instead : List PlanAction) (slot : ℕ) → is_pending instead ≡ false → GivesUpOnce instead → GivesUpOnce (instead ++ Initialise slot ∷ [])
once_more [] slot none once = tt
once_more (Initialise s ∷ others) slot none once = once_more others slot none once
once_more (GiveUp ∷ others) slot none once = absurd (true≢false none)
once_more (Finalise s f ∷ others) slot none once = absurd once
once_more (Remove s ∷ others) slot none once = absurd once
once_more (FreePrivate s ∷ others) slot none once = absurd once
once_more (Insert s ∷ others) slot none once = absurd once
once_more (Instantiate s ∷ others) slot none once = absurd once
once_more (Slide ∷ others) slot none once = absurd once

tidy_from : (titled : List ℕ) (instead : List PlanAction) (slots all : List ℕ) → is_pending instead ≡ false → GivesUpOnce instead
    → SettlesOnce titled instead (finalise_all slots ++ Slide ∷ initialise_all all)
tidy_from titled instead [] all none once = (initialise_none all, initialise_settles titled instead all)
tidy_from titled instead (s ∷ others) all none once =
    (none ∙ sym (tidy_none others all), (once, tidy_from titled (instead ++ Initialise s ∷ []) others all (none_more instead s none) (once_more instead s none once)))

pub tidy_settles : TidySettles
tidy_settles given titled slots = tidy_from titled [] slots slots refl tt

-- where nothing is settled any more the title's slots don't matter
no_matter : (old new : List ℕ) (instead actions : List PlanAction) → is_pending actions ≡ false → SettlesOnce old instead actions → SettlesOnce new instead actions
no_matter old new instead [] none once = tt
no_matter old new instead (Finalise s f ∷ others) none once = (once.0, (once.1.0, no_matter old new (actions_owed instead (Finalise s f)) others none once.1.1))
no_matter old new instead (Remove s ∷ others) none once = no_matter (without s old) (without s new) instead others none once
no_matter old new instead (FreePrivate s ∷ others) none once = no_matter old new instead others none once
no_matter old new instead (Insert s ∷ others) none once = absurd (true≢false none)
no_matter old new instead (Instantiate s ∷ others) none once = (once.0, no_matter old new instead others none once.1)
no_matter old new instead (GiveUp ∷ others) none once = absurd (true≢false none)
no_matter old new instead (Slide ∷ others) none once = (once.0, no_matter old new instead others none once.1)
no_matter old new instead (Initialise s ∷ others) none once =
    (no_matter old new instead others none once.0, no_matter (without s old) (without s new) instead others none once.1)

same_titled : (old new : List ℕ) (instead others : List PlanAction) → new ≡ old → SettlesOnce old instead others → SettlesOnce new instead others
same_titled old new instead others same once = subst (λ (t : List ℕ). SettlesOnce t instead others) (sym same) once

stays : (old new : List ℕ) (instead : List PlanAction) (a : PlanAction) (others : List PlanAction) → AreTitledAfter a old new → SettlesOnce old instead (a ∷ others)
    → SettlesOnce new (actions_owed instead a) others
stays old new instead (Finalise s f) others same once = same_titled old new (actions_owed instead (Finalise s f)) others same once.1.1
stays old new instead (Remove s) others same once = same_titled (without s old) new instead others same once
stays old new instead (FreePrivate s) others same once = same_titled old new instead others same once
stays old new instead (Insert s) others same once = no_matter old new instead others once.1.0 once.1.1
stays old new instead (Instantiate s) others same once = no_matter old new instead others once.0 once.1
stays old new instead GiveUp others same once = same_titled old new instead others same once.1
stays old new instead Slide others same once = same_titled old new instead others same once.1
stays old new instead (Initialise s) others same once = same_titled old new instead others same once.0

stays_from : (old new : List ℕ) (instead actions : List PlanAction) (a : PlanAction) → first_action actions ≡ Some a → AreTitledAfter a old new
    → SettlesOnce old instead actions → SettlesOnce new (actions_owed instead a) (all_but_first actions)
stays_from old new instead [] a first after once = cc
stays_from old new instead (b ∷ others) a first after once =
    stays old new instead a others after (subst (λ (x : PlanAction). SettlesOnce old instead (x ∷ others)) (some_head a b first) once)

pub stays_settled : StaysSettled
stays_settled old new p a first after once = stays_from old new p.instead p.actions a first after once

-- a refusal
instead_settles : (titled : List ℕ) (instead : List PlanAction) → GivesUpOnce instead → SettlesOnce titled [] instead
instead_settles titled [] once = tt
instead_settles titled (GiveUp ∷ others) once = (once.0, instead_settles titled others once.1)
instead_settles titled (Initialise s ∷ others) once = (instead_settles titled others once, instead_settles (without s titled) others once)
instead_settles titled (Finalise s f ∷ others) once = absurd once
instead_settles titled (Remove s ∷ others) once = absurd once
instead_settles titled (FreePrivate s ∷ others) once = absurd once
instead_settles titled (Insert s ∷ others) once = absurd once
instead_settles titled (Instantiate s ∷ others) once = absurd once
instead_settles titled (Slide ∷ others) once = absurd once

-- the plan of a list of actions
abbrev plan_with : Plan → List PlanAction → Plan
plan_with p actions = record { given = p.given; actions = actions; instead = p.instead; runs = p.runs; first = p.first }

refuses : (titled : List ℕ) (p : Plan) (a : PlanAction) (others : List PlanAction) (r0 : ℕ) → SettlesOnce titled p.instead (a ∷ others)
    → IsSettledOnce titled (plan_after_refusal (plan_with p (a ∷ others)) a r0)
refuses titled p (Finalise s f) others r0 once = instead_settles titled p.instead once.1.0
refuses titled p (Initialise s) others r0 once = once.1
refuses titled p (Remove s) others r0 once = once
refuses titled p (FreePrivate s) others r0 once = once
refuses titled p (Insert s) others r0 once = once
refuses titled p (Instantiate s) others r0 once = once
refuses titled p GiveUp others r0 once = once
refuses titled p Slide others r0 once = once

refuses_from : (titled : List ℕ) (p : Plan) (actions : List PlanAction) (a : PlanAction) (r0 : ℕ) → first_action actions ≡ Some a → SettlesOnce titled p.instead actions
    → IsSettledOnce titled (plan_after_refusal (plan_with p actions) a r0)
refuses_from titled p [] a r0 first once = cc
refuses_from titled p (b ∷ others) a r0 first once =
    subst (λ (x : PlanAction). IsSettledOnce titled (plan_after_refusal (plan_with p (b ∷ others)) x r0)) (some_head a b first) (refuses titled p b others r0 once)

pub stays_settled_refused : StaysSettledRefused
stays_settled_refused titled p a r0 first once = refuses_from titled p p.actions a r0 first once

-- what is pending
pending_from : (given : Given) (actions : List PlanAction) (a : PlanAction) → first_action actions ≡ Some a → settles a ≡ false
    → pending_by (is_pending (all_but_first actions)) given [] ≡ pending_by (is_pending actions) given []
pending_from given [] a first none = cc
pending_from given (b ∷ others) a first none =
    let not : settles b ≡ false = ap settles (some_head a b first) ∙ none in
    rw not refl

pub pending_stays : PendingStays
pending_stays p a first none = pending_from p.given p.actions a first none

settled_by : (titled : List ℕ) (instead : List PlanAction) (a : PlanAction) (others : List PlanAction) → settles a ≡ true → SettlesOnce titled instead (a ∷ others)
    → is_pending others ≡ false
settled_by titled instead (Insert s) others does once = once.1.0
settled_by titled instead GiveUp others does once = once.0
settled_by titled instead (Finalise s f) others does once = absurd (false≢true does)
settled_by titled instead (Remove s) others does once = absurd (false≢true does)
settled_by titled instead (FreePrivate s) others does once = absurd (false≢true does)
settled_by titled instead (Instantiate s) others does once = absurd (false≢true does)
settled_by titled instead Slide others does once = absurd (false≢true does)
settled_by titled instead (Initialise s) others does once = absurd (false≢true does)

settled_from : (titled : List ℕ) (given : Given) (instead actions : List PlanAction) (a : PlanAction) → first_action actions ≡ Some a → SettlesOnce titled instead actions
    → settles a ≡ true
    → (pending_by (is_pending actions) given [] ≡ image_given given ∷ []) × (pending_by (is_pending (all_but_first actions)) given [] ≡ [])
settled_from titled given instead [] a first once does = cc
settled_from titled given instead (b ∷ others) a first once does =
    let is : settles b ≡ true = ap settles (some_head a b first) ∙ does in
    (rw is refl, rw (settled_by titled instead b others is once) refl)

pub pending_is_settled : PendingIsSettled
pending_is_settled titled p a first once does = settled_from titled p.given p.instead p.actions a first once does

slides_from : (titled : List ℕ) (given : Given) (instead actions : List PlanAction) → first_action actions ≡ Some Slide → SettlesOnce titled instead actions
    → (pending_by (is_pending actions) given [] ≡ []) × (pending_by (is_pending (all_but_first actions)) given [] ≡ [])
slides_from titled given instead [] first once = cc
slides_from titled given instead (b ∷ others) first once =
    let none : is_pending others ≡ false = (subst (λ (x : PlanAction). SettlesOnce titled instead (x ∷ others)) (some_head Slide b first) once).0 in
    let not : settles b ≡ false = ap settles (some_head Slide b first) in
    (rw not (rw none refl), rw none refl)

pub none_slides : NoneSlides
none_slides titled p first once = slides_from titled p.given p.instead p.actions first once

outlasts : (titled : List ℕ) (p : Plan) (a : PlanAction) (others : List PlanAction) (r0 : ℕ) → SettlesOnce titled p.instead (a ∷ others)
    → pending_of (plan_after_refusal (plan_with p (a ∷ others)) a r0) ≡ pending_of (plan_with p (a ∷ others))
outlasts titled p (Finalise s f) others r0 once = ap (λ (t : Bool). pending_by t p.given []) once.0
outlasts titled p (Initialise s) others r0 once = refl
outlasts titled p (Remove s) others r0 once = refl
outlasts titled p (FreePrivate s) others r0 once = refl
outlasts titled p (Insert s) others r0 once = refl
outlasts titled p (Instantiate s) others r0 once = refl
outlasts titled p GiveUp others r0 once = refl
outlasts titled p Slide others r0 once = refl

outlasts_from : (titled : List ℕ) (p : Plan) (actions : List PlanAction) (a : PlanAction) (r0 : ℕ) → first_action actions ≡ Some a → SettlesOnce titled p.instead actions
    → pending_of (plan_after_refusal (plan_with p actions) a r0) ≡ pending_of (plan_with p actions)
outlasts_from titled p [] a r0 first once = cc
outlasts_from titled p (b ∷ others) a r0 first once =
    subst (λ (x : PlanAction). pending_of (plan_after_refusal (plan_with p (b ∷ others)) x r0) ≡ pending_of (plan_with p (b ∷ others))) (some_head a b first)
    (outlasts titled p b others r0 once)

pub pending_outlasts : PendingOutlastsRefusal
pending_outlasts titled p a r0 first once = outlasts_from titled p p.actions a r0 first once
