-- Plans find the instances that they name.
use Rattle.std.proofs.Common.{inl, inr, ◌≡◌, ◌<◌, ℕ, Bool, true, false, nat_eq, cond, List, [], ◌∷◌, ◌++◌, Option, Some, None, refl, sym, ◌∙◌, ap, subst, arith, append_assoc, append-nil}
use Rattle.std.proofs.lemmas.Bool.{true≢false}
use Rattle.std.proofs.lemmas.Bool.Decides.{nat_tests}
use Rattle.instances_table.specs.declared.plans.action.PlanAction.{PlanAction}
use Rattle.instances_table.specs.declared.plans.action.PlanAction.TheVariants.{Finalise, Remove, FreePrivate, Insert, Instantiate, GiveUp, Slide, Initialise}
use Rattle.instances_table.specs.declared.plans.given.Given.{Given}
use Rattle.instances_table.specs.plans.Calls.{clear_actions, finalise_all, initialise_all}
use Rattle.instances_table.specs.plans.Doable.{AreSlots, CanDo, IsDoable, StandsInstead, is_used, used_after, without, without_all}
use Rattle.instances_table.specs.plans.Laws.{ClearIsDoable, InstantiateIsDoable, LoadIsDoable, ReinitIsDoable, StaysDoable, StaysDoableRefused, TidyIsDoable}
use Rattle.instances_table.specs.plans.Plans.{Plan, all_but_first, plan_after_action, first_action, actions_owed, plan_after_refusal}

-- an instance stays when another goes
still_this : (t : Bool) (slot other s : ℕ) (others : List ℕ) → nat_eq s slot ≡ t → nat_eq s other ≡ false → is_used slot (s ∷ others) ≡ true
    → (is_used slot others ≡ true → is_used slot (without other others) ≡ true) → is_used slot (without other (s ∷ others)) ≡ true
still_this true slot other s others test apart used rest = rw (apart, test) refl
still_this false slot other s others test apart used rest = rw (apart, test) (rest (rw test at used))

still_by : (t : Bool) (slot other s : ℕ) (others : List ℕ) → nat_eq s other ≡ t → nat_eq other slot ≡ false → is_used slot (s ∷ others) ≡ true
    → (is_used slot others ≡ true → is_used slot (without other others) ≡ true) → is_used slot (without other (s ∷ others)) ≡ true
still_by true slot other s others test apart used rest =
    let here : nat_eq s slot ≡ false = grind (arith, nat_tests) in
    rw test (rest (rw here at used))
still_by false slot other s others test apart used rest = still_this (nat_eq s slot) slot other s others refl test used rest

still_used : (slot other : ℕ) (used : List ℕ) → nat_eq other slot ≡ false → is_used slot used ≡ true → is_used slot (without other used) ≡ true
still_used slot other [] apart there = there
still_used slot other (s ∷ others) apart there = still_by (nat_eq s other) slot other s others refl apart there (still_used slot other others apart)

-- a slot that isn't among some is none of them
apart_by : (t : Bool) (slot s : ℕ) (others : List ℕ) → nat_eq s slot ≡ t → is_used slot (s ∷ others) ≡ false → (nat_eq slot s ≡ false) × (is_used slot others ≡ false)
apart_by true slot s others test none = absurd (true≢false (rw test at none))
apart_by false slot s others test none = let same : nat_eq slot s ≡ false = grind (arith, nat_tests) in (same, rw test at none)

slots_left : (used : List ℕ) (slot : ℕ) (slots : List ℕ) → is_used slot slots ≡ false → AreSlots used slots → AreSlots (without slot used) slots
slots_left used slot [] none are = tt
slots_left used slot (s ∷ others) none are =
    let apart = apart_by (nat_eq s slot) slot s others refl none in
    (still_used s slot used apart.0 are.0, (are.1.0, slots_left used slot others apart.1 are.1.1))

new_by : (t : Bool) (slot s : ℕ) (used : List ℕ) → nat_eq s slot ≡ t → is_used slot used ≡ true → is_used slot (s ∷ used) ≡ true
new_by true slot s used test there = rw test refl
new_by false slot s used test there = rw test there

new_used : (slot : ℕ) (used : List ℕ) → is_used slot (used ++ slot ∷ []) ≡ true
new_used slot [] = let same : nat_eq slot slot ≡ true = grind (arith, nat_tests) in rw same refl
new_used slot (s ∷ used) = new_by (nat_eq s slot) slot s (used ++ slot ∷ []) refl (new_used slot used)

-- clearing
clear_then : (used slots : List ℕ) (instead after : List PlanAction) → ((u : List ℕ) → StandsInstead u instead) → AreSlots used slots
    → CanDo (without_all slots used) instead after → CanDo used instead (clear_actions slots ++ after)
clear_then used [] instead after stands are can = can
clear_then used (slot ∷ others) instead after stands are can =
    (are.0, (stands used, (are.0, clear_then (without slot used) others instead after stands (slots_left used slot others are.1.0 are.1.1) can)))

pub load_is_doable : LoadIsDoable
load_is_doable given used old slot are free below =
    clear_then used old (GiveUp ∷ []) (Insert slot ∷ Initialise slot ∷ []) (λ _. tt) are
    (free, (below, (new_used slot (without_all old used), (tt, tt))))

pub clear_is_doable : ClearIsDoable
clear_is_doable given used slots are =
    subst (λ (actions : List PlanAction). CanDo used [] actions) (append-nil (clear_actions slots)) (clear_then used slots [] [] (λ _. tt) are tt)

pub reinit_is_doable : ReinitIsDoable
reinit_is_doable given used slot there = (there, (tt, (there, (there, (tt, tt)))))

pub instantiate_is_doable : InstantiateIsDoable
instantiate_is_doable given used slot free below = (free, (below, (new_used slot used, (tt, tt))))

-- initialising all, in a plan and instead of one
can_all : (used slots : List ℕ) (instead : List PlanAction) → AreSlots used slots → CanDo used instead (initialise_all slots)
can_all used [] instead are = tt
can_all used (slot ∷ others) instead are =
    (are.0, (can_all used others instead are.1.1, can_all (without slot used) others instead (slots_left used slot others are.1.0 are.1.1)))

stands_all : (used slots : List ℕ) → AreSlots used slots → StandsInstead used (initialise_all slots)
stands_all used [] are = tt
stands_all used (slot ∷ others) are =
    (are.0, (stands_all used others are.1.1, stands_all (without slot used) others (slots_left used slot others are.1.0 are.1.1)))

not_in_front : (t : Bool) (slot s : ℕ) (before after : List ℕ) → nat_eq s slot ≡ t → is_used slot (s ∷ (before ++ after)) ≡ false
    → (is_used slot (before ++ after) ≡ false → is_used slot before ≡ false) → is_used slot (s ∷ before) ≡ false
not_in_front true slot s before after test none rest = absurd (true≢false (rw test at none))
not_in_front false slot s before after test none rest = rw test (rest (rw test at none))

none_in_front : (slot : ℕ) (before after : List ℕ) → is_used slot (before ++ after) ≡ false → is_used slot before ≡ false
none_in_front slot [] after none = refl
none_in_front slot (s ∷ before) after none = not_in_front (nat_eq s slot) slot s before after refl none (none_in_front slot before after)

front_slots : (used before after : List ℕ) → AreSlots used (before ++ after) → AreSlots used before
front_slots used [] after are = tt
front_slots used (slot ∷ before) after are = (are.0, (none_in_front slot before after are.1.0, front_slots used before after are.1.1))

back_slots : (used before after : List ℕ) → AreSlots used (before ++ after) → AreSlots used after
back_slots used [] after are = are
back_slots used (slot ∷ before) after are = back_slots used before after are.1.1

owing : (before : List ℕ) (slot : ℕ) → initialise_all (before ++ slot ∷ []) ≡ initialise_all before ++ Initialise slot ∷ []
owing [] slot = refl
owing (s ∷ before) slot = ap (λ actions. Initialise s ∷ actions) (owing before slot)

finalise_then : (used before slots : List ℕ) (after : List PlanAction) → AreSlots used (before ++ slots) → ((instead : List PlanAction) → CanDo used instead after)
    → CanDo used (initialise_all before) (finalise_all slots ++ after)
finalise_then used before [] after are can = can (initialise_all before)
finalise_then used before (slot ∷ others) after are can =
    let next : AreSlots used ((before ++ slot ∷ []) ++ others) = subst (AreSlots used) (sym (append_assoc before (slot ∷ []) others)) are in (
      (back_slots used before (slot ∷ others) are).0,
      (
        stands_all used before (front_slots used before (slot ∷ others) are),
        subst (λ (instead : List PlanAction). CanDo used instead (finalise_all others ++ after)) (owing before slot) (finalise_then used (before ++ slot ∷ []) others after next can),
      ),
    )

pub tidy_is_doable : TidyIsDoable
tidy_is_doable given used slots are =
    finalise_then used [] slots (Slide ∷ initialise_all slots) are (λ instead. can_all used slots instead are)

-- after an action
stays : (used : List ℕ) (instead : List PlanAction) (a : PlanAction) (others : List PlanAction) → CanDo used instead (a ∷ others)
    → CanDo (used_after used a) (actions_owed instead a) others
stays used instead (Finalise slot fatal) others can = can.1.1
stays used instead (Remove slot) others can = can.1
stays used instead (FreePrivate slot) others can = can.1
stays used instead (Insert slot) others can = can.1.1
stays used instead (Instantiate slot) others can = can.1.1
stays used instead GiveUp others can = can
stays used instead Slide others can = can
stays used instead (Initialise slot) others can = can.1.0

pub some_head : (a b : PlanAction) → Some b ≡ Some a → b ≡ a
some_head a b same = cc

stays_from : (used : List ℕ) (instead actions : List PlanAction) (a : PlanAction) → first_action actions ≡ Some a → CanDo used instead actions
    → CanDo (used_after used a) (actions_owed instead a) (all_but_first actions)
stays_from used instead [] a first can = cc
stays_from used instead (b ∷ others) a first can =
    stays used instead a others (subst (λ (x : PlanAction). CanDo used instead (x ∷ others)) (some_head a b first) can)

pub stays_doable : StaysDoable
stays_doable used p a first can = stays_from used p.instead p.actions a first can

stands_do : (used : List ℕ) (actions : List PlanAction) → StandsInstead used actions → CanDo used [] actions
stands_do used [] stands = tt
stands_do used (GiveUp ∷ others) stands = stands_do used others stands
stands_do used (Initialise slot ∷ others) stands = (stands.0, (stands_do used others stands.1.0, stands_do (without slot used) others stands.1.1))
stands_do used (Finalise slot fatal ∷ others) stands = absurd stands
stands_do used (Remove slot ∷ others) stands = absurd stands
stands_do used (FreePrivate slot ∷ others) stands = absurd stands
stands_do used (Insert slot ∷ others) stands = absurd stands
stands_do used (Instantiate slot ∷ others) stands = absurd stands
stands_do used (Slide ∷ others) stands = absurd stands

refuses : (used : List ℕ) (given : Given) (instead : List PlanAction) (runs : Bool) (error : Option ℕ) (a : PlanAction) (others : List PlanAction) (r0 : ℕ)
    → CanDo used instead (a ∷ others)
    → IsDoable used (plan_after_refusal (record { given = given; actions = a ∷ others; instead = instead; runs = runs; first = error }) a r0)
refuses used given instead runs error (Finalise slot fatal) others r0 can = stands_do used instead can.1.0
refuses used given instead runs error (Initialise slot) others r0 can = (can.0, can.1.1)
refuses used given instead runs error (Remove slot) others r0 can = can
refuses used given instead runs error (FreePrivate slot) others r0 can = can
refuses used given instead runs error (Insert slot) others r0 can = can
refuses used given instead runs error (Instantiate slot) others r0 can = can
refuses used given instead runs error GiveUp others r0 can = can
refuses used given instead runs error Slide others r0 can = can

refuses_from : (used : List ℕ) (given : Given) (instead : List PlanAction) (runs : Bool) (error : Option ℕ) (actions : List PlanAction) (a : PlanAction) (r0 : ℕ)
    → first_action actions ≡ Some a → CanDo used instead actions
    → IsDoable used (plan_after_refusal (record { given = given; actions = actions; instead = instead; runs = runs; first = error }) a r0)
refuses_from used given instead runs error [] a r0 first can = cc
refuses_from used given instead runs error (b ∷ others) a r0 first can =
    subst (λ (x : PlanAction). IsDoable used (plan_after_refusal (record { given = given; actions = b ∷ others; instead = instead; runs = runs; first = error }) x r0))
    (some_head a b first) (refuses used given instead runs error b others r0 can)

pub stays_doable_refused : StaysDoableRefused
stays_doable_refused used p a r0 first can = refuses_from used p.given p.instead p.runs p.first p.actions a r0 first can

pub ruleset staying = (stays_doable, stays_doable_refused)
