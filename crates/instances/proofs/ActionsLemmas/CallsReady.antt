-- The plans of calls are ready when they are made.
use Rattle.std.proofs.Common.{◌≡◌, ℕ, ◌==◌, true, false, List, [], ◌∷◌, ◌++◌, refl, sym, ◌∙◌, inl, inr}
use Rattle.std.specs.List.{list_any}
use Rattle.std.proofs.lemmas.Bool.{cases_Bool, eq-eqb, eqb-true, false≢true}
use Rattle.instances_table.specs.declared.plans.action.PlanAction.{PlanAction}
use Rattle.instances_table.specs.declared.plans.action.PlanAction.TheVariants.{Insert, Initialise, Slide}
use Rattle.instances_table.specs.plans.Calls.{clear_actions, finalise_all, initialise_all, load_actions, tidy_actions}
use Rattle.instances_table.specs.plans.Doable.{is_used, without, without_all}
use Rattle.instances.specs.actions.Ready.{AllGo, ClearIsReady, InstantiateIsReady, LoadIsReady, ReinitIsReady, TidyIsReady, instantiates}
use Rattle.instances.specs.actions.Pending.{slots_titled}
use Rattle.instances.proofs.ActionsLemmas.Readying.{none_first}
use Rattle.instances.proofs.ActionsLemmas.Settling.{clear_settles, instantiate_settles, load_settles, reinit_settles, tidy_settles}
use Rattle.instances.proofs.ActionsLemmas.Used.{gone, others_stay}

-- only an instantiation's plan has one
clear_names : (slots : List ℕ) (after : List PlanAction) → list_any instantiates after ≡ false → list_any instantiates (clear_actions slots ++ after) ≡ false
clear_names [] after none = none
clear_names (s ∷ others) after none = clear_names others after none

clear_alone : (slots : List ℕ) → list_any instantiates (clear_actions slots) ≡ false
clear_alone [] = refl
clear_alone (s ∷ others) = clear_alone others

initialise_names : (slots : List ℕ) → list_any instantiates (initialise_all slots) ≡ false
initialise_names [] = refl
initialise_names (s ∷ others) = initialise_names others

tidy_names : (slots all : List ℕ) → list_any instantiates (finalise_all slots ++ Slide ∷ initialise_all all) ≡ false
tidy_names [] all = initialise_names all
tidy_names (s ∷ others) all = tidy_names others all

pub load_is_ready : LoadIsReady
load_is_ready given ms old slot doable none = record {
  doable = doable;
  settles = load_settles given (slots_titled given.header.title.items ms) old slot none;
  names = none_first given ms (load_actions old slot) (clear_names old (Insert slot ∷ Initialise slot ∷ []) refl);
  instead = refl;
}

pub clear_is_ready : ClearIsReady
clear_is_ready given ms slots doable = record {
  doable = doable;
  settles = clear_settles given (slots_titled given.header.title.items ms) slots;
  names = none_first given ms (clear_actions slots) (clear_alone slots);
  instead = refl;
}

pub reinit_is_ready : ReinitIsReady
reinit_is_ready given ms slot doable = record {
  doable = doable;
  settles = reinit_settles given (slots_titled given.header.title.items ms) slot;
  names = (refl, λ is. absurd (false≢true is));
  instead = refl;
}

pub instantiate_is_ready : InstantiateIsReady
instantiate_is_ready given ms slot doable can = record {
  doable = doable;
  settles = instantiate_settles given (slots_titled given.header.title.items ms) slot;
  names = (refl, λ is. can);
  instead = refl;
}

pub tidy_is_ready : TidyIsReady
tidy_is_ready given ms slots doable = record {
  doable = doable;
  settles = tidy_settles given (slots_titled given.header.title.items ms) slots;
  names = none_first given ms (tidy_actions slots) (tidy_names slots slots);
  instead = refl;
}

-- nothing is left without all that is there
still_there : (s x : ℕ) (xs ys : List ℕ) → is_used s (without x ys) ≡ true → (is_used s ys ≡ true → is_used s (x ∷ xs) ≡ true) → is_used s xs ≡ true
still_there s x xs ys left within = elim (cases_Bool (x == s)) [
  | inl e ↦ absurd (false≢true (sym (rw (← eqb-true x s e) (gone x ys)) ∙ left))
  | inr e ↦ rw e at (within (sym (others_stay x s ys e) ∙ left))
]

nothing_left : (xs ys : List ℕ) → ((s : ℕ) → is_used s ys ≡ true → is_used s xs ≡ true) → without_all xs ys ≡ []
nothing_left [] [] within = refl
nothing_left [] (y ∷ ys) within = absurd (false≢true (within y (rw (eq-eqb y y refl) refl)))
nothing_left (x ∷ xs) ys within = nothing_left xs (without x ys) (λ s left. still_there s x xs ys left (within s))

pub all_go : AllGo
all_go xs = nothing_left xs xs (λ s is. is)
