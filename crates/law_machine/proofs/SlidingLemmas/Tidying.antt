-- What is carried on of a tidy: it waits for module code before its slide, or has slid, and only
-- texts were written.
use Rattle.std.proofs.Common.{ℕ, Bool, true, false, ◌≡◌, ◌≤◌, ◌⊎◌, ◌∙◌, List, [], ◌∷◌, ◌++◌, length, Option, Some, None, refl, sym, ap, subst, inl, inr}
use Rattle.std.specs.List.{list_any}
use Rattle.instances_table.specs.declared.plans.action.PlanAction.{PlanAction}
use Rattle.instances_table.specs.declared.plans.action.PlanAction.TheVariants as act
use Rattle.instances_table.specs.declared.plans.code.Code.{Code}
use Rattle.instances_table.specs.declared.plans.given.Given.{Given}
use Rattle.instances_table.specs.plans.Calls.{finalise_all, initialise_all}
use Rattle.instances_table.specs.plans.Carrying.{Carried, carried_by, carried_from}
use Rattle.instances_table.specs.plans.Plans.{Plan, actions_owed}
use Rattle.instances.specs.tidying.Slid.{module_state_slid}
use Rattle.instances.specs.module_state.ModuleState.{ModuleState, with_text}
use Rattle.instances.specs.Turns.{module_doing}
use Rattle.instances.specs.actions.Codes.{code_among}
use Rattle.instances.specs.actions.Pending.{is_pending}
use Rattle.law_machine.proofs.SlidingLemmas.Behind.{IsTexted, text_texted, texted_same, texted_then}
use Rattle.law_machine.specs.sliding.Turns.{AreInitialisations, AreTidying, IsTidy, is_slide}

-- the lists of actions
pub no_slide : (xs : List PlanAction) → AreInitialisations xs → list_any is_slide xs ≡ false
no_slide [] are = refl
no_slide (act.Initialise slot ∷ xs) are = no_slide xs are
no_slide (act.Finalise slot fatal ∷ xs) are = absurd are
no_slide (act.Remove slot ∷ xs) are = absurd are
no_slide (act.FreePrivate slot ∷ xs) are = absurd are
no_slide (act.Insert slot ∷ xs) are = absurd are
no_slide (act.Instantiate slot ∷ xs) are = absurd are
no_slide (act.GiveUp ∷ xs) are = absurd are
no_slide (act.Slide ∷ xs) are = absurd are

pub none_pending : (xs : List PlanAction) → AreInitialisations xs → is_pending xs ≡ false
none_pending [] are = refl
none_pending (act.Initialise slot ∷ xs) are = none_pending xs are
none_pending (act.Finalise slot fatal ∷ xs) are = absurd are
none_pending (act.Remove slot ∷ xs) are = absurd are
none_pending (act.FreePrivate slot ∷ xs) are = absurd are
none_pending (act.Insert slot ∷ xs) are = absurd are
none_pending (act.Instantiate slot ∷ xs) are = absurd are
none_pending (act.GiveUp ∷ xs) are = absurd are
none_pending (act.Slide ∷ xs) are = absurd are

pub slide_ahead : (xs : List PlanAction) → AreTidying xs → list_any is_slide xs ≡ true
slide_ahead [] are = absurd are
slide_ahead (act.Finalise slot fatal ∷ xs) are = slide_ahead xs are
slide_ahead (act.Slide ∷ xs) are = refl
slide_ahead (act.Initialise slot ∷ xs) are = absurd are
slide_ahead (act.Remove slot ∷ xs) are = absurd are
slide_ahead (act.FreePrivate slot ∷ xs) are = absurd are
slide_ahead (act.Insert slot ∷ xs) are = absurd are
slide_ahead (act.Instantiate slot ∷ xs) are = absurd are
slide_ahead (act.GiveUp ∷ xs) are = absurd are

pub tidy_settles : (xs : List PlanAction) → AreTidying xs → is_pending xs ≡ false
tidy_settles [] are = absurd are
tidy_settles (act.Finalise slot fatal ∷ xs) are = tidy_settles xs are
tidy_settles (act.Slide ∷ xs) are = none_pending xs are
tidy_settles (act.Initialise slot ∷ xs) are = absurd are
tidy_settles (act.Remove slot ∷ xs) are = absurd are
tidy_settles (act.FreePrivate slot ∷ xs) are = absurd are
tidy_settles (act.Insert slot ∷ xs) are = absurd are
tidy_settles (act.Instantiate slot ∷ xs) are = absurd are
tidy_settles (act.GiveUp ∷ xs) are = absurd are

one_more : (xs : List PlanAction) (slot : ℕ) → AreInitialisations xs → AreInitialisations (xs ++ act.Initialise slot ∷ [])
one_more [] slot are = tt
one_more (act.Initialise other ∷ xs) slot are = one_more xs slot are
one_more (act.Finalise other fatal ∷ xs) slot are = absurd are
one_more (act.Remove other ∷ xs) slot are = absurd are
one_more (act.FreePrivate other ∷ xs) slot are = absurd are
one_more (act.Insert other ∷ xs) slot are = absurd are
one_more (act.Instantiate other ∷ xs) slot are = absurd are
one_more (act.GiveUp ∷ xs) slot are = absurd are
one_more (act.Slide ∷ xs) slot are = absurd are

pub owed_too : (xs : List PlanAction) (slot : ℕ) (fatal : Bool) → AreInitialisations xs → AreInitialisations (actions_owed xs (act.Finalise slot fatal))
owed_too xs slot true are = are
owed_too xs slot false are = one_more xs slot are

all_initialised : (slots : List ℕ) → AreInitialisations (initialise_all slots)
all_initialised [] = tt
all_initialised (slot ∷ slots) = all_initialised slots

pub all_tidying : (slots others : List ℕ) → AreTidying (finalise_all slots ++ act.Slide ∷ initialise_all others)
all_tidying [] others = all_initialised others
all_tidying (slot ∷ slots) others = all_tidying slots others

-- initialisations
pub record IsInitialised (g : Given) (w : ModuleState) (c : Carried ModuleState) : Type 0 where
  pub texted : IsTexted w c.module_state
  pub slid : list_any is_slide c.rest.actions ≡ false
  pub settled : is_pending c.rest.actions ≡ false
  pub given : c.rest.given ≡ g

initialised_by : (slot : ℕ) (others : List PlanAction) (w : ModuleState) (p : Plan) (o : Option Code) → AreInitialisations others
    → length p.given.text.items ≤ 255
    → ((v : ModuleState) (q : Plan) → q.actions ≡ others → length q.given.text.items ≤ 255
    → IsInitialised q.given v (carried_from module_doing others v q))
    → IsInitialised p.given w (carried_by module_doing w p (act.Initialise slot) others o (carried_from module_doing others))
initialised_by slot others w p (Some code) are few later = record {
  texted = text_texted w p.given.text.items few;
  slid = no_slide others are;
  settled = none_pending others are;
  given = refl;
}
initialised_by slot others w p None are few later =
    let v : ModuleState = record w { area_store = with_text w.area_store p.given.text.items } in
    let q : Plan = record p { actions = others; instead = p.instead; runs = false } in
    let r : IsInitialised p.given v (carried_from module_doing others v q) = later v q refl few in
    record {
      texted = texted_then w v (carried_from module_doing others v q).module_state (text_texted w p.given.text.items few) r.texted;
      slid = r.slid;
      settled = r.settled;
      given = r.given;
    }

pub initialised : (actions : List PlanAction) → AreInitialisations actions → (w : ModuleState) (p : Plan) → p.actions ≡ actions
    → length p.given.text.items ≤ 255 → IsInitialised p.given w (carried_from module_doing actions w p)
initialised [] are w p same few = record {
  texted = texted_same w;
  slid = ap (list_any is_slide) same;
  settled = ap is_pending same;
  given = refl;
}
initialised (act.Initialise slot ∷ others) are w p same few =
    initialised_by slot others w p (module_doing.code_of w (act.Initialise slot)) are few (λ v q. initialised others are v q)
initialised (act.Finalise slot fatal ∷ others) are w p same few = absurd are
initialised (act.Remove slot ∷ others) are w p same few = absurd are
initialised (act.FreePrivate slot ∷ others) are w p same few = absurd are
initialised (act.Insert slot ∷ others) are w p same few = absurd are
initialised (act.Instantiate slot ∷ others) are w p same few = absurd are
initialised (act.GiveUp ∷ others) are w p same few = absurd are
initialised (act.Slide ∷ others) are w p same few = absurd are

-- a whole tidy
pub record Waits (return_address : ℕ) (g : Given) (w : ModuleState) (c : Carried ModuleState) : Type 0 where
  pub module_state : c.module_state ≡ w
  pub code : Code
  pub entered : c.code ≡ Some code
  pub tidy : IsTidy return_address c.rest
  pub given : c.rest.given ≡ g

abbrev pub IsOnItsWay : ℕ → Given → ModuleState → Carried ModuleState → Type 0
IsOnItsWay return_address g w c = Waits return_address g w c ⊎ IsInitialised g (module_state_slid return_address w) c

finalised_by : (return_address slot : ℕ) (fatal : Bool) (others : List PlanAction) (w : ModuleState) (p : Plan) (o : Option Code) → AreTidying others
    → AreInitialisations p.instead → p.given.return_address ≡ return_address
    → ((v : ModuleState) (q : Plan) → q.actions ≡ others → AreInitialisations q.instead → q.given ≡ p.given
    → IsOnItsWay return_address q.given v (carried_from module_doing others v q))
    → IsOnItsWay return_address p.given w (carried_by module_doing w p (act.Finalise slot fatal) others o (carried_from module_doing others))
finalised_by return_address slot fatal others w p (Some code) are instead return later = inl (record {
  module_state = refl;
  code = code;
  entered = refl;
  tidy = record { actions = are; instead = instead; return = return };
  given = refl;
})
finalised_by return_address slot fatal others w p None are instead return later =
    let q : Plan = record p { actions = others; instead = actions_owed p.instead (act.Finalise slot fatal); runs = false } in
    later w q refl (owed_too p.instead slot fatal instead) refl

slid_then : (return_address : ℕ) (others : List PlanAction) (w : ModuleState) (p : Plan) → AreInitialisations others
    → p.given.return_address ≡ return_address → length p.given.text.items ≤ 255
    → IsInitialised p.given (module_state_slid return_address w) (carried_from module_doing (act.Slide ∷ others) w p)
unfolding code_among
slid_then return_address others w p are return few =
    let q : Plan = record p { actions = others; instead = p.instead; runs = false } in
    let v : ModuleState = module_state_slid p.given.return_address w in
    subst (λ (r : ℕ). IsInitialised p.given (module_state_slid r w) (carried_from module_doing others v q)) return
    (initialised others are v q refl few)

pub tidied : (return_address : ℕ) (actions : List PlanAction) → AreTidying actions → (w : ModuleState) (p : Plan) → p.actions ≡ actions
    → AreInitialisations p.instead → p.given.return_address ≡ return_address → length p.given.text.items ≤ 255
    → IsOnItsWay return_address p.given w (carried_from module_doing actions w p)
tidied return_address (act.Finalise slot fatal ∷ others) are w p same instead return few =
    finalised_by return_address slot fatal others w p (module_doing.code_of w (act.Finalise slot fatal)) are instead return
    (λ v q q_same q_instead given.
    tidied return_address others are v q q_same q_instead
    (ap (λ (g : Given). g.return_address) given ∙ return)
    (subst (λ (g : Given). length g.text.items ≤ 255) (sym given) few))
tidied return_address (act.Slide ∷ others) are w p same instead return few = inr (slid_then return_address others w p are return few)
tidied return_address [] are w p same instead return few = absurd are
tidied return_address (act.Initialise slot ∷ others) are w p same instead return few = absurd are
tidied return_address (act.Remove slot ∷ others) are w p same instead return few = absurd are
tidied return_address (act.FreePrivate slot ∷ others) are w p same instead return few = absurd are
tidied return_address (act.Insert slot ∷ others) are w p same instead return few = absurd are
tidied return_address (act.Instantiate slot ∷ others) are w p same instead return few = absurd are
tidied return_address (act.GiveUp ∷ others) are w p same instead return few = absurd are
