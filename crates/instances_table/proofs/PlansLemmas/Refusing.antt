-- Where a finalisation refuses.
use Rattle.std.proofs.Common.{◌≡◌, ℕ, false, Some, List, [], ◌∷◌, ◌++◌, refl, sym, ◌∙◌, ap, append_assoc, append-nil}
use Rattle.instances_table.specs.declared.plans.action.PlanAction.{PlanAction}
use Rattle.instances_table.specs.declared.plans.action.PlanAction.TheVariants as act
use Rattle.instances_table.specs.declared.plans.code.Outcome.TheVariants.{Refused}
use Rattle.instances_table.specs.declared.plans.given.Given.{Given}
use Rattle.instances_table.specs.plans.Calls.{finalise_all, initialise_all}
use Rattle.instances_table.specs.plans.Laws.{ClearStops, TidyGivesUp, plan_after_finalisations}
use Rattle.instances_table.specs.plans.Plans.{plan_of, plan_after_code, plan_with_code_entered}

-- after the finalisations, with `owing` owed before
tidy_from : (given : Given) (before others : List ℕ) (owing after : List PlanAction) (slot r0 : ℕ)
    → plan_after_code (plan_with_code_entered (plan_after_finalisations before (plan_of given (finalise_all (before ++ slot ∷ others) ++ after) owing))) (Refused r0)
    ≡ record { given = given; actions = owing ++ initialise_all before; instead = []; runs = false; first = Some r0 }
unfolding plan_after_code
tidy_from given [] others owing after slot r0 =
    ap (λ actions. record { given = given; actions = actions; instead = []; runs = false; first = Some r0 }) (sym (append-nil owing))
tidy_from given (s ∷ before) others owing after slot r0 =
    tidy_from given before others (owing ++ act.Initialise s ∷ []) after slot r0
    ∙ ap (λ actions. record { given = given; actions = actions; instead = []; runs = false; first = Some r0 }) (append_assoc owing (act.Initialise s ∷ []) (initialise_all before))

pub tidy_gives_up : TidyGivesUp
tidy_gives_up given before others slot r0 =
    tidy_from given before others [] (act.Slide ∷ initialise_all (before ++ slot ∷ others)) slot r0

pub clear_stops : ClearStops
unfolding plan_after_code
clear_stops given [] others slot r0 = refl
clear_stops given (s ∷ before) others slot r0 = clear_stops given before others slot r0

pub ruleset refusing = (tidy_gives_up, clear_stops)
