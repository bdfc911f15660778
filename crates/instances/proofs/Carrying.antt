-- Turns that follow one another carry a call on, and each leaves fewer actions.
use Rattle.std.proofs.Common.{◌≡◌, ◌<◌, Some, None, List, [], ◌∷◌, length, refl, sym, ap, subst, ◌∙◌, arith}
use Rattle.std.specs.Prelude.{Option}
use Rattle.instances_table.specs.declared.plans.action.PlanAction.{PlanAction}
use Rattle.instances_table.specs.declared.plans.code.Advance.{Advance}
use Rattle.instances_table.specs.declared.plans.code.Advance.TheVariants as advance
use Rattle.instances_table.specs.declared.plans.code.Code.{Code}
use Rattle.instances_table.specs.declared.plans.code.Ended.{Ended}
use Rattle.instances_table.specs.declared.plans.code.Outcome.{Outcome}
use Rattle.instances_table.specs.declared.plans.code.Outcome.TheVariants.{Well}
use Rattle.instances_table.specs.plans.Carrying.{Advanced, Carried, Doing, advance_of_plan, advanced_by, advanced_from, carry_of_plan, carried_after}
use Rattle.instances_table.specs.plans.Plans.{Plan, all_but_first, plan_after_action, plan_after_code}
use Rattle.instances_table.proofs.PlansLemmas.Carrying.{carries_by_turns}
use Rattle.instances.specs.module_state.Sound.{IsModuleState}
use Rattle.instances.specs.module_state.ModuleState.{ModuleState}
use Rattle.instances.specs.actions.Pending.{is_pending, pending_by, pending_of}
use Rattle.instances.specs.Turns.{IsUnderWay, module_doing}

pub turned : (w : ModuleState) (p : Plan) (o : Outcome) (r : Advanced ModuleState) → advance_of_plan module_doing w p o ≡ r
    → carry_of_plan module_doing w (plan_after_code p o) ≡ carried_after module_doing r r.step
turned w p o r turn =
    carries_by_turns module_doing w p o ∙ ap (λ (x : Advanced ModuleState). carried_after module_doing x x.step) turn

-- a turn that asks for the next has done an action
abbrev is_next : Advance → Type 0
is_next advance.Next = Unit {0}
is_next (advance.Code code) = ⊥
is_next (advance.End e) = ⊥

settled_rest : (q : Plan) (a : PlanAction) → (plan_after_code (plan_after_action q a) Well).actions ≡ all_but_first q.actions
unfolding plan_after_code
settled_rest q a = refl

fewer_by : (d : Doing ModuleState) (w : ModuleState) (q : Plan) (a : PlanAction) (code : Option Code) (rest : Plan) → (advanced_by d w q a code).rest ≡ rest
    → is_next (advanced_by d w q a code).step → (plan_after_code rest Well).actions ≡ all_but_first q.actions
fewer_by d w q a None rest same next = ap (λ (p : Plan). (plan_after_code p Well).actions) (sym same) ∙ settled_rest q a
fewer_by d w q a (Some code) rest same next = absurd next

fewer_from : (d : Doing ModuleState) (w : ModuleState) (q : Plan) (actions : List PlanAction) (rest : Plan) → q.actions ≡ actions
    → (advanced_from d actions w q).rest ≡ rest → is_next (advanced_from d actions w q).step → length (plan_after_code rest Well).actions < length actions
fewer_from d w q [] rest are same next = absurd next
fewer_from d w q (a ∷ others) rest are same next =
    let left : (plan_after_code rest Well).actions ≡ others = fewer_by d w q a (d.code_of w a) rest same next ∙ ap all_but_first are in
    let few : length (plan_after_code rest Well).actions ≡ length others = ap length left in
    omega (arith, few)

left_from : (d : Doing ModuleState) (w : ModuleState) (q : Plan) (actions : List PlanAction) (rest : Plan) → q.actions ≡ actions
    → (advanced_from d actions w q).rest ≡ rest → is_next (advanced_from d actions w q).step → (plan_after_code rest Well).actions ≡ all_but_first actions
left_from d w q [] rest are same next = absurd next
left_from d w q (a ∷ others) rest are same next = fewer_by d w q a (d.code_of w a) rest same next ∙ ap all_but_first are

left_by : (w v : ModuleState) (p rest : Plan) (o : Outcome) → advance_of_plan module_doing w p o ≡ record { module_state = v; rest = rest; step = advance.Next }
    → (plan_after_code rest Well).actions ≡ all_but_first (plan_after_code p o).actions
unfolding advance_of_plan
left_by w v p rest o turn =
    left_from module_doing w (plan_after_code p o) (plan_after_code p o).actions rest refl (ap (λ (r : Advanced ModuleState). r.rest) turn)
    (subst is_next (sym (ap (λ (r : Advanced ModuleState). r.step) turn)) tt)

fewer : (w v : ModuleState) (p rest : Plan) (o : Outcome) → advance_of_plan module_doing w p o ≡ record { module_state = v; rest = rest; step = advance.Next }
    → length (plan_after_code rest Well).actions < length (plan_after_code p o).actions
unfolding advance_of_plan
fewer w v p rest o turn =
    fewer_from module_doing w (plan_after_code p o) (plan_after_code p o).actions rest refl (ap (λ (r : Advanced ModuleState). r.rest) turn)
    (subst is_next (sym (ap (λ (r : Advanced ModuleState). r.step) turn)) tt)

-- a turn that ends the call finds nothing left to do
abbrev is_end : Advance → Type 0
is_end advance.Next = ⊥
is_end (advance.Code code) = ⊥
is_end (advance.End e) = Unit {0}

none_by : (d : Doing ModuleState) (w : ModuleState) (q : Plan) (a : PlanAction) (code : Option Code) → is_end (advanced_by d w q a code).step → ⊥
none_by d w q a None end = end
none_by d w q a (Some code) end = end

none_from : (d : Doing ModuleState) (w : ModuleState) (q : Plan) (actions : List PlanAction) (rest : Plan) → q.actions ≡ actions
    → (advanced_from d actions w q).rest ≡ rest → is_end (advanced_from d actions w q).step → rest.actions ≡ []
none_from d w q [] rest are same end = ap (λ (p : Plan). p.actions) (sym same) ∙ are
none_from d w q (a ∷ others) rest are same end = absurd (none_by d w q a (d.code_of w a) end)

none_left : (w v : ModuleState) (p rest : Plan) (o : Outcome) (e : Ended) → advance_of_plan module_doing w p o ≡ record { module_state = v; rest = rest; step = advance.End e }
    → rest.actions ≡ []
unfolding advance_of_plan
none_left w v p rest o e turn =
    none_from module_doing w (plan_after_code p o) (plan_after_code p o).actions rest refl (ap (λ (r : Advanced ModuleState). r.rest) turn)
    (subst is_end (sym (ap (λ (r : Advanced ModuleState). r.step) turn)) tt)

-- by what a turn asked for
module _ (w v : ModuleState) (p q : Plan) (o : Outcome) (step : Advance) (turn : advance_of_plan module_doing w p o ≡ record { module_state = v; rest = q; step = step }) where
  stepped : (asked : Advance) → step ≡ asked → advance_of_plan module_doing w p o ≡ record { module_state = v; rest = q; step = asked }
  stepped asked is = turn ∙ ap (λ (a : Advance). let r : Advanced ModuleState = record { module_state = v; rest = q; step = a } in r) is

  pub next_fewer : step ≡ advance.Next → length (plan_after_code q Well).actions < length (plan_after_code p o).actions
  next_fewer is = fewer w v p q o (stepped advance.Next is)

  pub next_left : step ≡ advance.Next → (plan_after_code q Well).actions ≡ all_but_first (plan_after_code p o).actions
  next_left is = left_by w v p q o (stepped advance.Next is)

  pub next_carried : (start : Carried ModuleState) → step ≡ advance.Next → carry_of_plan module_doing w (plan_after_code p o) ≡ start → carry_of_plan module_doing v (plan_after_code q Well) ≡ start
  next_carried start is begun = sym (turned w p o _ (stepped advance.Next is)) ∙ begun

  pub code_carried : (start : Carried ModuleState) (code : Code) → step ≡ advance.Code code → carry_of_plan module_doing w (plan_after_code p o) ≡ start
      → start ≡ record { module_state = v; rest = q; code = Some code }
  code_carried start code is begun = sym begun ∙ turned w p o _ (stepped (advance.Code code) is)

  pub end_carried : (start : Carried ModuleState) (e : Ended) → step ≡ advance.End e → carry_of_plan module_doing w (plan_after_code p o) ≡ start
      → start ≡ record { module_state = v; rest = q; code = None }
  end_carried start e is begun = sym begun ∙ turned w p o _ (stepped (advance.End e) is)

  pub module_state_at_end : (e : Ended) → step ≡ advance.End e → IsUnderWay v q → IsModuleState v []
  module_state_at_end e is going =
      let none : pending_of q ≡ [] = ap (λ (actions : List PlanAction). pending_by (is_pending actions) q.given []) (none_left w v p q o e (stepped (advance.End e) is)) in
      subst (IsModuleState v) none going.module_state
