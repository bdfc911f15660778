use Rattle.std.proofs.Common.{List, sym, ap, subst, refl, ◌∙◌}
use Rattle.std.specs.Prelude.{Option}
use Rattle.rma.specs.Memory.{regions}
use Rattle.rma.specs.Store.{store_of}
use Rattle.instances_table.specs.declared.plans.action.PlanAction.{PlanAction}
use Rattle.instances_table.specs.plans.Plans.{Plan, first_action}
use Rattle.instances_table.specs.Modules.{AreModules, Module}
use Rattle.instances.specs.module_state.Records.{MayTurnRecords}
use Rattle.instances.specs.module_state.ModuleState.{module_state_of}
use Rattle.instances.specs.actions.Codes.{code_among}
use Rattle.rma.proofs.FlexFrameLemmas.Keeping.{keeps_same}
use Rattle.instances.proofs.Turning.{goes_into_code, goes_on, going_back, turn_ends, turn_enters, turn_goes_on}
use Rattle.instances.proofs.instances.Instances.advance.Goals as goal

pub returns-in_default-clause-advanced : goal.returns-in_default-clause-advanced
returns-in_default-clause-advanced c =
    rw c.end.ensures (turn_ends (module_state_of c.args.map.now c.args.areas.now c.args.self.now) c.args.plan.now c.settle.new.self c.args.outcome c.settle.ensures
    (sym c.next.ensures ∙ c.in_default.is))

pub returns-in_default-clause-kept : goal.returns-in_default-clause-kept
returns-in_default-clause-kept c = record {
  going = rw c.settle.ensures (going_back (module_state_of c.args.map.now c.args.areas.now c.args.self.now) c.args.plan.now c.args.outcome
      (subst AreModules c.self.view_is c.known.ensures) c.requires.state.going);
  classes = c.requires.state.classes;
  mapping = refl;
  records = subst (λ (a : Option PlanAction). MayTurnRecords a (regions c.args.map.now) (regions c.args.map.now))
      (sym (ap (λ (p : Plan). first_action p.actions) (sym c.settle.ensures) ∙ sym c.next.ensures ∙ c.in_default.is)) refl;
  flex = keeps_same (store_of c.args.map.now);
}

pub act-requires-clause-state : goal.act-requires-clause-state
act-requires-clause-state c = record {
  going = rw c.settle.ensures (going_back (module_state_of c.args.map.now c.args.areas.now c.args.self.now) c.args.plan.now c.args.outcome
      (subst AreModules c.self.view_is c.known.ensures) c.requires.state.going);
  classes = c.requires.state.classes;
}

pub returns-in-Some-code-clause-advanced : goal.returns-in-Some-code-clause-advanced
returns-in-Some-code-clause-advanced c =
    let has = ap (λ (ms : List Module). code_among ms c.in-Some.action) (sym c.self.view_is) ∙ sym c.code_of-code.ensures ∙ c.in-Some-code.is in
    rw c.start.ensures (turn_enters (module_state_of c.args.map.now c.args.areas.now c.args.self.now) (module_state_of c.act.new.map c.args.areas.now c.act.new.self)
    c.args.plan.now c.settle.new.self c.args.outcome c.in-Some.action c.in-Some-code.code c.settle.ensures (sym c.next.ensures ∙ c.in-Some.is)
    c.act.ensures.module_state has)

pub returns-in-Some-code-clause-kept : goal.returns-in-Some-code-clause-kept
returns-in-Some-code-clause-kept c =
    let kept = c.act.ensures.kept in
    record {
      going = let has = ap (λ (ms : List Module). code_among ms c.in-Some.action) (sym c.self.view_is) ∙ sym c.code_of-code.ensures ∙ c.in-Some-code.is in
          let going = going_back (module_state_of c.args.map.now c.args.areas.now c.args.self.now) c.args.plan.now c.args.outcome
          (subst AreModules c.self.view_is c.known.ensures) c.requires.state.going in
          rw c.start.ensures (goes_into_code (module_state_of c.args.map.now c.args.areas.now c.args.self.now) (module_state_of c.act.new.map c.args.areas.now c.act.new.self)
          c.settle.new.self c.in-Some.action c.in-Some-code.code (sym c.next.ensures ∙ c.in-Some.is) (rw c.settle.ensures going)
          c.act.ensures.module_state kept.sound has);
      classes = kept.classes;
      mapping = kept.mapping;
      records = subst (λ (a : Option PlanAction). MayTurnRecords a (regions c.args.map.now) (regions c.act.new.map))
          (sym (ap (λ (p : Plan). first_action p.actions) (sym c.settle.ensures) ∙ sym c.next.ensures ∙ c.in-Some.is)) kept.records;
      flex = kept.flex;
    }

pub returns-in-None-clause-advanced : goal.returns-in-None-clause-advanced
returns-in-None-clause-advanced c =
    let has = ap (λ (ms : List Module). code_among ms c.in-Some.action) (sym c.self.view_is) ∙ sym c.code_of-code.ensures ∙ c.in-None.is in
    rw c.finish.ensures (turn_goes_on (module_state_of c.args.map.now c.args.areas.now c.args.self.now) (module_state_of c.act.new.map c.args.areas.now c.act.new.self)
    c.args.plan.now c.settle.new.self c.args.outcome c.in-Some.action c.settle.ensures (sym c.next.ensures ∙ c.in-Some.is) c.act.ensures.module_state has)

pub returns-in-None-clause-kept : goal.returns-in-None-clause-kept
returns-in-None-clause-kept c =
    let kept = c.act.ensures.kept in
    record {
      going = let going = going_back (module_state_of c.args.map.now c.args.areas.now c.args.self.now) c.args.plan.now c.args.outcome
          (subst AreModules c.self.view_is c.known.ensures) c.requires.state.going in
          rw c.finish.ensures (goes_on (module_state_of c.args.map.now c.args.areas.now c.args.self.now) (module_state_of c.act.new.map c.args.areas.now c.act.new.self)
          c.settle.new.self c.in-Some.action (sym c.next.ensures ∙ c.in-Some.is) (subst AreModules c.self.view_is c.known.ensures) (rw c.settle.ensures going)
          c.act.ensures.module_state kept.sound);
      classes = kept.classes;
      mapping = kept.mapping;
      records = subst (λ (a : Option PlanAction). MayTurnRecords a (regions c.args.map.now) (regions c.act.new.map))
          (sym (ap (λ (p : Plan). first_action p.actions) (sym c.settle.ensures) ∙ sym c.next.ensures ∙ c.in-Some.is)) kept.records;
      flex = kept.flex;
    }
