use Rattle.std.proofs.Common.{List, None, Some, refl, subst, ◌∙◌}
use Rattle.rma.specs.Memory.{regions}
use Rattle.instances_table.specs.declared.plans.action.PlanAction.{PlanAction}
use Rattle.instances_table.specs.plans.Plans.{plan_after_code}
use Rattle.rma.proofs.FlexFrameLemmas.Keeping.{keeps_then}
use Rattle.instances.specs.module_state.Records.{CarriesRecords}
use Rattle.instances.specs.module_state.ModuleState.{module_state_of}
use Rattle.instances.proofs.ModuleStateLemmas.Records.{carries_last, carries_on}
use Rattle.instances.proofs.Carrying.{code_carried, end_carried, next_carried, next_fewer, next_left, module_state_at_end}
use Rattle.instances.proofs.Naming.{keeps_others}
use Rattle.instances.proofs.NextCode.{code_is_first}
use Rattle.instances.proofs.instances.Instances.carry.Goals as goal

pub loop-outcome-smaller : goal.loop-outcome-smaller
loop-outcome-smaller c =
    next_fewer (module_state_of c.loop-outcome.map c.args.areas.now c.loop-outcome.self) (module_state_of c.advance.new.map c.args.areas.now c.advance.new.self)
    c.loop-outcome.plan c.advance.new.plan c.loop-outcome.outcome c.advance.result c.advance.ensures.advanced c.in-Next.is

pub loop-outcome-preserved : goal.loop-outcome-preserved
loop-outcome-preserved c = record {
  carried = next_carried (module_state_of c.loop-outcome.map c.args.areas.now c.loop-outcome.self) (module_state_of c.advance.new.map c.args.areas.now c.advance.new.self)
      c.loop-outcome.plan c.advance.new.plan c.loop-outcome.outcome c.advance.result c.advance.ensures.advanced _ c.in-Next.is
      c.loop-outcome.invariant.carried;
  going = c.advance.ensures.kept.going;
  classes = c.advance.ensures.kept.classes;
  mapping = c.advance.ensures.kept.mapping ∙ c.loop-outcome.invariant.mapping;
  records = λ new later.
      c.loop-outcome.invariant.records new
      (carries_on (plan_after_code c.loop-outcome.plan c.loop-outcome.outcome).actions (regions c.loop-outcome.map) (regions c.advance.new.map) new
      c.advance.ensures.kept.records
      (subst (λ (actions : List PlanAction). CarriesRecords actions (regions c.advance.new.map) new)
      (next_left (module_state_of c.loop-outcome.map c.args.areas.now c.loop-outcome.self) (module_state_of c.advance.new.map c.args.areas.now c.advance.new.self)
      c.loop-outcome.plan c.advance.new.plan c.loop-outcome.outcome c.advance.result c.advance.ensures.advanced c.in-Next.is) later));
  flex = keeps_then _ _ _ c.loop-outcome.invariant.flex c.advance.ensures.kept.flex;
}

pub returns-in-Code-clause-carried : goal.returns-in-Code-clause-carried
returns-in-Code-clause-carried c =
    code_carried (module_state_of c.loop-outcome.map c.args.areas.now c.loop-outcome.self) (module_state_of c.advance.new.map c.args.areas.now c.advance.new.self)
    c.loop-outcome.plan c.advance.new.plan c.loop-outcome.outcome c.advance.result c.advance.ensures.advanced _ c.in-Code.code c.in-Code.is
    c.loop-outcome.invariant.carried

pub returns-in-End-clause-carried : goal.returns-in-End-clause-carried
returns-in-End-clause-carried c =
    end_carried (module_state_of c.loop-outcome.map c.args.areas.now c.loop-outcome.self) (module_state_of c.advance.new.map c.args.areas.now c.advance.new.self)
    c.loop-outcome.plan c.advance.new.plan c.loop-outcome.outcome c.advance.result c.advance.ensures.advanced _ c.in-End.field-0 c.in-End.is
    c.loop-outcome.invariant.carried

pub returns-in-Code-clause-code : goal.returns-in-Code-clause-code
returns-in-Code-clause-code c =
    code_is_first _ (module_state_of c.advance.new.map c.args.areas.now c.advance.new.self) _ c.advance.new.plan (Some c.in-Code.code) c.in-Code.code
    (returns-in-Code-clause-carried c) refl

pub returns-in-End-clause-ended : goal.returns-in-End-clause-ended
returns-in-End-clause-ended c = λ none.
    module_state_at_end (module_state_of c.loop-outcome.map c.args.areas.now c.loop-outcome.self) (module_state_of c.advance.new.map c.args.areas.now c.advance.new.self)
    c.loop-outcome.plan c.advance.new.plan c.loop-outcome.outcome c.advance.result c.advance.ensures.advanced c.in-End.field-0 c.in-End.is
    c.advance.ensures.kept.going

pub returns-in-Code-clause-others : goal.returns-in-Code-clause-others
returns-in-Code-clause-others c =
    keeps_others _ (module_state_of c.advance.new.map c.args.areas.now c.advance.new.self) _ c.advance.new.plan _ (Some c.in-Code.code)
    (returns-in-Code-clause-carried c) c.advance.ensures.kept.going

pub returns-in-End-clause-others : goal.returns-in-End-clause-others
returns-in-End-clause-others c =
    keeps_others _ (module_state_of c.advance.new.map c.args.areas.now c.advance.new.self) _ c.advance.new.plan _ None
    (returns-in-End-clause-carried c) c.advance.ensures.kept.going

pub returns-in-Code-clause-kept : goal.returns-in-Code-clause-kept
returns-in-Code-clause-kept c =
    let kept = c.advance.ensures.kept in
    record {
      going = kept.going;
      classes = kept.classes;
      mapping = kept.mapping ∙ c.loop-outcome.invariant.mapping;
      records = c.loop-outcome.invariant.records (regions c.advance.new.map)
          (carries_last (plan_after_code c.loop-outcome.plan c.loop-outcome.outcome).actions (regions c.loop-outcome.map) (regions c.advance.new.map) kept.records);
      flex = keeps_then _ _ _ c.loop-outcome.invariant.flex kept.flex;
    }

pub returns-in-End-clause-kept : goal.returns-in-End-clause-kept
returns-in-End-clause-kept c =
    let kept = c.advance.ensures.kept in
    record {
      going = kept.going;
      classes = kept.classes;
      mapping = kept.mapping ∙ c.loop-outcome.invariant.mapping;
      records = c.loop-outcome.invariant.records (regions c.advance.new.map)
          (carries_last (plan_after_code c.loop-outcome.plan c.loop-outcome.outcome).actions (regions c.loop-outcome.map) (regions c.advance.new.map) kept.records);
      flex = keeps_then _ _ _ c.loop-outcome.invariant.flex kept.flex;
    }
