use Rattle.std.proofs.Common.{List, Some, sym, ap, subst, ◌∙◌}
use Rattle.rma.specs.Memory.{regions}
use Rattle.instances_table.specs.declared.plans.action.PlanAction.{PlanAction}
use Rattle.instances_table.specs.declared.plans.given.Given.{Given}
use Rattle.instances_table.specs.plans.Plans.{plan_after_action}
use Rattle.instances_table.specs.Modules.{AreModules, Module}
use Rattle.instances.specs.module_state.Records.{TurnsRecords}
use Rattle.instances.specs.module_state.Sound.{IsModuleState}
use Rattle.instances.specs.module_state.ModuleState.{module_state_of}
use Rattle.instances.proofs.ModuleStateLemmas.Records.{turns_losing}
use Rattle.instances.proofs.ModuleStateLemmas.Writes.{has_system}
use Rattle.instances.specs.actions.Actions.{module_state_after_action}
use Rattle.instances.specs.actions.Pending.{pending_of}
use Rattle.instances.proofs.ActionsLemmas.Readying.{ready_acts}
use Rattle.instances.specs.tidying.Slid.{module_state_slid}
use Rattle.instances.proofs.Turning.{module_state_acted, module_state_after_slide, module_state_before_slide}
use Rattle.instances.proofs.instances.Instances.act.Goals as goal

pub act-requires : goal.act-requires
act-requires c = record {
  can = rw (c.given-given.ensures, c.self.view_is) (ready_acts c.args.self.now c.args.plan.now c.args.action (subst AreModules c.self.view_is c.known.ensures)
      c.requires.first c.requires.state.going.ready c.in_default.not-Slide);
  state = record {
    system = has_system c.args.map.now c.args.areas.now c.args.self.now (pending_of c.args.plan.now) c.requires.state.going.module_state;
    classes = c.requires.state.classes;
  };
}

pub slide-requires : goal.slide-requires
slide-requires c = record {
  state = record {
    sound = rw c.self.view_is (module_state_before_slide (module_state_of c.args.map.now c.args.areas.now c.args.self.now) c.args.plan.now
        (c.requires.first ∙ ap Some c.in-Slide.is) c.requires.state.going);
    classes = c.requires.state.classes;
  };
}

pub returns-in-Slide-clause-module_state : goal.returns-in-Slide-clause-module_state
returns-in-Slide-clause-module_state c =
    c.slide.ensures.module_state
    ∙ ap (λ (g : Given). module_state_slid g.return_address (module_state_of c.args.map.now c.args.areas.now c.self.inside.table)) c.given-given.ensures
    ∙ ap (λ (ms : List Module). module_state_slid c.args.plan.now.given.return_address (module_state_of c.args.map.now c.args.areas.now ms)) c.self.view_is
    ∙ ap (module_state_after_action module_state_slid c.args.plan.now.given (module_state_of c.args.map.now c.args.areas.now c.args.self.now)) (sym c.in-Slide.is)

pub returns-in-Slide-clause-kept : goal.returns-in-Slide-clause-kept
returns-in-Slide-clause-kept c =
    let kept = c.slide.ensures.kept in
    record {
      sound = subst (λ (a : PlanAction). IsModuleState (module_state_of c.slide.new.map c.args.areas.now c.slide.new.table) (pending_of (plan_after_action c.args.plan.now a))) (sym c.in-Slide.is)
          (module_state_after_slide (module_state_of c.args.map.now c.args.areas.now c.args.self.now) (module_state_of c.slide.new.map c.args.areas.now c.slide.new.table) c.args.plan.now
          (c.requires.first ∙ ap Some c.in-Slide.is) c.requires.state.going kept.sound);
      classes = kept.classes;
      mapping = kept.mapping;
      records = subst (λ (a : PlanAction). TurnsRecords a (regions c.args.map.now) (regions c.slide.new.map)) (sym c.in-Slide.is) kept.records;
      flex = kept.flex;
    }

pub returns-in_default-clause-module_state : goal.returns-in_default-clause-module_state
returns-in_default-clause-module_state c =
    c.act.ensures.module_state module_state_slid c.args.areas.now
    ∙ ap (λ (g : Given). module_state_after_action module_state_slid g (module_state_of c.args.map.now c.args.areas.now c.self.inside.table) c.args.action) c.given-given.ensures
    ∙ ap (λ (ms : List Module). module_state_after_action module_state_slid c.args.plan.now.given (module_state_of c.args.map.now c.args.areas.now ms) c.args.action) c.self.view_is

pub returns-in_default-clause-kept : goal.returns-in_default-clause-kept
returns-in_default-clause-kept c =
    let kept = c.act.ensures.kept in
    record {
      sound = module_state_acted (module_state_of c.args.map.now c.args.areas.now c.args.self.now) (module_state_of c.act.new.map c.args.areas.now c.act.new.table) c.args.plan.now c.args.action
          c.requires.first c.requires.state.going
          (λ pending none module_state. kept.sound c.args.areas.now pending none
          (subst (λ (ms : List Module). IsModuleState (module_state_of c.args.map.now c.args.areas.now ms) pending) (sym c.self.view_is) module_state))
          (λ does module_state. c.act.ensures.settled c.args.areas.now does (rw (c.given-given.ensures, c.self.view_is) module_state));
      classes = kept.classes;
      mapping = kept.mapping;
      records = turns_losing c.args.action (regions c.args.map.now) (regions c.act.new.map) c.in_default.not-Slide kept.records;
      flex = kept.flex;
    }
