use Rattle.std.proofs.Common.{◌≡◌, List, length}
use Rattle.rma.specs.Memory.{mapping, regions}
use Rattle.rma.specs.Region.{Region}
use Rattle.rma.specs.Store.{AreClasses, store_of}
use Rattle.rma.specs.flex_frame.Keeping.{KeepsFlex}
use Rattle.instances_table.specs.plans.Carrying.{carry_of_plan}
use Rattle.instances_table.specs.plans.Plans.{plan_after_code}
use Rattle.instances.specs.module_state.Records.{CarriesRecords}
use Rattle.instances.specs.module_state.ModuleState.{module_state_of}
use Rattle.instances.specs.Turns.{IsUnderWay, module_doing}
use Rattle.instances.proofs.instances.Instances.carry.Given as goal

abbrev pub invariant-loop-outcome : goal.invariant-loop-outcome
invariant-loop-outcome l = record {
  carried : carry_of_plan module_doing (module_state_of l.map l.areas l.self) (plan_after_code l.plan l.outcome)
      ≡ carry_of_plan module_doing (module_state_of l.fn.map l.fn.areas l.fn.self) (plan_after_code l.fn.plan l.fn.outcome);
  going : IsUnderWay (module_state_of l.map l.areas l.self) l.plan;
  classes : AreClasses l.map;
  mapping : mapping l.map ≡ mapping l.fn.map;
  records : (new : List Region) → CarriesRecords (plan_after_code l.plan l.outcome).actions (regions l.map) new
      → CarriesRecords (plan_after_code l.fn.plan l.fn.outcome).actions (regions l.fn.map) new;
  flex : KeepsFlex (store_of l.fn.map) (store_of l.map);
}

abbrev pub decreases-loop-outcome : goal.decreases-loop-outcome
decreases-loop-outcome l = length (plan_after_code l.plan l.outcome).actions
