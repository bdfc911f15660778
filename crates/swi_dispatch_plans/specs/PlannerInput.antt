-- What a call on modules finds as it begins (this project's own).
use Rattle.std.specs.Prelude.{ℕ, Option, Result, List}
use Rattle.profile.specs.ErrorNumber.{ErrorNumber}
use Rattle.os_heap.specs.AddressMap.{AddressMap}
use Rattle.swi_dispatch_answers.specs.State.{State}
use Rattle.instances.specs.module_state.ModuleState.{ModuleState, module_state_of}
use Rattle.instances.specs.Areas.{AreaTable}
use Rattle.swi_dispatch_answers.specs.Plans.{Plan}
use Rattle.instances.specs.Modules.{Module}
use Rattle.swi_dispatch_answers.specs.Strings.{string_in}
use Rattle.swi_dispatch_answers.specs.declared.frames.frame.Frame.{Frame}

-- The core, the modules and what they stand on, the frames of module code that is under way, and
-- what is left to do of a call on modules whose code is under way.
pub record PlannerInput : Type 0 where
  pub cpu : State
  pub module_state : ModuleState
  pub frames : List Frame
  pub plan : Option Plan

-- the string that a register points to
unfoldable pub string_asked : PlannerInput → ℕ → Result (List ℕ) ErrorNumber
string_asked s number = string_in s.module_state.area_store.store.bytes s.cpu number

-- the parts of a real machine that are read then, and the setting that they stand for
pub record PlanParts : Type 0 where
  pub cpu : State
  pub map : AddressMap
  pub area_table : AreaTable
  pub modules : List Module
  pub frames : List Frame
  pub plan : Option Plan

abbrev pub setting_in : PlanParts → PlannerInput
setting_in p = record {
  cpu = p.cpu;
  module_state = module_state_of p.map p.area_table p.modules;
  frames = p.frames;
  plan = p.plan;
}
