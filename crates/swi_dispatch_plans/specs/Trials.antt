-- A call under way that is tried on a copy: what it comes to, and the error that it would end with
-- (this project's own).
use Rattle.std.specs.Prelude.{ℕ, Option, Some, None, option_map}
use Rattle.instances.specs.module_state.ModuleState.{ModuleState}
use Rattle.swi_dispatch_answers.specs.Code.{Code}
use Rattle.swi_dispatch_answers.specs.Carrying.{Carried, carry_of_plan}
use Rattle.swi_dispatch_answers.specs.Plans.{Plan}
use Rattle.swi_dispatch_answers.specs.Errors.{error_at}
use Rattle.instances.specs.Turns.{module_doing}

abbrev pub module_state_carried : ModuleState → Plan → Carried ModuleState
module_state_carried w p = carry_of_plan module_doing w p

-- The number of the error that a call ends with, if it is carried on to its end: the word where R0
-- points to then.
abbrev pub error_left : Carried ModuleState → Option Code → Option ℕ
error_left c (Some code) = None
error_left c None = option_map (error_at c.module_state.area_store.store.bytes) c.rest.first

unfoldable pub error_ahead : ModuleState → Plan → Option ℕ
error_ahead w p = error_left (module_state_carried w p) (module_state_carried w p).code
