-- OS_Module 2, enter: a module is started as a program (RISC OS 3 Programmer's Reference Manual,
-- "OS_Module", reason 2; that R10 has the address of the text is this project's own).
use Rattle.std.specs.Prelude.{ℕ, List, Option, Some, None}
use Rattle.swi_dispatch_plans.specs.ModuleState.{with_text}
use Rattle.swi_dispatch_plans.specs.Openings.{as_user}
use Rattle.swi_dispatch_plans.specs.declared.openings.Opening.{Opening}
use Rattle.swi_dispatch_guest.specs.MachineState.{MachineState, machine_area_store, with_area_store}

-- The text, with a zero after it, becomes the environment text.
abbrev pub with_environment : MachineState → List ℕ → MachineState
with_environment s text = with_area_store s (with_text (machine_area_store s) text)

-- A module without a start isn't entered.
abbrev pub opened_at : MachineState → List ℕ → ℕ → Option ℕ → MachineState
opened_at s text slot None = s
opened_at s text slot (Some at) = (let t = with_environment s text in
    record t { cpu = as_user s.cpu at slot })

abbrev pub module_opened : MachineState → Opening → MachineState
module_opened s o = opened_at s o.text.items o.start.slot o.start.at
