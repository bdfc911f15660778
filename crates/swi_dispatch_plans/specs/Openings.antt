-- OS_Module 2, enter: what it is given, what it refuses, and the core as a module is started (RISC
-- OS 3 Programmer's Reference Manual, "OS_Module", reason 2; that no module code may be under way,
-- and that R10 has the address of the text, are this project's own).
use Rattle.profile.specs.MemoryMap.{environment_text_start}
use Rattle.std.specs.Prelude.{ℕ, nat_lt, List, length, Result, Ok, Err, if◌then◌else◌}
use Rattle.profile.specs.Outcome.{bind}
use Rattle.profile.specs.ErrorNumber.{ErrorNumber}
use Rattle.profile.specs.ErrorNumber.TheVariants.{ModuleBusy}
use Rattle.swi_dispatch_answers.specs.Mode.TheVariants.{User}
use Rattle.swi_dispatch_answers.specs.State.{State, start_psr, with_pc, with_psr, with_register_in}
use Rattle.swi_dispatch_answers.specs.InstancesTableCode.{private_of}
use Rattle.instances.specs.declared.answers.Start.{Start}
use Rattle.instances.specs.Reading.{start_found}
use Rattle.swi_dispatch_plans.specs.declared.openings.Opening.{Opening}
use Rattle.swi_dispatch_plans.specs.PlannerInput.{PlannerInput, string_asked}

-- no module code may be under way
abbrev pub unless_open : {A : Type 0} → PlannerInput → A → Result A ErrorNumber
unless_open s a = if nat_lt 0 (length s.frames) then Err ModuleBusy else Ok a

abbrev pub opening_of : Start → List ℕ → Opening
opening_of start text = record { start = start; text = record { items = text } }

-- R1 points to the name of an instance, R2 to a text
unfoldable pub opening_asked : PlannerInput → Result Opening ErrorNumber
opening_asked s =
    bind (string_asked s 1) (λ name.
    bind (string_asked s 2) (λ text.
    bind (start_found s.module_state.modules name) (λ start.
    unless_open s (opening_of start text))))

-- The module is entered in user mode with all flags clear: R10 is the address of the text, R12 that
-- of the private word.
abbrev pub as_user : State → ℕ → ℕ → State
as_user cpu at slot =
    with_pc (with_register_in User (with_register_in User
    (with_psr cpu start_psr) 10 environment_text_start) 12 (private_of slot))
    at
