-- The code of a module is entered from outside (RISC OS 3 Programmer's Reference Manual, volume 1, "Modules"): in
-- SVC mode, R12 is the address of the instance's private word, and R14 is where it goes back to. It is called as
-- GOSUB calls a routine. Once it has gone back, the mode and the bits I and F are as before; the flags and the
-- registers are as it left them.
use Rattle.std.specs.Prelude.{ℕ, false, List, if◌then◌else◌}
use Rattle.arm_core.specs.declared.psr.Mode.TheVariants.{Supervisor}
use Rattle.arm_core.specs.declared.psr.Psr.{Psr}
use Rattle.debug_modes.specs.Memory.{script_with_register, script_with_status}
use Rattle.debug_modes.specs.State.{ScriptState}
use Rattle.debug_history.specs.Noted.{has_returned, past_with_deed}
use Rattle.debug_history.specs.Past.{PastState}
use Rattle.debug_history.specs.declared.act.PastDeed.TheVariants.{Register, Status}
use Rattle.debug_runs.specs.Labels.{ImageLabels}
use Rattle.debug_modes.specs.SteppingRequests.{Gosub}
use Rattle.debug_modes.specs.declared.modes.DebugModes.{DebugModes}
use Rattle.debug_modules.specs.Taking.{LineSteps, line_steps}
use Rattle.debug_modules.specs.declared.entering.ModuleEntry.{ModuleEntry}

abbrev pub supervisor : Psr → Psr
supervisor status = record status { mode = Supervisor }

abbrev pub status_gone_back : Psr → Psr → Psr
status_gone_back before now = record now {
  interrupts_off = before.interrupts_off;
  fast_interrupts_off = before.fast_interrupts_off;
  mode = before.mode;
}

-- before the first step of the code
abbrev pub at_entry : ScriptState → ModuleEntry → ScriptState
at_entry s e =
    let now = script_with_status s (supervisor s.machine.cpu.psr) in
    script_with_register (script_with_register (script_with_register now 0 e.r0) 1 e.r1) 12 e.r12

abbrev pub past_at_entry : PastState → ℕ → Psr → ModuleEntry → PastState
past_at_entry p number status e =
    let now = past_with_deed p number (Status (supervisor status)) in
    past_with_deed (past_with_deed (past_with_deed now number (Register 0 e.r0)) number (Register 1 e.r1))
    number (Register 12 e.r12)

-- where the code has gone back
abbrev pub with_status_back : ℕ → Psr → LineSteps → LineSteps
with_status_back number before t =
    let status = status_gone_back before t.script.machine.cpu.psr in record t {
      script = script_with_status t.script status;
      past = past_with_deed t.past number (Status status);
    }

abbrev pub back_if_returned : ℕ → Psr → LineSteps → LineSteps
back_if_returned number before t = if has_returned t.ending then with_status_back number before t else t

-- code that is entered by a line
abbrev pub module_code_entered : DebugModes → List ImageLabels → ScriptState → PastState → ℕ → ModuleEntry → LineSteps
module_code_entered m labels s p number e = let status = s.machine.cpu.psr in
    back_if_returned number status
    (line_steps m labels false (at_entry s e) (past_at_entry p number status e) number (Gosub e.code))
