-- A routine of the guest's that is called from outside: R14 is where it goes back to, with the
-- status. Once it has, R14 and the program counter are as they were, and all else is as the routine
-- left it.
use Rattle.std.specs.Prelude.{ℕ, ◌+◌, ◌++◌, List, codes}
use Rattle.std.specs.Fmt.{decimal}
use Rattle.command_shell.specs.Psr.{psr_bits}
use Rattle.command_shell.specs.ArmCoreState.{register_of}
use Rattle.command_shell.specs.Mode.{Mode}
use Rattle.command_shell.specs.Memory.{script_at, script_with_bank_register, script_with_register}
use Rattle.command_shell.specs.State.{ScriptState}

-- where a routine that was called from outside goes back to: nothing is fetched there
abbrev pub routine_end : ℕ
routine_end = 0x3FFFFFC

-- `returned after 12 steps`
abbrev pub step_count_text : ℕ → List ℕ
step_count_text steps = decimal steps ++ codes " steps\n"

abbrev pub returned_text : ℕ → List ℕ
returned_text steps = codes "returned after " ++ step_count_text steps

-- what is as it was once a routine has come back, and what was left of the budget
pub record CallerState : Type 0 where
  pub mode : Mode
  pub link : ℕ
  pub at : ℕ
  pub left : ℕ

abbrev pub script_at_routine : ScriptState → ℕ → ScriptState
script_at_routine s address = script_at
    (script_with_register s 14 (psr_bits s.machine.cpu.psr + routine_end)) address

abbrev pub caller_in : ScriptState → CallerState
caller_in s = record {
  mode = s.machine.cpu.psr.mode;
  link = register_of s.machine.cpu 14;
  at = s.machine.cpu.pc;
  left = s.left;
}

abbrev pub script_back : CallerState → ScriptState → ScriptState
script_back caller s = script_at (script_with_bank_register s caller.mode 14 caller.link) caller.at
