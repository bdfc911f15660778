use Rattle.std.proofs.Common.{◌≡◌, ℕ, ◌+◌, ap, ◌∙◌}
use Rattle.command_shell.specs.Psr.{psr_bits}
use Rattle.command_shell.specs.ArmCoreState.{State}
use Rattle.command_shell.specs.Value.{MachineValue}
use Rattle.command_shell.specs.GuestState.{state_of}
use Rattle.command_shell.specs.Memory.{script_at, script_with_register}
use Rattle.command_shell.specs.Session.{script_state}
use Rattle.command_shell.specs.State.{ScriptState}
use Rattle.debug_tables.specs.Routines.{routine_end}
use Rattle.debug_tables.proofs.routines.enter.Goals as goal

pub returns : goal.returns
returns c images =
    let s = script_state c.args.session.now images in
    let cpu : c.cpu.result.now ≡ s.machine.cpu = c.cpu.ensures ∙ ap (λ (m : MachineValue). (state_of m.guest).cpu) c.machine.ensures in
    let bits = c.bits-back.ensures.value ∙ ap psr_bits (c.psr.ensures ∙ ap (λ (x : State). x.psr) cpu) in
    c.set_pc.ensures images
    ∙ ap (λ (w : ScriptState). script_at w c.args.address)
    (c.set_register.ensures images ∙ ap (λ (n : ℕ). script_with_register s 14 (n + routine_end)) bits)
