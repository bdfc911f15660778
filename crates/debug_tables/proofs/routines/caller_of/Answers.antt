use Rattle.std.proofs.Common.{◌≡◌, ap, ◌∙◌}
use Rattle.command_shell.specs.ArmCoreState.{State, register_of}
use Rattle.command_shell.specs.Value.{MachineValue}
use Rattle.command_shell.specs.GuestState.{state_of}
use Rattle.command_shell.specs.Session.{script_state}
use Rattle.debug_tables.proofs.routines.caller_of.Goals as goal

pub returns : goal.returns
returns c images =
    let s = script_state c.args.session.now images in
    let cpu : c.cpu-cpu.result.now ≡ s.machine.cpu = c.cpu-cpu.ensures ∙ ap (λ (m : MachineValue). (state_of m.guest).cpu) c.machine.ensures in
    let psr = c.psr.ensures ∙ ap (λ (x : State). x.psr) cpu in
    let link = c.register.ensures ∙ ap (λ (x : State). register_of x 14) cpu in
    let at = c.pc.ensures.value ∙ ap (λ (x : State). x.pc) cpu in
    λ i. record { mode = (psr i).mode; link = link i; at = at i; left = c.left.ensures images i }
