use Rattle.std.proofs.Common.{◌≡◌, Some, sym, ap, subst, ◌∙◌}
use Rattle.command_shell.specs.Value.{MachineValue}
use Rattle.command_shell.specs.MachineState.{StepOutcome}
use Rattle.command_shell.specs.GuestState.{state_of}
use Rattle.command_shell.specs.Calls.{step_made}
use Rattle.command_shell.specs.Session.{script_state}
use Rattle.debug_tables.specs.Stubs.{deed_ahead}
use Rattle.debug_tables.proofs.StubLemmas.{stub_unhalted, deed_is_step, deed_steps}
use Rattle.debug_tables.proofs.stubs.Stubs.take_step.Goals as goal

pub returns-in-Some-clause-state : goal.returns-in-Some-clause-state
returns-in-Some-clause-state g c =
    let images = c.args.images.now in
    let s = script_state c.args.session.now images in
    let deed = c.in-Some.deed in
    let met : deed_ahead c.args.self.now s.machine ≡ Some deed =
    subst (λ (m : MachineValue). deed_ahead c.args.self.now (state_of m.guest) ≡ Some deed) c.machine.ensures
    (sym c.ahead.ensures ∙ c.in-Some.is) in
    c.act.ensures images ∙ deed_is_step deed s (stub_unhalted c.args.self.now s.machine deed met)
    ∙ ap (λ (a : StepOutcome). step_made s a) (sym (deed_steps c.args.self.now images s.machine deed met))
