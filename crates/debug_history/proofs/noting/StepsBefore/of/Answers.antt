use Rattle.std.proofs.Common.{◌≡◌, Option, ap, ◌∙◌}
use Rattle.std.specs.Prelude.{is_some}
use Rattle.std.specs.Option.{option_map}
use Rattle.arm_core.specs.State.{State, register_of}
use Rattle.debug_labels.specs.Value.{MachineValue}
use Rattle.debug_tables.specs.GuestState.{state_of}
use Rattle.debug_tables.specs.MachineState.{MachineState, stop_of}
use Rattle.debug_labels.specs.Halt.{Halt}
use Rattle.debug_tables.specs.Session.{script_state}
use Rattle.debug_history.proofs.NotedLemmas.{some_stop}
use Rattle.debug_history.proofs.noting.StepsBefore.of.Goals as goal

pub returns : goal.returns
returns c images =
    let s = script_state c.args.session.now images in
    let machine = ap (λ (m : MachineValue). state_of m.guest) c.machine-machine.ensures in
    let cpu : c.cpu-cpu.result.now ≡ s.machine.cpu = c.cpu-cpu.ensures ∙ ap (λ (m : MachineState). m.cpu) machine in
    let halted = c.is_some.ensures ∙ ap (λ o. is_some o) c.stop.ensures.halt
    ∙ some_stop c.machine-machine.result.now.guest.halt ∙ ap (λ (m : MachineState). is_some m.halt) machine in
    let psr = c.psr.ensures ∙ ap (λ (x : State). x.psr) cpu in
    let link = c.register.ensures ∙ ap (λ (x : State). register_of x 14) cpu in
    let at = c.new.ensures ∙ (c.pc.ensures.value ∙ ap (λ (x : State). x.pc) cpu) in
    λ i. record { is_halted = halted i; status = psr i; link = link i; place = at i }
