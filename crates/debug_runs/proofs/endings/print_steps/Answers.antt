use Rattle.std.proofs.Common.{ℕ, ap, subst, ◌∙◌}
use Rattle.std.specs.Prelude.{OnOk}
use Rattle.std.specs.Io.KnownBytes.{Appends}
use Rattle.arm_core.specs.State.{State}
use Rattle.law_machine.specs.Value.{MachineValue}
use Rattle.debug_tables.specs.GuestState.{state_of}
use Rattle.debug_tables.specs.Answers.{stepped_text}
use Rattle.debug_tables.specs.Memory.{script_with_last}
use Rattle.debug_tables.specs.Session.{script_state}
use Rattle.debug_runs.proofs.TraceWriterLemmas.{shows_at}
use Rattle.debug_runs.proofs.endings.print_steps.Goals as goal

pub returns : goal.returns
returns g c images =
    let s = script_state c.args.session.now images in
    let a = g.W.Sink.contents c.args.sink.now in
    let b = g.W.Sink.contents c.print_stepped.new.sink in
    let at = c.pc-at.ensures.value
    ∙ ap (λ (x : State). x.pc) (c.cpu.ensures ∙ ap (λ (m : MachineValue). (state_of m.guest).cpu) c.machine.ensures) in
    shows_at c.print_stepped.result a b (script_state c.set_last.new.self images) (script_with_last s c.args.stop)
    (stepped_text c.args.could_all c.args.stop s.machine.cpu.pc) (c.set_last.ensures images)
    (subst (λ (n : ℕ). OnOk c.print_stepped.result (Appends a b (stepped_text c.args.could_all c.args.stop n))) at c.print_stepped.ensures.text)
