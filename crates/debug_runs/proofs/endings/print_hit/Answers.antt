use Rattle.std.proofs.Common.{ℕ, ap, ◌∙◌}
use Rattle.profile.specs.declared.stop.Stop.TheVariants as stop
use Rattle.arm_core.specs.State.{State}
use Rattle.law_machine.specs.Value.{MachineValue}
use Rattle.debug_tables.specs.GuestState.{state_of}
use Rattle.debug_tables.specs.Memory.{script_with_last}
use Rattle.debug_tables.specs.Session.{script_state}
use Rattle.debug_tables.specs.WordWatches.{watch_text}
use Rattle.debug_runs.proofs.TraceWriterLemmas.{shows_at}
use Rattle.debug_runs.proofs.endings.print_hit.Goals as goal

pub returns : goal.returns
returns g c images =
    let s = script_state c.args.session.now images in
    let at = c.pc-at.ensures.value
    ∙ ap (λ (x : State). x.pc) (c.cpu.ensures ∙ ap (λ (m : MachineValue). (state_of m.guest).cpu) c.machine.ensures) in
    shows_at c.push_watch.result (g.W.Sink.contents c.args.sink.now) (g.W.Sink.contents c.push_watch.new.sink)
    (script_state c.set_last.new.self images) (script_with_last s (stop.Break s.machine.cpu.pc)) (watch_text c.args.hit)
    (c.set_last.ensures images ∙ ap (λ (n : ℕ). script_with_last s (stop.Break n)) at) c.push_watch.ensures.text
