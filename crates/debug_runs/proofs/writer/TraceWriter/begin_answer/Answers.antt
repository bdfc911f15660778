-- By the lemmas that are named.
use Rattle.std.proofs.Common.{◌++◌, ◌∙◌, ap, refl}
use Rattle.debug_tables.specs.Calls.{first_step}
use Rattle.debug_tables.specs.GuestState.{state_of}
use Rattle.law_machine.specs.Value.{MachineValue}
use Rattle.debug_tables.specs.Session.{script_state}
use Rattle.profile.specs.text_sink.TextSink.{sink_text_of}
use Rattle.trace_text.specs.Start.{known_in}
use Rattle.trace_text.specs.Step.{Known, known_outside, step_end_text}
use Rattle.debug_runs.specs.Calls.{outside_start_text, outside_text}
use Rattle.debug_runs.proofs.TraceWriterLemmas.{start_first}
use Rattle.debug_runs.proofs.writer.TraceWriter.begin_answer.Goals as goal

pub returns-clause-reported : goal.returns-clause-reported
returns-clause-reported c =
    let images = c.args.images.now in
    let s = script_state c.args.session.now images in
    let o = first_step s c.args.call in
    let t = sink_text_of c.args.self.now.text in
    let known = c.in_ok-start.ensures.known ∙ ap (λ (m : MachineValue). known_outside (state_of m.guest)) c.machine.ensures in
    start_first c.begin_started.result c.args.self.now (record c.args.self.now { text = c.print_outside.new.text }) c.begin_started.new.self
    c.begin_started.new.self (outside_start_text c.args.call s.machine) (step_end_text (known_outside s.machine) o)
    (step_end_text (known_in c.in_ok-start.start) o) (outside_text c.args.call s.machine o) o.printed
    (c.in_ok-start.ensures.text ∙ ap (λ (m : MachineValue). t ++ outside_start_text c.args.call (state_of m.guest)) c.machine.ensures)
    refl (ap (λ (k : Known). step_end_text k o) known) refl refl refl c.begin_started.ensures.reported
