-- By the lemmas that are named.
use Rattle.std.proofs.Common.{ℕ, List, ◌++◌, ◌∙◌, ap}
use Rattle.debug_tables.specs.Calls.{first_step}
use Rattle.debug_tables.specs.MachineState.{outcome_with}
use Rattle.debug_tables.specs.GuestState.{state_of}
use Rattle.law_machine.specs.Value.{MachineValue}
use Rattle.debug_tables.specs.Session.{script_state}
use Rattle.profile.specs.text_sink.TextSink.{sink_text_of}
use Rattle.trace_text.specs.Start.{known_in}
use Rattle.trace_text.specs.Step.{step_end_text}
use Rattle.debug_runs.proofs.TraceWriterLemmas.{answer_pushed, ended_so}
use Rattle.debug_runs.proofs.writer.TraceWriter.begin_started.Goals as goal

pub returns-clause-reported : goal.returns-clause-reported
returns-clause-reported c =
    let images = c.args.images.now in
    let s = script_state c.args.session.now images in
    let o = first_step s c.args.call in
    let kept = known_in c.args.start.now in
    let u = sink_text_of c.args.self.now.text in
    let all = c.in_ok-begin_call.ensures.text ∙ ap (λ (xs : List ℕ). xs ++ o.printed) c.new-printed.ensures in
    answer_pushed c.push_all.result c.args.self.now (record c.args.self.now { text = c.print_end.new.sink; printed = c.push_all.new.sink })
    (step_end_text kept o) o.printed c.bytes-2.result.now
    (ended_so s (script_state c.begin_call.new.self images) o kept u (sink_text_of c.print_end.new.sink) c.bytes.result.now
    c.in_ok-begin_call.ensures.state (c.bytes.ensures ∙ all)
    (c.in_ok-print_end.ensures.text
    ∙ ap (λ (m : MachineValue). u ++ step_end_text kept (outcome_with (state_of m.guest) c.bytes.result.now)) c.machine-machine.ensures))
    (c.bytes-2.ensures ∙ all) c.push_all.ensures.text
