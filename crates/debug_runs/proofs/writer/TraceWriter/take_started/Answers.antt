-- By the lemmas that are named.
use Rattle.std.proofs.Common.{◌≡◌, ℕ, List, ◌++◌, ◌∙◌, ap, sym, subst}
use Rattle.debug_tables.specs.Step.{machine_step}
use Rattle.debug_tables.specs.MachineState.{MachineState, outcome_with}
use Rattle.debug_tables.specs.GuestState.{IsState, state_of}
use Rattle.law_machine.specs.Value.{MachineValue}
use Rattle.debug_tables.specs.Session.{script_state}
use Rattle.debug_tables.specs.State.{ScriptState}
use Rattle.profile.specs.text_sink.TextSink.{sink_text_of}
use Rattle.trace_text.specs.Start.{known_in}
use Rattle.trace_text.specs.Step.{ListsInside, step_end_text}
use Rattle.debug_runs.proofs.HeapListedLemmas.{state_is}
use Rattle.debug_runs.proofs.TraceWriterLemmas.{answer_pushed, ended_so}
use Rattle.debug_runs.proofs.writer.TraceWriter.take_started.Goals as goal

pub returns-clause-reported : goal.returns-clause-reported
returns-clause-reported c =
    let images = c.args.images.now in
    let s = script_state c.args.session.now images in
    let o = machine_step images s.machine in
    let kept = known_in c.args.start.now in
    let u = sink_text_of c.args.self.now.text in
    let all = c.in_ok-take_step.ensures.text ∙ ap (λ (xs : List ℕ). xs ++ o.printed) c.new-printed.ensures in
    answer_pushed c.push_all.result c.args.self.now
    (record c.args.self.now { text = c.print_taken.new.sink; printed = c.push_all.new.sink; rooms = c.print_taken.new.rooms })
    (step_end_text kept o) o.printed c.bytes-2.result.now
    (ended_so s (script_state c.take_step.new.self images) o kept u (sink_text_of c.print_taken.new.sink) c.bytes.result.now
    c.in_ok-take_step.ensures.state (c.bytes.ensures ∙ all)
    (c.in_ok-print_taken.ensures.text
    ∙ ap (λ (m : MachineValue). u ++ step_end_text kept (outcome_with (state_of m.guest) c.bytes.result.now)) c.machine-machine.ensures))
    (c.bytes-2.ensures ∙ all) c.push_all.ensures.text

pub print_taken-requires : goal.print_taken-requires
print_taken-requires c =
    let images = c.args.images.now in
    let s : MachineState = (script_state c.args.session.now images).machine in
    let now : MachineState = (machine_step images s).now in
    let made : state_of c.machine-machine.result.now.guest ≡ now =
    ap (λ (m : MachineValue). state_of m.guest) c.machine-machine.ensures ∙ ap (λ (w : ScriptState). w.machine) c.in_ok-take_step.ensures.state in
    let after : IsState now = subst IsState made (state_is c.machine-machine.result.now.guest c.known.ensures.guest) in
    subst (ListsInside (known_in c.args.start.now)) (sym made) (c.requires.lists after)
