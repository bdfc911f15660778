-- By the lemmas that are named.
use Rattle.std.proofs.Common.{◌++◌, ◌≡◌, ◌∙◌, ap, refl, subst, sym}
use Rattle.debug_tables.specs.Step.{machine_step}
use Rattle.debug_tables.specs.MachineState.{MachineState}
use Rattle.debug_tables.specs.GuestState.{IsState, state_of}
use Rattle.law_machine.specs.Value.{MachineValue}
use Rattle.debug_tables.specs.Session.{script_state}
use Rattle.profile.specs.text_sink.TextSink.{sink_text_of}
use Rattle.trace_text.specs.Start.{known_in}
use Rattle.trace_text.specs.Step.{Known, ListsInside, known_of, start_text, step_end_text, step_text}
use Rattle.debug_runs.specs.TraceWriter.{label_ahead}
use Rattle.debug_runs.proofs.HeapListedLemmas.{listed_inside, state_is}
use Rattle.debug_runs.proofs.TraceWriterLemmas.{start_first}
use Rattle.debug_runs.proofs.writer.TraceWriter.take_stepped.Goals as goal

pub returns-clause-reported : goal.returns-clause-reported
returns-clause-reported c =
    let images = c.args.context.now.images.now in
    let labels = c.args.context.now.labels.now in
    let s = script_state c.args.session.now images in
    let o = machine_step images s.machine in
    let kept = known_in c.in_ok-start.start in
    let t = sink_text_of c.args.self.now.text in
    let label = label_ahead labels s.machine in
    let is_label = c.label_ahead-label.ensures ∙ ap (λ (m : MachineValue). label_ahead labels (state_of m.guest)) c.machine-machine.ensures in
    let known : kept ≡ known_of label s.machine =
    c.in_ok-start.ensures.known ∙ (λ i. known_of (is_label i) (state_of (c.machine-machine.ensures i).guest)) in
    start_first c.take_started-taken.result c.args.self.now
    (record c.args.self.now { text = c.print_step.new.sink; rooms = c.print_step.new.rooms; scratch = c.take-scratch.new.self }) c.take_started-taken.new.self
    (record c.take_started-taken.new.self { scratch = c.into_scratch.result })
    (start_text label s.machine.cpu s.machine.store.bytes) (step_end_text (known_of label s.machine) o) (step_end_text kept o)
    (step_text label s.machine o) o.printed
    (c.in_ok-start.ensures.text
    ∙ (λ i. t ++ start_text (is_label i) (state_of (c.machine-machine.ensures i).guest).cpu (state_of (c.machine-machine.ensures i).guest).store.bytes))
    refl (ap (λ (k : Known). step_end_text k o) known) refl refl refl c.take_started-taken.ensures.reported

pub take_started-taken-requires-clause-lists : goal.take_started-taken-requires-clause-lists
take_started-taken-requires-clause-lists c after =
    let images = c.args.context.now.images.now in
    let labels = c.args.context.now.labels.now in
    let s : MachineState = (script_state c.args.session.now images).machine in
    let now : MachineState = (machine_step images s).now in
    let label = label_ahead labels s in
    let is_label = c.label_ahead-label.ensures ∙ ap (λ (m : MachineValue). label_ahead labels (state_of m.guest)) c.machine-machine.ensures in
    let known : known_in c.in_ok-start.start ≡ known_of label s =
    c.in_ok-start.ensures.known ∙ (λ i. known_of (is_label i) (state_of (c.machine-machine.ensures i).guest)) in
    let before : IsState s =
    subst (λ (m : MachineValue). IsState (state_of m.guest)) c.machine-machine.ensures (state_is c.machine-machine.result.now.guest c.known.ensures.guest) in
    subst (λ (k : Known). ListsInside k now) (sym known) (listed_inside c.other_bytes_stay.ensures.moves images s before after label)
