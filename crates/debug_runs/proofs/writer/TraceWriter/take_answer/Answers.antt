-- By the lemmas that are named.
use Rattle.std.proofs.Common.{◌≡◌, [], ◌++◌, Option, Some, None, ap, subst, sym, refl, ◌∙◌}
use Rattle.std.specs.Prelude.{OnOk}
use Rattle.law_machine.specs.Value.{MachineValue}
use Rattle.debug_tables.specs.MachineState.{StepOutcome}
use Rattle.debug_tables.specs.GuestState.{state_of}
use Rattle.debug_tables.specs.Step.{machine_step}
use Rattle.debug_tables.specs.Calls.{step_made}
use Rattle.debug_tables.specs.Session.{script_state}
use Rattle.debug_tables.specs.State.{ScriptState}
use Rattle.trace_text.specs.Step.{step_text}
use Rattle.profile.specs.text_sink.TextSink.{sink_text_of}
use Rattle.debug_runs.specs.Runs.{next_step}
use Rattle.debug_tables.specs.Stubs.{StubDeedState, deed_ahead}
use Rattle.debug_runs.specs.TraceWriter.{label_ahead, label_line_in, stub_step_text, text_by_stub, whole_step_text}
use Rattle.debug_tables.proofs.StubLemmas.{real_steps, stub_unhalted, deed_is_step, deed_steps}
use Rattle.debug_runs.proofs.TraceWriterLemmas.{label_first, whatever}
use Rattle.debug_runs.proofs.writer.TraceWriter.take_answer.Goals as goal

pub returns-in-Some-clause-state : goal.returns-in-Some-clause-state
returns-in-Some-clause-state c =
    let images = c.args.context.now.images.now in
    let stubs = c.args.context.now.modes.now.stubs in
    let s = script_state c.args.session.now images in
    let deed = c.in-Some.deed in
    let met : deed_ahead stubs s.machine ≡ Some deed =
    subst (λ (m : MachineValue). deed_ahead stubs (state_of m.guest) ≡ Some deed) c.machine-2.ensures
    (sym c.ahead.ensures ∙ c.in-Some.is) in
    whatever c.take_stubbed.result
    (c.take_stubbed.ensures.state images ∙ deed_is_step deed s (stub_unhalted stubs s.machine deed met)
    ∙ ap (λ (a : StepOutcome). step_made s a) (sym (deed_steps stubs images s.machine deed met)))

pub returns-in-Some-clause-reported : goal.returns-in-Some-clause-reported
returns-in-Some-clause-reported c =
    let images = c.args.context.now.images.now in
    let modes = c.args.context.now.modes.now in
    let labels = c.args.context.now.labels.now in
    let s = script_state c.args.session.now images in
    let o = next_step modes s in
    let deed = c.in-Some.deed in
    let old = sink_text_of c.args.self.now.text in
    let met : deed_ahead modes.stubs s.machine ≡ Some deed =
    subst (λ (m : MachineValue). deed_ahead modes.stubs (state_of m.guest) ≡ Some deed) c.machine-2.ensures
    (sym c.ahead.ensures ∙ c.in-Some.is) in
    let step = deed_steps modes.stubs images s.machine deed met in
    let now = c.take_stubbed.ensures.state images ∙ deed_is_step deed s (stub_unhalted modes.stubs s.machine deed met) in
    label_first c.take_stubbed.result c.args.self.now (record c.args.self.now { text = c.push_label_line.new.sink }) c.take_stubbed.new.self
    (label_line_in labels s.machine) (stub_step_text deed s.machine o.now)
    (stub_step_text deed s.machine (script_state c.take_stubbed.new.session images).machine)
    (whole_step_text modes.stubs labels s.machine o) o.printed []
    (c.in_ok-push_label_line.ensures.text ∙ ap (λ (m : MachineValue). old ++ label_line_in labels (state_of m.guest)) c.machine.ensures)
    refl
    (ap (λ (w : ScriptState). stub_step_text deed s.machine w.machine) now ∙ ap (λ (a : StepOutcome). stub_step_text deed s.machine a.now) (sym step))
    (ap (λ (a : StepOutcome). a.printed) (sym step))
    (ap (λ (x : Option StubDeedState). label_line_in labels s.machine ++ text_by_stub labels s.machine o x) met)
    (c.take_stubbed.ensures.reported images)

pub returns-in-None-clause-state : goal.returns-in-None-clause-state
returns-in-None-clause-state c =
    let images = c.args.context.now.images.now in
    let stubs = c.args.context.now.modes.now.stubs in
    let s = script_state c.args.session.now images in
    let met : deed_ahead stubs s.machine ≡ None =
    subst (λ (m : MachineValue). deed_ahead stubs (state_of m.guest) ≡ None) c.machine-2.ensures
    (sym c.ahead.ensures ∙ c.in-None.is) in
    subst (λ (a : StepOutcome). OnOk c.take_stepped.result (script_state c.take_stepped.new.session images ≡ step_made s a))
    (sym (real_steps stubs images s.machine met)) c.take_stepped.ensures.state

pub returns-in-None-clause-reported : goal.returns-in-None-clause-reported
returns-in-None-clause-reported c =
    let images = c.args.context.now.images.now in
    let modes = c.args.context.now.modes.now in
    let labels = c.args.context.now.labels.now in
    let s = script_state c.args.session.now images in
    let o = next_step modes s in
    let real = machine_step images s.machine in
    let old = sink_text_of c.args.self.now.text in
    let met : deed_ahead modes.stubs s.machine ≡ None =
    subst (λ (m : MachineValue). deed_ahead modes.stubs (state_of m.guest) ≡ None) c.machine-2.ensures
    (sym c.ahead.ensures ∙ c.in-None.is) in
    let step = sym (real_steps modes.stubs images s.machine met) in
    label_first c.take_stepped.result c.args.self.now (record c.args.self.now { text = c.push_label_line.new.sink }) c.take_stepped.new.self
    (label_line_in labels s.machine) (step_text (label_ahead labels s.machine) s.machine o) (step_text (label_ahead labels s.machine) s.machine real)
    (whole_step_text modes.stubs labels s.machine o) o.printed real.printed
    (c.in_ok-push_label_line.ensures.text ∙ ap (λ (m : MachineValue). old ++ label_line_in labels (state_of m.guest)) c.machine.ensures)
    refl
    (ap (λ (a : StepOutcome). step_text (label_ahead labels s.machine) s.machine a) step)
    (ap (λ (a : StepOutcome). a.printed) step)
    (ap (λ (x : Option StubDeedState). label_line_in labels s.machine ++ text_by_stub labels s.machine o x) met)
    c.take_stepped.ensures.reported
