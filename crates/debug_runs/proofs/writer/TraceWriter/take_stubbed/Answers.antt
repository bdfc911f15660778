-- By the lemmas that are named.
use Rattle.std.proofs.Common.{◌≡◌, ◌/◌, length, ap, refl, ◌∙◌}
use Rattle.trace_text.specs.Stored.{word_values_from}
use Rattle.law_machine.specs.Value.{MachineValue}
use Rattle.debug_tables.specs.GuestState.{state_of}
use Rattle.trace_text.specs.Cause.{cause_of}
use Rattle.debug_tables.specs.Session.{script_state}
use Rattle.debug_runs.specs.TraceWriter.{stub_line, stub_step_text}
use Rattle.debug_runs.proofs.TraceWriterLemmas.{text_alone}
use Rattle.debug_runs.proofs.writer.TraceWriter.take_stubbed.Goals as goal

pub returns-clause-reported : goal.returns-clause-reported
returns-clause-reported c images =
    let s = script_state c.args.session.now images in
    let now = script_state c.act.new.session images in
    let deed = c.args.deed.now in
    let before : c.cpu.result.now ≡ s.machine.cpu = c.cpu.ensures ∙ ap (λ (m : MachineValue). (state_of m.guest).cpu) c.machine.ensures in
    let cpu : c.cpu-2.result.now ≡ s.machine.cpu = c.cpu-2.ensures ∙ ap (λ (m : MachineValue). (state_of m.guest).cpu) c.machine-2.ensures in
    let bytes = c.memory.ensures.bytes ∙ ap (λ (m : MachineValue). (state_of m.guest).store.bytes) c.machine-3.ensures in
    let older = c.memory-2.ensures.bytes ∙ ap (λ (m : MachineValue). (state_of m.guest).store.bytes) c.machine-4.ensures in
    let after = c.machine-5.ensures in
    let cause : c.of-cause.result ≡ cause_of s.machine.cpu s.machine.store.bytes = c.of-cause.ensures.value ∙ (λ i. cause_of (cpu i) (bytes i)) in
    let at = c.stored_at.ensures in
    let count = c.stored_words.ensures.value in
    let olds : c.as_slice.result.now ≡ word_values_from s.machine.store.bytes deed.at (length deed.bytes / 4) =
    c.as_slice.ensures.value ∙ c.old_words-old.ensures.value ∙ (λ i. word_values_from (older i) (at i) (count i)) in
    text_alone c.push_stub_line.result c.args.self.now (record c.args.self.now { text = c.push_stub_line.new.sink })
    (stub_step_text deed s.machine now.machine)
    (stub_line c.cpu.result.now c.of-cause.result (state_of c.machine-5.result.now.guest).cpu
    (state_of c.machine-5.result.now.guest).store.bytes c.stored_at.result c.as_slice.result.now)
    (λ i. stub_line (before i) (cause i) (state_of (after i).guest).cpu (state_of (after i).guest).store.bytes (at i) (olds i)) refl
    c.push_stub_line.ensures
