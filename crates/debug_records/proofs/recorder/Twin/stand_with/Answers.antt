-- The cores are the same, and no word differs.
use Rattle.std.proofs.Common.{[], ◌≡◌, ◌∙◌, ◌==◌, List, length, ap, sym}
use Rattle.trace_json.specs.MachineState.{MachineState}
use Rattle.trace_effects.specs.declared.shown_words.words.ShownWord.{ShownWord}
use Rattle.debug_records.specs.Recording.{session_machine, twin_machine}
use Rattle.debug_records.proofs.StandingLemmas.{alike_by}
use Rattle.debug_records.proofs.recorder.Twin.stand_with.Goals as goal

pub returns-then-is_empty : goal.returns-then-is_empty
returns-then-is_empty c =
    let s = twin_machine c.args.self.now in
    let t = session_machine c.args.session.now in
    let core : s.cpu ≡ t.cpu = sym (c.cpu.ensures ∙ ap (λ (m : MachineState). m.cpu) (c.machine-machine.ensures []))
    ∙ (c.has_same_core.ensures c.if-not-has_same_core.false ∙ (c.cpu-2.ensures ∙ ap (λ (m : MachineState). m.cpu) (c.machine-other.ensures []))) in
    alike_by s t _ _ c.in_ok-words.words.items core
    (c.memory.ensures.bytes ∙ ap (λ (m : MachineState). m.store.bytes) (c.machine-machine.ensures []))
    (c.memory-2.ensures.bytes ∙ ap (λ (m : MachineState). m.store.bytes) (c.machine-other.ensures []))
    (ap (λ (ws : List ShownWord). length ws == 0) (sym c.as_slice.ensures.value) ∙ (sym c.is_empty.ensures ∙ c.if-is_empty.true)) c.in_ok-words.ensures.replays
