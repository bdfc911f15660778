-- A step was taken, and its fields were written, of the machines before it and behind it.
use Rattle.std.proofs.Common.{[], ◌≡◌, ◌∙◌, ◌==◌, ap, refl, subst}
use Rattle.std.proofs.lemmas.Result.{IfOk-weaker}
use Rattle.trace_json.specs.GuestState.{state_of}
use Rattle.trace_json.specs.MachineState.{MachineState}
use Rattle.debug_records.specs.Recording.{session_machine, twin_machine}
use Rattle.debug_records.specs.Taking.{IsStepTaken}
use Rattle.debug_records.proofs.MomentLemmas.{step_shown}
use Rattle.debug_records.proofs.recorder.Twin.show_step.Goals as goal

pub returns : goal.returns
returns c =
    let first = c.args.index == 0 in
    let s = twin_machine c.args.self.now in
    let begun = c.begin.new.self in
    let left = twin_machine begun in
    let settled = state_of c.settle_last.new.twin.machine.guest in
    let start : twin_machine c.clear.new.self ≡ s = ap session_machine c.clear.ensures.session in
    let taken : IsStepTaken first s left c.in_ok-before.before =
    subst (λ (m : MachineState). IsStepTaken first m left c.in_ok-before.before) start c.in_ok-before.ensures.taken in
    let shown = c.cpu.ensures ∙ ap (λ (m : MachineState). m.cpu) (c.machine.ensures []) in
    IfOk-weaker c.push_step.result _ _
    (step_shown first c.args.is_last s left settled c.in_ok-before.before c.cpu.result.now c.clear.new.self.changes _
    c.push_step.new.self taken c.settle_last.ensures.set c.settle_last.ensures.earlier refl shown c.clear.ensures.changes
    c.in_ok-before.ensures.changes)
    c.push_step.ensures
