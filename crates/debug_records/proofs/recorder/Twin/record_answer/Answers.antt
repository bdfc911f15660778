-- The records of the steps, and that of the answer.
use Rattle.std.proofs.Common.{◌==◌, ◌++◌, ◌≡◌, ◌∙◌, ap, List, ℕ}
use Rattle.debug_session.specs.Session.{debug_state}
use Rattle.debug_records.specs.AnswerHeads.{answer_fields, answer_head, is_remark_use, is_reset_use, is_stepping_use}
use Rattle.debug_records.specs.LineRecords.{step_forms}
use Rattle.debug_records.specs.Recording.{session_machine, twin_machine}
use Rattle.debug_records.proofs.HeadLemmas.{answer_written}
use Rattle.debug_session.proofs.FailLemmas.{anyhow}
use Rattle.debug_records.proofs.recorder.Twin.record_answer.Goals as goal

pub returns : goal.returns
returns g c = λ m held alike.
    let l = c.args.line.now in
    let last = session_machine l.session.now in
    let fields : List ℕ = answer_fields (is_remark_use l.used) (is_stepping_use l.used) l.taken l.counts
    (debug_state l.session.now held) l.answer.now in
    let head : c.push_answer.new.head.bytes.items ≡ answer_head l.block.now.number fields =
    c.in_ok-push_answer.ensures held
    ∙ (ap (λ (h : List ℕ). h ++ fields) c.in_ok-head.ensures.text ∙ ap (λ (n : ℕ). answer_head n fields) c.number.ensures) in
    anyhow c.follow.result _
    (answer_written (is_remark_use l.used) (l.taken == 0) (is_reset_use l.used) c.push_answer.new.head.bytes.items
    (answer_head l.block.now.number fields)
    (step_forms (l.taken == 0) l.before l.limit l.taken m last) (twin_machine c.args.self.now)
    (twin_machine c.record_taken.new.self) m last (g.W.Sink.contents c.args.sink.now)
    (g.W.Sink.contents c.record_taken.new.sink) (g.W.Sink.contents c.print_answer.new.sink) head alike
    c.in_ok-record_taken.ensures.kept (c.in_ok-record_taken.ensures.records m alike) c.in_ok-print_answer.ensures)
