-- By what the line asks for and took: its fields alone, or these and what differs, or these and others.
use Rattle.std.proofs.Common.{◌∙◌, ◌==◌, sym}
use Rattle.std.proofs.lemmas.Result.{on_ok_weaker}
use Rattle.debug_records.specs.AnswerHeads.{is_remark_use, is_reset_use}
use Rattle.debug_records.specs.Recording.{session_machine, twin_machine}
use Rattle.debug_records.proofs.HeadLemmas.{answer_begins, answer_changes, answer_whole}
use Rattle.debug_records.proofs.recorder.Twin.print_answer.Goals as goal

pub returns-then-is_remark : goal.returns-then-is_remark
returns-then-is_remark g c =
    let l = c.args.line.now in
    on_ok_weaker c.push_whole.result
    (answer_whole (is_remark_use l.used) (l.taken == 0) (is_reset_use l.used) c.args.head.now.bytes.items
    (twin_machine c.args.self.now) (session_machine l.session.now) (g.W.Sink.contents c.args.sink.now)
    (g.W.Sink.contents c.push_whole.new.sink) (sym c.is_remark.ensures ∙ c.if-is_remark.true))
    c.push_whole.ensures

pub returns-then-may_change : goal.returns-then-may_change
returns-then-may_change g c =
    let l = c.args.line.now in
    let shown = c.show_changed.new.self in
    on_ok_weaker c.print_moment.result
    (answer_changes (is_remark_use l.used) (l.taken == 0) (is_reset_use l.used) c.args.head.now.bytes.items
    (twin_machine c.args.self.now) (session_machine l.session.now) shown.changes shown.front.bytes.items shown.text.bytes.items
    (g.W.Sink.contents c.args.sink.now) (g.W.Sink.contents c.print_moment.new.sink)
    (sym c.is_remark.ensures ∙ c.if-is_remark.false) (sym c.may_change.ensures ∙ c.if-may_change.true)
    c.in_ok-show_changed.ensures)
    c.print_moment.ensures

pub returns : goal.returns
returns g c =
    let l = c.args.line.now in
    on_ok_weaker c.push_record.result
    (answer_begins (is_remark_use l.used) (l.taken == 0) (is_reset_use l.used) c.args.head.now.bytes.items
    (twin_machine c.args.self.now) (session_machine l.session.now) (g.W.Sink.contents c.args.sink.now)
    (g.W.Sink.contents c.push_record.new.sink) (sym c.is_remark.ensures ∙ c.if-is_remark.false)
    (sym c.may_change.ensures ∙ c.if-may_change.false))
    c.push_record.ensures
