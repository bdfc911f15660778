-- The steps were taken, what differs was written, and then the record.
use Rattle.std.proofs.Common.{ℕ, ◌-◌, List, subst}
use Rattle.std.specs.Prelude.{OnOk, codes}
use Rattle.std.proofs.lemmas.Result.{on_ok_weaker}
use Rattle.debug_records.specs.LineRecords.{Adds}
use Rattle.debug_records.specs.Moments.{IsMoment, skip_head}
use Rattle.debug_records.specs.Recording.{twin_machine}
use Rattle.debug_records.proofs.MomentLemmas.{shown_recorded}
use Rattle.debug_records.proofs.recorder.Twin.record_rest.Goals as goal

pub returns : goal.returns
returns g c =
    let line = c.args.line.now in
    let m = twin_machine c.args.self.now in
    let shown = c.show_rest.new.self in
    let t = twin_machine shown in
    let a = g.W.Sink.contents c.args.sink.now in
    let b = g.W.Sink.contents c.print_moment.new.sink in
    subst (λ (last : ℕ). OnOk c.print_moment.result
    (Adds (IsMoment (skip_head last (line.taken - line.limit)) (codes "next") m.cpu.pc m t) a b)) c.saturating_add-last.ensures
    (subst (λ (h : List ℕ). OnOk c.print_moment.result (Adds (IsMoment h (codes "next") m.cpu.pc m t) a b)) c.in_ok-head.ensures
    (on_ok_weaker c.print_moment.result
    (shown_recorded c.in_ok-head.head.bytes.items (codes "next") m.cpu.pc m t shown.changes shown.front.bytes.items
    shown.text.bytes.items a b c.in_ok-show_rest.ensures)
    c.print_moment.ensures))
