-- Each step was taken, what differs was written, and then its record.
use Rattle.std.proofs.Common.{◌+◌, ◌==◌, refl}
use Rattle.debug_records.specs.Recording.{twin_machine}
use Rattle.debug_records.proofs.MomentLemmas.{none_stepped, step_added, step_recorded}
use Rattle.debug_records.proofs.recorder.Twin.record_each.Goals as goal

pub loop-index-init : goal.loop-index-init
loop-index-init g c =
    none_stepped c.args.line.now.before c.args.line.now.taken (twin_machine c.args.self.now) (g.W.Sink.contents c.args.sink.now)

pub loop-index-preserved : goal.loop-index-preserved
loop-index-preserved g c =
    let line = c.args.line.now in
    let index = c.loop-index.index in
    let number = c.saturating_add-number.result in
    let is_last = index + 1 == line.taken in
    let shown = c.show_step.new.self in
    let before = twin_machine c.loop-index.self in
    let b = g.W.Sink.contents c.loop-index.sink in
    let d = g.W.Sink.contents c.print_moment.new.sink in
    step_added line.before line.taken index number is_last (twin_machine c.args.self.now) before (twin_machine shown)
    (g.W.Sink.contents c.args.sink.now) b d c.saturating_add-number.ensures refl c.loop-index.invariant
    (step_recorded number (index == 0) is_last before (twin_machine shown) c.in_ok-place.place shown.changes
    shown.front.bytes.items shown.text.bytes.items c.in_ok-head.head.bytes.items b d c.in_ok-place.ensures c.in_ok-head.ensures
    c.in_ok-print_moment.ensures)
