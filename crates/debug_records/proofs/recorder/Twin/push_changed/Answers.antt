-- Nothing else is written where what differs stands.
use Rattle.std.proofs.Common.{[]}
use Rattle.std.specs.Prelude.{codes}
use Rattle.std.proofs.lemmas.Result.{on_ok_weaker}
use Rattle.debug_records.specs.Recording.{session_machine}
use Rattle.debug_records.proofs.MomentLemmas.{shows_between}
use Rattle.debug_records.proofs.recorder.Twin.push_changed.Goals as goal

pub returns : goal.returns
returns c = λ s copy.
    on_ok_weaker c.push_places.result
    (shows_between (codes "pc") s.cpu.pc s _ (session_machine c.args.line.now.session.now) c.args.self.now.changes
    c.push_made.new.self.changes c.push_changes.new.text c.push_places.new.self.changes (c.machine-machine.ensures [])
    c.in_ok-push_made.ensures (c.in_ok-push_changes.ensures s copy))
    c.push_places.ensures.changes
