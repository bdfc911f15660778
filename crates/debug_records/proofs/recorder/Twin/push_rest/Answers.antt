-- Nothing else is written where what differs stands.
use Rattle.std.proofs.Common.{[]}
use Rattle.std.specs.Prelude.{codes}
use Rattle.debug_records.proofs.MomentLemmas.{shows_behind}
use Rattle.debug_records.proofs.RecordLemmas.{on_ok_both}
use Rattle.debug_records.proofs.recorder.Twin.push_rest.Goals as goal

pub returns : goal.returns
returns c = λ s copy.
    on_ok_both c.push_places.result _ _ _
    (shows_behind (codes "next") s.cpu.pc s _ c.args.self.now.session c.push_places.new.self.session c.args.self.now.changes
    c.push_skip_changes.new.text c.push_places.new.self.changes (c.machine-machine.ensures [])
    (c.in_ok-push_skip_changes.ensures s copy))
    c.push_places.ensures.changes c.push_places.ensures.session
