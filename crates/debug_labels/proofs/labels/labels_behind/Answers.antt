use Rattle.std.proofs.Common.{arith}
use Rattle.debug_labels.proofs.WalkLemmas.{behind_pushed}
use Rattle.debug_labels.proofs.labels.labels_behind.Goals as goal

pub loop-place-preserved : goal.loop-place-preserved
loop-place-preserved c =
    behind_pushed c.args.origin c.loop-place.place c.args.labels.now c.loop-place.copies.items c.push.new.self.items
    c.in-Some.name.now c.in_ok-name.name.items c.in-Some.address c.saturating_sub-offset.result c.loop-place.invariant
    (grind (arith, c.in-Some.ensures, c.in-Some.name-is, c.in-Some.address-is)) c.in_ok-name.ensures.items
    (grind (arith, c.saturating_sub-offset.ensures)) c.in_ok-push.ensures.items
