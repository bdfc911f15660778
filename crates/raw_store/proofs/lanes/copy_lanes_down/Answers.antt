use Rattle.std.proofs.Common.{◌+◌, ◌*◌, ◌∙◌, ap, arith}
use Rattle.raw_store.specs.Region.{bytes_after_copy}
use Rattle.raw_store.proofs.Pieces.{copied_down}
use Rattle.raw_store.proofs.lanes.copy_lanes_down.Goals as goal

pub loop-lane-preserved : goal.loop-lane-preserved
loop-lane-preserved c =
    c.copy_lane.ensures ∙ ap (λ b. bytes_after_copy b (c.args.from + c.loop-lane.lane * 32) (c.args.to + c.loop-lane.lane * 32) 32) c.loop-lane.invariant
    ∙ copied_down c.args.bytes.now c.args.from c.args.to (32 * c.loop-lane.lane) 32 _ _ (32 * (c.loop-lane.lane + 1)) (omega arith) (omega arith) (omega arith) c.requires.below (omega arith)
