use Rattle.std.proofs.Common.{◌+◌, ◌*◌, ◌∙◌, ap, arith}
use Rattle.raw_store.specs.Region.{bytes_after_zero}
use Rattle.raw_store.proofs.Pieces.{zeroed_more}
use Rattle.raw_store.proofs.lanes.zero_lanes.Goals as goal

pub loop-lane-preserved : goal.loop-lane-preserved
loop-lane-preserved c =
    c.zero_lane.ensures ∙ ap (λ b. bytes_after_zero b (c.loop-lane.lane * 32) 32) c.loop-lane.invariant
    ∙ zeroed_more c.args.bytes.now 0 (32 * c.loop-lane.lane) 32 (c.loop-lane.lane * 32) (32 * (c.loop-lane.lane + 1)) (omega arith) (omega arith) (omega arith)
