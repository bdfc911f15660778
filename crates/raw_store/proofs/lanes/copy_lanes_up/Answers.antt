use Rattle.std.proofs.Common.{◌≡◌, ◌+◌, ◌-◌, ◌*◌, ◌∙◌, ap, arith, ℕ}
use Rattle.raw_store.specs.Region.{bytes_after_copy}
use Rattle.raw_store.proofs.Pieces.{copied_up}
use Rattle.raw_store.proofs.lanes.copy_lanes_up.Goals as goal

pub loop-lane-preserved : goal.loop-lane-preserved
loop-lane-preserved c =
    let same : (c.loop-lane.lane - 1) * 32 ≡ 32 * (c.loop-lane.lane - 1) = omega arith in
    c.copy_lane.ensures ∙ ap (λ b. bytes_after_copy b (c.args.from + (c.loop-lane.lane - 1) * 32) (c.args.to + (c.loop-lane.lane - 1) * 32) 32) c.loop-lane.invariant
    ∙ ap (λ (x : ℕ). bytes_after_copy (bytes_after_copy c.args.bytes.now (c.args.from + 32 * c.loop-lane.lane) (c.args.to + 32 * c.loop-lane.lane) (32 * (c.args.lanes - c.loop-lane.lane))) (c.args.from + x) (c.args.to + x) 32) same
    ∙ copied_up c.args.bytes.now (c.args.from + 32 * (c.loop-lane.lane - 1)) (c.args.to + 32 * (c.loop-lane.lane - 1)) (32 * (c.args.lanes - c.loop-lane.lane)) 32 _ _ (32 * (c.args.lanes - (c.loop-lane.lane - 1))) (omega arith) (omega arith) (omega arith) (omega arith) (omega arith)
