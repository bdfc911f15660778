use Rattle.std.proofs.Common.{arith, sym, ◌∙◌}
use Rattle.rma.proofs.ExtendLemmas.{lies_below}
use Rattle.rma.proofs.extend.end_if_moved.Goals as goal

pub total_changed-requires : goal.total_changed-requires
total_changed-requires c =
    let below = lies_below c.args.map.now c.args.block c.in-Ok.size c.requires (sym c.block_size.ensures.answer ∙ c.in-Ok.is) in
    omega (arith, below.small, below.base)
