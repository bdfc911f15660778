use Rattle.std.proofs.Common.{arith, sym, ◌∙◌}
use Rattle.rma.proofs.ExtendLemmas.{lies_below}
use Rattle.rma.proofs.extend.end_in_place.Goals as goal

pub overflow_add-block : goal.overflow_add-block
overflow_add-block c =
    let below = lies_below c.args.map.now c.args.block c.in-Ok.size c.requires (sym c.block_size.ensures.answer ∙ c.in-Ok.is) in
    omega (arith, below.within, below.base)

pub overflow_add-base : goal.overflow_add-base
overflow_add-base c =
    let below = lies_below c.args.map.now c.args.block c.in-Ok.size c.requires (sym c.block_size.ensures.answer ∙ c.in-Ok.is) in
    omega (arith, below.base, c.base-base.ensures)

pub total_changed-requires : goal.total_changed-requires
total_changed-requires c =
    let below = lies_below c.args.map.now c.args.block c.in-Ok.size c.requires (sym c.block_size.ensures.answer ∙ c.in-Ok.is) in
    omega (arith, below.small, below.base)

pub overflow_add-size : goal.overflow_add-size
overflow_add-size c =
    let below = lies_below c.args.map.now c.args.block c.in-Ok.size c.requires (sym c.block_size.ensures.answer ∙ c.in-Ok.is) in
    omega (arith, below.small, below.base)

pub overflow_sub-result : goal.overflow_sub-result
overflow_sub-result c =
    let below = lies_below c.args.map.now c.args.block c.in-Ok.size c.requires (sym c.block_size.ensures.answer ∙ c.in-Ok.is) in
    omega (arith, below.small, c.from-in-Ok.ensures, c.from.ensures, c.base-base.ensures)
