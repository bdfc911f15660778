use Rattle.std.proofs.Common.{◌≤◌, ◌∙◌, length, arith}
use Rattle.instances.proofs.TidyingLemmas.Looping.{images_next, images_same, partly_all}
use Rattle.instances.specs.tidying.Slid.{image_moved}
use Rattle.instances.proofs.tidying.follow.move_images.Goals as goal
use Rattle.instances.proofs.tidying.follow.move_images.Goals.{in-Some, in_default}

pub loop-number-preserved : goal.loop-number-preserved
loop-number-preserved c = elim c.match-module.branch [
  | in-Some w ↦
      w.table-is ∙ images_next c.args.moves.now c.loop-number.number c.args.table.now c.loop-number.table w.moved.new.self c.module.result w.in-Some.info
      w.moved_to.result c.loop-number.invariant c.module.ensures w.in-Some.is w.moved_to.ensures w.moved.ensures
  | in_default w ↦
      w.table-is ∙ images_same c.args.moves.now c.loop-number.number c.args.table.now c.loop-number.table c.module.result
      c.loop-number.invariant c.module.ensures w.in_default.is
]

pub returns : goal.returns
returns c =
    let all : length c.args.table.now ≤ c.loop-number.number = omega arith in
    c.loop-number.invariant ∙ partly_all (image_moved c.args.moves.now) c.loop-number.number c.args.table.now all
