use Rattle.std.proofs.Common.{◌≡◌}
use Rattle.instances.proofs.TidyingLemmas.Looping.{partly}
use Rattle.instances.proofs.tidying.follow.move_images.Given as goal
use Rattle.instances.specs.tidying.Slid.{image_moved}

-- the images of the modules before this one followed
abbrev pub invariant-loop-number : goal.invariant-loop-number
invariant-loop-number l = l.table ≡ partly (image_moved l.moves) l.number l.fn.table
