use Rattle.std.proofs.Common.{◌≡◌, drop}
use Rattle.address_map.specs.Moves.{moved_to}
use Rattle.address_map.proofs.follow.moved_to.Given as goal

abbrev pub invariant-loop-moved : goal.invariant-loop-moved
invariant-loop-moved l = moved_to (drop l.moved-index l.moves) l.block ≡ moved_to l.moves l.block
