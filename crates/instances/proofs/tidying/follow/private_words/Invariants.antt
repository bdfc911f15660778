use Rattle.std.proofs.Common.{◌≡◌, take}
use Rattle.rma.specs.Memory.{byte_at}
use Rattle.instances.proofs.tidying.follow.private_words.Given as goal
use Rattle.instances.specs.tidying.Slid.{private_words_at}

abbrev pub invariant-loop-slot : goal.invariant-loop-slot
invariant-loop-slot l = l.words.items ≡ private_words_at (byte_at l.map) (take l.slot-index l.slots)
