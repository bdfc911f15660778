use Rattle.std.proofs.Common.{◌≡◌, map, take}
use Rattle.address_map.specs.Bytes.{word_at}
use Rattle.address_map.specs.Memory.{byte_at}
use Rattle.trace_moments.specs.Stored.{renewed}
use Rattle.trace_moments.proofs.stored.stored_changes.Given as goal

abbrev pub invariant-loop-old : goal.invariant-loop-old
invariant-loop-old l = l.changes.items ≡ map (renewed (word_at (byte_at l.memory))) (take l.old-index l.olds)
