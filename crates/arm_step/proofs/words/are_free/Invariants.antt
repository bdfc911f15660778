use Rattle.std.proofs.Common.{◌≡◌, ◌+◌, ◌*◌, ◌-◌}
use Rattle.address_map.specs.Memory.{is_owned}
use Rattle.arm_step.specs.Words.{are_free}
use Rattle.arm_step.proofs.words.are_free.Given as goal

abbrev pub invariant-loop-index : goal.invariant-loop-index
invariant-loop-index l = are_free (is_owned l.memory) l.first l.count ≡ are_free (is_owned l.memory) (l.first + 4 * l.index) (l.count - l.index)
