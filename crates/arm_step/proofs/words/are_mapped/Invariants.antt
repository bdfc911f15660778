use Rattle.std.proofs.Common.{◌≡◌, ◌+◌, ◌*◌, ◌-◌}
use Rattle.address_map.specs.Memory.{bytes_of}
use Rattle.arm_step.specs.Words.{are_words_mapped}
use Rattle.arm_step.proofs.words.are_mapped.Given as goal

abbrev pub invariant-loop-index : goal.invariant-loop-index
invariant-loop-index l = are_words_mapped (bytes_of l.memory) l.first l.count ≡ are_words_mapped (bytes_of l.memory) (l.first + 4 * l.index) (l.count - l.index)
