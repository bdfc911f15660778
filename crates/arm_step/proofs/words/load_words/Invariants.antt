use Rattle.std.proofs.Common.{◌≡◌, ◌+◌, ◌*◌, ◌-◌, ◌++◌, length}
use Rattle.address_map.specs.Memory.{bytes_of}
use Rattle.arm_step.specs.Words.{are_words_mapped, memory_words_at}
use Rattle.arm_step.proofs.words.load_words.Given as goal

abbrev pub invariant-loop-index : goal.invariant-loop-index
invariant-loop-index l = record {
  mapped : are_words_mapped (bytes_of l.memory) l.first l.count ≡ are_words_mapped (bytes_of l.memory) (l.first + 4 * l.index) (l.count - l.index);
  words : memory_words_at (bytes_of l.memory) l.first l.count ≡ l.words.items ++ memory_words_at (bytes_of l.memory) (l.first + 4 * l.index) (l.count - l.index);
  len : length l.words.items ≡ l.index;
}
