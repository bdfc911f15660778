use Rattle.std.proofs.Common.{◌≡◌, ◌+◌, ◌*◌, ◌-◌, true, drop, length}
use Rattle.address_map.specs.Memory.{bytes_of, layout, class_of}
use Rattle.arm_step.specs.Words.{are_words_mapped, with_words}
use Rattle.arm_step.proofs.words.put_words.Given as goal

abbrev pub invariant-loop-index : goal.invariant-loop-index
invariant-loop-index l = record {
  bytes : with_words (bytes_of l.initial.memory) l.first l.words ≡ with_words (bytes_of l.memory) (l.first + 4 * l.index) (drop l.index l.words);
  layout : layout l.memory ≡ layout l.initial.memory;
  marks : class_of l.memory ≡ class_of l.initial.memory;
  mapped : are_words_mapped (bytes_of l.initial.memory) (l.first + 4 * l.index) (length l.words - l.index) ≡ true;
}
