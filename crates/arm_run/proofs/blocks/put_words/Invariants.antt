use Rattle.std.proofs.Common.{◌≡◌, ◌<◌, ◌+◌, ◌*◌, ◌^◌, length, map}
use Rattle.arm_step.specs.Memory.{bytes_of, layout, class_of}
use Rattle.arm_core.specs.Listed.{registers_of_list}
use Rattle.arm_core.specs.State.{register_in}
use Rattle.arm_step.specs.Words.{with_words}
use Rattle.arm_run.proofs.blocks.put_words.Given as goal

abbrev pub invariant-loop-rest : goal.invariant-loop-rest
invariant-loop-rest l = record {
  stored : with_words (bytes_of l.initial.memory) l.first (map (register_in l.cpu.psr.mode l.cpu) (registers_of_list l.fn.list))
      ≡ with_words (bytes_of l.memory) (l.first + l.offset) (map (register_in l.cpu.psr.mode l.cpu) (registers_of_list l.rest));
  layout : layout l.memory ≡ layout l.initial.memory;
  marks : class_of l.memory ≡ class_of l.initial.memory;
  room : l.offset + 4 * length (registers_of_list l.rest) ≡ 4 * length (registers_of_list l.fn.list);
  bits : l.rest < 2 ^ 15;
}

abbrev pub decreases-loop-rest : goal.decreases-loop-rest
decreases-loop-rest l = length (registers_of_list l.rest)
