use Rattle.std.proofs.Common.{◌≡◌, ◌<◌, ◌+◌, ◌*◌, ◌^◌, length}
use Rattle.arm_core.specs.Listed.{registers_of_list}
use Rattle.arm_step.specs.Blocks.{with_loaded}
use Rattle.arm_step.specs.PageWords.{words_in}
use Rattle.arm_run.proofs.blocks.place_each.Given as goal

abbrev pub invariant-loop-rest : goal.invariant-loop-rest
invariant-loop-rest l = record {
  placed : with_loaded l.mode l.initial.cpu (registers_of_list l.fn.list) (words_in l.bytes 0 (length (registers_of_list l.fn.list)))
      ≡ with_loaded l.mode l.cpu (registers_of_list l.rest) (words_in l.bytes l.at (length (registers_of_list l.rest)));
  room : l.at + 4 * length (registers_of_list l.rest) ≡ length l.bytes;
  bits : l.rest < 2 ^ 16;
}

abbrev pub decreases-loop-rest : goal.decreases-loop-rest
decreases-loop-rest l = length (registers_of_list l.rest)
