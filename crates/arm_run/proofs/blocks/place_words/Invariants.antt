use Rattle.std.proofs.Common.{◌≡◌, ◌<◌, ◌+◌, ◌*◌, ◌^◌, ℕ, length}
use Rattle.arm_core.specs.Listed.{registers_of_list}
use Rattle.arm_step.specs.Blocks.{with_loaded}
use Rattle.arm_step.specs.PageWords.{words_in}
use Rattle.arm_run.specs.Standing.{core_at}
use Rattle.arm_run.proofs.blocks.place_words.Given as goal

abbrev pub invariant-loop-rest : goal.invariant-loop-rest
invariant-loop-rest l = record {
  placed : (p : ℕ) → with_loaded l.initial.cpu.psr.mode (core_at l.initial.cpu p) (registers_of_list l.fn.list) (words_in l.bytes 0 (length (registers_of_list l.fn.list)))
      ≡ with_loaded l.initial.cpu.psr.mode (core_at l.cpu p) (registers_of_list l.rest) (words_in l.bytes l.at (length (registers_of_list l.rest)));
  status : l.cpu.psr ≡ l.initial.cpu.psr;
  room : l.at + 4 * length (registers_of_list l.rest) ≡ length l.bytes;
  bits : l.rest < 2 ^ 15;
}

abbrev pub decreases-loop-rest : goal.decreases-loop-rest
decreases-loop-rest l = length (registers_of_list l.rest)
