use Rattle.std.proofs.Common.{◌≡◌, length, take}
use Rattle.arm_core.specs.Listed.{listed_below}
use Rattle.arm_step.specs.Blocks.{with_loaded}
use Rattle.arm_step.proofs.block.place_words.Given as goal

abbrev pub invariant-loop-number : goal.invariant-loop-number
invariant-loop-number l = record {
  placed : with_loaded l.bank l.initial.cpu (listed_below l.number l.list) (take l.index l.words) ≡ l.cpu;
  count : l.index ≡ length (listed_below l.number l.list);
}
