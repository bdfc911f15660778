use Rattle.std.proofs.Common.{◌≡◌, length, take}
use Rattle.swi_dispatch_answers.proofs.frames.frame.shared_registers.Given as goal

abbrev pub invariant-loop-number : goal.invariant-loop-number
invariant-loop-number l = record {
  read : take l.number l.saved ≡ take l.number l.cpu.file;
  long : length l.saved ≡ 13;
}
