use Rattle.std.proofs.Common.{◌≡◌, drop}
use Rattle.swi_dispatch_guest.specs.Moves.{machine_with_words, with_registers}
use Rattle.law_machine.proofs.heap_runs.making.set_registers.Given as goal
use Rattle.swi_dispatch_guest.specs.GuestState.{state_of}

-- what is left to be set makes of the machine what all of it would make of the one at first
abbrev pub invariant-loop-number : goal.invariant-loop-number
invariant-loop-number l = record {
  rest : with_registers (state_of l.machine.guest) l.number (drop l.number l.words) ≡ machine_with_words (state_of l.fn.machine.guest) l.words;
  sizes : l.machine.sizes ≡ l.fn.machine.sizes;
}
