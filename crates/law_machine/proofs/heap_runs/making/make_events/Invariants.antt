use Rattle.std.proofs.Common.{◌≡◌, ◌==◌, ◌≤◌, ◌&&◌, None, length, take}
use Rattle.swi_dispatch_guest.specs.Value.{IsMachine}
use Rattle.law_machine.specs.heap_runs.Making.{StateGoesOn}
use Rattle.law_machine.specs.heap_runs.Moves.{written_all}
use Rattle.law_machine.proofs.HeapRunsLemmas.Fronts.{IsUnder}
use Rattle.law_machine.proofs.heap_runs.making.make_events.Given as goal
use Rattle.swi_dispatch_guest.specs.GuestState.{state_of}

-- so many moves are done, and the machine goes on
abbrev pub invariant-loop-count : goal.invariant-loop-count
invariant-loop-count g l = record {
  under : IsUnder l.moves.images.now l.moves.start (state_of l.fn.machine.guest) (state_of l.machine.guest)
      (take l.count (written_all l.moves.list.now)) l.answers.items;
  begins : StateGoesOn (state_of l.fn.machine.guest);
  machine : IsMachine l.machine;
  goes : (state_of l.machine.guest).halt ≡ None;
  fresh : l.machine.is_fresh ≡ (l.fn.machine.is_fresh && (l.count == 0));
  sizes : l.machine.sizes ≡ l.fn.machine.sizes;
}
