use Rattle.std.proofs.Common.{◌≡◌, ◌≤◌, ◌-◌, None}
use Rattle.profile.specs.declared.stop.Stop.TheVariants as stop
use Rattle.swi_dispatch_guest.specs.GuestState.{IsGuest, state_of}
use Rattle.swi_dispatch_guest.specs.Run.{ran}
use Rattle.swi_dispatch_guest.specs.Ending.{Ends}
use Rattle.swi_dispatch_guest.proofs.machine.Machine.run.Given as goal

-- the machine stands as the run of the steps taken leaves it, and goes on
abbrev pub invariant-loop-taken : goal.invariant-loop-taken
invariant-loop-taken g l = record {
  ends : Ends (ran l.images l.breaks l.taken (state_of l.fn.self.guest)) (state_of l.guest) l.fn.self.printed l.output.items
      (g.W.Sink.contents l.fn.sink) (g.W.Sink.contents l.sink) l.taken stop.Budget;
  within : l.taken ≤ l.budget;
  unhalted : (state_of l.guest).halt ≡ None;
  same_flag : g.W.Sink.has_failed l.sink ≡ g.W.Sink.has_failed l.fn.sink;
  known : IsGuest l.guest;
}

abbrev pub decreases-loop-taken : goal.decreases-loop-taken
decreases-loop-taken g l = l.budget - l.taken
