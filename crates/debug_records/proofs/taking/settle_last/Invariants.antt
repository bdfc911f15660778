use Rattle.trace_json.specs.GuestState.{state_of}
use Rattle.debug_records.specs.Moments.{IsSet}
use Rattle.debug_records.proofs.taking.settle_last.Given as goal

-- no more than registers was set so far
abbrev pub invariant-loop-place : goal.invariant-loop-place
invariant-loop-place l = IsSet (state_of l.fn.twin.machine.guest) (state_of l.twin.machine.guest)
