use Rattle.std.proofs.Common.{◌+◌, []}
use Rattle.debug_tables.specs.Session.{script_state}
use Rattle.debug_history.proofs.AgainLemmas.{IsUnderWay, unhalted}
use Rattle.debug_history.proofs.again.take_again.Given as goal

-- the steps that are left lead where all of them lead
abbrev pub invariant-loop-left : goal.invariant-loop-left
invariant-loop-left l = IsUnderWay [] (script_state l.fn.session l.images) (script_state l.session l.images) l.count l.left

abbrev pub decreases-loop-left : goal.decreases-loop-left
decreases-loop-left l = l.left + unhalted (script_state l.session l.images).machine.halt
