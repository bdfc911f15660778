use Rattle.debug_tables.specs.Session.{script_state}
use Rattle.debug_history.proofs.AgainLemmas.{IsUnderWay}
use Rattle.debug_history.proofs.again.steps_again.Given as goal

-- the steps that are left lead where all of them lead
abbrev pub invariant-loop-left : goal.invariant-loop-left
invariant-loop-left l =
    IsUnderWay l.stubs (script_state l.fn.session l.images) (script_state l.session l.images) l.count l.left

abbrev pub decreases-loop-left : goal.decreases-loop-left
decreases-loop-left l = l.left
