use Rattle.debug_tables.specs.Session.{script_state}
use Rattle.debug_history.specs.Search.{single_steps}
use Rattle.debug_history.proofs.ScanLemmas.{IsScanning}
use Rattle.debug_history.proofs.scan.scan_steps.Given as goal

-- the steps that are left lead the search where all of them lead it
abbrev pub invariant-loop-left : goal.invariant-loop-left
invariant-loop-left l = IsScanning l.sought (script_state l.fn.session l.images) (script_state l.session l.images)
    (single_steps l.line l.stubs l.count) (single_steps l.line l.stubs l.left) l.fn.scan l.scan

abbrev pub decreases-loop-left : goal.decreases-loop-left
decreases-loop-left l = l.left
