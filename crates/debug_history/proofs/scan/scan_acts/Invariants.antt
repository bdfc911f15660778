use Rattle.std.proofs.Common.{drop}
use Rattle.debug_tables.specs.Session.{script_state}
use Rattle.debug_history.specs.Search.{units}
use Rattle.debug_history.proofs.ScanLemmas.{IsScanning}
use Rattle.debug_history.proofs.scan.scan_acts.Given as goal

-- the acts that are left lead the search where all of them lead it
abbrev pub invariant-loop-act : goal.invariant-loop-act
invariant-loop-act l = IsScanning l.sought (script_state l.fn.session l.fn.images) (script_state l.session l.images)
    (units l.acts) (units (drop l.act-index l.acts)) l.fn.scan l.scan
