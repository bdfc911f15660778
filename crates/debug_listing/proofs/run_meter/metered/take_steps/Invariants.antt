use Rattle.std.proofs.Common.{◌≡◌, ◌≤◌}
use Rattle.debug_tables.specs.Session.{script_state}
use Rattle.debug_listing.proofs.RunMeterLemmas.SliceLemmas.{IsSlice}
use Rattle.debug_listing.proofs.run_meter.metered.take_steps.Given as goal

-- the steps that are left make the whole of those so far
abbrev pub invariant-loop-left : goal.invariant-loop-left
invariant-loop-left g l = record {
  slice : IsSlice (script_state l.fn.session l.images) l.most (script_state l.session l.images) l.left
      (g.W.Sink.contents l.fn.sink) (g.W.Sink.contents l.sink);
  fewer : l.left ≤ l.most;
  flag : g.W.Sink.has_failed l.sink ≡ g.W.Sink.has_failed l.fn.sink;
}

abbrev pub decreases-loop-left : goal.decreases-loop-left
decreases-loop-left g l = l.left
