use Rattle.std.proofs.Common.{◌≡◌}
use Rattle.std.specs.Prelude.{slice_get}
use Rattle.profile.specs.Output.{AddsAllBut}
use Rattle.debugger.specs.Modules.{one_text}
use Rattle.debug_labels.specs.place_views.Frames.{full_name_within}
use Rattle.debug_labels.proofs.PlaceViewsLemmas.FrameLemmas.{names_from}
use Rattle.debug_labels.proofs.place_views.frames.show_name_within.Given as goal

-- what stands written, and what the instances that are left show, is all
abbrev pub invariant-loop-instance : goal.invariant-loop-instance
invariant-loop-instance g l = record {
  text : AddsAllBut (g.W.Sink.contents l.fn.sink) (g.W.Sink.contents l.sink)
      (names_from l.slot l.instance (slice_get l.modules l.number))
      (one_text (full_name_within l.slot) (slice_get l.modules l.number));
  same_flag : g.W.Sink.has_failed l.sink ≡ g.W.Sink.has_failed l.fn.sink;
}
