use Rattle.std.proofs.Common.{◌≡◌, drop}
use Rattle.std.specs.List.{flat_map}
use Rattle.swi_dispatch_guest.specs.Output.{AddsAllBut}
use Rattle.debugger.specs.Areas.{area_text}
use Rattle.debugger.proofs.areas.show_list.Given as goal

-- what stands written, and the lines of the areas that are left, is all
abbrev pub invariant-loop-area : goal.invariant-loop-area
invariant-loop-area g l = record {
  text : AddsAllBut (g.W.Sink.contents l.fn.sink) (g.W.Sink.contents l.sink) (flat_map area_text (drop l.area-index l.areas))
      (flat_map area_text l.fn.areas);
  same_flag : g.W.Sink.has_failed l.sink ≡ g.W.Sink.has_failed l.fn.sink;
}
