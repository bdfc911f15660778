use Rattle.std.proofs.Common.{◌≡◌, length}
use Rattle.profile.specs.Output.{AddsAllBut}
use Rattle.debug_labels.specs.place_views.Frames.{frame_lines}
use Rattle.debug_labels.proofs.place_views.frames.show_open.Given as goal
use Rattle.debugger.specs.GuestState.{state_of}

-- what stands written, and the lines of the frames that are left, is all
abbrev pub invariant-loop-number : goal.invariant-loop-number
invariant-loop-number g l =
    let s = state_of l.machine.guest in
    record {
      text : AddsAllBut (g.W.Sink.contents l.fn.sink) (g.W.Sink.contents l.sink) (frame_lines l.names s l.number)
          (frame_lines l.names s (length s.tables.frames));
      same_flag : g.W.Sink.has_failed l.sink ≡ g.W.Sink.has_failed l.fn.sink;
    }

abbrev pub decreases-loop-number : goal.decreases-loop-number
decreases-loop-number g l = l.number
