use Rattle.std.proofs.Common.{◌≡◌, ◌-◌}
use Rattle.profile.specs.Output.{AddsAllBut}
use Rattle.command_shell.specs.GuestState.{state_of}
use Rattle.debug_modes.specs.Counting.{counted_lines}
use Rattle.debug_modes.proofs.counting.show_lines.Given as goal

-- what stands written, and the lines that are left, is all
abbrev pub invariant-loop-words : goal.invariant-loop-words
invariant-loop-words g l =
    let bytes = (state_of l.machine.guest).store.bytes in
    record {
      text : AddsAllBut (g.W.Sink.contents l.fn.sink) (g.W.Sink.contents l.sink)
          (counted_lines l.counts bytes l.at (l.count - l._words)) (counted_lines l.counts bytes l.address l.count);
      same_flag : g.W.Sink.has_failed l.sink ≡ g.W.Sink.has_failed l.fn.sink;
    }
