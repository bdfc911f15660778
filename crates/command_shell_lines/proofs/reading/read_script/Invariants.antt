use Rattle.std.proofs.Common.{◌≤◌, length}
use Rattle.command_shell_lines.proofs.PullLemmas.{HasPulled}
use Rattle.command_shell_lines.proofs.ReadLemmas.{HasGiven}
use Rattle.command_shell_lines.proofs.reading.read_script.Given as goal

abbrev pub invariant-loop-pulls : goal.invariant-loop-pulls
invariant-loop-pulls g l = record {
  given : HasGiven (g.R.Source.remaining l.fn.reader) (g.R.Source.remaining l.reader) l.script.items;
  in_limit : length l.script.items ≤ 1048576;
  one_each : l._pulls ≤ length l.script.items;
  pulls : HasPulled (g.R.Source.pulls l.fn.reader) (g.R.Source.pulls l.reader) l._pulls;
}
