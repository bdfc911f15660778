-- What is known of the script stays so, byte by byte.
use Rattle.std.proofs.Common.{◌≡◌, ◌-◌}
use Rattle.std.specs.Io.KnownBytes.{Keeps}
use Rattle.debug_program.specs.IncludingScript.{given_left}
use Rattle.debug_program.proofs.including_script.IncludingScript.take_lines.Given as goal

abbrev pub invariant-loop-self : goal.invariant-loop-self
invariant-loop-self g l = record {
  kept : Keeps (given_left g.D.ScriptFiles.text_of g.S.Source.remaining l.fn.self)
      (given_left g.D.ScriptFiles.text_of g.S.Source.remaining l.self);
  none : l.self.pulled ≡ 0;
  refusal : l.self.refusal ≡ l.fn.self.refusal;
  terminal : l.self.is_terminal ≡ l.fn.self.is_terminal;
}

abbrev pub decreases-loop-self : goal.decreases-loop-self
decreases-loop-self g l = l.self.length - l.self.taken
