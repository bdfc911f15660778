-- What is known of the script stays so until some of it is there.
use Rattle.std.proofs.Common.{◌≡◌, is_some, false}
use Rattle.std.specs.Io.KnownBytes.{Keeps}
use Rattle.debug_program.specs.IncludingScript.{given_left}
use Rattle.debug_program.proofs.including_script.IncludingScriptSource.pull.Given as goal

abbrev pub invariant-loop-pulls : goal.invariant-loop-pulls
invariant-loop-pulls g l = record {
  kept : Keeps (given_left g.D.ScriptFiles.text_of g.S.Source.remaining l.fn.self)
      (given_left g.D.ScriptFiles.text_of g.S.Source.remaining l.self);
  refusal : is_some l.self.refusal ≡ false;
}
