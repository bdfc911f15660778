-- By the lemmas of ScriptLemmas.
use Rattle.std.proofs.Common.{◌≡◌, ◌∙◌, ◌+◌, drop, take, ap}
use Rattle.std.specs.Prelude.{option_map}
use Rattle.profile.proofs.KnownLemmas.{Keeps-twice}
use Rattle.debug_program.specs.Including.{file_given}
use Rattle.debug_program.specs.GivenText.{given_of}
use Rattle.debug_program.proofs.ScriptLemmas.{byte_kept, byte_refused, kept_over, there}
use Rattle.debug_program.proofs.including_script.IncludingScript.take_lines.Goals as goal

pub loop-self-preserved : goal.loop-self-preserved
loop-self-preserved g c =
    let s = c.loop-self.self in
    let files = file_given (g.D.ScriptFiles.text_of s.files.now) 8 in
    let now = given_of c.include.new.self in
    record {
      kept = Keeps-twice _ _ _ c.loop-self.invariant.kept
          (kept_over s.is_terminal files s.script.now s.pulled (given_of s.given) (drop s.taken (take s.length s.piece))
          (g.S.Source.remaining s.inner) now (drop (s.taken + 1) (take s.length s.piece)) (g.S.Source.remaining s.inner)
          c.loop-self.invariant.none
          (byte_kept files s.script.now (given_of s.given) (given_of c.take_byte.new.self) now
          (option_map (λ w. w.items) c.in_ok-wanted.wanted) s.piece s.taken s.length c.in-Some.byte.now
          (g.S.Source.remaining s.inner) c.in-Some.ensures.lookup.3.0 (c.in-Some.ensures.lookup.3.1 0) c.loop-self-test.true
          (c.in_ok-wanted.ensures.taken files s.script.now) c.in_ok-include.ensures.taken));
      none = c.loop-self.invariant.none;
      refusal = c.loop-self.invariant.refusal;
      terminal = c.loop-self.invariant.terminal;
    }

pub returns-in_err-wanted-clause-kept : goal.returns-in_err-wanted-clause-kept
returns-in_err-wanted-clause-kept g c =
    let s = c.loop-self.self in
    Keeps-twice _ _ _ c.loop-self.invariant.kept
    (byte_refused s.is_terminal (file_given (g.D.ScriptFiles.text_of s.files.now) 8) s.script.now s.pulled (given_of s.given)
    (given_of c.take_byte.new.self) (drop s.taken (take s.length s.piece)) (g.S.Source.remaining s.inner)
    c.in_err-wanted.ensures.kept)

pub returns-in_err-include-clause-kept : goal.returns-in_err-include-clause-kept
returns-in_err-include-clause-kept g c =
    let s = c.loop-self.self in
    Keeps-twice _ _ _ c.loop-self.invariant.kept
    (byte_refused s.is_terminal (file_given (g.D.ScriptFiles.text_of s.files.now) 8) s.script.now s.pulled (given_of s.given)
    (given_of c.include.new.self) (drop s.taken (take s.length s.piece)) (g.S.Source.remaining s.inner)
    (c.in_err-include.ensures.kept ∙ ap given_of (there c.in_ok-wanted.wanted (c.take_byte.new.self ≡ s.given)
    c.in_err-include.ensures.asked c.in_ok-wanted.ensures.waits)))
