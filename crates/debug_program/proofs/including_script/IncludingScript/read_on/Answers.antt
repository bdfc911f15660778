-- By the lemmas of ScriptLemmas.
use Rattle.std.proofs.Common.{◌≡◌, length, drop, take, arith}
use Rattle.profile.proofs.KnownLemmas.{Keeps-twice}
use Rattle.debug_program.specs.Including.{file_given}
use Rattle.debug_program.specs.GivenText.{given_of}
use Rattle.debug_program.proofs.ScriptLemmas.{clear_so}
use Rattle.debug_program.proofs.including_script.IncludingScript.read_on.Goals as goal

pub returns-in-Ok-clause-kept : goal.returns-in-Ok-clause-kept
returns-in-Ok-clause-kept g c =
    let s = c.args.self.now in
    let all : length s.given.text.items ≡ s.given.text.len = omega (arith, s.given.text.ok.0) in
    Keeps-twice _ _ _
    (clear_so s.is_terminal (file_given (g.D.ScriptFiles.text_of s.files.now) 8) s.script.now (given_of s.given)
    (drop s.taken (take s.length s.piece)) (g.S.Source.remaining s.inner) s.pulled 0 c.clear.new.self.items
    (omega (arith, all, c.requires)) c.clear.ensures.items)
    c.take_lines.ensures.kept

pub returns-in-Err-clause-kept : goal.returns-in-Err-clause-kept
returns-in-Err-clause-kept g c =
    let s = c.args.self.now in
    let all : length s.given.text.items ≡ s.given.text.len = omega (arith, s.given.text.ok.0) in
    Keeps-twice _ _ _
    (clear_so s.is_terminal (file_given (g.D.ScriptFiles.text_of s.files.now) 8) s.script.now (given_of s.given)
    (drop s.taken (take s.length s.piece)) (g.S.Source.remaining s.inner) s.pulled 0 c.clear.new.self.items
    (omega (arith, all, c.requires)) c.clear.ensures.items)
    c.take_lines.ensures.kept

pub returns-in-Err-Line-clause-kept : goal.returns-in-Err-Line-clause-kept
returns-in-Err-Line-clause-kept g c =
    let s = c.args.self.now in
    let all : length s.given.text.items ≡ s.given.text.len = omega (arith, s.given.text.ok.0) in
    Keeps-twice _ _ _
    (clear_so s.is_terminal (file_given (g.D.ScriptFiles.text_of s.files.now) 8) s.script.now (given_of s.given)
    (drop s.taken (take s.length s.piece)) (g.S.Source.remaining s.inner) s.pulled 0 c.clear.new.self.items
    (omega (arith, all, c.requires)) c.clear.ensures.items)
    c.take_lines.ensures.kept
