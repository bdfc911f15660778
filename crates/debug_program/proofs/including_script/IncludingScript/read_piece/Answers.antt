-- By the lemmas of ScriptLemmas.
use Rattle.std.proofs.Common.{◌≡◌, ◌∙◌, ap, drop, take, vec_len, arith, sym}
use Rattle.std.proofs.Math.ListN.{drop_of_length-le}
use Rattle.std.proofs.lemmas.List.{length-take, nil_from_length}
use Rattle.std.proofs.lemmas.Bool.Decides.{nat_tests}
use Rattle.std.specs.Prelude.{option_map}
use Rattle.debug_program.specs.Including.{file_given}
use Rattle.debug_program.specs.GivenText.{given_of}
use Rattle.debug_program.proofs.ScriptLemmas.{line_gone, read_end, read_last, read_refused, there}
use Rattle.debug_program.proofs.including_script.IncludingScript.read_piece.Goals as goal

pub returns-in_err-include-clause-kept : goal.returns-in_err-include-clause-kept
returns-in_err-include-clause-kept g c =
    let s = c.args.self.now in
    read_refused s.is_terminal (file_given (g.D.ScriptFiles.text_of s.files.now) 8) s.script.now s.pulled (given_of s.given)
    (given_of c.include.new.self) (drop s.taken (take s.length s.piece)) (drop 0 (take c.in-Ok.count c.pull.new.buffer))
    (g.S.Source.remaining s.inner) (g.S.Source.remaining c.pull.new.self) c.requires.none
    (drop_of_length-le (take s.length s.piece) (omega (arith, c.requires.read, length-take s.length s.piece)))
    c.in-Ok.ensures.bytes.0
    (c.in_err-include.ensures.kept ∙ ap given_of (there c.in_ok-wanted.wanted (c.take_last.new.self ≡ s.given) c.in_err-include.ensures.asked
    c.in_ok-wanted.ensures.waits))

pub returns-clause-kept : goal.returns-clause-kept
returns-clause-kept g c =
    let s = c.args.self.now in
    let files = file_given (g.D.ScriptFiles.text_of s.files.now) 8 in
    let none : c.in-Ok.count ≡ 0 = omega (arith, c.if-count-gt0.false) in
    read_last s.is_terminal files s.script.now s.pulled (given_of s.given) (given_of c.take_last.new.self)
    (given_of c.include.new.self) (option_map (λ w. w.items) c.in_ok-wanted.wanted) (drop s.taken (take s.length s.piece)) (drop 0 (take c.in-Ok.count c.pull.new.buffer))
    (g.S.Source.remaining s.inner) (g.S.Source.remaining c.pull.new.self) c.requires.none
    (drop_of_length-le (take s.length s.piece) (omega (arith, c.requires.read, length-take s.length s.piece)))
    (ap (λ n. take n c.pull.new.buffer) none) c.in-Ok.ensures.bytes.0
    (c.in-Ok.ensures.bytes.1 none (omega (arith, c.pull.auto.buffer)))
    (line_gone c.in_ok-wanted.wanted c.include.new.self c.take_last.new.self c.in_ok-include.ensures.line c.in_ok-include.ensures.none
    c.in_ok-wanted.ensures.line)
    (c.in_ok-wanted.ensures.taken files s.script.now) c.in_ok-include.ensures.taken

pub returns-clause-end : goal.returns-clause-end
returns-clause-end g c = λ is.
    let s = c.args.self.now in
    let files = file_given (g.D.ScriptFiles.text_of s.files.now) 8 in
    let none : c.in-Ok.count ≡ 0 = omega (arith, c.if-count-gt0.false) in
    let empty : vec_len c.include.new.self.text ≡ 0 = let e = sym c.is_empty.ensures ∙ is in grind (arith, nat_tests) in
    read_end s.is_terminal files s.script.now s.pulled (given_of c.include.new.self) (drop 0 (take c.in-Ok.count c.pull.new.buffer))
    (g.S.Source.remaining c.pull.new.self) c.requires.none (ap (λ n. take n c.pull.new.buffer) none)
    (c.in-Ok.ensures.bytes.1 none (omega (arith, c.pull.auto.buffer)))
    (line_gone c.in_ok-wanted.wanted c.include.new.self c.take_last.new.self c.in_ok-include.ensures.line c.in_ok-include.ensures.none
    c.in_ok-wanted.ensures.line)
    (nil_from_length c.include.new.self.text.items (omega (arith, empty, c.include.new.self.text.ok.0)))
