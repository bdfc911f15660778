-- By the lemmas of ScriptLemmas.
use Rattle.std.proofs.Common.{◌≡◌, ◌<◌, ◌-◌, ◌∙◌, ℕ, List, [], length, drop, take, ap, arith, take_all}
use Rattle.std.proofs.KnownBytes.{Consumes-nil}
use Rattle.std.proofs.lemmas.List.{length-drop}
use Rattle.profile.proofs.KnownLemmas.{Keeps-consumes, Keeps-twice}
use Rattle.debug_program.specs.Including.{file_given}
use Rattle.debug_program.specs.GivenText.{given_of}
use Rattle.debug_program.proofs.ScriptLemmas.{put_so}
use Rattle.debug_program.proofs.including_script.IncludingScriptSource.pull.Goals as goal

pub returns-then-self-len-clause-bytes : goal.returns-then-self-len-clause-bytes
returns-then-self-len-clause-bytes g c =
    let s = c.loop-pulls.self in
    let text : List ℕ = s.given.text.items in
    let lent : List ℕ = c.deref.result.now in
    let count : ℕ = c.min-count.result in
    let some : s.pulled < length text = omega (arith, c.if-self-len.true, c.len.ensures, s.given.text.ok.0) in
    let left : take (length lent - s.pulled) (drop s.pulled lent) ≡ drop s.pulled text =
    take_all (length lent - s.pulled) (drop s.pulled lent) (omega (arith, length-drop s.pulled lent)) ∙ ap (drop s.pulled) c.deref.ensures.value in
    let many : length (take (length lent - s.pulled) (drop s.pulled lent)) ≡ length text - s.pulled =
    ap length left ∙ length-drop s.pulled text in (
      Keeps-consumes _ _ _ _ c.loop-pulls.invariant.kept
          (put_so s.is_terminal (file_given (g.D.ScriptFiles.text_of s.files.now) 8) s.script.now (given_of s.given)
          (drop s.taken (take s.length s.piece)) (g.S.Source.remaining s.inner) s.pulled s.pulled count
          c.copy_from_slice.new.self (drop count c.loop-pulls.buffer)
          (omega (arith, some)) (omega (arith, some, many, c.min-count.ensures)) (c.copy_from_slice.ensures.after ∙ ap (take count) left)),
      λ none within. absurd (omega (arith, none, some, many, c.min-count.ensures, c.requires, c.loop-pulls.auto.buffer)),
    )

pub returns-in_default-clause-bytes : goal.returns-in_default-clause-bytes
returns-in_default-clause-bytes g c = Keeps-twice _ _ _ c.loop-pulls.invariant.kept c.read_on.ensures.kept

pub returns-then-is_end-clause-bytes : goal.returns-then-is_end-clause-bytes
returns-then-is_end-clause-bytes g c = (
  Keeps-consumes _ _ _ [] (Keeps-twice _ _ _ c.loop-pulls.invariant.kept c.read_on.ensures.kept) (Consumes-nil _),
  λ none within. c.in-Ok.ensures.end c.if-is_end.true,
)

pub returns-clause-bytes : goal.returns-clause-bytes
returns-clause-bytes g c = c.loop-pulls.invariant.kept
