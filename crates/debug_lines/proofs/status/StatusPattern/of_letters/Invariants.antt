use Rattle.std.proofs.Common.{◌≡◌, drop}
use Rattle.debug_lines.specs.Status.{any_status, with_letters}
use Rattle.debug_lines.proofs.status.StatusPattern.of_letters.Given as goal

-- the pattern so far and the letters that are left make the pattern
abbrev pub invariant-loop-letter : goal.invariant-loop-letter
invariant-loop-letter l = with_letters l.pattern (drop l.letter-index l.letters) ≡ with_letters any_status l.letters
