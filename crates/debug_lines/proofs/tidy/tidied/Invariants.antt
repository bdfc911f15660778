use Rattle.std.proofs.Common.{◌≡◌, ◌++◌, drop}
use Rattle.debug_lines.specs.Tidy.{tidied_from}
use Rattle.debug_lines.specs.declared.tidy.TidyState.TheVariants.{AtStart}
use Rattle.debug_lines.proofs.tidy.tidied.Given as goal

-- what was made tidy, and then what is left
abbrev pub invariant-loop-byte : goal.invariant-loop-byte
invariant-loop-byte l = l.tidy.items ++ tidied_from l.state (drop l.byte-index l.line) ≡ tidied_from AtStart l.line
