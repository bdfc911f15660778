use Rattle.std.proofs.Common.{◌≡◌, drop}
use Rattle.std.specs.Prelude.{is_some}
use Rattle.command_shell_lines.specs.debug_words.Spelling.{spelt_bytes_from}
use Rattle.command_shell_lines.specs.declared.debug_words.spelling.EscapeState.TheVariants.{Plain}
use Rattle.command_shell_lines.proofs.debug_words.spelling.is_well_spelt.Given as goal

-- what is left of the text is well spelt where all of it is
abbrev pub invariant-loop-byte : goal.invariant-loop-byte
invariant-loop-byte l = is_some (spelt_bytes_from l.state (drop l.byte-index l.raw))
    ≡ is_some (spelt_bytes_from Plain l.raw)
