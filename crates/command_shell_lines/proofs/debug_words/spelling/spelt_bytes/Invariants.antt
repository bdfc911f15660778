use Rattle.std.proofs.Common.{◌≡◌, drop}
use Rattle.std.specs.Io.KnownBytes.{prepend_known}
use Rattle.command_shell_lines.specs.debug_words.Spelling.{spelt_bytes_from}
use Rattle.command_shell_lines.specs.declared.debug_words.spelling.EscapeState.TheVariants.{Plain}
use Rattle.command_shell_lines.proofs.debug_words.spelling.spelt_bytes.Given as goal

-- the bytes so far and those of what is left are those of the text
abbrev pub invariant-loop-byte : goal.invariant-loop-byte
invariant-loop-byte l = prepend_known l.bytes.items (spelt_bytes_from l.state (drop l.byte-index l.raw))
    ≡ spelt_bytes_from Plain l.raw
