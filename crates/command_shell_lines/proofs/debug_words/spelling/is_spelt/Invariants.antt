use Rattle.std.proofs.Common.{◌≡◌, drop}
use Rattle.command_shell_lines.specs.debug_words.Spelling.{are_these_bytes, spelt_bytes_from}
use Rattle.command_shell_lines.specs.declared.debug_words.spelling.EscapeState.TheVariants.{Plain}
use Rattle.command_shell_lines.proofs.debug_words.spelling.is_spelt.Given as goal

-- what is left of the text stands for the bytes that are left, where all of it stands for all
abbrev pub invariant-loop-byte : goal.invariant-loop-byte
invariant-loop-byte l = are_these_bytes (spelt_bytes_from l.state (drop l.byte-index l.raw)) l.rest
    ≡ are_these_bytes (spelt_bytes_from Plain l.raw) l.bytes
