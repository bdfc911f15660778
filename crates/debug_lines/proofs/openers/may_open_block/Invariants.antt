use Rattle.std.proofs.Common.{◌≡◌, drop}
use Rattle.debug_lines.specs.Openers.{may_open_block}
use Rattle.debug_lines.proofs.openers.may_open_block.Given as goal

-- The bytes that were passed are blanks.
abbrev pub invariant-loop-byte : goal.invariant-loop-byte
invariant-loop-byte l = may_open_block (drop l.byte-index l.line) ≡ may_open_block l.line
