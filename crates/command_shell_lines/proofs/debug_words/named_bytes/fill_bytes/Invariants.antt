use Rattle.std.proofs.Common.{◌≡◌, length}
use Rattle.command_shell_lines.specs.debug_words.NamedBytes.{fill_bytes}
use Rattle.command_shell_lines.proofs.debug_words.named_bytes.fill_bytes.Given as goal

-- so many bytes stand there
abbrev pub invariant-loop-byte : goal.invariant-loop-byte
invariant-loop-byte l = record {
  bytes : l.bytes.items ≡ fill_bytes l.pattern l._byte;
  count : length l.bytes.items ≡ l._byte;
}
