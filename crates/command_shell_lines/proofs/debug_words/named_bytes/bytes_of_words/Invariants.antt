use Rattle.std.proofs.Common.{◌≡◌, ◌+◌, [], length}
use Rattle.std.specs.Io.KnownBytes.{prepend_known}
use Rattle.std.specs.Option.{option_map_or}
use Rattle.command_shell_lines.specs.Requests.{words}
use Rattle.command_shell_lines.specs.debug_words.NamedBytes.{bytes_of_words}
use Rattle.command_shell_lines.proofs.debug_words.named_bytes.bytes_of_words.Given as goal

-- the bytes so far and those of the words that are left are those of all
abbrev pub invariant-loop-rest : goal.invariant-loop-rest
invariant-loop-rest l = prepend_known l.bytes.items (bytes_of_words (option_map_or (λ rest. words rest.now) l.rest []))
    ≡ bytes_of_words (words l.list)

-- the bytes that are left
abbrev pub decreases-loop-rest : goal.decreases-loop-rest
decreases-loop-rest l = option_map_or (λ rest. length rest.now + 1) l.rest 0
