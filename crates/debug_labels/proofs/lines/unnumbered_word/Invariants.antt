use Rattle.std.proofs.Common.{◌≡◌, ◌+◌, [], length}
use Rattle.std.specs.Option.{option_map_or}
use Rattle.command_shell_lines.specs.Requests.{words}
use Rattle.debug_labels.specs.Lines.{unnumbered_behind, unnumbered_word}
use Rattle.debug_labels.proofs.lines.unnumbered_word.Given as goal

-- what the words that are left give is what all give
abbrev pub invariant-loop-rest : goal.invariant-loop-rest
invariant-loop-rest l =
    unnumbered_behind l.left (option_map_or (λ rest. words rest.now) l.rest []) ≡ unnumbered_word (words l.line)

-- the bytes that are left
abbrev pub decreases-loop-rest : goal.decreases-loop-rest
decreases-loop-rest l = option_map_or (λ rest. length rest.now + 1) l.rest 0
