use Rattle.std.proofs.Common.{◌≡◌, ◌+◌, ◌++◌, ◌∷◌, [], length}
use Rattle.std.specs.Option.{option_map_or}
use Rattle.std.specs.List.{join_with_byte}
use Rattle.command_shell_lines.specs.Requests.{words}
use Rattle.debug_labels.specs.Lines.{numbered_words}
use Rattle.debug_labels.proofs.words.PlaceNames.numbered.Given as goal

-- what was written, and the words that are left, is all
abbrev pub invariant-loop-rest : goal.invariant-loop-rest
invariant-loop-rest l =
    l.text.items ++ join_with_byte 32 (numbered_words l.self l.left (l.word ∷ option_map_or (λ rest. words rest.now) l.rest []))
    ≡ join_with_byte 32 (numbered_words l.self l.kept (words l.line))

-- the bytes that are left
abbrev pub decreases-loop-rest : goal.decreases-loop-rest
decreases-loop-rest l = option_map_or (λ rest. length rest.now + 1) l.rest 0
