use Rattle.std.proofs.Common.{◌≡◌, ◌+◌, [], length}
use Rattle.std.specs.Option.{option_map_or}
use Rattle.command_shell_lines.specs.Requests.{words}
use Rattle.command_shell_lines.specs.debug_words.StubLines.{empty_stub, read_stub_words}
use Rattle.command_shell_lines.proofs.debug_words.stubs.stub_of_line.Given as goal

-- what was read and the words that are left make what all of them make
abbrev pub invariant-loop-left : goal.invariant-loop-left
invariant-loop-left l =
    read_stub_words l.reading (option_map_or (λ rest. words rest.now) l.left [])
    ≡ read_stub_words l.initial.reading (option_map_or (λ rest. words rest.now) l.initial.left [])

-- the bytes that are left
abbrev pub decreases-loop-left : goal.decreases-loop-left
decreases-loop-left l = option_map_or (λ rest. length rest.now + 1) l.left 0
