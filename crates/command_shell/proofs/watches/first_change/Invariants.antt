use Rattle.std.proofs.Common.{◌≡◌, drop}
use Rattle.debugger.specs.AddressMapMemory.{bytes_of}
use Rattle.profile.specs.Firsts.{first_of}
use Rattle.command_shell.specs.WordWatches.{change_of_word}
use Rattle.command_shell.proofs.watches.first_change.Given as goal

-- none of the words that were passed has changed
abbrev pub invariant-loop-word : goal.invariant-loop-word
invariant-loop-word l =
    first_of (change_of_word (bytes_of l.memory)) (drop l.word-index l.words) ≡ first_of (change_of_word (bytes_of l.memory)) l.words
