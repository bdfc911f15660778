use Rattle.std.proofs.Common.{◌≡◌, length, take}
use Rattle.debugger.specs.AddressMapMemory.{bytes_of}
use Rattle.command_shell.specs.WordWatches.{watched_words}
use Rattle.command_shell.proofs.watches.words_at.Given as goal

-- the words that were passed
abbrev pub invariant-loop-address : goal.invariant-loop-address
invariant-loop-address l = record {
  words : l.words.items ≡ watched_words (take l.address-index l.addresses) (bytes_of l.memory);
  few : length l.words.items ≡ l.address-index;
}
