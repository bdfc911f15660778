use Rattle.std.proofs.Common.{◌≡◌, ◌*◌, length, take}
use Rattle.debug_tables.specs.Stubs.{bytes_of_stub_words}
use Rattle.debug_tables.proofs.stub_deeds.bytes_of_stub_words.Given as goal

-- the bytes so far
abbrev pub invariant-loop-word : goal.invariant-loop-word
invariant-loop-word l = record {
  items : l.bytes.items ≡ bytes_of_stub_words (take l.word-index l.words);
  count : length l.bytes.items ≡ 4 * l.word-index;
}
