use Rattle.std.proofs.Common.{◌≡◌, ◌≤◌, ◌+◌, drop, false}
use Rattle.debug_listing.specs.Tails.{tail_words}
use Rattle.debug_listing.proofs.tails.word_count.Given as goal

-- the words that were counted, and those that are left, are all
abbrev pub invariant-loop-byte : goal.invariant-loop-byte
invariant-loop-byte l = record {
  counted : l.count + tail_words l.in_word l.in_quotes (drop l.byte-index l.tail) ≡ tail_words false false l.tail;
  few : l.count ≤ l.byte-index;
}
