-- What stands written, and the lines of the words that are left, is all; and so is how many differ.
use Rattle.std.proofs.Common.{◌≡◌}
use Rattle.debug_listing.proofs.ComparingLemmas.{IsComparedSoFar}
use Rattle.debug_listing.specs.Comparing.{words_of_both}
use Rattle.debug_listing.proofs.comparing.push_differences.Given as goal

abbrev pub invariant-loop-k : goal.invariant-loop-k
invariant-loop-k g l = record {
  so_far : IsComparedSoFar (g.W.Sink.contents l.fn.sink) (g.W.Sink.contents l.sink) l.one l.other
      (words_of_both l.one l.other) l.k l.found;
  same_flag : g.W.Sink.has_failed l.sink ≡ g.W.Sink.has_failed l.fn.sink;
}
