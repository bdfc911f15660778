use Rattle.std.proofs.Common.{◌-◌, ◌^◌, ◌==◌, cond}
use Rattle.os_heap_words.specs.Outcomes.{items_at}
use Rattle.os_heap_words.specs.lists.Walks.{IsSearched}
use Rattle.os_heap_words.proofs.claim.find_fit.Given as goal

abbrev pub invariant-loop-at : goal.invariant-loop-at
invariant-loop-at l = IsSearched l.heap (items_at l.map l.heap) l.needed l.from l.at l.probes

abbrev pub decreases-loop-at : goal.decreases-loop-at
decreases-loop-at l = cond (l.at == 0) 0 (2 ^ 32 - l.at)
