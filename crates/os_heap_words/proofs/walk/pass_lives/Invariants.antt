use Rattle.std.proofs.Common.{◌-◌, ◌≤◌}
use Rattle.os_heap_words.specs.Outcomes.{items_at}
use Rattle.os_heap_words.specs.lists.Walks.{IsWalked}
use Rattle.os_heap_words.proofs.walk.pass_lives.Given as goal

abbrev pub invariant-loop-at : goal.invariant-loop-at
invariant-loop-at l =
    IsWalked l.heap (items_at l.map l.heap) l.block l.cursor.from l.at l.cursor.free l.cursor.gap l.probes × (l.cursor.at ≤ l.at)

abbrev pub decreases-loop-at : goal.decreases-loop-at
decreases-loop-at l = l.limit - l.at
