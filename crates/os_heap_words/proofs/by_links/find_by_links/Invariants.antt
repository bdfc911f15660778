use Rattle.std.proofs.Common.{◌-◌, ◌^◌}
use Rattle.os_heap_words.specs.Outcomes.{items_at}
use Rattle.os_heap_words.specs.lists.Walks.{IsLinked}
use Rattle.os_heap_words.proofs.by_links.find_by_links.Given as goal

abbrev pub invariant-loop-cursor : goal.invariant-loop-cursor
invariant-loop-cursor l = IsLinked l.heap (items_at l.map l.heap) l.block l.cursor.from l.cursor.at l.cursor.free l.cursor.gap l.cursor.probes

abbrev pub decreases-loop-cursor : goal.decreases-loop-cursor
decreases-loop-cursor l = 2 ^ 32 - l.cursor.at
