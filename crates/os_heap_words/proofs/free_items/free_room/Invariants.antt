use Rattle.std.proofs.Common.{◌+◌, ◌-◌}
use Rattle.address_map.specs.Bytes.{word_at}
use Rattle.address_map.specs.Memory.{byte_at}
use Rattle.os_heap_words.specs.lists.Counts.{free_count}
use Rattle.os_heap_words.specs.Outcomes.{items_at}
use Rattle.os_heap_words.specs.lists.Walks.{IsTallied}
use Rattle.os_heap_words.proofs.free_items.free_room.Given as goal

abbrev pub invariant-loop-tally : goal.invariant-loop-tally
invariant-loop-tally l =
    IsTallied (word_at (byte_at l.map)) l.heap (l.heap + l.end) (items_at l.map l.heap) l.tally.at l.tally.count l.tally.total l.tally.largest

abbrev pub decreases-loop-tally : goal.decreases-loop-tally
decreases-loop-tally l = free_count (items_at l.map l.heap) - l.tally.count
