use Rattle.std.proofs.Common.{◌+◌, length}
use Rattle.os_heap.specs.Store.{store_of}
use Rattle.trace_store_text.specs.items.Changes.{changes_between, item_changes}
use Rattle.trace_moments.proofs.ItemLemmas.{AreAllBut}
use Rattle.trace_moments.proofs.items.all_changed_items.Given as goal

-- what was found, and what the rests of both walks have, are all
abbrev pub invariant-loop-at : goal.invariant-loop-at
invariant-loop-at l = AreAllBut l.changes.items (changes_between l.olds l.news) (item_changes (store_of l.before) (store_of l.after) l.heap)

abbrev pub decreases-loop-at : goal.decreases-loop-at
decreases-loop-at l = length l.olds.items + length l.news.items
