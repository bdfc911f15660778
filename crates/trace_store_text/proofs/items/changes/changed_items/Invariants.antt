use Rattle.std.proofs.Common.{◌≡◌, ◌+◌, length}
use Rattle.store_copies.specs.Store.{store_of}
use Rattle.trace_store_text.specs.items.Changes.{changes_between, item_changes}
use Rattle.trace_store_text.proofs.ItemsLemmas.ChangeLemmas.{IsSummaryAllBut}
use Rattle.trace_store_text.proofs.items.changes.changed_items.Given as goal

-- what was passed is kept, and what is left is that of the rests of both walks
abbrev pub invariant-loop-at : goal.invariant-loop-at
invariant-loop-at l = IsSummaryAllBut l.changes (changes_between l.olds l.news) (item_changes (store_of l.before) (store_of l.after) l.heap)

abbrev pub decreases-loop-at : goal.decreases-loop-at
decreases-loop-at l = length l.olds.items + length l.news.items
