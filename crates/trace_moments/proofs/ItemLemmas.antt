-- The items that differ, as a walk over both heaps finds them.
use Rattle.std.proofs.Common.{◌≡◌, ◌+◌, ◌≤◌, ◌^◌, ℕ, List, [], ◌++◌, Option, Some, refl, sym, ap, ◌∙◌, append_assoc}
use Rattle.std.proofs.lemmas.List.{append-nil}
use Rattle.address_map.specs.Items.{size_of}
use Rattle.address_map.specs.declared.item.Item.{Item}
use Rattle.os_heap.specs.Store.{Store}
use Rattle.os_heap_words.specs.lists.Heap.{AreTotals}
use Rattle.trace_store_text.specs.items.Changes.{changes_between, item_change_at, item_changes}
use Rattle.trace_store_text.specs.items.Places.{PlacedItems, item_taken, items_after_taking, lower_place, place_next, placed_items}
use Rattle.trace_store_text.specs.declared.items.changes.ItemChange.{ItemChange}
use Rattle.trace_moments.proofs.WalkLemmas.{next_split}

-- what was found, and what is still to come, are all
pub record AreAllBut (found left all : List ItemChange) : Type 0 where
  pub split : all ≡ found ++ left

pub none_found : (s s' : Store) (heap : ℕ) (p q : PlacedItems) → p ≡ placed_items s heap → q ≡ placed_items s' heap
    → AreAllBut [] (changes_between p q) (item_changes s s' heap)
unfolding item_changes
none_found s s' heap p q is_old is_new = record { split = rw (is_old, is_new) refl }

pub next_found : (found found' : List ItemChange) (p q : PlacedItems) (a : ℕ) (all : List ItemChange) (o o' : Option Item) (p' q' : PlacedItems)
    → AreTotals p.items → AreTotals q.items → p.at + size_of p.items ≤ 2 ^ 26 → q.at + size_of q.items ≤ 2 ^ 26
    → lower_place (place_next p) (place_next q) ≡ Some a
    → o ≡ item_taken a p → o' ≡ item_taken a q → p' ≡ items_after_taking a p → q' ≡ items_after_taking a q
    → AreAllBut found (changes_between p q) all → found' ≡ found ++ item_change_at a o o' → AreAllBut found' (changes_between p' q') all
next_found found found' p q a all o o' p' q' totals totals' below below' next is_old is_new is_left is_left' is more =
    let split : changes_between p q ≡ item_change_at a o o' ++ changes_between p' q' =
    rw (is_old, is_new, is_left, is_left') (next_split p q a totals totals' below below' next) in
    record {
      split = is.split ∙ (ap (λ (xs : List ItemChange). found ++ xs) split
          ∙ (sym (append_assoc found (item_change_at a o o') (changes_between p' q')) ∙ ap (λ (xs : List ItemChange). xs ++ changes_between p' q') (sym more)));
    }

pub all_found : (found left all : List ItemChange) → left ≡ [] → AreAllBut found left all → found ≡ all
all_found found left all none is =
    sym (is.split ∙ (ap (λ (xs : List ItemChange). found ++ xs) none ∙ append-nil found))
