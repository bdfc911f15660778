-- What the lists of items are good for.
use Rattle.std.specs.Prelude.{◌≡◌, ◌≢◌, ℕ, ◌<◌, ◌^◌, ◌==◌, Bool, true, false, List, [], ◌∷◌, Contains, Option, Some, None, if◌then◌else◌}
use Rattle.address_map.specs.declared.item.Item.{Item}
use Rattle.store_copies.specs.Store.{Store}
use Rattle.trace_store_text.specs.items.Changes.{item_changes}
use Rattle.trace_store_text.specs.items.Places.{item_there, placed_items}
use Rattle.trace_store_text.specs.declared.items.changes.ItemChange.{ItemChange}

-- the items by their addresses, where one is gone or new
abbrev pub with_item_change : ItemChange → (ℕ → Option Item) → ℕ → Option Item
with_item_change c items a = if a == c.at then (if c.is_new then Some c.item else None) else items a

abbrev pub with_item_changes : List ItemChange → (ℕ → Option Item) → ℕ → Option Item
with_item_changes [] items = items
with_item_changes (c ∷ cs) items = with_item_changes cs (with_item_change c items)

-- Complete: the items after a call are those before it, with the items that are shown gone and new.
abbrev pub ExplainsHeaps : Type 0
ExplainsHeaps = (s s' : Store) (heap a : ℕ) → a < 2 ^ 26
    → item_there (placed_items s' heap) a
    ≡ with_item_changes (item_changes s s' heap) (item_there (placed_items s heap)) a

-- True: what is shown as gone stood there before and doesn't after, and the other way round.
abbrev pub IsItemChange : (ℕ → Option Item) → (ℕ → Option Item) → ItemChange → Bool → Type 0
IsItemChange old new c false = (old c.at ≡ Some c.item) × (new c.at ≢ Some c.item)
IsItemChange old new c true = (new c.at ≡ Some c.item) × (old c.at ≢ Some c.item)

abbrev pub ListsItems : Type 0
ListsItems = (s s' : Store) (heap : ℕ) (c : ItemChange) → Contains (item_changes s s' heap) c
    → IsItemChange (item_there (placed_items s heap)) (item_there (placed_items s' heap)) c c.is_new
