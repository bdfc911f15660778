-- The items of a heap that differ after a store call, in the order of their addresses. An item is
-- another one where its length is, or where it is free and was live.
use Rattle.std.specs.Prelude.{◌≡◌, ℕ, zero, suc, ◌==◌, Bool, true, false, List, [], ◌∷◌, ◌++◌, length, take, Option, Some, None, if◌then◌else◌}
use Rattle.address_map.specs.declared.item.Item.{Item}
use Rattle.address_map.specs.declared.item.Item.TheVariants.{Free, Live}
use Rattle.store_copies.specs.Store.{Store}
use Rattle.trace_store_text.specs.items.Places.{PlacedItems, item_there, placed_items}
use Rattle.trace_store_text.specs.declared.items.changes.ItemChange.{ItemChange}
use Rattle.trace_store_text.specs.declared.items.changes.ItemChanges.{ItemChanges}

-- whether at an address the same stands in both lists
abbrev pub is_same_item : Option Item → Option Item → Bool
is_same_item None None = true
is_same_item None (Some new) = false
is_same_item (Some old) None = false
is_same_item (Some (Live old)) (Some (Live new)) = old == new
is_same_item (Some (Live old)) (Some (Free new)) = false
is_same_item (Some (Free old)) (Some (Live new)) = false
is_same_item (Some (Free old)) (Some (Free new)) = old == new

-- what is shown of an item, if one stands there
abbrev pub item_shown : ℕ → Option Item → Bool → List ItemChange
item_shown a None is_new = []
item_shown a (Some x) is_new = record { at = a; item = x; is_new = is_new } ∷ []

-- what is shown of an address: the item that is gone, and that which is new
abbrev pub item_change_at : ℕ → Option Item → Option Item → List ItemChange
item_change_at a old new = if is_same_item old new then []
    else item_shown a old false ++ item_shown a new true

-- that of so many first addresses of memory
unfoldable pub item_changes_below : (ℕ → Option Item) → (ℕ → Option Item) → ℕ → List ItemChange
item_changes_below old new zero = []
item_changes_below old new (suc a) = item_changes_below old new a ++ item_change_at a (old a) (new a)

-- that of all, where these are the items before and after
abbrev pub changes_between : PlacedItems → PlacedItems → List ItemChange
changes_between old new = item_changes_below (item_there old) (item_there new) 67108864

-- that of the heap that starts at an address
unfoldable pub item_changes : Store → Store → ℕ → List ItemChange
item_changes s s' heap = changes_between (placed_items s heap) (placed_items s' heap)

-- what is kept of some changes: the first 64, and how many there are
pub record IsItemSummary (kept : ItemChanges) (all : List ItemChange) : Type 0 where
  pub first : kept.first.items ≡ take 64 all
  pub count : kept.count ≡ length all
