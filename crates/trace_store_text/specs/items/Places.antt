-- The items of a heap by their addresses: the first behind the four words of the descriptor, each
-- other behind the one before it (RISC OS 3 Programmer's Reference Manual, "OS_Heap", the internal
-- format).
use Rattle.std.specs.Prelude.{◌≡◌, ◌≤◌, ℕ, ◌+◌, ◌^◌, ◌==◌, nat_le, List, [], ◌∷◌, Option, Some, None, option_map, unwrap_or, if◌then◌else◌}
use Rattle.address_map.specs.Items.{size_of, total_of}
use Rattle.address_map.specs.declared.item.Item.{Item}
use Rattle.store_copies.specs.Calls.{items_of}
use Rattle.store_copies.specs.Store.{Store}
use Rattle.store_copies.specs.Heap.{AreTotals}

-- items one after another, the first of them at an address
pub record PlacedItems : Type 0 where
  pub at : ℕ
  pub items : List Item

abbrev pub no_items : PlacedItems
no_items = record { at = 0; items = [] }

-- those of the heap that starts at an address, and none where none does
unfoldable pub placed_items : Store → ℕ → PlacedItems
placed_items s heap = unwrap_or (option_map (λ items. record { at = heap + 16; items = items })
    (items_of s heap)) no_items

-- the item that stands at an address, where the first is at `at`
abbrev pub item_placed : ℕ → List Item → ℕ → Option Item
item_placed at [] a = None
item_placed at (x ∷ xs) a = if a == at then Some x else item_placed (at + total_of x) xs a

abbrev pub item_there : PlacedItems → ℕ → Option Item
item_there p = item_placed p.at p.items

-- A walk over them: where the next stands, if one is left.
abbrev pub first_item : List Item → Option Item
first_item [] = None
first_item (x ∷ xs) = Some x

abbrev pub rest_of : List Item → List Item
rest_of [] = []
rest_of (x ∷ xs) = xs

abbrev pub place_next : PlacedItems → Option ℕ
place_next p = option_map (λ _. p.at) (first_item p.items)

abbrev pub lower_place : Option ℕ → Option ℕ → Option ℕ
lower_place None other = other
lower_place (Some one) None = Some one
lower_place (Some one) (Some other) = if nat_le one other then Some one else Some other

-- the next is taken, if it stands at an address
abbrev pub taken_by : ℕ → ℕ → List Item → Option Item
taken_by a at [] = None
taken_by a at (x ∷ xs) = if at == a then Some x else None

abbrev pub item_taken : ℕ → PlacedItems → Option Item
item_taken a p = taken_by a p.at p.items

abbrev pub after_taking_by : ℕ → ℕ → List Item → PlacedItems
after_taking_by a at [] = record { at = at; items = [] }
after_taking_by a at (x ∷ xs) = if at == a then record { at = at + total_of x; items = xs }
    else record { at = at; items = x ∷ xs }

abbrev pub items_after_taking : ℕ → PlacedItems → PlacedItems
items_after_taking a p = after_taking_by a p.at p.items

-- the next, and those behind it
abbrev pub items_with_next : Option Item → List Item → List Item
items_with_next None rest = rest
items_with_next (Some x) rest = x ∷ rest

abbrev pub IsEnded : Option Item → List Item → Type 0
IsEnded None rest = rest ≡ []
IsEnded (Some x) rest = Unit {0}

pub record IsWalk (at : ℕ) (next : Option Item) (rest : List Item) : Type 0 where
  pub ended : IsEnded next rest
  pub totals : AreTotals (items_with_next next rest)
  pub below : at + size_of (items_with_next next rest) ≤ 2 ^ 26
