-- The items of a heap, and the words that they spell. A heap is a descriptor of four words (its
-- name, the offset of its first free block, the base and the end), then its items without gaps up
-- to the base. A block's first word is its total length; a free block's first word is the distance
-- to the next free one, or 0, and its second word is its total length (RISC OS 3 Programmer's
-- Reference Manual, "OS_Heap", the internal format; that lengths are totals is this project's own).
use Rattle.std.specs.Prelude.{ℕ, Bool, false, zero, suc, ◌+◌, ◌%◌, ◌==◌, ◌&&◌, ◌||◌, nat_le, List, [], ◌∷◌, Option, Some, None, if◌then◌else◌}
use Rattle.address_map.specs.declared.item.Item.{Item}
use Rattle.address_map.specs.declared.item.Item.TheVariants.{Live, Free}
use Rattle.address_map.specs.Bytes.{in_range}

abbrev pub total_of : Item → ℕ
total_of (Live t) = t
total_of (Free t) = t

-- the bytes of all items
abbrev pub size_of : List Item → ℕ
size_of [] = 0
size_of (x ∷ xs) = total_of x + size_of xs

-- lengths of items are multiples of 8, and at least 8
abbrev pub is_total : ℕ → Bool
is_total t = nat_le 8 t && t % 8 == 0

-- where a link at `from` leads: no link is 0
abbrev pub link_target : ℕ → ℕ → ℕ
link_target from distance = if distance == 0 then 0 else from + distance

-- the item that the words at `at` spell, if its length is one that an item can have
abbrev pub item_at : (ℕ → ℕ) → ℕ → ℕ → Option Item
item_at w at free =
    if at == free
    then (if is_total (w (at + 4)) then Some (Free (w (at + 4))) else None)
    else (if is_total (w at) then Some (Live (w at)) else None)

-- where the next free item after the item at `at` is, or 0
abbrev pub free_after : (ℕ → ℕ) → ℕ → ℕ → Item → ℕ
free_after w at free (Live t) = free
free_after w at free (Free t) = link_target at (w at)

-- an item and those that follow it, or none where there is no item
abbrev pub item_and_rest : Option Item → (Item → List Item) → List Item
item_and_rest None rest = []
item_and_rest (Some item) rest = item ∷ rest item

-- The items that the words from `at` on spell, up to the address `base`, where the next free one is
-- at `free`, or there is none where that is 0. A length that no item can have ends them. Each item
-- has at least 8 bytes, so the first number, which bounds how many are looked at, never ends them
-- where it is as great as the bytes up to the base.
abbrev pub items_from : ℕ → (ℕ → ℕ) → ℕ → ℕ → ℕ → List Item
items_from zero w at free base = []
items_from (suc most) w at free base = if nat_le base at then [] else
    item_and_rest (item_at w at free) (λ item. items_from most w (at + total_of item)
    (free_after w at free item) base)

-- the items of the heap whose descriptor is at `start`; `w` shows the word at each address
unfoldable pub items_in : (ℕ → ℕ) → ℕ → List Item
items_in w start = items_from (w (start + 8)) w (start + 16) (link_target start (w (start + 4)))
    (start + w (start + 8))

-- is the word at `a` one of those that the item at `at` spells?
abbrev pub is_head_of : ℕ → Item → ℕ → Bool
is_head_of at (Live t) a = a == at
is_head_of at (Free t) a = a == at || a == at + 4

-- the words that the items spell, where the first of them is at `at`: is the word at `a` one of
-- these?
abbrev pub is_head : ℕ → List Item → ℕ → Bool
is_head at [] a = false
is_head at (Live t ∷ xs) a = a == at || is_head (at + t) xs a
is_head at (Free t ∷ xs) a = (a == at || a == at + 4) || is_head (at + t) xs a

-- the words of a heap that starts at `start`: those of its descriptor, and those of its items
abbrev pub is_heap_word : ℕ → List Item → ℕ → Bool
is_heap_word start items a = in_range start 16 a || is_head (start + 16) items a
