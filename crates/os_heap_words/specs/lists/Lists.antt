-- What the heap calls do to a heap's list of items (RISC OS 3 Programmer's Reference Manual,
-- "OS_Heap", reasons 2 to 4; that the first block that fits is taken, that a block changes its size
-- in place where there is room, and the rounding of lengths, are this project's own). Nothing here
-- speaks of words or links.
use Rattle.std.specs.Option.{option_map}
use Rattle.std.specs.Prelude.{ℕ, ◌+◌, ◌/◌, ◌*◌, ◌==◌, [], List, if◌then◌else◌, ◌∷◌, None, Option, Some, ◌-◌, ◌++◌, nat_le, nat_lt, ◌^◌}
use Rattle.address_map.specs.Items.{size_of}
use Rattle.address_map.specs.declared.item.Item.{Item}
use Rattle.address_map.specs.declared.item.Item.TheVariants.{Free, Live}

abbrev pub round_up_8 : ℕ → ℕ
round_up_8 n = 8 * ((n + 7) / 8)

-- the total of a block for `n` bytes: its length word too, a multiple of 8, at least 8 (which the
-- rounding gives, 4 being more than none)
abbrev pub total_for : ℕ → ℕ
total_for n = round_up_8 (n + 4)

-- what is left of a free item of `t` bytes whose first `n` are taken
abbrev pub left_free : ℕ → List Item
left_free n = if n == 0 then [] else (Free n ∷ [])

-- A block of `n` bytes made at the front of the first free item that has as many: where it is,
-- counted from the first item, and the list then.
pub record Claim : Type 0 where
  pub offset : ℕ
  pub items : List Item

abbrev pub claim_behind : Item → Option Claim → Option Claim
claim_behind x None = None
claim_behind x (Some c) = Some (record { offset = size_of (x ∷ []) + c.offset; items = x ∷ c.items })

abbrev pub first_fit : ℕ → List Item → Option Claim
first_fit n [] = None
first_fit n (Live t ∷ xs) = claim_behind (Live t) (first_fit n xs)
first_fit n (Free t ∷ xs) = if nat_le n t
    then Some (record { offset = 0; items = Live n ∷ (left_free (t - n) ++ xs) })
    else claim_behind (Free t) (first_fit n xs)

-- A claim: the first free item that fits, else a block at the base, where `room` bytes from the
-- first item to the heap's end suffice.
abbrev pub or_at_base : ℕ → ℕ → List Item → Option Claim → Option Claim
or_at_base n room xs (Some c) = Some c
or_at_base n room xs None = if nat_le (size_of xs + n) room
    then Some (record { offset = size_of xs; items = xs ++ Live n ∷ [] })
    else None

unfoldable pub claim_in_items : ℕ → ℕ → List Item → Option Claim
claim_in_items n room xs = or_at_base n room xs (first_fit n xs)

-- An item is freed: it joins the free item after it, and the one before it, if there are such. A
-- free item at the end is dropped.
abbrev pub items_after_free : ℕ → List Item → List Item
items_after_free n [] = []
items_after_free n (Live t ∷ xs) = Free n ∷ (Live t ∷ xs)
items_after_free n (Free t ∷ xs) = Free (n + t) ∷ xs

-- a free item of `gap` bytes before a list, which it joins where that begins with a free one; none
-- where `gap` is 0
abbrev pub items_with_gap : ℕ → List Item → List Item
items_with_gap gap xs = if gap == 0 then xs else items_after_free gap xs

-- The block whose bytes begin at the address `block` is given back, where the first item is at
-- `at`; none, if there is no such block.
abbrev pub items_after_release : ℕ → ℕ → List Item → Option (List Item)
items_after_release block at [] = None
items_after_release block at (Live t ∷ xs) = if at + 4 == block
    then Some (items_after_free t xs)
    else option_map (λ ys. Live t ∷ ys) (items_after_release block (at + t) xs)
items_after_release block at (Free t ∷ xs) = option_map (λ ys. items_after_free t ys)
    (items_after_release block (at + t) xs)

-- a number and a change of it, a signed word in two's complement; a sum below 0 counts as 0
abbrev pub changed_by : ℕ → ℕ → ℕ
changed_by n change = if nat_lt change (2 ^ 31) then n + change else (n + change) - 2 ^ 32

-- the total of the block whose bytes begin at the address `block`, where the first item is at `at`
abbrev pub live_total : ℕ → ℕ → List Item → Option ℕ
live_total block at [] = None
live_total block at (Live t ∷ xs) = if at + 4 == block then Some t else live_total block (at + t) xs
live_total block at (Free t ∷ xs) = live_total block (at + t) xs

-- A block of `old` bytes, with the items after it, gets more bytes where it stands: the front of
-- the free item after it, or, as the last item, some of the `room` bytes from its start to the
-- heap's end.
abbrev pub items_after_growth : ℕ → ℕ → ℕ → List Item → Option (List Item)
items_after_growth room new old [] = if nat_le new room then Some (Live new ∷ []) else None
items_after_growth room new old (Live t ∷ xs) = None
items_after_growth room new old (Free t ∷ xs) = if nat_le new (old + t) then
    Some (Live new ∷ (left_free (old + t - new) ++ xs)) else None

-- The same for any new total. What is cut off is free, and joins what is free after it; at the base
-- it is dropped.
abbrev pub items_after_refit : ℕ → ℕ → ℕ → List Item → Option (List Item)
items_after_refit room new old xs = if nat_le new old then Some (Live new ∷ items_with_gap (old - new) xs)
    else items_after_growth room new old xs

-- The list after the block whose bytes begin at `block` got the total `new` where it stands, if it
-- can. The first item is at `at`, and the heap ends at `end`.
abbrev pub resized_in_place : ℕ → ℕ → ℕ → ℕ → List Item → Option (List Item)
resized_in_place block end new at [] = None
resized_in_place block end new at (Live t ∷ xs) = if at + 4 == block
    then items_after_refit (end - at) new t xs
    else option_map (λ ys. Live t ∷ ys) (resized_in_place block end new (at + t) xs)
resized_in_place block end new at (Free t ∷ xs) = option_map (λ ys. Free t ∷ ys)
    (resized_in_place block end new (at + t) xs)
