-- What is counted of a heap's list: the items and the free items that a call looks at, and the
-- bytes that are free (RISC OS 3 Programmer's Reference Manual, "OS_Heap", reasons 1 to 6; that a
-- call's work is counted is this project's own).
use Rattle.std.specs.Prelude.{ℕ, ◌/◌, ◌*◌, if◌then◌else◌, nat_le, ◌+◌, [], List, ◌∷◌, ◌-◌, nat_lt}
use Rattle.address_map.specs.declared.item.Item.{Item}
use Rattle.address_map.specs.declared.item.Item.TheVariants.{Free, Live}

abbrev pub round_down_8 : ℕ → ℕ
round_down_8 n = 8 * (n / 8)

abbrev pub larger : ℕ → ℕ → ℕ
larger a b = if nat_le a b then b else a

-- the free items that a search for `n` bytes looks at: up to the first that fits, or all
abbrev pub looked_at : ℕ → List Item → ℕ
looked_at n [] = 0
looked_at n (Live t ∷ xs) = looked_at n xs
looked_at n (Free t ∷ xs) = if nat_le n t then 1 else 1 + looked_at n xs

-- the items that begin at least 4 bytes below the address `block`, where the first is at `at`: a
-- walk to that block passes them, and the block itself too, since its bytes begin after its length
-- word
abbrev pub begun_below : ℕ → ℕ → List Item → ℕ
begun_below block at [] = 0
begun_below block at (Live t ∷ xs) = if nat_le (at + 4) block then 1 + begun_below block (at + t) xs else 0
begun_below block at (Free t ∷ xs) = if nat_le (at + 4) block then 1 + begun_below block (at + t) xs else 0

-- the bytes of all free items, the most of one, and how many there are
abbrev pub free_total : List Item → ℕ
free_total [] = 0
free_total (Live t ∷ xs) = free_total xs
free_total (Free t ∷ xs) = t + free_total xs

abbrev pub largest_free : List Item → ℕ
largest_free [] = 0
largest_free (Live t ∷ xs) = largest_free xs
largest_free (Free t ∷ xs) = larger t (largest_free xs)

abbrev pub free_count : List Item → ℕ
free_count [] = 0
free_count (Live t ∷ xs) = free_count xs
free_count (Free t ∷ xs) = 1 + free_count xs

-- what a heap says of itself, where `room` bytes lie between its base and its end: all that is
-- free, and the largest block that can be claimed, without its length word
abbrev pub all_free : ℕ → List Item → ℕ
all_free room xs = free_total xs + room

abbrev pub largest_block : ℕ → List Item → ℕ
largest_block room xs = larger (largest_free xs) (round_down_8 room) - 4

-- the free items that begin below the address `block`, where the first item is at `at`
abbrev pub free_below : ℕ → ℕ → List Item → ℕ
free_below block at [] = 0
free_below block at (Live t ∷ xs) = free_below block (at + t) xs
free_below block at (Free t ∷ xs) = if nat_lt at block then 1 + free_below block (at + t) xs else 0
