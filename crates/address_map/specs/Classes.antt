-- The classes as numbers of two bits, four of them in a byte: the lowest two bits are those of the
-- first word.
use Rattle.std.specs.Prelude.{ℕ, Bool, true, false, ◌/◌, ◌%◌, ◌==◌, if◌then◌else◌}
use Rattle.address_map.specs.declared.class.Class.{Class}
use Rattle.address_map.specs.declared.class.Class.TheVariants.{Plain, Heap, FlexHeader, Anchor}

abbrev pub is_heap_class : Class → Bool
is_heap_class Heap = true
is_heap_class other = false

abbrev pub is_flex_header : Class → Bool
is_flex_header FlexHeader = true
is_flex_header other = false

abbrev pub is_anchor : Class → Bool
is_anchor Anchor = true
is_anchor other = false

abbrev pub class_number : Class → ℕ
class_number Plain = 0
class_number Heap = 1
class_number FlexHeader = 2
class_number Anchor = 3

abbrev pub class_of_number : ℕ → Class
class_of_number n = if n == 0 then Plain else (if n == 1 then Heap
    else (if n == 2 then FlexHeader else Anchor))

-- what the lowest bit of the number in a lane counts
abbrev pub weight : ℕ → ℕ
weight j = if j == 0 then 1 else (if j == 1 then 4 else (if j == 2 then 16 else 64))

-- the number in a lane of a byte
abbrev pub lane : ℕ → ℕ → ℕ
lane byte j = byte / weight j % 4
