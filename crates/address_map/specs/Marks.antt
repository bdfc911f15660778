-- The class of each word of the store, as its marks say it.
use Rattle.std.specs.Prelude.{ℕ, ◌/◌, ◌%◌, slice_index, Option, Some, None}
use Rattle.address_map.specs.declared.class.Class.{Class}
use Rattle.address_map.specs.declared.class.Class.TheVariants.{Plain}
use Rattle.address_map.specs.declared.marks.Marks.{Marks}
use Rattle.address_map.specs.Classes.{class_of_number, lane}

-- the class of a word, by its number in the store
unfoldable pub class_at : Marks → ℕ → Class
class_at m k = class_of_number (lane (slice_index m.bytes (k / 4)) (k % 4))

-- the class of the byte at a place, which is that of its word; what has no place is plain
abbrev pub mark_in : Marks → Option ℕ → Class
mark_in m None = Plain
mark_in m (Some k) = class_at m (k / 4)
