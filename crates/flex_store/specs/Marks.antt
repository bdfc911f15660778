-- The classes of memory after the words of headers and anchors were marked, or are marked no more.
use Rattle.std.specs.Prelude.{ℕ, ◌+◌, Bool, List, [], ◌∷◌, if◌then◌else◌}
use Rattle.os_heap.specs.Class.{Class}
use Rattle.os_heap.specs.Records.{with_class}
use Rattle.flex_store.specs.Blocks.{Block, bytes_taken_by}

abbrev pub class_with_mark : Class → Bool → Class → Class
class_with_mark mark is own = if is then mark else own

-- the two words of the header at `at` got one class, and the word at `word`, its block's anchor,
-- another
abbrev pub with_block_marks : Class → Class → ℕ → ℕ → (ℕ → Class) → ℕ → Class
with_block_marks of_header of_word at word classes = with_class
    (with_class (with_class classes at of_header) (at + 4) of_header) word of_word

-- and so those of all these blocks, where the first one's header is at `at`
abbrev pub with_marks : Class → Class → ℕ → List Block → (ℕ → Class) → ℕ → Class
with_marks of_header of_word at [] classes = classes
with_marks of_header of_word at (b ∷ bs) classes =
    with_marks of_header of_word (at + bytes_taken_by b.size) bs
    (with_block_marks of_header of_word at b.anchor classes)
