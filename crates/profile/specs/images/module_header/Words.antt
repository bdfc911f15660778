-- The words of a module's image (RISC OS 3 Programmer's Reference Manual, "Modules", "Module header
-- format"): little-endian, as all words of the machine. Those that stand for an entry are offsets
-- from the image's first byte; 0 stands for no entry. That an entry must be a word inside the image
-- is this project's own check.
use Rattle.std.specs.Prelude.{ℕ, Bool, List, length, slice_index, Option, Some, None, ◌+◌, ◌*◌, ◌%◌, ◌==◌, ◌&&◌, nat_le, if◌then◌else◌}

abbrev pub image_word_at : List ℕ → ℕ → ℕ
image_word_at image at = slice_index image at + 256 * (slice_index image
    (at + 1) + 256 * (slice_index image (at + 2) + 256 * slice_index image (at + 3)))

-- a multiple of 4 with the four bytes of a word inside the image; so is 0 in an image of 4 bytes
-- and more
abbrev pub is_entry : List ℕ → ℕ → Bool
is_entry image offset = (offset % 4 == 0) && nat_le (offset + 4) (length image)

abbrev pub entry_at : List ℕ → ℕ → Option ℕ
entry_at image at = if is_entry image (image_word_at image at) then Some (image_word_at image at) else None
