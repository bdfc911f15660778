-- The SWIs of a module: a chunk of 64 numbers from a base on (Programmer's Reference Manual,
-- "Modules", "SWI chunk base number"), and the entry that handles them. A module has them where its
-- image is long enough for both words, and both are good; else neither is used.
use Rattle.std.specs.Prelude.{ℕ, Bool, not, List, length, ◌%◌, ◌==◌, ◌&&◌, nat_le}
use Rattle.profile.specs.Word.{bit_of}
use Rattle.profile.specs.images.module_header.Words.{image_word_at, is_entry}

-- a multiple of 64 from &200 to &FFFFC0 without the X bit, and not the chunk of the flex calls
abbrev pub is_chunk_base : ℕ → Bool
is_chunk_base n = (n % 64 == 0) && (nat_le 0x200 n && nat_le n 0xFFFFC0) && not (bit_of n 17)
    && not (n == 0xC0000)

abbrev pub has_swis : List ℕ → Bool
has_swis image =
    nat_le 36 (length image) && is_chunk_base (image_word_at image 0x1C)
    && is_entry image (image_word_at image 0x20) && not (image_word_at image 0x20 == 0)
