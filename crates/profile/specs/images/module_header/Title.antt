-- A module's title: 1 to 31 printing ASCII characters other than the space and `%`, which parts a
-- title from an instance's name, with a zero after them inside the image. The limit is this
-- project's own.
use Rattle.std.specs.Prelude.{ℕ, Bool, not, List, length, take, drop, slice_index, Option, Some, None, ◌+◌, ◌==◌, ◌&&◌, nat_le, nat_lt, if◌then◌else◌}
use Rattle.std.specs.List.{prefix_len}

abbrev pub is_title_byte : ℕ → Bool
is_title_byte byte = nat_le 33 byte && nat_le byte 126 && not (byte == 37)

-- how many such characters stand from a place on, before anything else does
abbrev pub title_len : List ℕ → ℕ → ℕ
title_len image at = prefix_len is_title_byte (drop at image)

abbrev pub is_zero_at : List ℕ → ℕ → Bool
is_zero_at image at = nat_lt at (length image) && (slice_index image at == 0)

abbrev pub title_at : List ℕ → ℕ → Option (List ℕ)
title_at image at =
    if nat_le 1 (title_len image at) && nat_le (title_len image at) 31
    && is_zero_at image (at + title_len image at)
    then Some (take (title_len image at) (drop at image))
    else None
