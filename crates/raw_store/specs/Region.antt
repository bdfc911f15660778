-- A region of memory: the bytes that were written, as a list; what a read gives and what a write
-- leaves.
use Rattle.std.specs.Prelude.{◌≡◌, ◌≤◌, ◌⊎◌, ℕ, List, [], ◌∷◌, ◌++◌, ◌+◌, ◌-◌, ◌*◌, ◌/◌, ◌%◌, take, drop, length, replicate, slice_index}

-- a region: the bytes that were written so far, and how many more there is room for after them
pub record Region : Type 0 where
  pub items : List ℕ
  pub spare : ℕ

abbrev pub region_with_items : Region → List ℕ → Region
region_with_items r xs = record { items = xs; spare = r.spare }

-- the word whose lowest byte stands at `at`: the byte at the lowest address is the least
-- significant one (ARM2 data sheet, "Memory interface", little-endian)
abbrev pub word_in : List ℕ → ℕ → ℕ
word_in bytes at = slice_index bytes at + 256 * (slice_index bytes
    (at + 1) + 256 * (slice_index bytes (at + 2) + 256 * slice_index bytes (at + 3)))

-- the four bytes of a word, the lowest first
abbrev pub word_bytes : ℕ → List ℕ
word_bytes word = word % 256 ∷ (word / 256 % 256 ∷ (word / 65536 % 256 ∷ (word / 16777216 % 256 ∷ [])))

-- `bytes` with `new` written over it from `at` on
abbrev pub bytes_after_write : List ℕ → ℕ → List ℕ → List ℕ
bytes_after_write bytes at new = take at bytes ++ (new ++ drop (at + length new) bytes)

-- `bytes` with the `len` bytes from `from` on copied to `to`; the two ranges may overlap
abbrev pub bytes_after_copy : List ℕ → ℕ → ℕ → ℕ → List ℕ
bytes_after_copy bytes from to len = bytes_after_write bytes to (take len (drop from bytes))

-- `bytes` with zeros in the `len` places from `at` on
abbrev pub bytes_after_zero : List ℕ → ℕ → ℕ → List ℕ
bytes_after_zero bytes at len = bytes_after_write bytes at (replicate len 0)

-- zeros after the bytes, as many as make them `len` in all; none where there are as many
abbrev pub bytes_after_growth : List ℕ → ℕ → List ℕ
bytes_after_growth bytes len = bytes ++ replicate (len - length bytes) 0

-- the `n` bytes from `a` on and the `m` from `b` on share no byte: one of the two ranges is empty,
-- or one ends before the other begins
abbrev pub AreApartOrEmpty : ℕ → ℕ → ℕ → ℕ → Type 0
AreApartOrEmpty a n b m = (n ≡ 0) ⊎ (m ≡ 0) ⊎ (a + n ≤ b) ⊎ (b + m ≤ a)
