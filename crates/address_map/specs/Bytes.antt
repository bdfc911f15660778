-- Memory as the layers above see it: which addresses are mapped, and the byte at each. A load or a
-- store is a function of that alone. Addresses have 26 bits, words are little-endian and lie at
-- multiples of 4 (ARM2 data sheet, "Memory interface"); an access past the end of the address space
-- is an address exception there.
use Rattle.std.specs.Prelude.{◌≡◌, ◌≤◌, ◌<◌, ℕ, ◌+◌, ◌*◌, ◌-◌, ◌/◌, ◌%◌, ◌^◌, ◌==◌, Bool, true, false, ◌&&◌, nat_le, nat_lt, List, length, map, slice_index, Option, Some, None, Result, Ok, Err, if◌then◌else◌}
use Rattle.std.specs.List.{range_with_len}
use Rattle.raw_store.specs.declared.fault.Fault.{Fault}
use Rattle.raw_store.specs.declared.fault.Fault.TheVariants.{AddressException, DataUnmapped, OwnedWord}

-- a byte where no memory is mapped counts as 0
pub record Bytes : Type 0 where
  pub mapped : ℕ → Bool
  pub at : ℕ → ℕ

abbrev pub in_range : ℕ → ℕ → ℕ → Bool
in_range at len a = nat_le at a && nat_lt a (at + len)

-- two ranges share an address
abbrev pub shares_address : ℕ → ℕ → ℕ → ℕ → Bool
shares_address at len other other_len = (nat_lt 0 len && nat_lt 0 other_len)
    && (nat_lt at (other + other_len) && nat_lt other (at + len))

-- each of the `len` addresses from `at` on is mapped, or none of them is
abbrev pub AreMapped : (ℕ → Bool) → ℕ → ℕ → Type 0
AreMapped mapped at len = (a : ℕ) → at ≤ a → a < at + len → mapped a ≡ true

abbrev pub AreUnmapped : (ℕ → Bool) → ℕ → ℕ → Type 0
AreUnmapped mapped at len = (a : ℕ) → at ≤ a → a < at + len → mapped a ≡ false

-- the address of the word that holds the byte at `a`: bits 1 and 0 are ignored
abbrev pub word_start : ℕ → ℕ
word_start a = a - a % 4

-- the word at an address
abbrev pub word_at : (ℕ → ℕ) → ℕ → ℕ
word_at bytes a = bytes a + 256 * (bytes (a + 1) + 256 * (bytes (a + 2) + 256 * bytes (a + 3)))

-- the `len` bytes from the address `at` on, in order
abbrev pub bytes_between : (ℕ → ℕ) → ℕ → ℕ → List ℕ
bytes_between bytes at len = map bytes (range_with_len at len)

-- the bytes after a byte, or the four bytes of a word, were written at `at`
abbrev pub with_byte_at : (ℕ → ℕ) → ℕ → ℕ → ℕ → ℕ
with_byte_at bytes at byte a = if a == at then byte else bytes a

abbrev pub with_word_at : (ℕ → ℕ) → ℕ → ℕ → ℕ → ℕ
with_word_at bytes at word a =
    if a == at then word % 256 else (
    if a == at + 1 then word / 256 % 256 else (
    if a == at + 2 then word / 65536 % 256 else (
    if a == at + 3 then word / 16777216 % 256 else bytes a)))

-- the bytes after those of a list were written, the first of them at `at`
abbrev pub with_bytes_at : (ℕ → ℕ) → ℕ → List ℕ → ℕ → ℕ
with_bytes_at bytes at new a = if in_range at (length new) a then slice_index new (a - at) else bytes a

-- the bytes after `len` of them were made zero
abbrev pub with_zeros_at : (ℕ → ℕ) → ℕ → ℕ → ℕ → ℕ
with_zeros_at bytes at len a = if in_range at len a then 0 else bytes a

-- the bytes after the `len` of them from `from` on were copied to `to`; the two ranges may overlap
abbrev pub with_moved_at : (ℕ → ℕ) → ℕ → ℕ → ℕ → ℕ → ℕ
with_moved_at bytes from to len a = if in_range to len a then bytes (from + (a - to)) else bytes a

abbrev pub with_byte : Bytes → ℕ → ℕ → Bytes
with_byte b at byte = record { mapped = b.mapped; at = with_byte_at b.at at byte }

abbrev pub with_word : Bytes → ℕ → ℕ → Bytes
with_word b at word = record { mapped = b.mapped; at = with_word_at b.at at word }

abbrev pub with_bytes : Bytes → ℕ → List ℕ → Bytes
with_bytes b at new = record { mapped = b.mapped; at = with_bytes_at b.at at new }

abbrev pub with_moved : Bytes → ℕ → ℕ → ℕ → Bytes
with_moved b from to len = record { mapped = b.mapped; at = with_moved_at b.at from to len }

-- which fault a load or a store meets, the first of these; `owned` says which bytes the store calls
-- keep records in
abbrev pub load_fault : Bytes → ℕ → Option Fault
load_fault b a = if nat_le (2 ^ 26) a then Some AddressException
    else (if b.mapped a then None else Some DataUnmapped)

abbrev pub store_fault : (ℕ → Bool) → Bytes → ℕ → Option Fault
store_fault owned b a =
    if nat_le (2 ^ 26) a then Some AddressException else (
    if b.mapped a then (if owned a then Some OwnedWord else None) else Some DataUnmapped)

abbrev pub ok_unless_fault : {A : Type 0} → Option Fault → A → Result A Fault
ok_unless_fault None a = Ok a
ok_unless_fault (Some fault) a = Err fault

unfoldable pub byte_loaded : Bytes → ℕ → Result ℕ Fault
byte_loaded b a = ok_unless_fault (load_fault b a) (b.at a)

-- a load or a store of a word takes any address, and is one of the word that holds it
unfoldable pub word_loaded : Bytes → ℕ → Result ℕ Fault
word_loaded b a = ok_unless_fault (load_fault b (word_start a)) (word_at b.at (word_start a))

unfoldable pub byte_stored : (ℕ → Bool) → Bytes → ℕ → ℕ → Result Bytes Fault
byte_stored owned b a byte = ok_unless_fault (store_fault owned b a) (with_byte b a byte)

unfoldable pub word_stored : (ℕ → Bool) → Bytes → ℕ → ℕ → Result Bytes Fault
word_stored owned b a word = ok_unless_fault (store_fault owned b (word_start a))
    (with_word b (word_start a) word)
