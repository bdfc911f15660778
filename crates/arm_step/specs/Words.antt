-- Several words of memory, one after another from an address that is a multiple of 4, and the faults over all of them: any word past the
-- address space first, then any that isn't mapped, then any that a store must leave alone.
use Rattle.std.specs.Prelude.{ℕ, zero, suc, Bool, true, not, ◌&&◌, ◌+◌, ◌*◌, ◌^◌, nat_lt, if◌then◌else◌, List, [], ◌∷◌, length, Option, Some, None, Result}
use Rattle.arm_core.specs.Fault.{Fault}
use Rattle.arm_core.specs.Fault.TheVariants.{AddressException, DataUnmapped, OwnedWord}
use Rattle.address_map.specs.Bytes.{Bytes, word_at, with_word, ok_unless_fault}

unfoldable pub are_words_mapped : Bytes → ℕ → ℕ → Bool
are_words_mapped b a zero = true
are_words_mapped b a (suc n) = b.mapped a && are_words_mapped b (a + 4) n

unfoldable pub are_free : (ℕ → Bool) → ℕ → ℕ → Bool
are_free owned a zero = true
are_free owned a (suc n) = not (owned a) && are_free owned (a + 4) n

unfoldable pub memory_words_at : Bytes → ℕ → ℕ → List ℕ
memory_words_at b a zero = []
memory_words_at b a (suc n) = word_at b.at a ∷ memory_words_at b (a + 4) n

unfoldable pub with_words : Bytes → ℕ → List ℕ → Bytes
with_words b a [] = b
with_words b a (w ∷ ws) = with_words (with_word b a w) (a + 4) ws

abbrev pub words_load_fault : Bytes → ℕ → ℕ → Option Fault
words_load_fault b a n =
    if nat_lt (2 ^ 26) (a + 4 * n) then Some AddressException else (
    if are_words_mapped b a n then None else Some DataUnmapped)

abbrev pub words_store_fault : (ℕ → Bool) → Bytes → ℕ → ℕ → Option Fault
words_store_fault owned b a n =
    if nat_lt (2 ^ 26) (a + 4 * n) then Some AddressException else (
    if are_words_mapped b a n then (if are_free owned a n then None else Some OwnedWord)
    else Some DataUnmapped)

abbrev pub words_loaded : Bytes → ℕ → ℕ → Result (List ℕ) Fault
words_loaded b a n = ok_unless_fault (words_load_fault b a n) (memory_words_at b a n)

abbrev pub words_stored : (ℕ → Bool) → Bytes → ℕ → List ℕ → Result Bytes Fault
words_stored owned b a ws = ok_unless_fault (words_store_fault owned b a (length ws)) (with_words b a ws)
