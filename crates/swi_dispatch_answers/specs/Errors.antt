-- Errors that guests see: an error is a block in memory, its number and then its text, and R0
-- points to it (RISC OS 3 Programmer's Reference Manual, "Generating and handling errors"; the
-- system's block at &01C02100, and the number where none can be read, are this project's own).
use Rattle.address_map.specs.MemoryMap.{error_block_start}
use Rattle.std.specs.Prelude.{ℕ, ◌%◌, ◌==◌, Result, Ok, Err, List, [], ◌∷◌, ◌++◌, if◌then◌else◌}
use Rattle.instances_table.specs.ErrorNames.{error_code}
use Rattle.address_map.specs.ErrorNumber.TheVariants.{BadPointer}
use Rattle.arm_core.specs.Fault.{Fault}
use Rattle.address_map.specs.Bytes.{Bytes, word_loaded, with_word, with_bytes}

-- The number of an error: the word at its block, or 82 (BadPointer) where no block can stand there.
abbrev pub word_or : ℕ → Result ℕ Fault → ℕ
word_or other (Ok word) = word
word_or other (Err fault) = other

unfoldable pub error_at : Bytes → ℕ → ℕ
error_at b at = if at % 4 == 0 then word_or (error_code BadPointer) (word_loaded b at)
    else error_code BadPointer

-- An error of the system writes its number and its text, a zero byte after it, to the block at
-- &01C02100.
abbrev pub memory_with_error : Bytes → ℕ → List ℕ → Bytes
memory_with_error b number text = with_bytes (with_word b error_block_start number) 0x01C02104
    (text ++ 0 ∷ [])
