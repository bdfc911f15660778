-- Memory as text: lines of 16 bytes, each line with the address of its first byte. A byte is two
-- hexadecimal digits after a space, or `--` where no memory is mapped. Addresses count modulo 2^32.
use Rattle.std.specs.Prelude.{ℕ, zero, suc, ◌+◌, ◌-◌, ◌/◌, ◌%◌, ◌^◌, ◌++◌, min, List, [], ◌∷◌, codes, Result, Ok, Err}
use Rattle.swi_dispatch_guest.specs.Sums.{address_further}
use Rattle.assembler_text.specs.Digits.{hex_digit, hex_word}
use Rattle.swi_dispatch_guest.specs.Fault.{Fault}
use Rattle.swi_dispatch_guest.specs.Bytes.{Bytes, byte_loaded}

abbrev pub hex_byte : ℕ → List ℕ
hex_byte byte = hex_digit (byte / 16) ∷ hex_digit (byte % 16) ∷ []

abbrev pub loaded_text : Result ℕ Fault → List ℕ
loaded_text (Ok byte) = hex_byte byte
loaded_text (Err fault) = codes "--"

abbrev pub byte_text : Bytes → ℕ → List ℕ
byte_text b address = codes " " ++ loaded_text (byte_loaded b address)

-- so many bytes from an address on
unfoldable pub bytes_text : Bytes → ℕ → ℕ → List ℕ
bytes_text b address zero = []
bytes_text b address (suc count) = byte_text b address ++ bytes_text b (address_further address 1) count

abbrev pub line_text : Bytes → ℕ → ℕ → List ℕ
line_text b address count = hex_word address ++ (codes ":" ++ (bytes_text b address count ++ codes "\n"))

-- so many lines, the last of them with what is left of the bytes
unfoldable pub lines_text : ℕ → Bytes → ℕ → ℕ → List ℕ
lines_text zero b address count = []
lines_text (suc lines) b address count =
    line_text b address (min count 16) ++ lines_text lines b (address_further address 16) (count - 16)

-- the `count` bytes from an address on
unfoldable pub memory_text : Bytes → ℕ → ℕ → List ℕ
memory_text b address count = lines_text ((count + 15) / 16) b address count
