-- Memory as bytes and characters: lines of 16 bytes, each as MEM has it, two spaces, and the characters
-- that the bytes are. For a byte that is none from a space to `~`, and where no memory is mapped, a full
-- stop stands.
use Rattle.std.specs.Prelude.{ℕ, zero, suc, ◌+◌, ◌-◌, ◌/◌, ◌++◌, min, List, [], ◌∷◌, codes, Result, Ok, Err, if◌then◌else◌}
use Rattle.std.specs.Int.{is_in_range}
use Rattle.profile.specs.Digits.{hex_word}
use Rattle.profile.specs.Fault.{Fault}
use Rattle.address_map.specs.Bytes.{Bytes, byte_loaded}
use Rattle.debug_labels.specs.Memory.{bytes_text}
use Rattle.profile.specs.Sums.{address_further}

-- from a space (32) to `~` (126), else `.` (46)
abbrev pub character_of : ℕ → ℕ
character_of byte = if is_in_range 32 126 byte then byte else 46

abbrev pub loaded_character : Result ℕ Fault → ℕ
loaded_character (Ok byte) = character_of byte
loaded_character (Err fault) = 46

abbrev pub character_text : Bytes → ℕ → List ℕ
character_text b address = loaded_character (byte_loaded b address) ∷ []

-- so many characters from an address on
unfoldable pub characters_text : Bytes → ℕ → ℕ → List ℕ
characters_text b address zero = []
characters_text b address (suc count) = character_text b address ++ characters_text b
    (address_further address 1) count

-- `00009000: 48 65 61 70  Heap`
abbrev pub dump_line : Bytes → ℕ → ℕ → List ℕ
dump_line b address count = hex_word address
    ++ (codes ":" ++ (bytes_text b address count ++ (codes "  " ++
    (characters_text b address count ++ codes "\n"))))

-- so many lines, the last of them with what is left of the bytes
unfoldable pub dump_lines : ℕ → Bytes → ℕ → ℕ → List ℕ
dump_lines zero b address count = []
dump_lines (suc lines) b address count =
    dump_line b address (min count 16) ++ dump_lines lines b (address_further address 16) (count - 16)

-- the `count` bytes from an address on
unfoldable pub dump_text : Bytes → ℕ → ℕ → List ℕ
dump_text b address count = dump_lines ((count + 15) / 16) b address count
