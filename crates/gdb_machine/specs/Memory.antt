-- Memory as GDB reads it: bytes from an address on, as far as memory is mapped. Addresses count modulo
-- 2^32.
use Rattle.std.specs.Prelude.{ℕ, zero, suc, ◌+◌, ◌%◌, ◌^◌, ◌==◌, min, List, [], ◌∷◌, codes, Result, Ok, Err, if◌then◌else◌}
use Rattle.hex.specs.Hex.{encode_lower}
use Rattle.profile.specs.Fault.{Fault}
use Rattle.address_map.specs.Bytes.{Bytes, byte_loaded}
use Rattle.gdb_packets.specs.declared.requests.ByteRange.{ByteRange}

-- so many bytes further
abbrev pub bytes_further : ℕ → ℕ → ℕ
bytes_further address count = (address + count) % 2 ^ 32

abbrev pub onto_known : Result ℕ Fault → List ℕ → List ℕ
onto_known (Ok byte) rest = byte ∷ rest
onto_known (Err fault) rest = []

-- so many bytes at most
unfoldable pub known_bytes : Bytes → ℕ → ℕ → List ℕ
known_bytes b address zero = []
known_bytes b address (suc count) = onto_known (byte_loaded b address)
    (known_bytes b (bytes_further address 1) count)

abbrev pub most_shown : ℕ
most_shown = 8192

-- bytes that were asked for, as pairs of digits; or that there is none
abbrev pub shown_bytes : ℕ → List ℕ → List ℕ
shown_bytes count [] = if count == 0 then [] else codes "E0e"
shown_bytes count (byte ∷ bytes) = encode_lower (byte ∷ bytes)

-- `m a,n`
abbrev pub memory_reply : Bytes → ByteRange → List ℕ
memory_reply b range = shown_bytes (min range.count most_shown)
    (known_bytes b range.start (min range.count most_shown))
