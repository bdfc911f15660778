-- A packet as it is sent: `$`, its bytes, `#`, and the sum of what stands between, modulo 256, in two
-- digits ("Overview" of the remote protocol in GDB's manual). Runs are never shortened.
use Rattle.std.specs.Prelude.{ℕ, ◌+◌, ◌-◌, ◌/◌, ◌%◌, ◌==◌, ◌||◌, Bool, List, [], ◌∷◌, ◌++◌, if◌then◌else◌}
use Rattle.std.specs.List.{flat_map, sum}
use Rattle.gdb_packets.specs.Digits.{two_digits}

-- `#`, `$`, `*` and `}` mean something of their own in a frame
abbrev pub is_escaped : ℕ → Bool
is_escaped byte = (byte == 35) || ((byte == 36) || ((byte == 42) || (byte == 125)))

-- a byte with bit 5 turned
abbrev pub turned_byte : ℕ → ℕ
turned_byte byte = if byte / 32 % 2 == 1 then byte - 32 else byte + 32

-- what stands for a byte of a packet: itself, or `}` and the byte turned
abbrev pub sent_byte : ℕ → List ℕ
sent_byte byte = if is_escaped byte then 125 ∷ turned_byte byte ∷ [] else byte ∷ []

abbrev pub sent_bytes : List ℕ → List ℕ
sent_bytes packet = flat_map sent_byte packet

abbrev pub check_sum : List ℕ → ℕ
check_sum sent = sum sent % 256

abbrev pub frame_end : List ℕ → List ℕ
frame_end sent = 35 ∷ two_digits (check_sum sent)

abbrev pub packet_frame : List ℕ → List ℕ
packet_frame packet = 36 ∷ (sent_bytes packet ++ frame_end (sent_bytes packet))
