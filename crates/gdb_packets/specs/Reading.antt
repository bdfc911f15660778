-- The bytes of the other side, taken one after another: packets in frames, and between them `+` and
-- `-`, which answer a packet, and the byte 3, which asks for a stop. A packet is shown at the second
-- digit of its sum; one that is longer than fits is spoilt.
use Rattle.std.specs.Prelude.{ℕ, ◌+◌, ◌*◌, ◌%◌, ◌==◌, ◌&&◌, Bool, true, false, nat_lt, List, [], ◌∷◌, ◌++◌, length, Option, Some, None, if◌then◌else◌}
use Rattle.gdb_packets.specs.declared.reader.Piece.{Piece}
use Rattle.gdb_packets.specs.declared.reader.Piece.TheVariants as piece
use Rattle.gdb_packets.specs.declared.reader.FramePlace.{FramePlace}
use Rattle.gdb_packets.specs.declared.reader.FramePlace.TheVariants as place
use Rattle.gdb_packets.specs.Digits.{digit_value}
use Rattle.gdb_packets.specs.Frames.{turned_byte}

-- the place in a frame, the packet so far, the sum of what was sent for it, and whether it fits
pub record Reading : Type 0 where
  pub place : FramePlace
  pub packet : List ℕ
  pub total : ℕ
  pub fits : Bool

-- after a byte: the reading, and what the byte completes
pub record Taken : Type 0 where
  pub now : Reading
  pub piece : Option Piece

abbrev pub silent : Reading → Taken
silent r = record { now = r; piece = None }

abbrev pub with_piece : Reading → Piece → Taken
with_piece r p = record { now = r; piece = Some p }

-- before the first byte, and behind a `$`
abbrev pub reading_start : Reading
reading_start = record { place = place.Between; packet = []; total = 0; fits = true }

abbrev pub frame_start : Reading
frame_start = record { place = place.Inside; packet = []; total = 0; fits = true }

abbrev pub most_packet : ℕ
most_packet = 16384

-- one more byte of the packet
abbrev pub with_packet_byte : Reading → ℕ → Reading
with_packet_byte r byte = if nat_lt (length r.packet) most_packet
    then record r { place = place.Inside; packet = r.packet ++ byte ∷ [] }
    else record r { place = place.Inside; fits = false }

-- one more byte in the sum
abbrev pub with_sent : Reading → ℕ → Reading
with_sent r sent = record r { total = (r.total + sent) % 256 }

abbrev pub taken_between : Reading → ℕ → Taken
taken_between r byte =
    if byte == 36 then silent frame_start else (
    if byte == 45 then with_piece r piece.Again else (
    if byte == 3 then with_piece r piece.Stop else silent r))

abbrev pub taken_inside : Reading → ℕ → Reading
taken_inside r byte =
    if byte == 35 then record r { place = place.FirstDigit } else (
    if byte == 36 then frame_start else (
    if byte == 125 then record (with_sent r byte) { place = place.Escaped } else
    with_packet_byte (with_sent r byte) byte))

-- the end of a frame, with the right sum or not
abbrev pub after_frame : Reading → Bool → Taken
after_frame r is_right = with_piece (record r { place = place.Between })
    (if is_right && r.fits then piece.Packet else piece.Spoilt)

abbrev pub taken_first_digit : Reading → Option ℕ → Taken
taken_first_digit r (Some value) = silent (record r { place = place.LastDigit value })
taken_first_digit r None = after_frame r false

abbrev pub taken_last_digit : Reading → ℕ → Option ℕ → Taken
taken_last_digit r first (Some value) = after_frame r (r.total == 16 * first + value)
taken_last_digit r first None = after_frame r false

abbrev pub taken_at : FramePlace → Reading → ℕ → Taken
taken_at place.Between r byte = taken_between r byte
taken_at place.Inside r byte = silent (taken_inside r byte)
taken_at place.Escaped r byte = silent (with_packet_byte (with_sent r byte) (turned_byte byte))
taken_at place.FirstDigit r byte = taken_first_digit r (digit_value byte)
taken_at (place.LastDigit first) r byte = taken_last_digit r first (digit_value byte)

unfoldable pub byte_taken : Reading → ℕ → Taken
byte_taken r byte = taken_at r.place r byte
