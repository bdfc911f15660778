-- What is sent in a frame is read as that packet.
use Rattle.std.specs.Prelude.{◌≡◌, ◌≤◌, ℕ, Bool, true, nat_lt, List, [], ◌∷◌, ◌++◌, length, Option, Some, None}
use Rattle.std.specs.List.{list_all}
use Rattle.gdb_packets.specs.declared.reader.Piece.{Piece}
use Rattle.gdb_packets.specs.declared.reader.Piece.TheVariants as piece
use Rattle.gdb_packets.specs.declared.reader.FramePlace.TheVariants as place
use Rattle.gdb_packets.specs.Frames.{packet_frame}
use Rattle.gdb_packets.specs.Reading.{Reading, byte_taken, most_packet}

-- a piece, and the packet that stands read then
pub record Heard : Type 0 where
  pub piece : Piece
  pub packet : List ℕ

abbrev pub heard_piece : Option Piece → List ℕ → List Heard → List Heard
heard_piece None packet rest = rest
heard_piece (Some p) packet rest = record { piece = p; packet = packet } ∷ rest

-- all that some bytes complete, in order
unfoldable pub heard : Reading → List ℕ → List Heard
heard r [] = []
heard r (byte ∷ bytes) =
    heard_piece (byte_taken r byte).piece (byte_taken r byte).now.packet (heard (byte_taken r byte).now bytes)

abbrev pub are_bytes : List ℕ → Bool
are_bytes bytes = list_all (λ b. nat_lt b 256) bytes

-- the reading behind a packet, from which what follows is heard
pub record ReadAs (r : Reading) (packet more : List ℕ) : Type 0 where
  pub after : Reading
  pub stands : after.place ≡ place.Between
  pub reported : after.packet ≡ packet
  pub heard_so : heard r (packet_frame packet ++ more)
      ≡ record { piece = piece.Packet; packet = packet } ∷ heard after more

abbrev pub PacketsAreRead : Type 0
PacketsAreRead = (r : Reading) (packet more : List ℕ) → r.place ≡ place.Between → are_bytes packet ≡ true
    → length packet ≤ most_packet → ReadAs r packet more
