-- What the bytes of the other side do, and what they are answered with: a packet by its request, a spoilt
-- one by `-`, or where that is no longer sent as if it were whole; `-` by the last answer once more; the byte
-- 3 stops a run. Before a `run` is answered the files are read anew.
use Rattle.std.specs.Prelude.{ℕ, zero, suc, ◌+◌, ◌/◌, ◌||◌, not, is_some, Bool, true, false, List, [], ◌∷◌, ◌++◌, take, drop, length, codes, Option, Some, None, if◌then◌else◌}
use Rattle.std.specs.Str.{bytes_eq}
use Rattle.hex.specs.Hex.{encode_lower}
use Rattle.gdb_server.specs.session.Programs.{request_answered}
use Rattle.gdb_server.specs.session.Runs.{stop_asked}
use Rattle.gdb_server.specs.session.State.{GdbState, GdbAnswered}
use Rattle.gdb_machine.specs.Loads.{LoadState, after_packet, no_load}
use Rattle.gdb_packets.specs.Fixed.{extends, is_taken_so, keeps_acks, meant_in}
use Rattle.gdb_packets.specs.Frames.{packet_frame}
use Rattle.gdb_packets.specs.Reading.{Reading, Taken, reading_start, byte_taken}
use Rattle.gdb_packets.specs.Requests.{GdbRequest, packet_request}
use Rattle.gdb_packets.specs.declared.reader.Piece.{Piece}
use Rattle.gdb_packets.specs.declared.reader.Piece.TheVariants as piece

-- the session, the reading, whether each packet is answered by `+` or `-`, whether the mode is extended, the last answer
-- as it was written, what GDB's `load` sent last, and whether a `run` has no program, since a file can't be read
pub record ServerState : Type 0 where
  pub session : GdbState
  pub reading : Reading
  pub has_acks : Bool
  pub is_extended : Bool
  pub last : List ℕ
  pub loads : LoadState
  pub lacks : Bool

-- before the first byte
abbrev pub server_before_bytes : GdbState → ServerState
server_before_bytes session = record {
  session = session;
  reading = reading_start;
  has_acks = true;
  is_extended = false;
  last = [];
  loads = no_load;
  lacks = false;
}

-- THE FILES

-- The lines that a machine begins with are those, from the next `run` on. Where an image or the lines are others
-- than before, they stand in place of what `load` sent.
abbrev pub with_files : ServerState → List ℕ → Bool → ServerState
with_files s start is_other = record s {
  session = record s.session { start = start };
  loads = if is_other || not (bytes_eq start s.session.start) then no_load else s.loads;
  lacks = false;
}

abbrev pub without_files : ServerState → ServerState
without_files s = record s { lacks = true }

-- ANSWERS

-- the state after some bytes, and what they are answered with
pub record Served : Type 0 where
  pub state : ServerState
  pub text : List ℕ

abbrev pub most_text : ℕ
most_text = 1024

-- text for the user in a packet
abbrev pub text_packet : List ℕ → List ℕ
text_packet text = packet_frame (codes "O" ++ encode_lower text)

-- so many packets
unfoldable pub text_packets : ℕ → List ℕ → List ℕ
text_packets zero text = []
text_packets (suc left) text = text_packet (take most_text text) ++ text_packets left (drop most_text text)

-- text for the user, 1024 bytes in a packet, and what is left in the last
unfoldable pub shown_packets : List ℕ → List ℕ
shown_packets text = text_packets ((length text + 1023) / 1024) text

abbrev pub reply_packet : Option (List ℕ) → List ℕ
reply_packet (Some reply) = packet_frame reply
reply_packet None = []

abbrev pub answer_text : GdbAnswered → List ℕ
answer_text a = shown_packets a.reported ++ reply_packet a.reply

abbrev pub ack_text : Bool → List ℕ
ack_text true = codes "+"
ack_text false = []

abbrev pub acks_after : Bool → GdbRequest → Bool
acks_after has asked = if has then keeps_acks asked else false

-- with the packet that has come
abbrev pub loads_now : ServerState → LoadState
loads_now s = after_packet s.loads s.reading.packet s.session.debug.script.machine.cpu.pc

abbrev pub request_served : ServerState → GdbRequest → GdbAnswered → Served
request_served s asked a = record {
  state = record s {
    session = a.state;
    has_acks = acks_after s.has_acks asked;
    is_extended = extends s.is_extended asked;
    last = answer_text a;
    loads = loads_now s;
  };
  text = ack_text s.has_acks ++ answer_text a;
}

-- what it asks for in the mode that there is
abbrev pub request_now : ServerState → GdbRequest
request_now s = meant_in s.is_extended (packet_request s.reading.packet)

abbrev pub packet_served : ServerState → Served
packet_served s = request_served s (request_now s)
    (request_answered s.lacks (loads_now s).kept s.session (request_now s))

abbrev pub spoilt_text : Bool → List ℕ
spoilt_text true = codes "-"
spoilt_text false = packet_frame (codes "E16")

abbrev pub spoilt_served : ServerState → Bool → Served
spoilt_served s true = packet_served s
spoilt_served s false = record { state = s; text = spoilt_text s.has_acks }

-- an answer that no packet asked for
abbrev pub unasked_served : ServerState → GdbAnswered → Served
unasked_served s a = record {
  state = record s { session = a.state; last = answer_text a };
  text = answer_text a;
}

-- the byte 3: where no run is under way there is nothing to stop
abbrev pub stop_served : ServerState → Bool → Served
stop_served s true = unasked_served s (stop_asked s.session)
stop_served s false = record { state = s; text = [] }

abbrev pub piece_served : ServerState → Option Piece → Served
piece_served s None = record { state = s; text = [] }
piece_served s (Some piece.Packet) = packet_served s
piece_served s (Some piece.Spoilt) = spoilt_served s
    (is_taken_so s.has_acks s.reading.fits)
piece_served s (Some piece.Again) = record { state = s; text = s.last }
piece_served s (Some piece.Stop) = stop_served s (is_some s.session.going)

abbrev pub byte_served : ServerState → ℕ → Served
byte_served s byte =
    piece_served (record s { reading = (byte_taken s.reading byte).now })
    (byte_taken s.reading byte).piece

abbrev pub then_served : Served → (ServerState → Served) → Served
then_served first next = record {
  state = (next first.state).state;
  text = first.text ++ (next first.state).text;
}

-- all bytes, up to the one that ends the session
unfoldable pub bytes_served : List ℕ → ServerState → Served
bytes_served [] s = record { state = s; text = [] }
bytes_served (byte ∷ bytes) s = if s.session.has_ended then record { state = s; text = [] }
    else then_served (byte_served s byte) (bytes_served bytes)
