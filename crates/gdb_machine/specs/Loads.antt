-- What GDB's `load` sends ("load" in GDB's manual): requests that store bytes, one right after another, and right
-- after them one that sets the program counter to the program's start, which is a place among these bytes. GDB leaves
-- that out where the program counter is there already.
use Rattle.std.specs.Prelude.{ℕ, ◌+◌, ◌&&◌, nat_le, nat_lt, Bool, true, false, List, [], ◌∷◌, ◌++◌, map, Option, Some, None, unwrap_or, if◌then◌else◌}
use Rattle.std.specs.List.{list_any}
use Rattle.hex.specs.Hex.{decode_sized}
use Rattle.gdb_packets.specs.Requests as request
use Rattle.gdb_packets.specs.Requests.{GdbRequest, packet_request}
use Rattle.gdb_packets.specs.declared.requests.ByteRange.{ByteRange}
use Rattle.gdb_machine.specs.ChangePackets.{write_wanted}
use Rattle.gdb_machine.specs.declared.changes.RegisterWrite.{RegisterWrite}
use Rattle.gdb_machine.specs.declared.changes.RegisterWrite.TheVariants as change
use Rattle.gdb_machine.specs.declared.loads.Loads.{Loads}

-- the packets that stored bytes since the last of another kind, and those of the last load
pub record LoadState : Type 0 where
  pub row : List (List ℕ)
  pub kept : List (List ℕ)

abbrev pub load_state : Loads → LoadState
load_state l = record { row = map (λ p. p.items) l.row.items; kept = map (λ p. p.items) l.kept.items }

abbrev pub no_load : LoadState
no_load = record { row = []; kept = [] }

abbrev pub is_in_range : ℕ → ByteRange → Bool
is_in_range place range = nat_le range.start place && nat_lt place (range.start + range.count)

-- whether a request stores a byte at a place
abbrev pub stores_at : ℕ → GdbRequest → Bool
stores_at place (request.StoreBytes range bytes) = is_in_range place range
stores_at place (request.StorePairs range pairs) = is_in_range place range
stores_at place _ = false

abbrev pub is_store : GdbRequest → Bool
is_store (request.StoreBytes range bytes) = true
is_store (request.StorePairs range pairs) = true
is_store _ = false

abbrev pub place_written : Option RegisterWrite → Option ℕ
place_written (Some (change.Place address)) = Some address
place_written _ = None

-- where a request sets the program counter to
abbrev pub place_set : GdbRequest → Option ℕ
place_set (request.SetRegister n pairs) = place_written (write_wanted n (decode_sized pairs 4))
place_set _ = None

abbrev pub has_stored : List (List ℕ) → ℕ → Bool
has_stored row place = list_any (λ p. stores_at place (packet_request p)) row

abbrev pub row_longer : LoadState → List ℕ → LoadState
row_longer l packet = record l { row = l.row ++ packet ∷ [] }

abbrev pub with_place : List (List ℕ) → List ℕ → Option ℕ → List (List ℕ)
with_place row packet None = row
with_place row packet (Some place) = row ++ packet ∷ []

-- A packet that stores no bytes ends the row, which is a load where the program counter is then at one of its bytes:
-- the packet may have set it there.
abbrev pub load_ended : LoadState → List ℕ → Option ℕ → ℕ → LoadState
load_ended l packet place pc =
    if has_stored l.row (unwrap_or place pc) then record { row = []; kept = with_place l.row packet place }
    else record l { row = [] }

-- after a packet that came where the program counter was so
abbrev pub after_packet : LoadState → List ℕ → ℕ → LoadState
after_packet l packet pc =
    if is_store (packet_request packet) then row_longer l packet
    else load_ended l packet (place_set (packet_request packet)) pc
