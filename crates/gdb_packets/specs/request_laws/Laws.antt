-- The grammar is exact, both ways.
use Rattle.std.specs.Prelude.{◌≡◌, ℕ, List}
use Rattle.gdb_packets.specs.Requests.{GdbRequest, Unknown, packet_request}
use Rattle.gdb_packets.specs.request_laws.Grammar.{AsksFor}

-- What asks for a request is read as it, and nothing else is.
pub record IsExact (text : List ℕ) (r : GdbRequest) : Type 0 where
  pub read : AsksFor r text → packet_request text ≡ r
  pub only : packet_request text ≡ r → (r ≡ Unknown → ⊥) → AsksFor r text

abbrev pub RequestsAreExact : Type 0
RequestsAreExact = (text : List ℕ) (r : GdbRequest) → IsExact text r
