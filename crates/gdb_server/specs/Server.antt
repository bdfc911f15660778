-- The state of a server, as the code holds it.
use Rattle.std.specs.Prelude.{◌≡◌, ℕ, List, Option}
use Rattle.std.specs.Io.KnownBytes.{Appends}
use Rattle.profile.specs.images.Entries.{Entry}
use Rattle.gdb_machine.specs.Loads.{load_state}
use Rattle.gdb_server.specs.Serving.{ServerState, Served}
use Rattle.gdb_server.specs.declared.server.GdbServer.{GdbServer}
use Rattle.gdb_server.specs.session.Session.{gdb_state}

abbrev pub server_state : GdbServer → List Entry → ServerState
server_state s images = record {
  session = gdb_state s.session images;
  reading = s.reader;
  has_acks = s.has_acks;
  is_extended = s.is_extended;
  last = s.last.items;
  loads = load_state s.loads;
  lacks = s.lacks;
}

-- A writer and a server after some bytes: what was written is their answer, and the server stands in
-- its state.
pub record IsServed (before after : Option (List ℕ)) (now : ServerState) (reported : Served) : Type 0 where
  pub text : Appends before after reported.text
  pub state : now ≡ reported.state
