-- The whole run of the subcommand: files as images, the lines that a machine begins with, and then GDB's bytes, with
-- the files read anew for each `run`.
use Rattle.std.specs.Prelude.{◌≡◌, ℕ, false, Bool, List, [], Option}
use Rattle.std.specs.Io.KnownBytes.{Appends, Consumes, IsAtEnd, Keeps}
use Rattle.profile.specs.declared.stop.Stop.{Stop}
use Rattle.profile.specs.images.Entries.{Entry}
use Rattle.gdb_server.specs.DebugState.{DebugAnswered}
use Rattle.gdb_server.specs.session.Runs.{begin_shown, begun_anew}
use Rattle.gdb_server.specs.session.State.{gdb_start}
use Rattle.gdb_server.specs.Serving.{ServerState, Served, server_before_bytes}
use Rattle.gdb_server.specs.declared.session.session.GdbSettings.{GdbSettings}
use Rattle.rosm_settings.specs.ImageFiles.{AddsFiles}
use Rattle.rosm_settings.specs.gdb.Start.{AreFirstLines}
use Rattle.rosm_tools.specs.gdb.Streams.{AreSent, EndsWithInput, Sent, sent_served}
use Rattle.rosm_settings.specs.declared.gdb.words.WantedGdb.{WantedGdb}

-- a machine of the sizes, the budgets, and whether the program's end is stayed at, as they are asked for
abbrev pub settings_wanted : WantedGdb → GdbSettings
settings_wanted wanted = record {
  config = wanted.settings.config;
  budget = wanted.settings.budget;
  most = wanted.most;
  stays = wanted.stays;
}

-- what the lines that a machine begins with are answered, where the files' images are there
abbrev pub start_shown : WantedGdb → List ℕ → List Entry → DebugAnswered
start_shown wanted start images = begin_shown (gdb_start (settings_wanted wanted) start images)

-- a server after the lines that a machine begins with
abbrev pub server_begun : WantedGdb → List ℕ → List Entry → ServerState
server_begun wanted start images = server_before_bytes
    (begun_anew (gdb_start (settings_wanted wanted) start images) (start_shown wanted start images))

-- what all that GDB sends is answered
abbrev pub gdb_shown : WantedGdb → List ℕ → List Entry → List Sent → Served
gdb_shown wanted start images sent =
    sent_served wanted.settings.files sent (server_begun wanted start images)

-- These bytes are all of an input, unless the debugger is gone, and the files gave this before each of them.
pub record IsAllSent {F : Type 0} (of_file : F → Option (List ℕ)) (wanted : WantedGdb) (input : Option (List ℕ))
    (sent : List Sent) (reported : Served) : Type 0 where
  pub read : List ℕ
  pub left : Option (List ℕ)
  pub are : AreSent of_file wanted read sent
  pub of_input : Consumes input left read
  pub ends : reported.state.session.has_ended ≡ false → IsAtEnd left

-- With the files' images there, and the first lines answered, all that GDB sends is answered, for each `run` with
-- what the files give then: the answers are appended to what was written before, and the last stop is the
-- machine's. The answers to the first lines are appended to what standard error had, if that could be written.
pub record ServesGdb {F : Type 0} (of_file : F → Option (List ℕ)) (wanted : WantedGdb)
    (input before after shown_before shown_after : Option (List ℕ)) (untold : Bool) (last : Option Stop) :
    Type 0 where
  pub images : List Entry
  pub start : List ℕ
  pub files : AddsFiles of_file [] wanted.settings.files images
  pub lines : AreFirstLines of_file wanted start
  pub first : untold ≡ false → Appends shown_before shown_after (start_shown wanted start images).text
  pub sent : List Sent
  pub all : IsAllSent of_file wanted input sent (gdb_shown wanted start images sent)
  pub text : Appends before after (gdb_shown wanted start images sent).text
  pub stop : last ≡ (gdb_shown wanted start images sent).state.session.debug.script.last

-- What a reader gives is served, the answers stand in a stream, and the last stop is the machine's.
pub record ServesStream {F : Type 0} (of_file : F → Option (List ℕ)) (wanted : WantedGdb)
    (input left before after : Option (List ℕ)) (old now : ServerState) (last : Option Stop) : Type 0 where
  pub buffered : Option (List ℕ)
  pub ends : EndsWithInput of_file wanted input left before buffered old now
  pub kept : Keeps buffered after
  pub stop : last ≡ now.session.debug.script.last

-- The last stop is that of a machine on which all that a reader shows was served.
pub record StopsWithGdb {F R : Type 0} (of_file : F → Option (List ℕ)) (of_reader : R → Option (List ℕ))
    (wanted : WantedGdb) (last : Option Stop) : Type 0 where
  pub reader : R
  pub images : List Entry
  pub start : List ℕ
  pub files : AddsFiles of_file [] wanted.settings.files images
  pub lines : AreFirstLines of_file wanted start
  pub sent : List Sent
  pub all : IsAllSent of_file wanted (of_reader reader) sent (gdb_shown wanted start images sent)
  pub stop : last ≡ (gdb_shown wanted start images sent).state.session.debug.script.last
