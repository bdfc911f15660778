-- What a session with GDB works on, and what a request is answered with.
use Rattle.std.specs.Prelude.{ℕ, ◌-◌, Bool, false, true, List, [], Option, Some, None}
use Rattle.profile.specs.images.Entries.{Entry}
use Rattle.debug_session.specs.State.{ScriptState}
use Rattle.debug_session.specs.PastNoted.{is_faulted, past_with_steps}
use Rattle.debug_session.specs.Past.{PastState}
use Rattle.debug_session.specs.DebugState.{DebugState, debug_start_state}
use Rattle.debug_session.specs.DebugChecksReportForm.TheVariants.{Answers}
use Rattle.debug_session.specs.Meters.{silent_meter}
use Rattle.debug_session.specs.declared.session.DebugSettings.{DebugSettings}
use Rattle.gdb_machine.specs.Libraries.{library_lines}
use Rattle.gdb_machine.specs.declared.back_ends.UnderWay.{UnderWay}
use Rattle.gdb_machine.specs.declared.stops.GdbStop.{GdbStop}
use Rattle.gdb_machine.specs.declared.stops.GdbStop.TheVariants as reason
use Rattle.gdb_machine.specs.declared.watches.Watch.{Watch}
use Rattle.gdb_server.specs.declared.session.session.GdbSettings.{GdbSettings}

-- What the session was made with, the lines that a machine begins with, whether the program's end is stayed at, what
-- a debugging script works on, GDB's watches, its breaks, the lines of the modules that GDB was told are there, how
-- many steps a run may take, the run or the search that is under way, if one is, why the program stands, and whether
-- GDB is gone.
pub record GdbState : Type 0 where
  pub setting : DebugSettings
  pub start : List ℕ
  pub stays : Bool
  pub debug : DebugState
  pub watches : List Watch
  pub breaks : List ℕ
  pub libraries : List ℕ
  pub most : ℕ
  pub going : Option UnderWay
  pub stop : GdbStop
  pub has_ended : Bool

-- the state after a request, text for the user, and one packet at most
pub record GdbAnswered : Type 0 where
  pub state : GdbState
  pub reported : List ℕ
  pub reply : Option (List ℕ)

-- a packet without text for the user
abbrev pub packet_reply : GdbState → List ℕ → GdbAnswered
packet_reply g reply = record { state = g; reported = []; reply = Some reply }

-- nothing
abbrev pub no_reply : GdbState → GdbAnswered
no_reply g = record { state = g; reported = []; reply = None }

-- the state of the script alone is another
abbrev pub with_script : GdbState → ScriptState → GdbState
with_script g s = record g { debug = record g.debug { script = s } }

-- the past alone is another
abbrev pub with_past : GdbState → PastState → GdbState
with_past g p = record g { debug = record g.debug { past = p } }

-- What GDB does is kept of no line of a script: as of line 0.
abbrev pub gdb_line : ℕ
gdb_line = 0

-- What steps did to the machine is kept: as many as were taken since so many were left.
abbrev pub with_noted : GdbState → ℕ → GdbState
with_noted g left = with_past g (past_with_steps g.debug.past gdb_line (left - g.debug.script.left)
    (is_faulted g.debug.script.machine.halt))

-- the state after steps
abbrev pub with_steps_noted : GdbState → ScriptState → GdbState
with_steps_noted g s = with_noted (with_script g s) g.debug.script.left

-- the lines of the modules that are there
abbrev pub script_libraries : ScriptState → List ℕ
script_libraries s = library_lines s.machine.tables.modules

-- what lines are answered with: as answers
abbrev pub debug_settings : GdbSettings → DebugSettings
debug_settings setting = record {
  config = setting.config;
  budget = setting.budget;
  form = Answers;
  meter = silent_meter;
  keeps_past = true;
}

-- before the first line
abbrev pub gdb_start : GdbSettings → List ℕ → List Entry → GdbState
gdb_start setting start images = record {
  setting = debug_settings setting;
  start = start;
  stays = setting.stays;
  debug = debug_start_state (debug_settings setting) images;
  watches = [];
  breaks = [];
  libraries = [];
  most = setting.most;
  going = None;
  stop = reason.Stepped;
  has_ended = false;
}
