-- How far a script is recorded, as the code holds it.
use Rattle.std.specs.Prelude.{false, List, ℕ}
use Rattle.profile.specs.images.Entries.{Entry}
use Rattle.profile.specs.text_lines.Lines.{ReadingPlace}
use Rattle.debug_session.specs.DebugState.{debug_start_state}
use Rattle.debug_session.specs.Session.{debug_state}
use Rattle.debug_session.specs.declared.session.DebugSettings.{DebugSettings}
use Rattle.debug_records.specs.AnsweredLines.{RecordingState}
use Rattle.debug_session.specs.declared.session.DebugSession.{DebugSession}
use Rattle.trace_json.specs.GuestState.{state_of}
use Rattle.trace_json.specs.MachineState.{MachineState}
use Rattle.debug_records.specs.declared.recorder.Recorder.{Recorder}
use Rattle.debug_records.specs.declared.recorder.Twin.{Twin}

abbrev pub recording_state : Recorder → ReadingPlace → RecordingState
recording_state r place = record {
  setting = r.session.setting;
  debug = debug_state r.session r.images;
  number = place.number;
  left = place.left;
  steps = r.steps;
  limit = r.limit;
}

-- the machine of the twin, and that of the session
abbrev pub twin_machine : Twin → MachineState
twin_machine twin = state_of twin.session.session.machine.guest

abbrev pub session_machine : DebugSession → MachineState
session_machine session = state_of session.session.machine.guest

-- the settings of a session that is recorded: it can't go back
abbrev pub without_past : DebugSettings → DebugSettings
without_past setting = record setting { keeps_past = false }

-- before the first line
abbrev pub recording_start : DebugSettings → List Entry → List (List ℕ) → RecordingState
recording_start setting images script = record {
  setting = without_past setting;
  debug = debug_start_state (without_past setting) images;
  number = 0;
  left = script;
  steps = 0;
  limit = 100000;
}
