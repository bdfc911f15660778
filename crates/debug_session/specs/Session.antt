-- The state of a debugging script, as the code holds it: the session and the images.
use Rattle.std.specs.Prelude.{List}
use Rattle.profile.specs.images.Entries.{Entry}
use Rattle.debug_tables.specs.Session.{script_state}
use Rattle.debug_session.specs.DebugState.{DebugState}
use Rattle.debug_session.specs.declared.session.DebugSession.{DebugSession}

abbrev pub debug_state : DebugSession → List Entry → DebugState
debug_state s images = record {
  script = script_state s.session images;
  labels = s.labels;
  sources = s.sources;
  failed = s.failed;
  modes = s.modes;
  answer = s.answer.items;
  output = s.output.items;
  steps = s.steps;
  tally = s.tally;
  has_quit = s.has_quit;
  past = s.past;
}
