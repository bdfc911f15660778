-- The state of a session with GDB, as the code holds it: the session and the images.
use Rattle.std.specs.Prelude.{◌≡◌, ℕ, List, ◌++◌, option_map}
use Rattle.profile.specs.images.Entries.{Entry}
use Rattle.debug_session.specs.Session.{debug_state}
use Rattle.gdb_machine.specs.declared.stops.GdbStop.{GdbStop}
use Rattle.gdb_server.specs.session.Steps.{StepsTaken}
use Rattle.gdb_server.specs.session.State.{GdbState, GdbAnswered, with_script, with_steps_noted}
use Rattle.gdb_server.specs.declared.session.session.GdbAnswer.{GdbAnswer}
use Rattle.gdb_server.specs.declared.session.session.GdbSession.{GdbSession}

abbrev pub gdb_state : GdbSession → List Entry → GdbState
gdb_state s images = record {
  setting = s.debug.setting;
  start = s.start.items;
  stays = s.stays;
  debug = debug_state s.debug images;
  watches = s.watches;
  breaks = s.breaks;
  libraries = s.libraries.items;
  most = s.most;
  going = s.going;
  stop = s.stop;
  has_ended = s.has_ended;
}

-- A session and an answer after a request: the session stands in its state, and the answer is its.
pub record IsGdbAnswered (now : GdbState) (answer : GdbAnswer) (reported : GdbAnswered) : Type 0 where
  pub state : now ≡ reported.state
  pub text : answer.reported.items ≡ reported.reported
  pub reply : option_map (λ reply. reply.items) answer.reply ≡ reported.reply

-- A session, a text and an answer after steps: the session stands in their state, what they printed is
-- appended, and the answer shows why they ended. What they did isn't kept yet.
pub record IsAfterLooked (old now : GdbState) (before after : List ℕ) (stop : GdbStop) (taken : StepsTaken) :
    Type 0 where
  pub state : now ≡ with_script old taken.script
  pub text : after ≡ before ++ taken.printed
  pub reason : stop ≡ taken.stop

-- The same, and what they did is kept.
pub record IsAfterSteps (old now : GdbState) (before after : List ℕ) (stop : GdbStop) (taken : StepsTaken) :
    Type 0 where
  pub state : now ≡ with_steps_noted old taken.script
  pub text : after ≡ before ++ taken.printed
  pub reason : stop ≡ taken.stop
