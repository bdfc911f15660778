-- The state of a script, as the code holds it: the session and the images.
use Rattle.std.specs.Prelude.{ℕ, List, [], None}
use Rattle.profile.specs.images.Entries.{Entry}
use Rattle.debugger.specs.Value.{MachineValue}
use Rattle.command_shell.specs.declared.session.Session.{Session}
use Rattle.command_shell.specs.State.{ScriptState}
use Rattle.debugger.specs.GuestState.{state_of}

abbrev pub script_state : Session → List Entry → ScriptState
script_state s images = record {
  machine = (state_of s.machine.guest);
  is_fresh = s.machine.is_fresh;
  sizes = s.machine.sizes;
  images = images;
  breaks = s.breaks;
  left = s.left;
  last = s.last;
}

-- the state before the first line, on a machine
abbrev pub state_on : MachineValue → List Entry → ℕ → ScriptState
state_on machine images budget = record {
  machine = (state_of machine.guest);
  is_fresh = machine.is_fresh;
  sizes = machine.sizes;
  images = images;
  breaks = [];
  left = budget;
  last = None;
}
