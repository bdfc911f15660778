-- What a script works on, and what a line of it is answered.
use Rattle.std.specs.Prelude.{◌≡◌, ℕ, Bool, true, List, [], ◌++◌, Option, None}
use Rattle.std.specs.Io.KnownBytes.{Appends}
use Rattle.profile.specs.Sizes.{Sizes}
use Rattle.profile.specs.declared.stop.Stop.{Stop}
use Rattle.profile.specs.images.Entries.{Entry}
use Rattle.debugger.specs.MachineState.{MachineState, machine_start}

-- What a script works on: the machine, whether it still stands as it was made, the images, the
-- breaks, what is left of the budget, and the last stop that a line was answered with.
pub record ScriptState : Type 0 where
  pub machine : MachineState
  pub is_fresh : Bool
  pub sizes : Sizes
  pub images : List Entry
  pub breaks : List ℕ
  pub left : ℕ
  pub last : Option Stop

-- the state after some lines, and their answers
pub record Answered : Type 0 where
  pub state : ScriptState
  pub text : List ℕ

abbrev pub answer : ScriptState → List ℕ → Answered
answer s text = record { state = s; text = text }

-- A writer and a script after an answer: what was written is its text, and the script stands in its
-- state.
pub record IsAnswered (before after : Option (List ℕ)) (now : ScriptState) (reported : Answered) : Type 0
  where
    pub text : Appends before after reported.text
    pub state : now ≡ reported.state

-- an answer, and then those of the lines that follow
abbrev pub then_answered : Answered → (ScriptState → Answered) → Answered
then_answered first next = record {
  state = (next first.state).state;
  text = first.text ++ (next first.state).text;
}

-- the state before the first line
unfoldable pub script_start_state : Sizes → List Entry → ℕ → ScriptState
script_start_state sizes images budget = record {
  machine = machine_start sizes;
  is_fresh = true;
  sizes = sizes;
  images = images;
  breaks = [];
  left = budget;
  last = None;
}
