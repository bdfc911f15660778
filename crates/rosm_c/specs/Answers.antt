-- What a caller in C finds after a script: the exit status of the program `rosm`, the front of the
-- answers or records for which there was room, and how long all of them are.
use Rattle.std.specs.Prelude.{◌≡◌, ◌⊎◌, ℕ, ◌++◌, List, true, length, take, drop}
use Rattle.std.specs.List.{list_all}
use Rattle.profile.specs.text_sink.Safe.{is_safe}
use Rattle.profile.specs.Status.{status_after}
use Rattle.command_shell.specs.State.{Answered}

-- the room, with as much of a text as fits at its front
abbrev pub room_with : List ℕ → List ℕ → List ℕ
room_with room text = take (length room) text ++ drop (length text) room

-- A script was answered whole.
pub record ShowsAnswers (reported : Answered) (ending count : ℕ) (room room_after : List ℕ) : Type 0 where
  pub status : ending ≡ status_after reported.state.last
  pub written : count ≡ length reported.text
  pub front : room_after ≡ room_with room reported.text

-- Nothing was written, for the reason that the status gives.
pub record ShowsNothing (reason ending count : ℕ) (room room_after : List ℕ) : Type 0 where
  pub status : ending ≡ reason
  pub written : count ≡ 0
  pub untouched : room_after ≡ room

-- A script was answered whole, or it wasn't: memory ran out, or the script is too long.
abbrev pub ShowsAnswersUnlessNone : Answered → ℕ → ℕ → List ℕ → List ℕ → Type 0
ShowsAnswersUnlessNone reported ending count room room_after =
    ShowsAnswers reported ending count room room_after ⊎ ShowsNothing 4 ending count room room_after

-- A debugging script was recorded whole. No byte of its records is below 32 but line feeds, none is above
-- 126, and none is `<`.
pub record ShowsRecords (count : ℕ) (room room_after : List ℕ) : Type 0 where
  pub records : List ℕ
  pub safe : list_all is_safe records ≡ true
  pub written : count ≡ length records
  pub front : room_after ≡ room_with room records

-- The same, or it wasn't recorded: memory ran out, or the script is too long.
abbrev pub ShowsRecordsUnlessNone : ℕ → ℕ → List ℕ → List ℕ → Type 0
ShowsRecordsUnlessNone ending count room room_after =
    ShowsRecords count room room_after ⊎ ShowsNothing 4 ending count room room_after
