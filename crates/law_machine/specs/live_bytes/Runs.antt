-- Which bytes of live blocks change over lists of moves, and runs as such lists.
use Rattle.std.specs.Prelude.{ℕ, zero, suc, ◌≡◌, ◌⊎◌, List, [], ◌∷◌}
use Rattle.profile.specs.images.Entries.{Entry}
use Rattle.swi_dispatch_guest.specs.MachineState.{MachineState}
use Rattle.swi_dispatch_guest.specs.Run.{ran}
use Rattle.swi_dispatch_guest.specs.Moves.{Move, Step, machine_after_event, moved_all}
use Rattle.swi_dispatch_guest.specs.GuestState.{IsState}
use Rattle.law_machine.specs.live_bytes.Changes.{IsByteHeld, MayChange}

-- Each move leads to a machine's state, and the byte is held from each state to the next.
abbrev pub IsHeldOver : List Entry → MachineState → List Move → ℕ → ℕ → Type 0
IsHeldOver images s [] start a = Unit {0}
IsHeldOver images s (m ∷ ms) start a =
    (IsState (machine_after_event images s m) × IsByteHeld s.store
    (machine_after_event images s m).store start a)
    × IsHeldOver images (machine_after_event images s m) ms start a

-- one of the moves may change it
abbrev pub MayChangeOver : List Entry → MachineState → List Move → ℕ → ℕ → Type 0
MayChangeOver images s [] start a = ⊥
MayChangeOver images s (m ∷ ms) start a =
    MayChange s (machine_after_event images s m) m start a ⊎
    MayChangeOver images (machine_after_event images s m) ms start a

abbrev pub LiveBytesStayOver : Type 0
LiveBytesStayOver =
    (images : List Entry) (s : MachineState) (moves : List Move) (start a : ℕ) → IsState s
    → IsHeldOver images s moves start a
    → ((moved_all images s moves).store.bytes.at a ≡ s.store.bytes.at a) ⊎
    MayChangeOver images s moves start a

-- a number of steps
abbrev pub steps : ℕ → List Move
steps zero = []
steps (suc n) = Step ∷ steps n

pub record IsStepped (images : List Entry) (s t : MachineState) : Type 0 where
  pub count : ℕ
  pub is : t ≡ moved_all images s (steps count)

-- What a run leaves is what a number of steps leave.
abbrev pub RunsAreSteps : Type 0
RunsAreSteps =
    (images : List Entry) (breaks : List ℕ) (n : ℕ) (s : MachineState) →
    IsStepped images s (ran images breaks n s).now
