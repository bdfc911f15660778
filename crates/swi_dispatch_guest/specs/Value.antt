-- What a machine is: its guest, and what stands beside it.
use Rattle.std.specs.Prelude.{◌≡◌, ◌&&◌, ℕ, Bool, true, false, List}
use Rattle.profile.specs.Sizes.{Sizes}
use Rattle.swi_dispatch_guest.specs.MachineState.{MachineState, StepOutcome, machine_start}
use Rattle.swi_dispatch_guest.specs.GuestState.{IsGuest, GuestState, state_of}

-- `sizes` are those that it was made with; `is_fresh` says whether it still stands as it was made,
-- so that it can be booted; and `printed` is what its last step printed.
pub record MachineValue : Type 0 where
  pub guest : GuestState
  pub sizes : Sizes
  pub is_fresh : Bool
  pub printed : List ℕ

-- the written machine, and what the last step printed
abbrev pub outcome_of : MachineValue → StepOutcome
outcome_of m = record { now = state_of m.guest; printed = m.printed }

-- All that holds of every machine, whatever its guest does.
pub record IsMachine (m : MachineValue) : Type 0 where
  pub guest : IsGuest m.guest
  pub fresh : m.is_fresh ≡ true → state_of m.guest ≡ machine_start m.sizes

-- After a run it can't be booted any more, but after one of no step.
pub record HasRun (m n : MachineValue) (is_of_none : Bool) : Type 0 where
  pub sizes : n.sizes ≡ m.sizes
  pub fresh : n.is_fresh ≡ (m.is_fresh && is_of_none)

-- A step left this.
pub record IsAfterStep (m n : MachineValue) (o : StepOutcome) : Type 0 where
  pub outcome : outcome_of n ≡ o
  pub sizes : n.sizes ≡ m.sizes
  pub fresh : n.is_fresh ≡ false
  pub kept : IsMachine n

-- A user wrote this to it, which printed nothing.
pub record IsWritten (m n : MachineValue) (s : MachineState) : Type 0 where
  pub state : state_of n.guest ≡ s
  pub sizes : n.sizes ≡ m.sizes
  pub fresh : n.is_fresh ≡ false
  pub printed : n.printed ≡ m.printed
  pub kept : IsMachine n

-- Beside its state it is as it was, but for whether it can be booted.
pub record IsBesides (m n : MachineValue) (may_boot : Bool) : Type 0 where
  pub sizes : n.sizes ≡ m.sizes
  pub fresh : n.is_fresh ≡ may_boot
  pub printed : n.printed ≡ m.printed
  pub kept : IsMachine n
