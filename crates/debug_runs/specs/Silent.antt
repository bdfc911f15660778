-- Steps that print nothing, taken as long as no run's goal can be reached before the last of them.
use Rattle.std.specs.Prelude.{◌≡◌, ◌==◌, ℕ, Bool, true, false, nat_lt, List, length, None, if◌then◌else◌}
use Rattle.profile.specs.MemoryMap.{return_gate}
use Rattle.profile.specs.declared.stop.Stop.{Stop}
use Rattle.debug_tables.specs.MachineState.{MachineState}
use Rattle.debug_tables.specs.Run.{is_among, silent_run, ran}
use Rattle.debug_tables.specs.GuestState.{AreCoreSteps}
use Rattle.debug_tables.specs.State.{ScriptState}
use Rattle.debug_tables.specs.Stepping.{script_after_silent}

-- whether more frames than so many are open, and the next step, which doesn't begin at the return gate,
-- closes none
abbrev pub stay_open : ℕ → MachineState → Bool
stay_open count s = if s.cpu.pc == return_gate then false else nat_lt count (length s.tables.frames)

-- So many steps of the core by itself left this, of which none but the last came to an address or to a break:
-- they are a run that stops at these.
pub record IsAfterSilentUpTo (address : ℕ) (s now : ScriptState) (taken : ℕ) : Type 0 where
  pub stops : List ℕ
  pub breaks : (at : ℕ) → is_among stops at ≡ false → is_among s.breaks at ≡ false
  pub ahead : is_among stops address ≡ true
  pub ends : Stop
  pub run : ran s.images stops taken s.machine ≡ silent_run now.machine taken ends
  pub steps : AreCoreSteps taken s.machine now.machine
  pub state : now ≡ script_after_silent s now.machine taken
  pub unhalted : now.machine.halt ≡ None
