-- What a SWI of a module enters, and what it leaves where its code came back well (RISC OS 3
-- Programmer's Reference Manual, "Modules", "SWI handler code"; that R14 of supervisor mode is set on
-- the way back is this project's own).
use Rattle.std.specs.Prelude.{ℕ, ◌≡◌, ◌≢◌, ◌<◌, ◌+◌, ◌-◌, ◌%◌, ◌^◌, ◌++◌, Bool, false, List, [], ◌∷◌, length, Some, None, Err, slice_get}
use Rattle.profile.specs.SwiNames.{swi_of}
use Rattle.profile.specs.Word.{bit_of}
use Rattle.arm_core.specs.declared.psr.Mode.TheVariants.{Supervisor}
use Rattle.arm_core.specs.declared.turn.StepEnd.TheVariants as turn
use Rattle.arm_core.specs.Psr.{psr_bits}
use Rattle.arm_core.specs.State.{register_in}
use Rattle.profile.specs.images.Entries.{Entry}
use Rattle.instances_table.specs.plans.Code.{private_of}
use Rattle.instances_table.specs.Modules.{Module}
use Rattle.swi_dispatch_guest.specs.SwiDispatchAnswersFrame.{Frame}
use Rattle.swi_dispatch_guest.specs.FrameKind.TheVariants.{Swi}
use Rattle.swi_dispatch_guest.specs.MachineState.{MachineState}
use Rattle.swi_dispatch_guest.specs.Step.{machine_step, outcome_of_call, result_of_instruction, without_x}

-- The module that handles a SWI: of those with a handler whose chunk of 64 numbers has it, the
-- oldest.
pub record HandlesSwi (modules : List Module) (number : ℕ) (m : Module) : Type 0 where
  pub place : ℕ
  pub there : slice_get modules place ≡ Some m
  pub chunk : m.header.chunk ≡ number - number % 64
  pub handler : m.header.handler ≢ 0
  pub oldest : (older : ℕ) (n : Module) → older < place → slice_get modules older ≡ Some n →
      n.header.chunk ≡ number - number % 64 → n.header.handler ≡ 0

-- Its code is entered in a frame more, the innermost, for the preferred instance. Of the caller the
-- frame keeps whether it takes errors, its status, and where it goes on.
pub record IsSwiEntered (s : MachineState) (x : Bool) (next number : ℕ) (m : Module)
    (t : MachineState) : Type 0 where
  pub frame : Frame
  pub opened : t.tables.frames ≡ s.tables.frames ++ frame ∷ []
  pub kind : frame.kind ≡ Swi number
  pub slot : frame.slot ≡ m.preferred
  pub takes_errors : frame.call.is_x ≡ x
  pub caller : frame.call.caller ≡ s.cpu.psr
  pub goes_on : frame.call.next ≡ next
  pub word : register_in Supervisor t.cpu 12 ≡ private_of m.preferred

-- a SWI that a machine doesn't have itself, where a frame more can be opened
pub record IsModuleSwi (s : MachineState) (number : ℕ) (m : Module) : Type 0 where
  pub unnamed : swi_of number ≡ None
  pub handled : HandlesSwi s.tables.modules number m
  pub room : length s.tables.frames < 32
  pub registers : length s.cpu.file ≡ 26

abbrev pub SwisEnterPreferred : Type 0
SwisEnterPreferred = (images : List Entry) (s : MachineState) (x : Bool) (next number : ℕ) (m : Module) →
    IsModuleSwi s number m
    → IsSwiEntered s x next number m (outcome_of_call images s x next number).now

-- So it is with a step that makes it.
abbrev pub SwiStepsEnterPreferred : Type 0
SwiStepsEnterPreferred = (images : List Entry) (s : MachineState) (n : ℕ) (m : Module) → s.halt ≡ None →
    result_of_instruction s ≡ Err (turn.Swi n) → IsModuleSwi s (without_x n) m
    → IsSwiEntered s (bit_of n 17) ((s.cpu.pc + 4) % 2 ^ 26) (without_x n) m (machine_step images s).now

-- The code of a SWI comes back, in the innermost frame `f`, and all is well with its stack and V.
pub record ComesBackWell (s : MachineState) (below : List Frame) (f : Frame) (number : ℕ) : Type 0 where
  pub goes : s.halt ≡ None
  pub gate : result_of_instruction s ≡ Err turn.Gate
  pub innermost : s.tables.frames ≡ below ++ f ∷ []
  pub kind : f.kind ≡ Swi number
  pub stack : register_in Supervisor s.cpu 13 ≡ f.stack
  pub well : s.cpu.psr.overflow ≡ false
  pub registers : length s.cpu.file ≡ 26
  pub whole : f.call.next % 4 ≡ 0
  pub low : f.call.next < 2 ^ 26

-- The caller goes on: R14 of supervisor mode shows with what status it called, and where it goes on.
pub record IsSwiDone (below : List Frame) (f : Frame) (t : MachineState) : Type 0 where
  pub link : register_in Supervisor t.cpu 14 ≡ psr_bits f.call.caller + f.call.next
  pub counter : t.cpu.pc ≡ f.call.next
  pub clear : t.cpu.psr.overflow ≡ false
  pub closed : t.tables.frames ≡ below
  pub goes : t.halt ≡ None

abbrev pub SwisGoBack : Type 0
SwisGoBack = (images : List Entry) (s : MachineState) (below : List Frame) (f : Frame) (number : ℕ) →
    ComesBackWell s below f number → IsSwiDone below f (machine_step images s).now
