-- Module code is entered, and comes back (this project's own).
use Rattle.std.specs.Prelude.{◌≡◌, ℕ, true, false, ◌&&◌, not, ◌++◌, ◌∷◌, [], List, Option, Some, None, if◌then◌else◌}
use Rattle.os_heap.specs.Bytes.{Bytes}
use Rattle.swi_dispatch_answers.specs.Code.{Code}
use Rattle.swi_dispatch_answers.specs.Outcome.{Outcome as CodeOutcome}
use Rattle.swi_dispatch_answers.specs.Outcome.TheVariants.{Well, Refused}
use Rattle.swi_dispatch_answers.specs.Plans.{Plan}
use Rattle.swi_dispatch_answers.specs.State.{State, register_of}
use Rattle.swi_dispatch_answers.specs.Errors.{error_at}
use Rattle.swi_dispatch_answers.specs.Returns.{state_after_return}
use Rattle.swi_dispatch_answers.specs.declared.frames.call.Call.{Call}
use Rattle.swi_dispatch_answers.specs.declared.frames.frame.Frame.{Frame}
use Rattle.swi_dispatch_answers.specs.declared.frames.frame.FrameKind.TheVariants.{Entry}
use Rattle.swi_dispatch_answers.specs.frames.Entering.{code_entered}
use Rattle.swi_dispatch_answers.specs.frames.Frames.{frame_of}
use Rattle.swi_dispatch_answers.specs.frames.Leaving.{left}

-- What a call that was carried on comes to. Its next code, if any is left, is entered in a frame of
-- the call, and the plan is kept while that runs; else the plan has ended.
abbrev pub core_by : State → Option Code → State
core_by cpu (Some code) = code_entered cpu code
core_by cpu None = cpu

abbrev pub frames_by : List Frame → State → Call → Option Code → List Frame
frames_by frames cpu call (Some code) = frames ++ frame_of cpu call (Entry code.kind) code.slot ∷ []
frames_by frames cpu call None = frames

abbrev pub kept_by : Plan → Option Code → Option Plan
kept_by p (Some code) = Some p
kept_by p None = None

abbrev pub plan_unless_code : Plan → Option Code → Option Plan
plan_unless_code p (Some code) = None
plan_unless_code p None = Some p

-- A SWI of a module goes back. Where V is set it was refused: the error is the module's own, which
-- stands where R0 points.
abbrev pub returned_from : State → Frame → State
returned_from cpu f = state_after_return f.call.caller (left cpu f) cpu.psr.overflow f.call.next

-- The two ways in which a SWI of a module can go back: the core is the caller's again, or its
-- caller takes no error and there is one, of this number.
pub record GoesBack (cpu : State) (f : Frame) (back : State) : Type 0 where
  pub taken : (cpu.psr.overflow && not f.call.is_x) ≡ false
  pub core : back ≡ returned_from cpu f

pub record IsUntaken (cpu : State) (b : Bytes) (f : Frame) (number : ℕ) : Type 0 where
  pub refused : (cpu.psr.overflow && not f.call.is_x) ≡ true
  pub error : number ≡ error_at b (register_of (returned_from cpu f) 0)

-- An initialisation or a finalisation with V set has refused, and its error is the R0 that it left.
abbrev pub outcome_left : State → CodeOutcome
outcome_left cpu = if cpu.psr.overflow then Refused (register_of cpu 0) else Well
