-- Frames of module code that is under way, the innermost last, and what each keeps (this project's
-- own).
use Rattle.std.specs.Prelude.{ℕ, ◌-◌, Option, List, length, take, slice_get}
use Rattle.arm_core.specs.declared.psr.Mode.TheVariants.{Supervisor}
use Rattle.arm_core.specs.State.{State, register_in}
use Rattle.swi_dispatch_answers.specs.declared.frames.call.Call.{Call}
use Rattle.swi_dispatch_answers.specs.declared.frames.frame.Frame.{Frame}
use Rattle.swi_dispatch_answers.specs.declared.frames.frame.FrameKind.{FrameKind}

-- R0 to R12 of the shared bank
abbrev pub shared_registers : State → List ℕ
shared_registers cpu = take 13 cpu.file

-- the frame of code that a core is about to enter
abbrev pub frame_of : State → Call → FrameKind → ℕ → Frame
frame_of cpu call kind slot = record {
  call = call;
  kind = kind;
  slot = slot;
  saved = shared_registers cpu;
  stack = register_in Supervisor cpu 13;
}

abbrev pub innermost_frame : List Frame → Option Frame
innermost_frame frames = slice_get frames (length frames - 1)

abbrev pub frames_after_close : List Frame → List Frame
frames_after_close frames = take (length frames - 1) frames
