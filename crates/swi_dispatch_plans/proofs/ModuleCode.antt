-- A SWI of a module leaves R0 as it is when it goes back.
use Rattle.std.proofs.Common.{◌≡◌, ℕ, true, List, [], ◌∷◌, refl}
use Rattle.std.specs.Prelude.{slice_index, slice_set}
use Rattle.swi_dispatch_answers.specs.Mode.{Mode}
use Rattle.swi_dispatch_answers.specs.Mode.TheVariants.{User, FastInterrupt, Interrupt, Supervisor}
use Rattle.swi_dispatch_answers.specs.State.{State, register_of, slot_of}
use Rattle.swi_dispatch_answers.specs.Returns.{state_after_return}
use Rattle.swi_dispatch_answers.specs.frames.Busy.{is_swi}
use Rattle.swi_dispatch_answers.specs.frames.Leaving.{left}
use Rattle.swi_dispatch_answers.specs.declared.frames.frame.Frame.{Frame}
use Rattle.swi_dispatch_answers.specs.declared.frames.frame.FrameKind.{FrameKind}
use Rattle.swi_dispatch_answers.specs.declared.frames.frame.FrameKind.TheVariants.{Swi, Entry}
use Rattle.swi_dispatch_plans.specs.ModuleCode.{returned_from}

-- R0 is in no bank, and no call restores it
pub first_slot : (m : Mode) → slot_of m 0 ≡ 0
first_slot User = refl
first_slot FastInterrupt = refl
first_slot Interrupt = refl
first_slot Supervisor = refl

first_word : (file : List ℕ) (a b c d : ℕ)
    → slice_index (slice_set (slice_set (slice_set (slice_set file 10 a) 11 b) 12 c) 25 d) 0 ≡ slice_index file 0
first_word [] a b c d = refl
first_word (x ∷ file) a b c d = refl

r0_kept_by : (kind : FrameKind) (cpu : State) (f : Frame) → f.kind ≡ kind → is_swi kind ≡ true
    → register_of (returned_from cpu f) 0 ≡ register_of cpu 0
unfolding state_after_return left
r0_kept_by (Swi number) cpu f is swi =
    rw (is, first_slot f.call.caller.mode, first_slot cpu.psr.mode) (first_word cpu.file _ _ _ _)
r0_kept_by (Entry kind) cpu f is swi = cc

pub r0_kept : (cpu : State) (f : Frame) → is_swi f.kind ≡ true → register_of (returned_from cpu f) 0 ≡ register_of cpu 0
r0_kept cpu f swi = r0_kept_by f.kind cpu f refl swi
