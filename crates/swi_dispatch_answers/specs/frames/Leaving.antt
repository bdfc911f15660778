-- The core on its way out of module code (RISC OS 3 Programmer's Reference Manual, "Modules", "SWI
-- handler code"; what is restored is this project's own). After a SWI R10 to R12 get their old
-- words, R0 to R9 and the flags stay as the code left them, and the mode and the masks are the
-- caller's. After another entry R0 to R12 and the whole status are the caller's.
use Rattle.std.specs.Prelude.{ℕ, zero, suc, ◌+◌, ◌-◌, List, slice_index}
use Rattle.arm_core.specs.declared.psr.Mode.TheVariants.{User}
use Rattle.arm_core.specs.declared.psr.Psr.{Psr}
use Rattle.arm_core.specs.State.{State, with_pc, with_psr, with_register_in}
use Rattle.swi_dispatch_answers.specs.declared.frames.frame.Frame.{Frame}
use Rattle.swi_dispatch_answers.specs.declared.frames.frame.FrameKind.{FrameKind}
use Rattle.swi_dispatch_answers.specs.declared.frames.frame.FrameKind.TheVariants.{Swi, Entry}

-- so many registers of the shared bank, from one on, get their words of a list
abbrev pub state_with_saved_words : ℕ → ℕ → List ℕ → State → State
state_with_saved_words n zero saved cpu = cpu
state_with_saved_words n (suc count) saved cpu = state_with_saved_words (n + 1) count saved
    (with_register_in User cpu n (slice_index saved n))

-- the first register that gets its old word
abbrev pub first_restored : FrameKind → ℕ
first_restored (Swi number) = 10
first_restored (Entry kind) = 0

abbrev pub status_left : FrameKind → Psr → Psr → Psr
status_left (Swi number) now caller = record caller {
  negative = now.negative;
  zero = now.zero;
  carry = now.carry;
  overflow = now.overflow;
}
status_left (Entry kind) now caller = caller

unfoldable pub left : State → Frame → State
left cpu f =
    let first : ℕ = first_restored f.kind in
    with_pc (with_psr (state_with_saved_words first (13 - first) f.saved cpu)
    (status_left f.kind cpu.psr f.call.caller)) f.call.next
