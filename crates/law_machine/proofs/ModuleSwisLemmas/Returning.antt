-- The code of a SWI comes back.
use Rattle.std.proofs.Common.{ℕ, Bool, true, false, ◌≡◌, ◌<◌, ◌+◌, ◌-◌, ◌*◌, ◌/◌, ◌%◌, ◌^◌, ◌==◌, ◌&&◌, ◌++◌, ◌∙◌, zero, suc, not, List, [], ◌∷◌, length, take, Some, refl, sym, ap, subst, arith, get_or-set_same, length-append}
use Rattle.std.specs.Prelude.{slice_get, slice_index}
use Rattle.std.proofs.Math.Seq.{take-append_seam}
use Rattle.std.proofs.lemmas.Bool.{eq-eqb}
use Rattle.std.proofs.lemmas.List.{length-set}
use Rattle.arm_core.specs.declared.psr.Mode.TheVariants.{Supervisor, User}
use Rattle.arm_core.specs.declared.psr.Psr.{Psr}
use Rattle.arm_core.specs.Psr.{psr_bits}
use Rattle.arm_core.specs.State.{State, register_in, with_register_in}
use Rattle.swi_dispatch_guest.specs.SwiDispatchAnswersReturns.{return_word, state_after_return}
use Rattle.swi_dispatch_guest.specs.Busy.{is_swi}
use Rattle.swi_dispatch_guest.specs.Frames.{frames_after_close, innermost_frame}
use Rattle.swi_dispatch_guest.specs.Leaving.{first_restored, left, state_with_saved_words}
use Rattle.swi_dispatch_guest.specs.SwiDispatchAnswersFrame.{Frame}
use Rattle.swi_dispatch_guest.proofs.GateReturns.{swi_went}
use Rattle.swi_dispatch_guest.proofs.NextTurn.{unhalted_step}
use Rattle.swi_dispatch_guest.specs.Gates.{frame_closed, outcome_of_gate}
use Rattle.swi_dispatch_guest.specs.MachineState.{MachineState, StepOutcome, silent}
use Rattle.swi_dispatch_guest.specs.Step.{machine_step, outcome_of_turn, result_of_instruction}
use Rattle.law_machine.specs.module_swis.Swis.{ComesBackWell, IsSwiDone, SwisGoBack}

-- the innermost frame, and those below it
last_there : (below : List Frame) (f : Frame) → slice_get (below ++ f ∷ []) (length below) ≡ Some f
last_there [] f = refl
last_there (g ∷ below) f = last_there below f

one_less : (below : List Frame) (f : Frame) → length (below ++ f ∷ []) - 1 ≡ length below
one_less below f = omega (arith, length-append below (f ∷ []))

innermost_there : (frames below : List Frame) (f : Frame) → frames ≡ below ++ f ∷ [] → innermost_frame frames ≡ Some f
innermost_there frames below f is =
    ap innermost_frame is ∙ ap (slice_get (below ++ f ∷ [])) (one_less below f) ∙ last_there below f

closed_to : (frames below : List Frame) (f : Frame) → frames ≡ below ++ f ∷ [] → frames_after_close frames ≡ below
closed_to frames below f is =
    ap frames_after_close is ∙ ap (λ (n : ℕ). take n (below ++ f ∷ [])) (one_less below f) ∙ take-append_seam below (f ∷ [])

-- the registers
saved_size : (n count : ℕ) (saved : List ℕ) (cpu : State) → length (state_with_saved_words n count saved cpu).file ≡ length cpu.file
saved_size n zero saved cpu = refl
saved_size n (suc count) saved cpu =
    saved_size (n + 1) count saved (with_register_in User cpu n (slice_index saved n)) ∙ length-set cpu.file n (slice_index saved n)

left_size : (cpu : State) (f : Frame) → length (left cpu f).file ≡ length cpu.file
unfolding left
left_size cpu f = saved_size (first_restored f.kind) (13 - first_restored f.kind) f.saved cpu

whole_word : (next : ℕ) → next % 4 ≡ 0 → next < 2 ^ 26 → next / 4 % 2 ^ 24 * 4 ≡ next
whole_word next whole low = omega (arith, whole, low)

link_back : (caller : Psr) (cpu : State) (overflow : Bool) (next : ℕ) → length cpu.file ≡ 26
    → register_in Supervisor (state_after_return caller cpu overflow next) 14 ≡ return_word caller next
unfolding state_after_return
link_back caller cpu overflow next size = get_or-set_same cpu.file 25 (return_word caller next) 0 (omega (arith, size))

counter_back : (caller : Psr) (cpu : State) (overflow : Bool) (next : ℕ)
    → ((state_after_return caller cpu overflow next).pc ≡ next / 4 % 2 ^ 24 * 4) × ((state_after_return caller cpu overflow next).psr.overflow ≡ overflow)
unfolding state_after_return
counter_back caller cpu overflow next = (refl, refl)

done_by : (s : MachineState) (below : List Frame) (f : Frame) (number : ℕ) → ComesBackWell s below f number → IsSwiDone below f (frame_closed s f)
done_by s below f number back =
    let cpu : State = left s.cpu f in
    let size : length cpu.file ≡ 26 = left_size s.cpu f ∙ back.registers in
    let word : f.call.next / 4 % 2 ^ 24 * 4 ≡ f.call.next = whole_word f.call.next back.whole back.low in
    let back_at = counter_back f.call.caller cpu s.cpu.psr.overflow f.call.next in
    record {
      link = link_back f.call.caller cpu s.cpu.psr.overflow f.call.next size ∙ ap (λ (n : ℕ). psr_bits f.call.caller + n) word;
      counter = back_at.0 ∙ word;
      clear = back_at.1 ∙ back.well;
      closed = closed_to s.tables.frames below f back.innermost;
      goes = back.goes;
    }

pub swis_go_back : SwisGoBack
swis_go_back images s below f number back =
    let stack : (register_in Supervisor s.cpu 13 == f.stack) ≡ true = eq-eqb (register_in Supervisor s.cpu 13) f.stack back.stack in
    let swi : is_swi f.kind ≡ true = ap is_swi back.kind in
    let taken : (s.cpu.psr.overflow && not f.call.is_x) ≡ false = ap (λ (b : Bool). b && not f.call.is_x) back.well in
    let went : silent (frame_closed s f) ≡ outcome_of_gate s =
    swi_went s f (silent (frame_closed s f)) (innermost_there s.tables.frames below f back.innermost) stack swi taken refl in
    let gate : outcome_of_turn images s (result_of_instruction s) ≡ outcome_of_gate s = ap (outcome_of_turn images s) back.gate in
    let is : silent (frame_closed s f) ≡ machine_step images s = went ∙ sym gate ∙ sym (unhalted_step images s back.goes) in
    subst (λ (o : StepOutcome). IsSwiDone below f o.now) is (done_by s below f number back)
