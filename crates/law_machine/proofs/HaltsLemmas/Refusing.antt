-- A store call that is refused leaves all but the block of its error, and what it shows in the
-- core.
use Rattle.profile.specs.MemoryMap.{error_block_start}
use Rattle.std.proofs.Common.{ℕ, Bool, true, false, ◌≡◌, ◌∙◌, ◌+◌, ◌*◌, ◌/◌, ◌%◌, ◌^◌, ◌==◌, ◌++◌, List, [], ◌∷◌, length, Option, Some, None, Result, Ok, Err, refl, sym, ap, subst, inl, inr, ◌⊎◌, ◌≤◌, ◌<◌, arith, get_or-set_other, get_or-set_same}
use Rattle.std.specs.Prelude.{slice_index}
use Rattle.std.proofs.lemmas.Bool.{both_ways, cases_Bool, false≢true, true≢false}
use Rattle.std.proofs.lemmas.List.{length-set}
use Rattle.profile.specs.ErrorNames.{error_code, error_name}
use Rattle.profile.specs.SwiNames.{swi_of}
use Rattle.profile.specs.Reasons.{module_reason}
use Rattle.profile.specs.Word.{bit_of}
use Rattle.profile.specs.ErrorNumber.{ErrorNumber}
use Rattle.profile.specs.ErrorNumber.TheVariants.{BadString, FrameLimit, SwiUnknown}
use Rattle.profile.specs.declared.reason.ModuleReason.{ModuleReason}
use Rattle.profile.specs.declared.reason.ModuleReason.TheVariants as reason
use Rattle.profile.specs.declared.swi.SwiName.{SwiName}
use Rattle.profile.specs.declared.swi.SwiName.TheVariants as swi
use Rattle.address_map.proofs.Stores.{in_range-cases}
use Rattle.address_map.specs.Bytes.{Bytes, in_range, with_word_at}
use Rattle.arm_core.specs.declared.psr.Mode.TheVariants.{Supervisor}
use Rattle.arm_core.specs.declared.psr.Psr.{Psr}
use Rattle.arm_core.specs.declared.turn.StepEnd.{StepEnd}
use Rattle.arm_core.specs.declared.turn.StepEnd.TheVariants as turn
use Rattle.arm_core.specs.State.{State, register_in, register_of, slot_of, with_register}
use Rattle.profile.specs.images.Entries.{Entry}
use Rattle.instances_table.specs.declared.parts.Handler.{Handler}
use Rattle.instances_table.specs.Lookup.{handler_of}
use Rattle.os_heap.specs.Store.{Store}
use Rattle.flex_store.proofs.Holding.{bytes_beside, word_beside}
use Rattle.dynamic_areas.specs.Ground.{AreaStore}
use Rattle.instances.specs.module_state.ModuleState.{ModuleState}
use Rattle.swi_dispatch_guest.specs.SwiDispatchAnswersErrors.{memory_with_error}
use Rattle.swi_dispatch_guest.specs.SwiDispatchAnswersReturns.{return_word, state_after_return}
use Rattle.swi_dispatch_guest.specs.Refusal.{Refusal}
use Rattle.swi_dispatch_guest.specs.Refusal.TheVariants as refusal
use Rattle.swi_dispatch_guest.specs.SwiDispatchFlexCalls.{FlexMemory}
use Rattle.swi_dispatch_guest.specs.Entering.{swi_entered}
use Rattle.swi_dispatch_guest.specs.Openings.{opening_asked}
use Rattle.swi_dispatch_guest.specs.Opening.{Opening}
use Rattle.swi_dispatch_guest.proofs.ModuleCode.{first_slot}
use Rattle.swi_dispatch_guest.proofs.Kept.{short_name}
use Rattle.swi_dispatch_guest.proofs.NextTurn.{unhalted_step, outside_call}
use Rattle.swi_dispatch_guest.specs.Answers.{Answer, refusal_answer, went_on}
use Rattle.swi_dispatch_guest.specs.Calls.{call_answer, generated_refusal, on_area_store, on_flex, on_store, on_module_state, wrote_text_after, wrote_text_at}
use Rattle.swi_dispatch_guest.specs.MachineState.{MachineState, StepOutcome, silent, setting_of}
use Rattle.swi_dispatch_guest.specs.ModuleStart.{opened_at}
use Rattle.swi_dispatch_guest.specs.Returns.{gone_back}
use Rattle.swi_dispatch_guest.specs.declared.halt.Halt.{Halt}
use Rattle.swi_dispatch_guest.specs.declared.halt.Halt.TheVariants as halt
use Rattle.swi_dispatch_guest.specs.Step.{call_of, call_refused, outcome_of_call, called_by, outcome_of_answer, outcome_of_end, handler_entered, result_of_instruction, machine_step, outcome_of_module_swi, module_entered, os_module_called, os_module_called_for, outcome_of_turn, without_x}
use Rattle.law_machine.proofs.HaltsLemmas.Halting.{called_exits, exit_cases}
use Rattle.law_machine.specs.halts.Refusals.{GoingOnIsDone, IsRefusal, RefusalsChangeNothing, RefusedStepsChangeNothing, RefusedStoreCallsChangeNothing, may_err_late, may_run_code}

-- an error's block
error_beside : (b : Bytes) (e : ErrorNumber) (a : ℕ) → in_range error_block_start 0x100 a ≡ false
    → (memory_with_error b (error_code e) (error_name e)).at a ≡ b.at a
error_beside b e a out =
    let clear : (a < error_block_start) ⊎ (error_block_start + 0x100 ≤ a) = elim (in_range-cases error_block_start 0x100 a) [
      | inl r ↦ absurd (both_ways (in_range error_block_start 0x100 a) out r.0)
      | inr r ↦ r.1
    ] in
    bytes_beside (with_word_at b.at error_block_start (error_code e)) 0x01C02104 (error_name e ++ 0 ∷ []) a
    (elim clear [ inl low ↦ inl (omega (arith, low)) | inr high ↦ inr (omega (arith, high, short_name e)) ])
    ∙ word_beside b.at error_block_start (error_code e) a (elim clear [ inl low ↦ inl low | inr high ↦ inr (omega (arith, high)) ])

register_back : (caller : Psr) (cpu : State) (next k : ℕ) → (k ≡ 25 → ⊥)
    → slice_index (state_after_return caller cpu true next).file k ≡ slice_index cpu.file k
unfolding state_after_return
register_back caller cpu next k other = get_or-set_other cpu.file 25 k (return_word caller next) 0 (λ same. other (omega (arith, same)))

register_shown : (cpu : State) (v k : ℕ) → (k ≡ 0 → ⊥) → slice_index (with_register cpu 0 v).file k ≡ slice_index cpu.file k
register_shown cpu v k other =
    let at : slot_of cpu.psr.mode 0 ≡ 0 = first_slot cpu.psr.mode in
    get_or-set_other cpu.file (slot_of cpu.psr.mode 0) k v 0 (λ same. other (omega (arith, same, at)))

shown_length : (cpu : State) (v : ℕ) → length cpu.file ≡ 26 → length (with_register cpu 0 v).file ≡ 26
shown_length cpu v size = length-set cpu.file (slot_of cpu.psr.mode 0) v ∙ size

-- the return address, which the guest goes on at
link_shown : (caller : Psr) (cpu : State) (next : ℕ) → length cpu.file ≡ 26
    → register_in Supervisor (state_after_return caller cpu true next) 14 ≡ return_word caller next
unfolding state_after_return
link_shown caller cpu next size = get_or-set_same cpu.file 25 (return_word caller next) 0 (omega (arith, size))

counter_shown : (next : ℕ) → next % 4 ≡ 0 → next < 2 ^ 26 → next / 4 % 2 ^ 24 * 4 ≡ next
counter_shown next whole low = omega (arith, whole, low)

-- a refusal with the X bit
pub refused_as : (s : MachineState) (next : ℕ) (e : Refusal) → IsRefusal s next (outcome_of_answer s true (refusal_answer s next e)).now
unfolding state_after_return
refused_as s next (refusal.System e) = record {
  bytes = error_beside s.store.bytes e;
  mapped = refl;
  heaps = refl;
  others = refl;
  anchor = refl;
  header = refl;
  pool = refl;
  tables = refl;
  halt = refl;
  registers = λ k other last.
      register_back s.cpu.psr (with_register s.cpu 0 error_block_start) next k last ∙ register_shown s.cpu error_block_start k other;
  status = refl;
  link = λ size. link_shown s.cpu.psr (with_register s.cpu 0 error_block_start) next (shown_length s.cpu error_block_start size);
  counter = λ whole low. counter_shown next whole low;
}
refused_as s next refusal.Own = record {
  bytes = λ a out. refl;
  mapped = refl;
  heaps = refl;
  others = refl;
  anchor = refl;
  header = refl;
  pool = refl;
  tables = refl;
  halt = refl;
  registers = λ k other last. register_back s.cpu.psr s.cpu next k last;
  status = refl;
  link = λ size. link_shown s.cpu.psr s.cpu next size;
  counter = λ whole low. counter_shown next whole low;
}

-- an answer without an error, or a refusal that changes nothing
abbrev IsClean : MachineState → ℕ → Answer → Type 0
IsClean s next a = (a.error ≡ None) ⊎ ((e : Refusal) × (a ≡ refusal_answer s next e))

-- what a call says of a refusal, by the X bit
abbrev ShowsRefusal : Bool → MachineState → ℕ → StepOutcome → Type 0
ShowsRefusal true s next o = o.now.cpu.psr.overflow ≡ true → IsRefusal s next o.now
ShowsRefusal false s next o = o.now.halt ≡ None → o.now.cpu.psr.overflow ≡ false

halted_goes : (h : Halt) → Some h ≡ None → ⊥
halted_goes h is = cc

clear_shows : (x : Bool) (s : MachineState) (next : ℕ) (o : StepOutcome) → o.now.cpu.psr.overflow ≡ false → ShowsRefusal x s next o
clear_shows true s next o clear = λ set. absurd (false≢true (sym clear ∙ set))
clear_shows false s next o clear = λ goes. clear

refused_shows : (x : Bool) (s : MachineState) (next : ℕ) (e : Refusal) → ShowsRefusal x s next (outcome_of_answer s x (refusal_answer s next e))
refused_shows true s next e = λ set. refused_as s next e
refused_shows false s next e = λ goes. absurd (halted_goes _ goes)

ended_shows : (x : Bool) (s : MachineState) (next : ℕ) (a : Answer) → IsClean s next a → ShowsRefusal x s next (outcome_of_answer s x a)
unfolding state_after_return
ended_shows x s next a (inl none) =
    clear_shows x s next (outcome_of_answer s x a) (ap (λ (e : Option Refusal). (outcome_of_end s x a e).now.cpu.psr.overflow) none)
ended_shows x s next a (inr is) =
    subst (λ (b : Answer). ShowsRefusal x s next (outcome_of_answer s x b)) (sym is.1) (refused_shows x s next is.0)

call_shows : (x : Bool) (s : MachineState) (next : ℕ) (e : ErrorNumber) → ShowsRefusal x s next (call_refused s x next e)
call_shows x s next e = refused_shows x s next (refusal.System e)

-- calls that run no module code
store_clean : (s : MachineState) (next : ℕ) (r : Result (State × Store) Refusal) → IsClean s next (went_on s next (on_store s r))
store_clean s next (Ok q) = inl refl
store_clean s next (Err e) = inr (e, refl)

area_store_clean : (s : MachineState) (next : ℕ) (r : Result (State × AreaStore) Refusal) → IsClean s next (went_on s next (on_area_store s r))
area_store_clean s next (Ok q) = inl refl
area_store_clean s next (Err e) = inr (e, refl)

module_state_clean : (s : MachineState) (next : ℕ) (r : Result (State × ModuleState) Refusal) → IsClean s next (went_on s next (on_module_state s r))
module_state_clean s next (Ok q) = inl refl
module_state_clean s next (Err e) = inr (e, refl)

flex_clean : (s : MachineState) (next : ℕ) (r : Result (State × FlexMemory) Refusal) → IsClean s next (went_on s next (on_flex s r))
flex_clean s next (Ok q) = inl refl
flex_clean s next (Err e) = inr (e, refl)

after_clean : (s : MachineState) (next : ℕ) (o : Option (List ℕ)) → IsClean s next (wrote_text_after s next o)
after_clean s next None = inr (refusal.System BadString, refl)
after_clean s next (Some text) = inl refl

at_clean : (s : MachineState) (next at : ℕ) (o : Option (List ℕ)) → IsClean s next (wrote_text_at s next at o)
at_clean s next at None = inr (refusal.System BadString, refl)
at_clean s next at (Some text) = inl refl

answer_clean : (s : MachineState) (next number : ℕ) (name : Option SwiName) → (name ≡ Some swi.ChangeDynamicArea → ⊥)
    → IsClean s next (call_answer s next number name)
unfolding call_answer
answer_clean s next number None other = flex_clean s next _
answer_clean s next number (Some swi.WriteC) other = inl refl
answer_clean s next number (Some swi.WriteS) other = after_clean s next _
answer_clean s next number (Some swi.Write0) other = at_clean s next (register_of s.cpu 0) _
answer_clean s next number (Some swi.NewLine) other = inl refl
answer_clean s next number (Some swi.Exit) other = flex_clean s next _
answer_clean s next number (Some swi.EnterOs) other = inl refl
answer_clean s next number (Some swi.Heap) other = store_clean s next _
answer_clean s next number (Some swi.Module) other = module_state_clean s next _
answer_clean s next number (Some swi.ChangeDynamicArea) other = absurd (other refl)
answer_clean s next number (Some swi.GenerateError) other = inr (generated_refusal s (register_of s.cpu 0), refl)
answer_clean s next number (Some swi.ReadDynamicArea) other = area_store_clean s next _
answer_clean s next number (Some swi.DynamicArea) other = area_store_clean s next _
answer_clean s next number (Some swi.WriteI) other = inl refl
answer_clean s next number (Some swi.FlexInit) other = flex_clean s next _
answer_clean s next number (Some swi.FlexAlloc) other = flex_clean s next _
answer_clean s next number (Some swi.FlexFree) other = flex_clean s next _
answer_clean s next number (Some swi.FlexSize) other = flex_clean s next _
answer_clean s next number (Some swi.FlexExtend) other = flex_clean s next _
answer_clean s next number (Some swi.FlexMidExtend) other = flex_clean s next _

-- module code that is entered has V clear
opened_clear : (s : MachineState) (text : List ℕ) (slot : ℕ) (o : Option ℕ) → s.cpu.psr.overflow ≡ false
    → (opened_at s text slot o).cpu.psr.overflow ≡ false
opened_clear s text slot None clear = clear
opened_clear s text slot (Some at) clear = refl

back_clear : (s : MachineState) (next : ℕ) → (gone_back s.cpu.psr s false next).cpu.psr.overflow ≡ false
unfolding state_after_return
back_clear s next = refl

entered_shows : (x : Bool) (s : MachineState) (next : ℕ) (r : Result Opening ErrorNumber) → ShowsRefusal x s next (module_entered s x next r)
entered_shows x s next (Err e) = call_shows x s next e
entered_shows x s next (Ok o) =
    clear_shows x s next (module_entered s x next (Ok o))
    (opened_clear (gone_back s.cpu.psr s false next) o.text.items o.start.slot o.start.at (back_clear s next))

handler_clear : (cpu : State) (at number slot : ℕ) → (swi_entered cpu at number slot).psr.overflow ≡ false
unfolding swi_entered
handler_clear cpu at number slot = refl

handler_shows : (x : Bool) (s : MachineState) (next number : ℕ) (o : Option Handler) → ShowsRefusal x s next (outcome_of_module_swi s x next number o)
handler_shows x s next number None = call_shows x s next SwiUnknown
handler_shows x s next number (Some h) = elim (cases_Bool (length s.tables.frames == 32)) [
  | inl full ↦ rw full (call_shows x s next FrameLimit)
  | inr room ↦ rw room (clear_shows x s next (silent (handler_entered s (call_of s x next false) number h)) (handler_clear s.cpu h.at number h.slot))
]

plain_shows : (x : Bool) (s : MachineState) (next number : ℕ) (o : Option SwiName) → (o ≡ Some swi.ChangeDynamicArea → ⊥)
    → ShowsRefusal x s next (outcome_of_answer s x (call_answer s next number o))
plain_shows x s next number o other = ended_shows x s next (call_answer s next number o) (answer_clean s next number o other)

module_shows : (images : List Entry) (x : Bool) (s : MachineState) (next number : ℕ) (o : Option ModuleReason) → may_run_code o ≡ false
    → ShowsRefusal x s next (os_module_called_for images s x next number o)
module_shows images x s next number None may = plain_shows x s next number (Some swi.Module) (λ same. cc)
module_shows images x s next number (Some reason.Run) may = absurd (true≢false may)
module_shows images x s next number (Some reason.Load) may = absurd (true≢false may)
module_shows images x s next number (Some reason.Enter) may = entered_shows x s next (opening_asked (setting_of s))
module_shows images x s next number (Some reason.Reinit) may = absurd (true≢false may)
module_shows images x s next number (Some reason.Delete) may = absurd (true≢false may)
module_shows images x s next number (Some reason.DescribeArea) may = plain_shows x s next number (Some swi.Module) (λ same. cc)
module_shows images x s next number (Some reason.Claim) may = plain_shows x s next number (Some swi.Module) (λ same. cc)
module_shows images x s next number (Some reason.Free) may = plain_shows x s next number (Some swi.Module) (λ same. cc)
module_shows images x s next number (Some reason.Tidy) may = absurd (true≢false may)
module_shows images x s next number (Some reason.Clear) may = absurd (true≢false may)
module_shows images x s next number (Some reason.Insert) may = absurd (true≢false may)
module_shows images x s next number (Some reason.InsertCopy) may = absurd (true≢false may)
module_shows images x s next number (Some reason.Info) may = plain_shows x s next number (Some swi.Module) (λ same. cc)
module_shows images x s next number (Some reason.Extend) may = plain_shows x s next number (Some swi.Module) (λ same. cc)
module_shows images x s next number (Some reason.Instantiate) may = absurd (true≢false may)
module_shows images x s next number (Some reason.Rename) may = plain_shows x s next number (Some swi.Module) (λ same. cc)
module_shows images x s next number (Some reason.Prefer) may = plain_shows x s next number (Some swi.Module) (λ same. cc)
module_shows images x s next number (Some reason.Lookup) may = plain_shows x s next number (Some swi.Module) (λ same. cc)

named_shows : (images : List Entry) (x : Bool) (s : MachineState) (next number : ℕ) (o : Option SwiName)
    → may_err_late o (module_reason (register_of s.cpu 0)) ≡ false → (o ≡ Some swi.Exit → ⊥)
    → ShowsRefusal x s next (called_by images s x next number o)
unfolding os_module_called
named_shows images x s next number None late other = handler_shows x s next number (handler_of number s.tables.modules)
named_shows images x s next number (Some swi.Exit) late other = absurd (other refl)
named_shows images x s next number (Some swi.Module) late other = module_shows images x s next number (module_reason (register_of s.cpu 0)) late
named_shows images x s next number (Some swi.ChangeDynamicArea) late other = absurd (true≢false late)
named_shows images x s next number (Some swi.WriteC) late other = plain_shows x s next number (Some swi.WriteC) (λ same. cc)
named_shows images x s next number (Some swi.WriteS) late other = plain_shows x s next number (Some swi.WriteS) (λ same. cc)
named_shows images x s next number (Some swi.Write0) late other = plain_shows x s next number (Some swi.Write0) (λ same. cc)
named_shows images x s next number (Some swi.NewLine) late other = plain_shows x s next number (Some swi.NewLine) (λ same. cc)
named_shows images x s next number (Some swi.EnterOs) late other = plain_shows x s next number (Some swi.EnterOs) (λ same. cc)
named_shows images x s next number (Some swi.Heap) late other = plain_shows x s next number (Some swi.Heap) (λ same. cc)
named_shows images x s next number (Some swi.GenerateError) late other = plain_shows x s next number (Some swi.GenerateError) (λ same. cc)
named_shows images x s next number (Some swi.ReadDynamicArea) late other = plain_shows x s next number (Some swi.ReadDynamicArea) (λ same. cc)
named_shows images x s next number (Some swi.DynamicArea) late other = plain_shows x s next number (Some swi.DynamicArea) (λ same. cc)
named_shows images x s next number (Some swi.WriteI) late other = plain_shows x s next number (Some swi.WriteI) (λ same. cc)
named_shows images x s next number (Some swi.FlexInit) late other = plain_shows x s next number (Some swi.FlexInit) (λ same. cc)
named_shows images x s next number (Some swi.FlexAlloc) late other = plain_shows x s next number (Some swi.FlexAlloc) (λ same. cc)
named_shows images x s next number (Some swi.FlexFree) late other = plain_shows x s next number (Some swi.FlexFree) (λ same. cc)
named_shows images x s next number (Some swi.FlexSize) late other = plain_shows x s next number (Some swi.FlexSize) (λ same. cc)
named_shows images x s next number (Some swi.FlexExtend) late other = plain_shows x s next number (Some swi.FlexExtend) (λ same. cc)
named_shows images x s next number (Some swi.FlexMidExtend) late other = plain_shows x s next number (Some swi.FlexMidExtend) (λ same. cc)

pub refusals_change_nothing : RefusalsChangeNothing
unfolding outcome_of_call
refusals_change_nothing images s next number late other set = elim (exit_cases (swi_of number)) [
  | inl is ↦ absurd (other is.0)
  | inr is ↦ rw is.1 (named_shows images true s next number (swi_of number) late other (rw is.1 at set))
]

pub going_on_is_done : GoingOnIsDone
unfolding outcome_of_call
going_on_is_done images s next number late goes = elim (exit_cases (swi_of number)) [
  | inl is ↦ absurd (halted_goes halt.Exit (rw is.1 at goes))
  | inr is ↦ rw is.1 (named_shows images false s next number (swi_of number) late is.0 (rw is.1 at goes))
]

-- a call that goes on with V set, with X or without
exits_not : (images : List Entry) (s : MachineState) (x : Bool) (next number : ℕ) → (outcome_of_call images s x next number).now.halt ≡ None
    → swi_of number ≡ Some swi.Exit → ⊥
exits_not images s x next number goes name =
    halted_goes halt.Exit (sym (ap (λ (o : StepOutcome). o.now.halt) (called_exits images s x next number name)) ∙ goes)

set_refusal : (images : List Entry) (x : Bool) (s : MachineState) (next number : ℕ)
    → may_err_late (swi_of number) (module_reason (register_of s.cpu 0)) ≡ false
    → (outcome_of_call images s x next number).now.halt ≡ None → (outcome_of_call images s x next number).now.cpu.psr.overflow ≡ true
    → IsRefusal s next (outcome_of_call images s x next number).now
set_refusal images true s next number late goes set =
    refusals_change_nothing images s next number late (exits_not images s true next number goes) set
set_refusal images false s next number late goes set =
    absurd (false≢true (sym (going_on_is_done images s next number late goes) ∙ set))

-- so for a step, and for a call from outside
step_calls : (images : List Entry) (s : MachineState) (n : ℕ) → s.halt ≡ None → result_of_instruction s ≡ Err (turn.Swi n)
    → machine_step images s ≡ outcome_of_call images s (bit_of n 17) ((s.cpu.pc + 4) % 2 ^ 26) (without_x n)
step_calls images s n unhalted is =
    unhalted_step images s unhalted ∙ ap (λ (r : Result (State × Bytes) StepEnd). outcome_of_turn images s r) is

pub refused_steps_change_nothing : RefusedStepsChangeNothing
refused_steps_change_nothing images s n unhalted is late goes set =
    let call = step_calls images s n unhalted is in
    subst (λ (o : StepOutcome). IsRefusal s ((s.cpu.pc + 4) % 2 ^ 26) o.now) (sym call)
    (set_refusal images (bit_of n 17) s ((s.cpu.pc + 4) % 2 ^ 26) (without_x n) late
    (sym (ap (λ (o : StepOutcome). o.now.halt) call) ∙ goes) (sym (ap (λ (o : StepOutcome). o.now.cpu.psr.overflow) call) ∙ set))

pub refused_store_calls_change_nothing : RefusedStoreCallsChangeNothing
refused_store_calls_change_nothing images s number unhalted late goes set =
    let call = outside_call images s number unhalted in
    subst (λ (o : StepOutcome). IsRefusal s s.cpu.pc o.now) (sym call)
    (set_refusal images true s s.cpu.pc (without_x (number % 2 ^ 24)) late
    (sym (ap (λ (o : StepOutcome). o.now.halt) call) ∙ goes) (sym (ap (λ (o : StepOutcome). o.now.cpu.psr.overflow) call) ∙ set))
