-- The module that handles a SWI, and the frame in which it is entered.
use Rattle.std.proofs.Common.{ℕ, Bool, true, false, ◌≡◌, ◌≢◌, ◌<◌, ◌+◌, ◌-◌, ◌%◌, ◌^◌, ◌==◌, ◌∙◌, zero, suc, not, List, [], ◌∷◌, length, Option, Some, None, Err, refl, sym, ap, subst, inl, inr, arith, get_or-set_same}
use Rattle.std.specs.Prelude.{option_map, slice_get, slice_set}
use Rattle.std.specs.List.{position, position_or_len}
use Rattle.std.proofs.lemmas.Bool.{and_from, and_parts, cases_Bool, eq-eqb, eqb-true, lt-ltb, ne_eqb, not-true, not_from_false}
use Rattle.std.proofs.lemmas.List.{length-set}
use Rattle.profile.specs.Word.{bit_of}
use Rattle.profile.specs.declared.swi.SwiName.{SwiName}
use Rattle.arm_core.specs.declared.psr.Mode.TheVariants.{Supervisor}
use Rattle.arm_core.specs.declared.turn.StepEnd.TheVariants as turn
use Rattle.arm_core.specs.State.{State, register_in}
use Rattle.profile.specs.images.Entries.{Entry}
use Rattle.instances_table.specs.plans.Code.{private_of}
use Rattle.instances_table.specs.declared.parts.Handler.{Handler}
use Rattle.instances_table.specs.Lookup.{handled_at, handled_in, handler_of, has_call}
use Rattle.instances_table.specs.Modules.{Module}
use Rattle.swi_dispatch_guest.specs.FrameKind.TheVariants.{Swi}
use Rattle.swi_dispatch_guest.specs.Entering.{state_after_entry, swi_entered}
use Rattle.swi_dispatch_guest.specs.Frames.{frame_of}
use Rattle.swi_dispatch_guest.proofs.NextTurn.{unhalted_step}
use Rattle.swi_dispatch_guest.specs.MachineState.{MachineState, StepOutcome}
use Rattle.swi_dispatch_guest.specs.Step.{call_of, called_by, handler_entered, outcome_of_call, outcome_of_module_swi, outcome_of_turn, result_of_instruction, without_x}
use Rattle.law_machine.specs.module_swis.Swis.{HandlesSwi, IsModuleSwi, IsSwiEntered, SwiStepsEnterPreferred, SwisEnterPreferred}

-- a module has the number in its chunk, and a handler
calls : (number : ℕ) (m : Module) → m.header.chunk ≡ number - number % 64 → m.header.handler ≢ 0 → has_call number m ≡ true
calls number m chunk handler =
    and_from (m.header.chunk == number - number % 64) (not (m.header.handler == 0)) (eq-eqb m.header.chunk (number - number % 64) chunk)
    (not_from_false (m.header.handler == 0) (ne_eqb m.header.handler 0 handler))

calls_not : (number : ℕ) (m : Module) → (m.header.chunk ≡ number - number % 64 → m.header.handler ≡ 0) → has_call number m ≡ false
calls_not number m none = elim (cases_Bool (has_call number m)) [
  | inr lacks ↦ lacks
  | inl has ↦
      let parts = and_parts (m.header.chunk == number - number % 64) (not (m.header.handler == 0)) has in
      let chunk : m.header.chunk ≡ number - number % 64 = eqb-true m.header.chunk (number - number % 64) parts.0 in
      let some : (m.header.handler == 0) ≡ false = not-true (m.header.handler == 0) parts.1 in
      let zero_there : (m.header.handler == 0) ≡ true = eq-eqb m.header.handler 0 (none chunk) in
      absurd (cc)
]

-- it is found as the first
record IsFirst (number : ℕ) (ms : List Module) (place : ℕ) : Type 0 where
  at : position_or_len (has_call number) ms ≡ place
  within : place < length ms

first_there : (number : ℕ) (ms : List Module) (place : ℕ) (m : Module) → slice_get ms place ≡ Some m → has_call number m ≡ true
    → ((older : ℕ) (n : Module) → older < place → slice_get ms older ≡ Some n → has_call number n ≡ false) → IsFirst number ms place
first_there number [] place m there own before = absurd (let none : None ≡ Some m = there in cc)
first_there number (n ∷ ms) zero m there own before =
    let same : n ≡ m = cc in
    let here : has_call number n ≡ true = ap (has_call number) same ∙ own in
    record { at = rw here refl; within = omega arith }
first_there number (n ∷ ms) (suc place) m there own before =
    let away : has_call number n ≡ false = before 0 n (omega arith) refl in
    let rest : IsFirst number ms place = first_there number ms place m there own (λ older k less is. before (suc older) k (omega (arith, less)) is) in
    record { at = rw away (let e = rest.at in omega (arith, e)); within = omega (arith, rest.within) }

found_first : (number : ℕ) (ms : List Module) (place : ℕ) → IsFirst number ms place → position (has_call number) ms ≡ Some place
found_first number ms place first = rw first.at (rw (lt-ltb place (length ms) first.within) refl)

pub handled : (number : ℕ) (ms : List Module) (m : Module) → HandlesSwi ms number m → handler_of number ms ≡ Some (handled_in m)
handled number ms m handles =
    let first : IsFirst number ms handles.place =
    first_there number ms handles.place m handles.there (calls number m handles.chunk handles.handler)
    (λ older n less is. calls_not number n (λ chunk. handles.oldest older n less is chunk)) in
    ap (handled_at ms) (found_first number ms handles.place first) ∙ ap (option_map handled_in) handles.there

-- R12 of the code
word_shown : (cpu : State) (at number slot : ℕ) → length cpu.file ≡ 26 → register_in Supervisor (swi_entered cpu at number slot) 12 ≡ private_of slot
unfolding swi_entered
word_shown cpu at number slot size =
    let entered : State = state_after_entry cpu at in
    let one : length entered.file ≡ 26 = length-set cpu.file 25 _ ∙ size in
    let two : length (slice_set entered.file 11 (number % 64)) ≡ 26 = length-set entered.file 11 (number % 64) ∙ one in
    get_or-set_same (slice_set entered.file 11 (number % 64)) 12 (private_of slot) 0 (omega (arith, two))

-- the frame
module _ (images : List Entry) (s : MachineState) (x : Bool) (next number : ℕ) (m : Module) (is : IsModuleSwi s number m) where
  entered : IsSwiEntered s x next number m (handler_entered s (call_of s x next false) number (handled_in m))
  entered = record {
    frame = frame_of s.cpu (call_of s x next false) (Swi number) m.preferred;
    opened = refl;
    kind = refl;
    slot = refl;
    takes_errors = refl;
    caller = refl;
    goes_on = refl;
    word = word_shown s.cpu (handled_in m).at number m.preferred is.registers;
  }

  by_handler : IsSwiEntered s x next number m (outcome_of_module_swi s x next number (Some (handled_in m))).now
  by_handler = rw (ne_eqb (length s.tables.frames) 32 (λ (full : length s.tables.frames ≡ 32). omega (arith, full, is.room))) entered

  by_number : IsSwiEntered s x next number m (outcome_of_module_swi s x next number (handler_of number s.tables.modules)).now
  by_number =
      subst (λ (o : Option Handler). IsSwiEntered s x next number m (outcome_of_module_swi s x next number o).now)
      (sym (handled number s.tables.modules m is.handled)) by_handler

  by_name : (name : Option SwiName) → name ≡ None → IsSwiEntered s x next number m (called_by images s x next number name).now
  by_name None none = by_number
  by_name (Some name) none = absurd (cc)

  pub by_call : IsSwiEntered s x next number m (outcome_of_call images s x next number).now
  unfolding outcome_of_call
  by_call = rw is.unnamed by_number

pub swis_enter : SwisEnterPreferred
swis_enter images s x next number m is = by_call images s x next number m is

by_turn : (images : List Entry) (s : MachineState) (n : ℕ) (m : Module) → result_of_instruction s ≡ Err (turn.Swi n) → IsModuleSwi s (without_x n) m
    → IsSwiEntered s (bit_of n 17) ((s.cpu.pc + 4) % 2 ^ 26) (without_x n) m (outcome_of_turn images s (result_of_instruction s)).now
by_turn images s n m turned is = rw turned (by_call images s (bit_of n 17) ((s.cpu.pc + 4) % 2 ^ 26) (without_x n) m is)

pub swi_steps_enter : SwiStepsEnterPreferred
swi_steps_enter images s n m goes turned is =
    subst (λ (o : StepOutcome). IsSwiEntered s (bit_of n 17) ((s.cpu.pc + 4) % 2 ^ 26) (without_x n) m o.now) (sym (unhalted_step images s goes))
    (by_turn images s n m turned is)
