-- The steps and the calls of a machine, by what they call.
use Rattle.std.proofs.Common.{ℕ, true, ◌+◌, ◌%◌, ◌^◌, ◌≡◌, ◌∙◌, List, Option, Some, None, Result, Err, refl, ap}
use Rattle.std.specs.Prelude.{IfSome, ◌≤◌, length}
use Rattle.profile.specs.Word.{bit_of}
use Rattle.address_map.specs.Bytes.{Bytes}
use Rattle.arm_core.specs.State.{State}
use Rattle.arm_core.specs.declared.turn.StepEnd.{StepEnd}
use Rattle.arm_core.specs.declared.turn.StepEnd.TheVariants as turn
use Rattle.profile.specs.images.Entries.{Entry}
use Rattle.instances_table.specs.plans.Plans.{Plan}
use Rattle.instances.specs.Turns.{MayGoOn}
use Rattle.swi_dispatch_guest.specs.declared.halt.Halt.{Halt}
use Rattle.swi_dispatch_guest.specs.MachineState.{MachineState, StepOutcome}
use Rattle.swi_dispatch_guest.specs.GuestState.{GuestState, parts_module_state, state_of}
use Rattle.swi_dispatch_guest.specs.Step.{outcome_of_call, result_of_instruction, machine_step, store_called, turn_end, outcome_of_turn, unless_halted, without_x}
use Rattle.law_machine.proofs.SlidingLemmas.Flex.{flex_made}
use Rattle.law_machine.proofs.SlidingLemmas.States.{states_have}
use Rattle.law_machine.proofs.SlidingLemmas.Steps.{IsAtGate, begins, goes}
use Rattle.law_machine.specs.sliding.Laws.{CallsAreTurns, StepsAreTurns, StoreCallsAreTurns, TidiesGoOn}
use Rattle.law_machine.specs.sliding.Turns.{IsTidyKept}

pub calls_are : CallsAreTurns
calls_are images p q x next number is new after = record {
  flex = λ f name. flex_made images f (state_of p) (state_of q) x next number is.core (states_have p is) (states_have q new) name after;
  tidy = λ plan name reason planned.
      begins images (state_of p) (state_of q) x next number plan (states_have p is) (states_have q new) name reason planned after;
}

-- the step of a machine that isn't halted, by the turn of its core
step_is : (images : List Entry) (s : MachineState) (t : StepEnd) → s.halt ≡ None → result_of_instruction s ≡ Err t → machine_step images s ≡ turn_end images s t
unfolding machine_step
step_is images s t unhalted is =
    ap (λ (o : Option Halt). unless_halted s o (outcome_of_turn images s (result_of_instruction s))) unhalted
    ∙ ap (λ (r : Result (State × Bytes) StepEnd). outcome_of_turn images s r) is

pub steps_are : StepsAreTurns
steps_are images p q n is new unhalted swi after =
    calls_are images p q (bit_of n 17) ((p.cpu.pc + 4) % 2 ^ 26) (without_x n) is new
    (after ∙ ap (λ (o : StepOutcome). o.now) (step_is images (state_of p) (turn.Swi n) unhalted swi))

pub store_calls_are : StoreCallsAreTurns
unfolding store_called
store_calls_are images p q number is new unhalted after =
    calls_are images p q true p.cpu.pc (without_x (number % 2 ^ 24)) is new
    (after ∙ ap (λ (o : Option Halt). (unless_halted (state_of p) o (outcome_of_call images (state_of p) true p.cpu.pc (without_x (number % 2 ^ 24)))).now) unhalted)

at_gate : (return_address : ℕ) (p : GuestState) (kept : Option Plan) → p.tables.plan ≡ kept → MayGoOn (parts_module_state p) kept
    → IfSome kept (λ (plan : Plan). length plan.given.text.items ≤ 255) → IsTidyKept return_address kept
    → (q : Plan) × IsAtGate return_address (state_of p) q
at_gate return_address p None is going text tidy = absurd tidy
at_gate return_address p (Some q) is going text tidy =
    (q, record { kept = is; tidy = tidy; text = text; runs = going.0; calls = going.1.code going.0 })

pub tidies_go : TidiesGoOn
tidies_go images p q return_address is new unhalted gate tidy after =
    let at = at_gate return_address p p.tables.plan refl is.well_formed.modules is.text tidy in
    goes return_address (state_of p) (state_of q) at.0 at.1 (states_have p is) (states_have q new)
    (after ∙ ap (λ (o : StepOutcome). o.now) (step_is images (state_of p) turn.Gate unhalted gate))
