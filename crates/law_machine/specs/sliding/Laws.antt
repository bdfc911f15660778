-- Flex calls and tidies of a machine are turns of its stores, whose meaning moves by the rules of
-- these.
use Rattle.std.specs.Prelude.{ℕ, ◌≡◌, ◌+◌, ◌%◌, ◌^◌, Bool, true, Some, None, is_some, Ok, Err, List}
use Rattle.profile.specs.declared.swi.SwiName.TheVariants as swi
use Rattle.profile.specs.declared.reason.ModuleReason.TheVariants as reason
use Rattle.profile.specs.Reasons.{module_reason}
use Rattle.profile.specs.SwiNames.{swi_of}
use Rattle.arm_core.specs.State.{register_of}
use Rattle.arm_core.specs.declared.turn.StepEnd.TheVariants as turn
use Rattle.profile.specs.images.Entries.{Entry}
use Rattle.instances_table.specs.declared.plans.code.Outcome.TheVariants.{Well, Refused}
use Rattle.instances_table.specs.plans.Plans.{Plan}
use Rattle.swi_dispatch_guest.specs.ModulePlans.{tidy_planned}
use Rattle.swi_dispatch_guest.specs.Gates.{outcome_left}
use Rattle.swi_dispatch_guest.specs.MachineState.{MachineState, setting_of}
use Rattle.swi_dispatch_guest.specs.GuestState.{IsGuest, GuestState, state_of}
use Rattle.swi_dispatch_guest.specs.Step.{outcome_of_call, result_of_instruction, machine_step, module_loaded, store_called, without_x}
use Rattle.law_machine.specs.sliding.MachineStores.{stores_of}
use Rattle.law_machine.specs.sliding.Turns.{StoresAreStill, FlexSwi, IsTidied, IsTidyKept, IsTurnMade, flex_name, flex_turn}

-- A call by its number, after which the guest goes on at `next`: a flex call is its turn, and a
-- tidy that isn't refused begins, and slides at once where no instance has a finalisation.
pub record IsMachineTurn (next number : ℕ) (s t : MachineState) : Type 0 where
  pub flex : (f : FlexSwi) → swi_of number ≡ Some (flex_name f) → IsTurnMade (flex_turn f s.cpu) s t
  pub tidy : (p : Plan) → swi_of number ≡ Some swi.Module →
      module_reason (register_of s.cpu 0) ≡ Some reason.Tidy
      → tidy_planned (setting_of s) next ≡ Ok p → IsTidied next s t

abbrev pub CallsAreTurns : Type 0
CallsAreTurns =
    (images : List Entry) (p q : GuestState) (x : Bool) (next number : ℕ) → IsGuest p → IsGuest q
    → state_of q ≡ (outcome_of_call images (state_of p) x next number).now →
    IsMachineTurn next number (state_of p) (state_of q)

-- So are the steps of a machine whose instruction is such a call.
abbrev pub StepsAreTurns : Type 0
StepsAreTurns =
    (images : List Entry) (p q : GuestState) (n : ℕ) → IsGuest p → IsGuest q
    → p.halt ≡ None → result_of_instruction (state_of p) ≡ Err (turn.Swi n)
    → state_of q ≡ (machine_step images (state_of p)).now
    → IsMachineTurn ((p.cpu.pc + 4) % 2 ^ 26) (without_x n) (state_of p) (state_of q)

-- And the calls that a user makes from outside.
abbrev pub StoreCallsAreTurns : Type 0
StoreCallsAreTurns =
    (images : List Entry) (p q : GuestState) (number : ℕ) → IsGuest p → IsGuest q → p.halt ≡ None
    → state_of q ≡ (store_called images (state_of p) number).now
    → IsMachineTurn p.cpu.pc (without_x (number % 2 ^ 24)) (state_of p) (state_of q)

-- Where module code comes back while a tidy is under way that has not slid, the step is one of a
-- tidy, unless a finalisation refused: then nothing slides.
pub record TidyGoesOn (return_address : ℕ) (s t : MachineState) : Type 0 where
  pub well : outcome_left s.cpu ≡ Well → IsTidied return_address s t
  pub refused : (r0 : ℕ) → outcome_left s.cpu ≡ Refused r0 → StoresAreStill (stores_of s) (stores_of t)

abbrev pub TidiesGoOn : Type 0
TidiesGoOn =
    (images : List Entry) (p q : GuestState) (return_address : ℕ) → IsGuest p → IsGuest q
    → p.halt ≡ None → result_of_instruction (state_of p) ≡ Err turn.Gate
    → IsTidyKept return_address p.tables.plan
    → state_of q ≡ (machine_step images (state_of p)).now →
    TidyGoesOn return_address (state_of p) (state_of q)

-- While the plan of a call on modules is kept each step leaves it but one in which module code
-- comes back, and so does each call from outside: so a tidy whose module code makes flex calls is
-- the same tidy when that code comes back.
abbrev pub PlansStay : Type 0
PlansStay =
    (images : List Entry) (s : MachineState) → is_some s.tables.plan ≡ true →
    (result_of_instruction s ≡ Err turn.Gate → ⊥)
    → (machine_step images s).now.tables.plan ≡ s.tables.plan

abbrev pub PlansStayFromOutside : Type 0
PlansStayFromOutside =
    (images : List Entry) (s : MachineState) (number : ℕ) (text : List ℕ) → is_some s.tables.plan ≡ true
    → ((store_called images s number).now.tables.plan ≡ s.tables.plan)
    × ((module_loaded images s text).now.tables.plan ≡ s.tables.plan)
