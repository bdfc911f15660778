-- The families of store calls: what each leaves of the machine is what the written call answers.
use Rattle.std.proofs.Common.{◌≡◌, ℕ, List, [], Option, Some, Result, refl}
use Rattle.profile.specs.Outcome.{Leaves}
use Rattle.profile.specs.declared.swi.SwiName.{SwiName}
use Rattle.profile.specs.declared.swi.SwiName.TheVariants as swi
use Rattle.swi_dispatch_plans.specs.Refusal.{Refusal}
use Rattle.swi_dispatch_plans.specs.store.Areas.{area_called, area_read}
use Rattle.swi_dispatch_plans.specs.store.Heaps.{heap_called}
use Rattle.swi_dispatch_plans.specs.modules.Calls.{result_of_module_call}
use Rattle.swi_dispatch_guest.specs.Calls.{call_answer, on_area_store, on_module_state, on_store}
use Rattle.swi_dispatch_guest.specs.MachineState.{MachineState, machine_area_store, machine_module_state, outcome_with}
use Rattle.swi_dispatch_guest.specs.GuestState.{Answers}
use Rattle.swi_dispatch_guest.proofs.Answering.{went_answers}

pub heap_answers : (s t : MachineState) (next number : ℕ) (name : Option SwiName) (x : Result (Unit {0}) Refusal) (printed : List ℕ)
    → name ≡ Some swi.Heap → printed ≡ [] → Leaves {U = Unit {0}} s (on_store s (heap_called s.cpu s.store)) x t
    → Answers (call_answer s next number name) next x (outcome_with t printed)
unfolding call_answer
heap_answers s t next number name x printed is unprinted left = rw is (went_answers s t next _ _ x printed refl unprinted left)

pub read_answers : (s t : MachineState) (next number : ℕ) (name : Option SwiName) (x : Result (Unit {0}) Refusal) (printed : List ℕ)
    → name ≡ Some swi.ReadDynamicArea → printed ≡ [] → Leaves {U = Unit {0}} s (on_area_store s (area_read s.cpu (machine_area_store s))) x t
    → Answers (call_answer s next number name) next x (outcome_with t printed)
unfolding call_answer
read_answers s t next number name x printed is unprinted left = rw is (went_answers s t next _ _ x printed refl unprinted left)

pub area_answers : (s t : MachineState) (next number : ℕ) (name : Option SwiName) (x : Result (Unit {0}) Refusal) (printed : List ℕ)
    → name ≡ Some swi.DynamicArea → printed ≡ [] → Leaves {U = Unit {0}} s (on_area_store s (area_called s.cpu (machine_area_store s))) x t
    → Answers (call_answer s next number name) next x (outcome_with t printed)
unfolding call_answer
area_answers s t next number name x printed is unprinted left = rw is (went_answers s t next _ _ x printed refl unprinted left)

pub module_answers : (s t : MachineState) (next number : ℕ) (name : Option SwiName) (x : Result (Unit {0}) Refusal) (printed : List ℕ)
    → name ≡ Some swi.Module → printed ≡ [] → Leaves {U = Unit {0}} s (on_module_state s (result_of_module_call s.cpu (machine_module_state s))) x t
    → Answers (call_answer s next number name) next x (outcome_with t printed)
unfolding call_answer
module_answers s t next number name x printed is unprinted left = rw is (went_answers s t next _ _ x printed refl unprinted left)
