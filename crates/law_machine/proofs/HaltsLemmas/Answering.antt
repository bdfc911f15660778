-- Calls that run no module code never halt the machine.
use Rattle.std.proofs.Common.{ℕ, ◌≡◌, List, Option, Some, None, Result, Ok, Err, refl}
use Rattle.profile.specs.declared.swi.SwiName.{SwiName}
use Rattle.profile.specs.declared.swi.SwiName.TheVariants as swi
use Rattle.arm_core.specs.State.{State, register_of}
use Rattle.os_heap.specs.Store.{Store}
use Rattle.dynamic_areas.specs.Ground.{AreaStore}
use Rattle.instances.specs.module_state.ModuleState.{ModuleState}
use Rattle.swi_dispatch_guest.specs.Refusal.{Refusal}
use Rattle.swi_dispatch_guest.specs.SwiDispatchFlexCalls.{FlexMemory}
use Rattle.swi_dispatch_guest.specs.Answers.{went_on}
use Rattle.swi_dispatch_guest.specs.Calls.{call_answer, on_area_store, on_flex, on_store, on_module_state, wrote_text_after, wrote_text_at}
use Rattle.swi_dispatch_guest.specs.MachineState.{MachineState, StepOutcome}

abbrev pub IsLeft : MachineState → StepOutcome → Type 0
IsLeft s o = o.now.halt ≡ s.halt

store_left : (s : MachineState) (next : ℕ) (r : Result (State × Store) Refusal) → IsLeft s (went_on s next (on_store s r)).left
store_left s next (Ok q) = refl
store_left s next (Err e) = refl

area_store_left : (s : MachineState) (next : ℕ) (r : Result (State × AreaStore) Refusal) → IsLeft s (went_on s next (on_area_store s r)).left
area_store_left s next (Ok q) = refl
area_store_left s next (Err e) = refl

module_state_left : (s : MachineState) (next : ℕ) (r : Result (State × ModuleState) Refusal) → IsLeft s (went_on s next (on_module_state s r)).left
module_state_left s next (Ok q) = refl
module_state_left s next (Err e) = refl

flex_left : (s : MachineState) (next : ℕ) (r : Result (State × FlexMemory) Refusal) → IsLeft s (went_on s next (on_flex s r)).left
flex_left s next (Ok q) = refl
flex_left s next (Err e) = refl

after_left : (s : MachineState) (next : ℕ) (o : Option (List ℕ)) → IsLeft s (wrote_text_after s next o).left
after_left s next None = refl
after_left s next (Some text) = refl

at_left : (s : MachineState) (next at : ℕ) (o : Option (List ℕ)) → IsLeft s (wrote_text_at s next at o).left
at_left s next at None = refl
at_left s next at (Some text) = refl

pub answer_left : (s : MachineState) (next number : ℕ) (name : Option SwiName) → IsLeft s (call_answer s next number name).left
unfolding call_answer
answer_left s next number None = flex_left s next _
answer_left s next number (Some swi.WriteC) = refl
answer_left s next number (Some swi.WriteS) = after_left s next _
answer_left s next number (Some swi.Write0) = at_left s next (register_of s.cpu 0) _
answer_left s next number (Some swi.NewLine) = refl
answer_left s next number (Some swi.Exit) = flex_left s next _
answer_left s next number (Some swi.EnterOs) = refl
answer_left s next number (Some swi.Heap) = store_left s next _
answer_left s next number (Some swi.Module) = module_state_left s next _
answer_left s next number (Some swi.ChangeDynamicArea) = refl
answer_left s next number (Some swi.GenerateError) = refl
answer_left s next number (Some swi.ReadDynamicArea) = area_store_left s next _
answer_left s next number (Some swi.DynamicArea) = area_store_left s next _
answer_left s next number (Some swi.WriteI) = refl
answer_left s next number (Some swi.FlexInit) = flex_left s next _
answer_left s next number (Some swi.FlexAlloc) = flex_left s next _
answer_left s next number (Some swi.FlexFree) = flex_left s next _
answer_left s next number (Some swi.FlexSize) = flex_left s next _
answer_left s next number (Some swi.FlexExtend) = flex_left s next _
answer_left s next number (Some swi.FlexMidExtend) = flex_left s next _
