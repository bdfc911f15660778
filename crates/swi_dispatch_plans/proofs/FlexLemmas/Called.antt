-- The calls on a flex store that there is: what each keeps, and that it leaves what its definition
-- says.
use Rattle.std.proofs.Common.{◌≡◌, Bool, Result, Ok, Err, refl, subst}
use Rattle.profile.specs.Outcome.{Gives, Leaves, bind}
use Rattle.profile.specs.ErrorNumber.{ErrorNumber}
use Rattle.os_heap.specs.AddressMap.{AddressMap}
use Rattle.swi_dispatch_plans.proofs.FlexFrameLemmas.Calls.{flex_left, flex_stays_so, state_is}
use Rattle.swi_dispatch_plans.specs.flex_frame.CallLaws.{IsLeft}
use Rattle.swi_dispatch_plans.specs.flex_frame.Ground.{HasFlex}
use Rattle.flex_store.specs.Calls.{FlexState}
use Rattle.flex_store.specs.Kept.{KeepsLayoutAndHeaps}
use Rattle.flex_store.specs.State.{IsFlex, state_of_flex as flex_state_of}
use Rattle.flex_store.specs.declared.flex.Flex.{Flex}
use Rattle.swi_dispatch_plans.proofs.FlexFrameLemmas.InstancesModuleStates.{module_state_kept}
use Rattle.instances.proofs.HeapCalls.{areas_written}
use Rattle.os_heap.proofs.Frame.{layout-others}
use Rattle.os_heap.specs.Store.{store_of}
use Rattle.swi_dispatch_plans.specs.flex_frame.module_state.ModuleState.{module_state_of}
use Rattle.swi_dispatch_answers.specs.Refusals.{or_error}
use Rattle.swi_dispatch_answers.specs.State.{State, with_register}
use Rattle.swi_dispatch_answers.specs.declared.refusal.Refusal.{Refusal}
use Rattle.swi_dispatch_plans.specs.flex.Calls.{FlexMemory, fit_shown, memory_after_flex, memory_of, room_word_of, state_in, memory_with_flex}
use Rattle.swi_dispatch_plans.specs.flex.Leaving.{CanCallFlex, LeavesFlex}

-- All that stands on the memory stays.
pub leaves_called : (m n : AddressMap) (g : Flex) → KeepsLayoutAndHeaps m n g.extent → HasFlex n g → LeavesFlex m n g
leaves_called m n g call has = record {
  flex = has;
  classes = call.classes;
  module_state = λ l ms pending module_state.
      module_state_kept (module_state_of m l ms) (module_state_of n l ms) pending module_state refl (layout-others m n call.layout)
      (areas_written m n l module_state.area_store call.sound call.layout);
}

-- and where nothing is changed
pub leaves_same : (m : AddressMap) (f : Flex) → CanCallFlex m f → LeavesFlex m m f
leaves_same m f can = record { flex = can.flex; classes = can.classes; module_state = λ l ms pending module_state. module_state }

-- what such a call leaves, and what one that was refused
called_left : (m n : AddressMap) (g : Flex) (t : FlexState) → KeepsLayoutAndHeaps m n g.extent → flex_state_of n g ≡ t
    → memory_of n g ≡ memory_with_flex (store_of m) t
called_left m n g t call state =
    let left : IsLeft m n g t = flex_left m n g t call state in
    λ i. record { store = left.store i; flex = left.flex i }

refused_left : (m n : AddressMap) (f g : Flex) → IsFlex m f → KeepsLayoutAndHeaps m n g.extent → flex_state_of n g ≡ flex_state_of m f
    → memory_of n g ≡ memory_of m f
refused_left m n f g is call state =
    let same = flex_stays_so m n f g is call state in
    λ i. record { store = same.0 i; flex = same.1 i }

-- What it leaves, and answers, is what its definition says.
left_so : (A : Type 0) (m n : AddressMap) (f g : Flex) (r : Result (FlexState × A) ErrorNumber)
    (x : Result A ErrorNumber) → IsFlex m f → KeepsLayoutAndHeaps m n g.extent
    → Gives {U = A} (flex_state_of m f) r x (flex_state_of n g)
    → Gives {U = A} (memory_of m f) (memory_after_flex (store_of m) r) x (memory_of n g)
left_so A m n f g (Ok q) (Ok u) is call gives = (called_left m n g q.0 call gives.0, gives.1)
left_so A m n f g (Err e) (Err d) is call gives = (gives.0, refused_left m n f g is call gives.1)
left_so A m n f g (Ok q) (Err d) is call gives = absurd gives
left_so A m n f g (Err e) (Ok u) is call gives = absurd gives

-- the same of a call whose definition is given what memory spells
pub call_left : (A : Type 0) (m n : AddressMap) (f g : Flex) (call : FlexState → Result (FlexState × A) ErrorNumber)
    (x : Result A ErrorNumber) → IsFlex m f → KeepsLayoutAndHeaps m n g.extent
    → Gives {U = A} (flex_state_of m f) (call (flex_state_of m f)) x (flex_state_of n g)
    → Gives {U = A} (memory_of m f) (memory_after_flex (store_of m) (call (state_in (memory_of m f)))) x (memory_of n g)
call_left A m n f g call x is made gives =
    left_so A m n f g (call (state_in (memory_of m f))) x is made
    (subst (λ (t : FlexState). Gives {U = A} (flex_state_of m f) (call t) x (flex_state_of n g)) (state_is m f) gives)

-- Whether a block fits is in R0 then.
pub fit_left : (cpu after : State) (s now : FlexMemory) (r : Result (FlexMemory × Bool) ErrorNumber) (x : Result Bool ErrorNumber)
    (result : Result (Unit {0}) Refusal) → Gives {U = Bool} s r x now
    → Leaves cpu (bind (or_error x) (λ b. Ok (with_register cpu 0 (room_word_of b)))) result after
    → Leaves {S = State × FlexMemory} (cpu, s) (fit_shown cpu r) result (after, now)
fit_left cpu after s now (Ok q) (Ok b) (Ok u) gives left = rw (left, gives.0, gives.1) refl
fit_left cpu after s now (Err e) (Err d) (Err f) gives left = (rw (left.0, gives.0) refl, rw (left.1, gives.1) refl)
fit_left cpu after s now (Ok q) (Ok b) (Err f) gives left = absurd left
fit_left cpu after s now (Err e) (Err d) (Ok u) gives left = absurd left
fit_left cpu after s now (Ok q) (Err d) result gives left = absurd gives
fit_left cpu after s now (Err e) (Ok b) result gives left = absurd gives
