-- What both kinds of laws need of a machine with a guest's heap.
use Rattle.profile.specs.MemoryMap.{module_area_start}
use Rattle.std.proofs.Common.{ℕ, ◌≡◌, ◌≢◌, Bool, true, false, List, Option, Some, None, Result, Ok, Err, refl, sym, ◌∙◌, inl, inr}
use Rattle.profile.specs.ErrorNumber.{ErrorNumber}
use Rattle.os_heap_words.specs.lists.Heap.{HeapList}
use Rattle.os_heap.specs.Store.{Store}
use Rattle.instances.specs.Reading.{start_found}
use Rattle.instances.specs.declared.answers.Start.{Start}
use Rattle.instances.specs.module_state.ModuleState.{ModuleState}
use Rattle.instances_table.specs.plans.Carrying.{Carried}
use Rattle.instances_table.specs.plans.Plans.{Plan}
use Rattle.instances_table.specs.declared.plans.code.Code.{Code}
use Rattle.instances_table.specs.declared.plans.given.Given.{Given}
use Rattle.swi_dispatch_guest.specs.Call.{Call}
use Rattle.swi_dispatch_guest.specs.Refusal.{Refusal}
use Rattle.swi_dispatch_guest.specs.Refusal.TheVariants as refusal
use Rattle.swi_dispatch_guest.specs.Trials.{module_state_carried}
use Rattle.swi_dispatch_guest.specs.Errors.{with_error}
use Rattle.swi_dispatch_guest.specs.Gates.{call_ended_by, carried_on, ended_of, entered_if, entered_with, state_after_plan, state_with_code_entered}
use Rattle.swi_dispatch_guest.specs.MachineState.{MachineState, machine_area_store, machine_module_state}
use Rattle.swi_dispatch_guest.specs.ModuleStart.{opened_at}
use Rattle.swi_dispatch_guest.specs.Returns.{gone_back}
use Rattle.law_machine.proofs.HeapFrameLemmas.Guests.{guest_elsewhere}
use Rattle.law_machine.specs.heap_frame.GuestLaws.{HasGuestHeap}
use Rattle.law_machine.proofs.HeapAloneLemmas.ModuleHosts.{IsHost}
use Rattle.law_machine.specs.module_heaps.GivenUp.{ForgetsGivenUp}
use Rattle.law_machine.proofs.ModuleHeapsLemmas.Giving.{IsShown}

pub guest_of : (s : MachineState) (k : HeapList) → IsHost s k → HasGuestHeap (machine_area_store s) k
guest_of s k host = record {
  area_store = host.modules.store.area_store;
  system = host.modules.store.system;
  found = host.found;
  own = host.own;
}

pub elsewhere : (s : MachineState) (k : HeapList) → IsHost s k → k.start ≢ module_area_start
elsewhere s k host = guest_elsewhere (machine_area_store s) k (guest_of s k host)

-- what is shown of a heap says when it is forgotten
pub shown_both_ways : (k : HeapList) (s t : Store) → IsShown k s t → ForgetsGivenUp k s t
shown_both_ways k s t (inl stays) = (
  λ none. absurd (let no : None ≡ Some k = sym none ∙ stays.found in cc),
  λ given. absurd (let no : None ≡ Some given.total = sym given.gone ∙ stays.blocks given.block given.total given.live given.inside in cc),
)
shown_both_ways k s t (inr goes) = (λ none. goes.given, λ given. goes.none)

-- what changes no heap
pub error_heaps : (s : MachineState) (e : Refusal) → (with_error s e).store.heaps ≡ s.store.heaps
error_heaps s (refusal.System e) = refl
error_heaps s refusal.Own = refl

pub opened_heaps : (s : MachineState) (text : List ℕ) (slot : ℕ) (o : Option ℕ) → (opened_at s text slot o).store.heaps ≡ s.store.heaps
opened_heaps s text slot None = refl
opened_heaps s text slot (Some at) = refl

started_heaps : (s : MachineState) (text : List ℕ) (r : Result Start ErrorNumber) → (entered_with s text r).store.heaps ≡ s.store.heaps
started_heaps s text (Ok start) = opened_heaps s text start.slot start.at
started_heaps s text (Err e) = refl

if_heaps : (s : MachineState) (enters : Bool) (g : Given) → (entered_if enters s g).store.heaps ≡ s.store.heaps
if_heaps s true g = started_heaps s g.text.items (start_found s.tables.modules g.header.title.items)
if_heaps s false g = refl

ended_heaps : (s : MachineState) (call : Call) (g : Given) (first : Option ℕ) → (call_ended_by s call g first).store.heaps ≡ s.store.heaps
ended_heaps s call g (Some r0) = refl
ended_heaps s call g None = if_heaps (gone_back call.caller s false call.next) call.enters g

-- a call that is carried on leaves the heaps of its plan
by_code_heaps : (s : MachineState) (call : Call) (w : ModuleState) (q : Plan) (o : Option Code)
    → (let c : Carried ModuleState = record { module_state = w; rest = q; code = o } in
    (state_after_plan (state_with_code_entered s call c) call (ended_of c)).store.heaps ≡ w.area_store.store.heaps)
by_code_heaps s call w q (Some code) = refl
by_code_heaps s call w q None = ended_heaps (state_with_code_entered s call (record { module_state = w; rest = q; code = None })) call q.given q.first

pub carried_heaps : (s : MachineState) (call : Call) (p : Plan) → (carried_on s call p).store.heaps ≡ (module_state_carried (machine_module_state s) p).module_state.area_store.store.heaps
carried_heaps s call p =
    let c : Carried ModuleState = module_state_carried (machine_module_state s) p in
    by_code_heaps s call c.module_state c.rest c.code
