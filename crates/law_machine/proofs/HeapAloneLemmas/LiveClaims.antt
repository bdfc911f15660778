-- Claims and releases in the module area leave what its other blocks hold.
use Rattle.profile.specs.MemoryMap.{module_area_start}
use Rattle.std.proofs.Common.{ℕ, ◌≡◌, ◌∙◌, ◌⊎◌, Bool, true, false, List, Option, Some, Result, Ok, Err, refl, sym, ap, subst, inl, inr}
use Rattle.profile.specs.Outcome.{bind}
use Rattle.profile.specs.Reasons.{module_reason}
use Rattle.profile.specs.ErrorNumber.{ErrorNumber}
use Rattle.profile.specs.declared.reason.ModuleReason.{ModuleReason}
use Rattle.profile.specs.declared.reason.ModuleReason.TheVariants as reason
use Rattle.profile.specs.declared.swi.SwiName.TheVariants as swi
use Rattle.arm_core.specs.State.{State, register_of, with_register}
use Rattle.profile.specs.images.Entries.{Entry}
use Rattle.os_heap.proofs.Found.{found_start}
use Rattle.os_heap.specs.Store.{Store, find_heap}
use Rattle.dynamic_areas.specs.Ground.{AreaStore}
use Rattle.rma.specs.Calls.{rma_claimed, rma_freed}
use Rattle.instances.specs.module_state.ModuleState.{ModuleState}
use Rattle.swi_dispatch_guest.specs.Refusals.{or_error}
use Rattle.swi_dispatch_guest.specs.Refusal.{Refusal}
use Rattle.swi_dispatch_guest.specs.SwiDispatchPlansCalls.{result_of_module_call as area_called, module_called_for as area_called_for}
use Rattle.swi_dispatch_guest.specs.Answers.{went_on}
use Rattle.swi_dispatch_guest.specs.Calls.{call_answer, on_module_state}
use Rattle.swi_dispatch_guest.specs.Errors.{with_error}
use Rattle.swi_dispatch_guest.specs.MachineState.{MachineState, machine_area_store, machine_module_state}
use Rattle.swi_dispatch_guest.specs.Step.{outcome_of_answer, os_module_called, os_module_called_for}
use Rattle.law_machine.proofs.HeapFrameLemmas.Areas.{heap_same}
use Rattle.law_machine.proofs.HeapFrameLemmas.BlockCalls.{block_calls_keep}
use Rattle.law_machine.proofs.HeapFrameLemmas.Guests.{area_stores_fit}
use Rattle.law_machine.specs.heap_frame.BlockLaws.{StayLive, WereLive, total_in}
use Rattle.law_machine.specs.heap_frame.FitAreaStores.{IsFitAreaStore}
use Rattle.law_machine.proofs.HeapAloneLemmas.Keeping.{error_kept, off_system}
use Rattle.law_machine.proofs.HeapAloneLemmas.LiveBytes.{payload_inside}
use Rattle.law_machine.proofs.HeapAloneLemmas.States.{HasStore, IsGiven, given_same, given_stays, given_store, has_store, sound_store}
use Rattle.law_machine.specs.heap_alone.AreaByteLaws.{ClaimsKeepLiveBytes, KeepsAreaBlocks}
use Rattle.swi_dispatch_guest.specs.Moves.{machine_with_words}

stay_same : (s t : Store) → StayLive s t → KeepsAreaBlocks s t
stay_same s t stay h g block total new_total a found found' live live' here there = (stay block total (ap (total_in block) found ∙ live)).1 a here

were_same : (s t : Store) → WereLive s t → KeepsAreaBlocks s t
were_same s t were h g block total new_total a found found' live live' here there = (were block new_total (ap (total_in block) found' ∙ live')).1 a there

module _ (s : MachineState) (has : HasStore s) where
  fit : IsFitAreaStore (machine_area_store s)
  fit = area_stores_fit (machine_area_store s) has.area_store

  abbrev Keeps : Result (State × ModuleState) Refusal → Type 0
  Keeps (Ok q) = KeepsAreaBlocks s.store q.1.area_store.store
  Keeps (Err e) = Unit {0}

  error_keeps : (e : Refusal) → KeepsAreaBlocks s.store (with_error s e).store
  error_keeps e h g block total new_total a found found' live live' here there =
      let own : find_heap h.start s.store.heaps ≡ Some h =
      subst (λ (p : ℕ). find_heap p s.store.heaps ≡ Some h) (sym (found_start module_area_start s.store.heaps h found)) found in
      (error_kept h s.store s e (off_system s h has own) (heap_same h s.store own)).bytes a
      (payload_inside s.store h block total a (sound_store s has) own live here)

  module_state_keeps : (x : Bool) (next : ℕ) (r : Result (State × ModuleState) Refusal) → Keeps r
      → KeepsAreaBlocks s.store (outcome_of_answer s x (went_on s next (on_module_state s r))).now.store
  module_state_keeps x next (Ok q) keeps = keeps
  module_state_keeps true next (Err e) keeps = error_keeps e
  module_state_keeps false next (Err e) keeps = λ h g block total new_total a found found' live live' here there. refl

  claim_keeps : (r : Result (AreaStore × ℕ) ErrorNumber) → rma_claimed (machine_area_store s) (register_of s.cpu 3) ≡ r
      → Keeps (bind (or_error r) (λ q. Ok (with_register s.cpu 2 q.1, record (machine_module_state s) { area_store = q.0 })))
  claim_keeps (Ok q) is = stay_same s.store q.0.store ((block_calls_keep (machine_area_store s) q.0 fit).claim (register_of s.cpu 3) q.1 is)
  claim_keeps (Err e) is = tt

  free_keeps : (r : Result (AreaStore × Unit {0}) ErrorNumber) → rma_freed (machine_area_store s) (register_of s.cpu 2) ≡ r
      → Keeps (bind (or_error r) (λ q. Ok (s.cpu, record (machine_module_state s) { area_store = q.0 })))
  free_keeps (Ok q) is = were_same s.store q.0.store ((block_calls_keep (machine_area_store s) q.0 fit).free (register_of s.cpu 2) is)
  free_keeps (Err e) is = tt

  claimed : Keeps (area_called_for s.cpu (machine_module_state s) (Some reason.Claim))
  claimed = claim_keeps (rma_claimed (machine_area_store s) (register_of s.cpu 3)) refl

  freed : Keeps (area_called_for s.cpu (machine_module_state s) (Some reason.Free))
  freed = free_keeps (rma_freed (machine_area_store s) (register_of s.cpu 2)) refl

  area_keeps : (why : ModuleReason) → module_reason (register_of s.cpu 0) ≡ Some why → Keeps (area_called_for s.cpu (machine_module_state s) (Some why))
      → Keeps (area_called s.cpu (machine_module_state s))
  unfolding area_called
  area_keeps why is keeps = subst (λ (o : Option ModuleReason). Keeps (area_called_for s.cpu (machine_module_state s) o)) (sym is) keeps

  answer_keeps : (x : Bool) (next number : ℕ) → Keeps (area_called s.cpu (machine_module_state s))
      → KeepsAreaBlocks s.store (outcome_of_answer s x (call_answer s next number (Some swi.Module))).now.store
  unfolding call_answer
  answer_keeps x next number keeps = module_state_keeps x next (area_called s.cpu (machine_module_state s)) keeps

  pub called_keeps : (images : List Entry) (x : Bool) (next number : ℕ)
      → (module_reason (register_of s.cpu 0) ≡ Some reason.Claim) ⊎ (module_reason (register_of s.cpu 0) ≡ Some reason.Free)
      → KeepsAreaBlocks s.store (os_module_called images s x next number).now.store
  unfolding os_module_called
  called_keeps images x next number (inl claims) =
      subst (λ (o : Option ModuleReason). KeepsAreaBlocks s.store (os_module_called_for images s x next number o).now.store) (sym claims)
      (answer_keeps x next number (area_keeps reason.Claim claims claimed))
  called_keeps images x next number (inr frees) =
      subst (λ (o : Option ModuleReason). KeepsAreaBlocks s.store (os_module_called_for images s x next number o).now.store) (sym frees)
      (answer_keeps x next number (area_keeps reason.Free frees freed))

pub claims_keep : ClaimsKeepLiveBytes
claims_keep images s words x next number state why =
    let u : MachineState = machine_with_words s words in
    let store : HasStore s = has_store s state in
    let same : IsGiven s u = given_same s 0 words store.size in
    subst (λ (t : Store). KeepsAreaBlocks t (os_module_called images u x next number).now.store) (given_stays s u same)
    (called_keeps u (given_store s u store same) images x next number why)
