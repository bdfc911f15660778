-- What the calls that may run module code do at once forgets no heap.
use Rattle.std.proofs.Common.{ℕ, ◌≡◌, ◌≢◌, ◌∙◌, not, Bool, List, Some, Result, Ok, Err, refl}
use Rattle.std.specs.Prelude.{IfOk}
use Rattle.profile.specs.MemoryMap.{module_area_start}
use Rattle.profile.specs.Outcome.{bind}
use Rattle.profile.specs.ErrorNumber.{ErrorNumber}
use Rattle.address_map.specs.Bytes.{bytes_between}
use Rattle.profile.specs.images.Entries.{Entry}
use Rattle.profile.specs.images.module_header.Header.{header_of}
use Rattle.os_heap_words.specs.lists.Heap.{HeapList}
use Rattle.os_heap.specs.Store.{Store, find_heap}
use Rattle.dynamic_areas.specs.Ground.{AreaStore, IsAreaStore}
use Rattle.rma.specs.Calls.{rma_claimed}
use Rattle.rma.specs.Copies.{may_be_copied}
use Rattle.rma.specs.NewImages.{image_copied, image_made, may_be_in_place}
use Rattle.instances.proofs.GoingOn.{bound as bound_any}
use Rattle.instances.specs.Adding.{copying, good_header, inserting, loading, slot_for}
use Rattle.instances.specs.module_state.ModuleState.{ModuleState}
use Rattle.instances_table.specs.plans.Plans.{Plan}
use Rattle.swi_dispatch_guest.specs.ImagePlans.{copy_asked, insertion_asked, load_asked}
use Rattle.swi_dispatch_guest.specs.PlannerInput.{string_asked}
use Rattle.swi_dispatch_guest.specs.Additions.{Planned, copy_planned, insertion_planned, load_planned, named_load_planned, plan_alone, planned_of}
use Rattle.swi_dispatch_guest.specs.MachineState.{MachineState, machine_module_state, setting_of}
use Rattle.law_machine.specs.heap_calls.Laws.{IsNotForgotten}
use Rattle.law_machine.proofs.HeapFrameLemmas.AreaForgetting.{area_calls_forget}
use Rattle.law_machine.proofs.HeapFrameLemmas.ModuleArea.{module_area_calls_fit}
use Rattle.law_machine.specs.heap_frame.FitAreaStores.{IsFitAreaStore}
use Rattle.law_machine.specs.heap_frame.Fits.{KeepsOutside}
use Rattle.law_machine.proofs.HeapAloneLemmas.ModulePlans.{bound, bound_if, bound_short}

-- a heap that starts elsewhere and isn't forgotten is found as it was
found_outside : (k : HeapList) (s t : Store) → k.start ≢ module_area_start → find_heap k.start s.heaps ≡ Some k → KeepsOutside s t → IsNotForgotten t k.start
    → find_heap k.start t.heaps ≡ Some k
found_outside k s t other found kept still = kept.heaps k.start other (λ there. still) ∙ found

module _ (k : HeapList) (other : k.start ≢ module_area_start) where
  abbrev pub FindsIn : AreaStore → Type 0
  FindsIn e = find_heap k.start e.store.heaps ≡ Some k

  module _ (e : AreaStore) (good : IsAreaStore e) (fit : IsFitAreaStore e) (found : find_heap k.start e.store.heaps ≡ Some k) where
    pub claimed_finds : (size : ℕ) (r : Result (AreaStore × ℕ) ErrorNumber) → rma_claimed e size ≡ r → IfOk r (λ made. FindsIn made.0)
    claimed_finds size (Ok made) is =
        found_outside k e.store made.0.store other found ((module_area_calls_fit e made.0 fit).claim size made.1 is).outside
        ((area_calls_forget e made.0 k good found).claim size made.1 is)
    claimed_finds size (Err f) is = tt

    made_finds : (image : List ℕ) (r : Result (AreaStore × ℕ) ErrorNumber) → image_made e image ≡ r → IfOk r (λ made. FindsIn made.0)
    made_finds image (Ok made) is =
        found_outside k e.store made.0.store other found ((module_area_calls_fit e made.0 fit).make_image image made.1 is).outside
        ((area_calls_forget e made.0 k good found).make_image image made.1 is)
    made_finds image (Err f) is = tt

    copied_finds : (at len : ℕ) (r : Result (AreaStore × ℕ) ErrorNumber) → image_copied e at len ≡ r → IfOk r (λ made. FindsIn made.0)
    copied_finds at len (Ok made) is =
        found_outside k e.store made.0.store other found ((module_area_calls_fit e made.0 fit).copy_image at len made.1 is).outside
        ((area_calls_forget e made.0 k good found).copy_image at len made.1 is)
    copied_finds at len (Err f) is = tt

  abbrev pub FindsPlanned : Planned → Type 0
  FindsPlanned w = FindsIn w.module_state.area_store

  abbrev FindsAdded : ModuleState × Plan → Type 0
  FindsAdded r = FindsIn r.0.area_store

  added_finds : (r : Result (ModuleState × Plan) ErrorNumber) → IfOk r FindsAdded → IfOk (planned_of r) FindsPlanned
  added_finds (Ok w) found = found
  added_finds (Err e) found = tt

  module _ (s : MachineState) (good : IsAreaStore (machine_module_state s).area_store) (fit : IsFitAreaStore (machine_module_state s).area_store)
      (found : find_heap k.start s.store.heaps ≡ Some k) where
    loading_finds : (image text : List ℕ) → IfOk (loading (machine_module_state s) image text) FindsAdded
    unfolding loading
    loading_finds image text =
        bound_short FindsAdded text _ (λ few.
        bound_any FindsAdded (good_header (header_of image)) _ (λ header.
        bound_any FindsAdded (slot_for s.tables.modules header) _ (λ slot.
        bound (λ (made : AreaStore × ℕ). FindsIn made.0) FindsAdded (image_made (machine_module_state s).area_store image) _
        (made_finds (machine_module_state s).area_store good fit found image (image_made (machine_module_state s).area_store image) refl) (λ made there. there))))

    inserting_finds : (at len : ℕ) → IfOk (inserting (machine_module_state s) at len) FindsAdded
    unfolding inserting
    inserting_finds at len =
        bound_if FindsAdded (not (may_be_in_place s.store at len)) _ _
        (bound_any FindsAdded (good_header (header_of (bytes_between s.store.bytes.at at len))) _ (λ header.
        bound_any FindsAdded (slot_for s.tables.modules header) _ (λ slot. found)))

    copying_finds : (at len : ℕ) → IfOk (copying (machine_module_state s) at len) FindsAdded
    unfolding copying
    copying_finds at len =
        bound_if FindsAdded (not (may_be_copied (machine_module_state s).area_store at len)) _ _
        (bound_any FindsAdded (good_header (header_of (bytes_between s.store.bytes.at at len))) _ (λ header.
        bound_any FindsAdded (slot_for s.tables.modules header) _ (λ slot.
        bound (λ (made : AreaStore × ℕ). FindsIn made.0) FindsAdded (image_copied (machine_module_state s).area_store at len) _
        (copied_finds (machine_module_state s).area_store good fit found at len (image_copied (machine_module_state s).area_store at len) refl) (λ made there. there))))

    pub load_finds : (images : List Entry) (words : List ℕ) (enters : Bool) → IfOk (load_planned images s words enters) FindsPlanned
    unfolding load_planned
    load_finds images words enters =
        bound_any FindsPlanned (load_asked images (setting_of s) words enters) _ (λ l.
        added_finds (loading (machine_module_state s) l.image l.text) (loading_finds l.image l.text))

    pub named_load_finds : (images : List Entry) (enters : Bool) → IfOk (named_load_planned images s enters) FindsPlanned
    named_load_finds images enters =
        bound_any FindsPlanned (string_asked (setting_of s) 1) _ (λ words. load_finds images words enters)

    pub insertion_finds : IfOk (insertion_planned s) FindsPlanned
    unfolding insertion_planned
    insertion_finds =
        bound_any FindsPlanned (insertion_asked (setting_of s)) _ (λ range.
        added_finds (inserting (machine_module_state s) range.at range.len) (inserting_finds range.at range.len))

    pub copy_finds : IfOk (copy_planned s) FindsPlanned
    unfolding copy_planned
    copy_finds =
        bound_any FindsPlanned (copy_asked (setting_of s)) _ (λ range.
        added_finds (copying (machine_module_state s) range.at range.len) (copying_finds range.at range.len))

    pub alone_finds : (r : Result Plan ErrorNumber) → IfOk (bind r (λ p. Ok (plan_alone s p))) FindsPlanned
    alone_finds (Ok p) = found
    alone_finds (Err e) = tt
