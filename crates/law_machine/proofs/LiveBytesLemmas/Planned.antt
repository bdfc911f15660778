-- What the calls that may run module code do at once leaves all blocks of the module area, and no
-- plan but that of a tidy has a slide.
use Rattle.std.proofs.Common.{ℕ, ◌≡◌, ◌++◌, not, Bool, List, [], ◌∷◌, length, Result, Ok, Err, refl}
use Rattle.std.specs.Prelude.{IfOk}
use Rattle.profile.specs.Outcome.{bind}
use Rattle.profile.specs.ErrorNumber.{ErrorNumber}
use Rattle.address_map.specs.Bytes.{bytes_between}
use Rattle.profile.specs.images.Entries.{Entry}
use Rattle.dynamic_areas.specs.Ground.{AreaStore}
use Rattle.rma.specs.Copies.{may_be_copied}
use Rattle.rma.specs.NewImages.{image_copied, image_made, may_be_in_place}
use Rattle.profile.specs.images.module_header.Header.{header_of}
use Rattle.profile.specs.declared.images.module_header.header.Header.{Header}
use Rattle.instances.proofs.GoingOn.{bound as bound_any}
use Rattle.instances.specs.Adding.{adding_plan, copying, good_header, inserting, instantiation, loading, slot_for}
use Rattle.instances.specs.Plans.{deletion, reinitialisation}
use Rattle.instances.specs.Reading.{slot_meant}
use Rattle.instances.specs.module_state.ModuleState.{ModuleState}
use Rattle.instances_table.specs.plans.Calls.{clear_actions}
use Rattle.instances_table.specs.plans.Plans.{Plan}
use Rattle.instances_table.specs.declared.plans.action.PlanAction.{PlanAction}
use Rattle.instances_table.specs.declared.plans.action.PlanAction.TheVariants as act
use Rattle.instances_table.specs.Changes.{instance_room, modules_of_title}
use Rattle.instances_table.specs.Lookup.{looked_up, module_at, slot_at}
use Rattle.instances_table.specs.Modules.{Module, slots_of}
use Rattle.instances_table.specs.declared.parts.Image.{Image}
use Rattle.swi_dispatch_guest.specs.SwiDispatchAnswersWords.{name_part, text_part}
use Rattle.swi_dispatch_guest.specs.ImagePlans.{copy_asked, insertion_asked, instantiation_planned, load_asked, well_named}
use Rattle.swi_dispatch_guest.specs.ModulePlans.{clear_planned, delete_planned, may_begin_alone, may_finalise, reinit_planned}
use Rattle.swi_dispatch_guest.specs.PlannerInput.{PlannerInput, string_asked}
use Rattle.swi_dispatch_guest.specs.Additions.{Planned, copy_planned, insertion_planned, load_planned, named_load_planned, plan_alone, planned_of}
use Rattle.swi_dispatch_guest.specs.MachineState.{MachineState, machine_module_state, setting_of}
use Rattle.law_machine.proofs.HeapFrameLemmas.BlockCalls.{block_calls_keep}
use Rattle.law_machine.specs.heap_frame.BlockLaws.{HaveNoSlide, StayLive}
use Rattle.law_machine.specs.heap_frame.FitAreaStores.{IsFitAreaStore}
use Rattle.law_machine.specs.heap_frame.PlanLaws.{IsFitModuleState}
use Rattle.law_machine.proofs.HeapAloneLemmas.ModulePlans.{bound, bound_if, bound_short}

-- plans without a slide
abbrev pub NeverSlides : Plan → Type 0
NeverSlides p = HaveNoSlide p.actions

cleared_then : (slots : List ℕ) (rest : List PlanAction) → HaveNoSlide rest → HaveNoSlide (clear_actions slots ++ rest)
cleared_then [] rest none = none
cleared_then (slot ∷ slots) rest none = cleared_then slots rest none

cleared : (slots : List ℕ) → HaveNoSlide (clear_actions slots)
cleared [] = tt
cleared (slot ∷ slots) = cleared slots

deletion_none : (ms : List Module) (full : List ℕ) → IfOk (deletion ms full) NeverSlides
unfolding deletion
deletion_none ms full =
    bound_any NeverSlides (looked_up ms full) _ (λ place.
    bound_any NeverSlides (slot_at ms place) _ (λ slot. tt))

reinitialisation_none : (ms : List Module) (full text : List ℕ) → IfOk (reinitialisation ms full text) NeverSlides
unfolding reinitialisation
reinitialisation_none ms full text =
    bound_short NeverSlides text _ (λ few.
    bound_any NeverSlides (looked_up ms full) _ (λ place.
    bound_any NeverSlides (slot_at ms place) _ (λ slot. tt)))

instantiation_none : (ms : List Module) (full text : List ℕ) → IfOk (instantiation ms full text) NeverSlides
unfolding instantiation
instantiation_none ms full text =
    bound_short NeverSlides text _ (λ few.
    bound_any NeverSlides (instance_room ms full) _ (λ new.
    bound_any NeverSlides (module_at ms new.number) _ (λ m. tt)))

adding_none : (ms : List Module) (header : Header) (image : Image) (text : List ℕ) (slot : ℕ) → NeverSlides (adding_plan ms header image text slot)
adding_none ms header image text slot = cleared_then (slots_of (modules_of_title header.title.items ms)) (act.Insert slot ∷ act.Initialise slot ∷ []) tt

-- calls on instances that are there
pub reinit_none : (st : PlannerInput) → IfOk (reinit_planned st) NeverSlides
unfolding reinit_planned
reinit_none st =
    bound_any NeverSlides (string_asked st 1) _ (λ words.
    bound_any NeverSlides (slot_meant st.module_state.modules (name_part words)) _ (λ slot.
    bound_any NeverSlides (may_finalise (slot ∷ []) st) _ (λ u.
    reinitialisation_none st.module_state.modules (name_part words) (text_part words))))

pub delete_none : (st : PlannerInput) → IfOk (delete_planned st) NeverSlides
unfolding delete_planned
delete_none st =
    bound_any NeverSlides (string_asked st 1) _ (λ words.
    bound_any NeverSlides (slot_meant st.module_state.modules words) _ (λ slot.
    bound_any NeverSlides (may_finalise (slot ∷ []) st) _ (λ u.
    deletion_none st.module_state.modules words)))

pub clear_none : (st : PlannerInput) → IfOk (clear_planned st) NeverSlides
unfolding clear_planned
clear_none st = bound_any NeverSlides (may_begin_alone st) _ (λ u. cleared (slots_of st.module_state.modules))

pub instantiation_calm : (st : PlannerInput) → IfOk (instantiation_planned st) NeverSlides
unfolding instantiation_planned
instantiation_calm st =
    bound_any NeverSlides (string_asked st 1) _ (λ words.
    bound_any NeverSlides (well_named (instantiation st.module_state.modules (name_part words) (text_part words))) _ (λ u.
    bound_any NeverSlides (may_finalise [] st) _ (λ v.
    instantiation_none st.module_state.modules (name_part words) (text_part words))))

-- calls that add a module
record StaysAdded (w : ModuleState) (r : ModuleState × Plan) : Type 0 where
  stay : StayLive w.area_store.store r.0.area_store.store
  none : NeverSlides r.1

made_stay : (e : AreaStore) (image : List ℕ) (r : Result (AreaStore × ℕ) ErrorNumber) → IsFitAreaStore e → image_made e image ≡ r
    → IfOk r (λ made. StayLive e.store made.0.store)
made_stay e image (Ok made) fit is = (block_calls_keep e made.0 fit).make_image image made.1 is
made_stay e image (Err f) fit is = tt

copied_stay : (e : AreaStore) (at len : ℕ) (r : Result (AreaStore × ℕ) ErrorNumber) → IsFitAreaStore e → image_copied e at len ≡ r
    → IfOk r (λ made. StayLive e.store made.0.store)
copied_stay e at len (Ok made) fit is = (block_calls_keep e made.0 fit).copy_image at len made.1 is
copied_stay e at len (Err f) fit is = tt

loading_stays : (w : ModuleState) (image text : List ℕ) → IsFitModuleState w → IfOk (loading w image text) (StaysAdded w)
unfolding loading
loading_stays w image text fit =
    bound_short (StaysAdded w) text _ (λ few.
    bound_any (StaysAdded w) (good_header (header_of image)) _ (λ header.
    bound_any (StaysAdded w) (slot_for w.modules header) _ (λ slot.
    bound (λ (made : AreaStore × ℕ). StayLive w.area_store.store made.0.store) (StaysAdded w) (image_made w.area_store image) _
    (made_stay w.area_store image (image_made w.area_store image) fit.area_store refl) (λ made stay. record {
      stay = stay;
      none = adding_none w.modules header (record { at = made.1; len = length image }) text slot;
    }))))

inserting_stays : (w : ModuleState) (at len : ℕ) → IfOk (inserting w at len) (StaysAdded w)
unfolding inserting
inserting_stays w at len =
    bound_if (StaysAdded w) (not (may_be_in_place w.area_store.store at len)) _ _
    (bound_any (StaysAdded w) (good_header (header_of (bytes_between w.area_store.store.bytes.at at len))) _ (λ header.
    bound_any (StaysAdded w) (slot_for w.modules header) _ (λ slot. record {
      stay = λ block total live. (live, λ a inside. refl);
      none = adding_none w.modules header (record { at = at; len = len }) [] slot;
    })))

copying_stays : (w : ModuleState) (at len : ℕ) → IsFitModuleState w → IfOk (copying w at len) (StaysAdded w)
unfolding copying
copying_stays w at len fit =
    bound_if (StaysAdded w) (not (may_be_copied w.area_store at len)) _ _
    (bound_any (StaysAdded w) (good_header (header_of (bytes_between w.area_store.store.bytes.at at len))) _ (λ header.
    bound_any (StaysAdded w) (slot_for w.modules header) _ (λ slot.
    bound (λ (made : AreaStore × ℕ). StayLive w.area_store.store made.0.store) (StaysAdded w) (image_copied w.area_store at len) _
    (copied_stay w.area_store at len (image_copied w.area_store at len) fit.area_store refl) (λ made stay. record {
      stay = stay;
      none = adding_none w.modules header (record { at = made.1; len = len }) [] slot;
    }))))

-- what a call is to do from there on
pub record IsPlannedStill (s : MachineState) (w : Planned) : Type 0 where
  pub stay : StayLive s.store w.module_state.area_store.store
  pub none : NeverSlides w.plan

added_planned : (s : MachineState) (r : Result (ModuleState × Plan) ErrorNumber) → IfOk r (StaysAdded (machine_module_state s)) → IfOk (planned_of r) (IsPlannedStill s)
added_planned s (Ok w) added = record { stay = added.stay; none = added.none }
added_planned s (Err e) added = tt

pub alone_still : (s : MachineState) (r : Result Plan ErrorNumber) → IfOk r NeverSlides → IfOk (bind r (λ p. Ok (plan_alone s p))) (IsPlannedStill s)
alone_still s (Ok p) none = record { stay = λ block total live. (live, λ a inside. refl); none = none }
alone_still s (Err e) none = tt

pub load_still : (images : List Entry) (s : MachineState) (words : List ℕ) (enters : Bool) → IsFitModuleState (machine_module_state s)
    → IfOk (load_planned images s words enters) (IsPlannedStill s)
unfolding load_planned
load_still images s words enters fit =
    bound_any (IsPlannedStill s) (load_asked images (setting_of s) words enters) _ (λ l.
    added_planned s (loading (machine_module_state s) l.image l.text) (loading_stays (machine_module_state s) l.image l.text fit))

pub named_load_still : (images : List Entry) (s : MachineState) (enters : Bool) → IsFitModuleState (machine_module_state s)
    → IfOk (named_load_planned images s enters) (IsPlannedStill s)
named_load_still images s enters fit =
    bound_any (IsPlannedStill s) (string_asked (setting_of s) 1) _ (λ words. load_still images s words enters fit)

pub insertion_still : (s : MachineState) → IfOk (insertion_planned s) (IsPlannedStill s)
unfolding insertion_planned
insertion_still s =
    bound_any (IsPlannedStill s) (insertion_asked (setting_of s)) _ (λ range.
    added_planned s (inserting (machine_module_state s) range.at range.len) (inserting_stays (machine_module_state s) range.at range.len))

pub copy_still : (s : MachineState) → IsFitModuleState (machine_module_state s) → IfOk (copy_planned s) (IsPlannedStill s)
unfolding copy_planned
copy_still s fit =
    bound_any (IsPlannedStill s) (copy_asked (setting_of s)) _ (λ range.
    added_planned s (copying (machine_module_state s) range.at range.len) (copying_stays (machine_module_state s) range.at range.len fit))
