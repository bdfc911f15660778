-- What the calls that may run module code plan, and what they do at once: in the module area, with
-- slots below 64, and a text that can be kept.
use Rattle.std.proofs.Common.{ℕ, ◌+◌, ◌≡◌, ◌≤◌, ◌<◌, ◌&&◌, ◌++◌, not, nat_lt, Bool, true, false, zero, suc, length, List, [], ◌∷◌, Option, Some, None, Result, Ok, Err, refl, arith, lit≤}
use Rattle.std.specs.Prelude.{IfOk, IfSome, if◌then◌else◌, option_map}
use Rattle.profile.specs.Outcome.{bind}
use Rattle.profile.specs.ErrorNumber.{ErrorNumber}
use Rattle.profile.specs.ErrorNumber.TheVariants.{BadString, InstanceTableFull}
use Rattle.address_map.specs.Bytes.{Bytes, bytes_between}
use Rattle.address_map.specs.declared.region.Kind.TheVariants as kind
use Rattle.arm_core.specs.State.{register_of}
use Rattle.profile.specs.images.Entries.{Entry}
use Rattle.dynamic_areas.specs.Ground.{AreaStore}
use Rattle.rma.specs.Copies.{may_be_copied}
use Rattle.rma.specs.NewImages.{image_copied, image_made, may_be_in_place}
use Rattle.profile.specs.images.module_header.Header.{header_of}
use Rattle.profile.specs.declared.images.module_header.header.Header.{Header}
use Rattle.instances.proofs.GoingOn.{bound as bound_any}
use Rattle.instances.specs.Adding.{adding_plan, copying, good_header, inserting, instantiation, loading, slot_for}
use Rattle.instances.specs.Given.{given_module}
use Rattle.instances.specs.Reading.{slot_meant, start_found}
use Rattle.instances.specs.module_state.ModuleState.{ModuleState}
use Rattle.instances_table.specs.plans.Plans.{Plan}
use Rattle.instances_table.specs.declared.parts.Image.{Image}
use Rattle.instances_table.specs.Changes.{free_slot_for, modules_of_title, titled_otherwise}
use Rattle.instances_table.specs.Modules.{Module, slots_of}
use Rattle.swi_dispatch_guest.specs.Strings.{ends, string_at, text_at}
use Rattle.swi_dispatch_guest.specs.SwiDispatchAnswersWords.{name_part, text_part}
use Rattle.swi_dispatch_guest.specs.TextEnd.TheVariants as end
use Rattle.swi_dispatch_guest.specs.ImagePlans.{copy_asked, insertion_asked, instantiation_planned, load_asked, well_named}
use Rattle.swi_dispatch_guest.specs.ModulePlans.{clear_planned, delete_planned, may_begin_alone, may_finalise, reinit_planned, tidy_planned}
use Rattle.swi_dispatch_guest.specs.Openings.{opening_asked}
use Rattle.swi_dispatch_guest.specs.PlannerInput.{PlannerInput, string_asked}
use Rattle.swi_dispatch_guest.specs.Opening.{Opening}
use Rattle.swi_dispatch_guest.specs.Additions.{Planned, copy_planned, insertion_planned, load_planned, named_load_planned, plan_alone, planned_of}
use Rattle.swi_dispatch_guest.specs.MachineState.{MachineState, machine_module_state, setting_of}
use Rattle.law_machine.proofs.HeapFrameLemmas.ModuleArea.{fit_same, module_area_calls_fit}
use Rattle.law_machine.proofs.HeapFrameLemmas.Words.{writes_fit}
use Rattle.law_machine.specs.heap_frame.FitAreaStores.{AreaStoreStaysFit, IsFitAreaStore}
use Rattle.law_machine.specs.heap_frame.PlanLaws.{AreBelow, IsFitModuleState, ModuleStateStaysFit}
use Rattle.law_machine.proofs.HeapAloneLemmas.ModulePlans.{IsFitPlan, bound, bound_if, bound_short, clearing_fit, deletion_fit, found_or, free_low, instantiation_fit, load_fit, reinitialisation_fit, tidying_fit, titled_below}

-- strings in memory have at most so many bytes
one_more : (most v : ℕ) (o : Option (List ℕ)) → IfSome o (λ text. length text ≤ most) → IfSome (option_map (λ text. v ∷ text) o) (λ text. length text ≤ suc most)
one_more most v None few = tt
one_more most v (Some text) few = omega (arith, few)

text_if : (most : ℕ) (mapped ended : Bool) (o : Option (List ℕ)) → IfSome o (λ text. length text ≤ most)
    → IfSome (let q : Option (List ℕ) = if mapped then (if ended then Some [] else o) else None in q) (λ text. length text ≤ most)
text_if most false ended o few = tt
text_if most true true o few = omega arith
text_if most true false o few = few

text_or : (most : ℕ) (ended : Bool) → IfSome (let q : Option (List ℕ) = if ended then Some [] else None in q) (λ text. length text ≤ most)
text_or most true = omega arith
text_or most false = tt

text_few : (is_end : ℕ → Bool) (most : ℕ) (b : Bytes) (at : ℕ) → IfSome (text_at is_end most b at) (λ text. length text ≤ most)
unfolding text_at
text_few is_end zero b at = text_or zero (b.mapped at && is_end (b.at at))
text_few is_end (suc most) b at =
    text_if (suc most) (b.mapped at) (is_end (b.at at)) (option_map (λ text. b.at at ∷ text) (text_at is_end most b (at + 1)))
    (one_more most (b.at at) (text_at is_end most b (at + 1)) (text_few is_end most b (at + 1)))

abbrev IsShort : List ℕ → Type 0
IsShort text = length text ≤ 255

string_few : (st : PlannerInput) (number : ℕ) → IfOk (string_asked st number) IsShort
unfolding string_asked
string_few st number =
    found_or IsShort (string_at st.module_state.area_store.store.bytes (register_of st.cpu number)) BadString
    (text_few (ends end.Control) 255 st.module_state.area_store.store.bytes (register_of st.cpu number))

-- calls on instances that are there
pub reinit_made : (st : PlannerInput) → AreBelow (slots_of st.module_state.modules) → IfOk (reinit_planned st) IsFitPlan
unfolding reinit_planned
reinit_made st below =
    bound_any IsFitPlan (string_asked st 1) _ (λ words.
    bound_any IsFitPlan (slot_meant st.module_state.modules (name_part words)) _ (λ slot.
    bound_any IsFitPlan (may_finalise (slot ∷ []) st) _ (λ u.
    reinitialisation_fit st.module_state.modules (name_part words) (text_part words) below)))

pub delete_made : (st : PlannerInput) → AreBelow (slots_of st.module_state.modules) → IfOk (delete_planned st) IsFitPlan
unfolding delete_planned
delete_made st below =
    bound_any IsFitPlan (string_asked st 1) _ (λ words.
    bound_any IsFitPlan (slot_meant st.module_state.modules words) _ (λ slot.
    bound_any IsFitPlan (may_finalise (slot ∷ []) st) _ (λ u.
    deletion_fit st.module_state.modules words below)))

pub tidy_made : (st : PlannerInput) (next : ℕ) → IfOk (tidy_planned st next) IsFitPlan
unfolding tidy_planned
tidy_made st next = bound_any IsFitPlan (may_begin_alone st) _ (λ u. tidying_fit st.module_state.modules next)

pub clear_made : (st : PlannerInput) → AreBelow (slots_of st.module_state.modules) → IfOk (clear_planned st) IsFitPlan
unfolding clear_planned
clear_made st below = bound_any IsFitPlan (may_begin_alone st) _ (λ u. clearing_fit st.module_state.modules below)

pub instantiation_made : (st : PlannerInput) → IfOk (instantiation_planned st) IsFitPlan
unfolding instantiation_planned
instantiation_made st =
    bound_any IsFitPlan (string_asked st 1) _ (λ words.
    bound_any IsFitPlan (well_named (instantiation st.module_state.modules (name_part words) (text_part words))) _ (λ u.
    bound_any IsFitPlan (may_finalise [] st) _ (λ v.
    instantiation_fit st.module_state.modules (name_part words) (text_part words))))

-- OS_Module 2
pub opening_made : (st : PlannerInput) → IfOk (opening_asked st) (λ o. length o.text.items ≤ 255)
unfolding opening_asked
opening_made st =
    bound_any (λ (o : Opening). length o.text.items ≤ 255) (string_asked st 1) _ (λ name.
    bound IsShort (λ (o : Opening). length o.text.items ≤ 255) (string_asked st 2) _ (string_few st 2) (λ text few.
    bound_any (λ (o : Opening). length o.text.items ≤ 255) (start_found st.module_state.modules name) _ (λ start.
    bound_if (λ (o : Opening). length o.text.items ≤ 255) (nat_lt 0 (length st.frames)) _ _ few)))

-- calls that add a module: what they do at once
record IsAdded (w : ModuleState) (r : ModuleState × Plan) : Type 0 where
  module_state : ModuleStateStaysFit w r.0
  plan : IsFitPlan r.1

made_fit : (e : AreaStore) (image : List ℕ) → IsFitAreaStore e → IfOk (image_made e image) (λ made. AreaStoreStaysFit e made.0)
made_fit e image fit = by (image_made e image) refl where
  by : (r : Result (AreaStore × ℕ) ErrorNumber) → image_made e image ≡ r → IfOk r (λ made. AreaStoreStaysFit e made.0)
  by (Ok made) is = (module_area_calls_fit e made.0 fit).make_image image made.1 is
  by (Err f) is = tt

copied_fit : (e : AreaStore) (at len : ℕ) → IsFitAreaStore e → IfOk (image_copied e at len) (λ made. AreaStoreStaysFit e made.0)
copied_fit e at len fit = by (image_copied e at len) refl where
  by : (r : Result (AreaStore × ℕ) ErrorNumber) → image_copied e at len ≡ r → IfOk r (λ made. AreaStoreStaysFit e made.0)
  by (Ok made) is = (module_area_calls_fit e made.0 fit).copy_image at len made.1 is
  by (Err f) is = tt

slot_for_low : (ms : List Module) (header : Header) → IfOk (slot_for ms header) (λ slot. slot < 64)
slot_for_low ms header =
    found_or (λ slot. slot < 64) (free_slot_for header.title.items ms) InstanceTableFull (free_low (titled_otherwise header.title.items ms))

adding_fit : (ms : List Module) (header : Header) (image : Image) (text : List ℕ) (slot : ℕ) → AreBelow (slots_of ms) → length text ≤ 255 → slot < 64
    → IsFitPlan (adding_plan ms header image text slot)
adding_fit ms header image text slot below few low =
    load_fit (given_module header image text) (slots_of (modules_of_title header.title.items ms)) slot few (titled_below header.title.items ms below) low

loading_added : (w : ModuleState) (image text : List ℕ) → IsFitModuleState w → IfOk (loading w image text) (IsAdded w)
unfolding loading
loading_added w image text fit =
    bound_short (IsAdded w) text _ (λ few.
    bound_any (IsAdded w) (good_header (header_of image)) _ (λ header.
    bound (λ slot. slot < 64) (IsAdded w) (slot_for w.modules header) _ (slot_for_low w.modules header) (λ slot low.
    bound (λ (made : AreaStore × ℕ). AreaStoreStaysFit w.area_store made.0) (IsAdded w) (image_made w.area_store image) _ (made_fit w.area_store image fit.area_store) (λ made at. record {
      module_state = record { area_store = at; slots = fit.slots };
      plan = adding_fit w.modules header (record { at = made.1; len = length image }) text slot fit.slots few low;
    }))))

inserting_added : (w : ModuleState) (at len : ℕ) → IsFitModuleState w → IfOk (inserting w at len) (IsAdded w)
unfolding inserting
inserting_added w at len fit =
    bound_if (IsAdded w) (not (may_be_in_place w.area_store.store at len)) _ _
    (bound_any (IsAdded w) (good_header (header_of (bytes_between w.area_store.store.bytes.at at len))) _ (λ header.
    bound (λ slot. slot < 64) (IsAdded w) (slot_for w.modules header) _ (slot_for_low w.modules header) (λ slot low. record {
      module_state = record {
        area_store = (writes_fit w.area_store fit.area_store).records (w.area_store.store.others ++ record { kind = kind.Image; at = at; len = len } ∷ []);
        slots = fit.slots;
      };
      plan = adding_fit w.modules header (record { at = at; len = len }) [] slot fit.slots (lit≤ tt) low;
    })))

copying_added : (w : ModuleState) (at len : ℕ) → IsFitModuleState w → IfOk (copying w at len) (IsAdded w)
unfolding copying
copying_added w at len fit =
    bound_if (IsAdded w) (not (may_be_copied w.area_store at len)) _ _
    (bound_any (IsAdded w) (good_header (header_of (bytes_between w.area_store.store.bytes.at at len))) _ (λ header.
    bound (λ slot. slot < 64) (IsAdded w) (slot_for w.modules header) _ (slot_for_low w.modules header) (λ slot low.
    bound (λ (made : AreaStore × ℕ). AreaStoreStaysFit w.area_store made.0) (IsAdded w) (image_copied w.area_store at len) _ (copied_fit w.area_store at len fit.area_store) (λ made copy. record {
      module_state = record { area_store = copy; slots = fit.slots };
      plan = adding_fit w.modules header (record { at = made.1; len = len }) [] slot fit.slots (lit≤ tt) low;
    }))))

-- what a call is to do from there on
pub record IsFitPlanned (s : MachineState) (w : Planned) : Type 0 where
  pub module_state : ModuleStateStaysFit (machine_module_state s) w.module_state
  pub plan : IsFitPlan w.plan

added_planned : (s : MachineState) (r : Result (ModuleState × Plan) ErrorNumber) → IfOk r (IsAdded (machine_module_state s)) → IfOk (planned_of r) (IsFitPlanned s)
added_planned s (Ok w) added = record { module_state = added.module_state; plan = added.plan }
added_planned s (Err e) added = tt

pub alone_planned : (s : MachineState) (r : Result Plan ErrorNumber) → IsFitModuleState (machine_module_state s) → IfOk r IsFitPlan
    → IfOk (bind r (λ p. Ok (plan_alone s p))) (IsFitPlanned s)
alone_planned s (Ok p) fit plan = record { module_state = record { area_store = fit_same (machine_module_state s).area_store fit.area_store; slots = fit.slots }; plan = plan }
alone_planned s (Err e) fit plan = tt

pub load_made : (images : List Entry) (s : MachineState) (words : List ℕ) (enters : Bool) → IsFitModuleState (machine_module_state s)
    → IfOk (load_planned images s words enters) (IsFitPlanned s)
unfolding load_planned
load_made images s words enters fit =
    bound_any (IsFitPlanned s) (load_asked images (setting_of s) words enters) _ (λ l.
    added_planned s (loading (machine_module_state s) l.image l.text) (loading_added (machine_module_state s) l.image l.text fit))

pub named_load_made : (images : List Entry) (s : MachineState) (enters : Bool) → IsFitModuleState (machine_module_state s)
    → IfOk (named_load_planned images s enters) (IsFitPlanned s)
named_load_made images s enters fit =
    bound_any (IsFitPlanned s) (string_asked (setting_of s) 1) _ (λ words. load_made images s words enters fit)

pub insertion_made : (s : MachineState) → IsFitModuleState (machine_module_state s) → IfOk (insertion_planned s) (IsFitPlanned s)
unfolding insertion_planned
insertion_made s fit =
    bound_any (IsFitPlanned s) (insertion_asked (setting_of s)) _ (λ range.
    added_planned s (inserting (machine_module_state s) range.at range.len) (inserting_added (machine_module_state s) range.at range.len fit))

pub copy_made : (s : MachineState) → IsFitModuleState (machine_module_state s) → IfOk (copy_planned s) (IsFitPlanned s)
unfolding copy_planned
copy_made s fit =
    bound_any (IsFitPlanned s) (copy_asked (setting_of s)) _ (λ range.
    added_planned s (copying (machine_module_state s) range.at range.len) (copying_added (machine_module_state s) range.at range.len fit))
