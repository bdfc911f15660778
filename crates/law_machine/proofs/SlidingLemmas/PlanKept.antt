-- While the plan of a call is kept no other step touches it: a call that would make a plan is
-- refused.
use Rattle.std.proofs.Common.{ℕ, Bool, true, false, not, ◌+◌, ◌%◌, ◌^◌, ◌==◌, ◌≡◌, List, [], ◌∷◌, length, Option, Some, None, is_some, Result, Ok, Err, refl, inl, inr}
use Rattle.std.specs.Prelude.{if◌then◌else◌, ok_or}
use Rattle.std.proofs.lemmas.Bool.{cases_Bool}
use Rattle.profile.specs.Outcome.{bind}
use Rattle.profile.specs.SwiNames.{swi_of}
use Rattle.profile.specs.ErrorNumber.{ErrorNumber}
use Rattle.profile.specs.declared.reason.ModuleReason.{ModuleReason}
use Rattle.profile.specs.declared.reason.ModuleReason.TheVariants as reason
use Rattle.profile.specs.declared.swi.SwiName.{SwiName}
use Rattle.profile.specs.declared.swi.SwiName.TheVariants as swi
use Rattle.profile.specs.Reasons.{module_reason}
use Rattle.address_map.specs.Bytes.{Bytes}
use Rattle.arm_core.specs.State.{State, register_of}
use Rattle.arm_core.specs.declared.turn.StepEnd.{StepEnd}
use Rattle.arm_core.specs.declared.turn.StepEnd.TheVariants as turn
use Rattle.profile.specs.images.Entries.{Entry, bytes_of_image}
use Rattle.os_heap.specs.Store.{Store}
use Rattle.dynamic_areas.specs.Ground.{AreaStore}
use Rattle.instances.specs.module_state.ModuleState.{ModuleState}
use Rattle.instances_table.specs.declared.parts.Handler.{Handler}
use Rattle.instances_table.specs.Lookup.{handler_of}
use Rattle.swi_dispatch_guest.specs.Refusal.{Refusal}
use Rattle.swi_dispatch_guest.specs.Refusal.TheVariants as refusal
use Rattle.swi_dispatch_guest.specs.SwiDispatchFlexCalls.{FlexMemory}
use Rattle.swi_dispatch_guest.specs.ImagePlans.{Loading, copy_asked, image_header_in, insertion_asked, instantiation_planned, load_asked, may_add, may_load, may_replace, range_asked, well_named}
use Rattle.swi_dispatch_guest.specs.ModulePlans.{clear_planned, delete_planned, may_begin_alone, may_finalise, reinit_planned, tidy_planned}
use Rattle.swi_dispatch_guest.specs.Openings.{opening_asked}
use Rattle.swi_dispatch_guest.specs.PlannerInput.{PlannerInput, string_asked}
use Rattle.swi_dispatch_guest.specs.ImageRange.{ImageRange}
use Rattle.instances.specs.Adding.{good_header, instantiation}
use Rattle.instances.specs.Plans.{clearing, deletion, reinitialisation, tidying}
use Rattle.instances.specs.Reading.{slot_meant}
use Rattle.swi_dispatch_guest.specs.SwiDispatchAnswersWords.{host_string, name_part, text_part}
use Rattle.instances_table.specs.plans.Plans.{Plan}
use Rattle.instances_table.specs.Changes.{modules_of_title}
use Rattle.instances_table.specs.Modules.{slots_of}
use Rattle.profile.specs.images.module_header.Header.{header_of}
use Rattle.rma.specs.Copies.{may_be_copied}
use Rattle.rma.specs.NewImages.{may_be_in_place}
use Rattle.profile.specs.Word.{bit_of}
use Rattle.profile.specs.ErrorNumber.TheVariants.{BadPointer, BadString, FrameLimit, ImageUnknown, SwiUnknown}
use Rattle.swi_dispatch_guest.specs.Opening.{Opening}
use Rattle.swi_dispatch_guest.specs.declared.halt.Halt.{Halt}
use Rattle.swi_dispatch_guest.specs.declared.halt.Halt.TheVariants as halt
use Rattle.swi_dispatch_guest.specs.Additions.{Planned, copied_range_planned, copy_planned, image_planned, insertion_planned, load_planned, named_load_planned, plan_alone, range_planned}
use Rattle.swi_dispatch_guest.specs.Answers.{Answer, went_on}
use Rattle.swi_dispatch_guest.specs.Calls.{call_answer, on_area_store, on_flex, on_store, on_module_state, wrote_text_after, wrote_text_at}
use Rattle.swi_dispatch_guest.specs.MachineState.{MachineState, StepOutcome, machine_area_store, setting_of}
use Rattle.swi_dispatch_guest.specs.ModuleStart.{opened_at}
use Rattle.swi_dispatch_guest.specs.Returns.{gone_back, outcome_of_halt}
use Rattle.swi_dispatch_guest.specs.Step.{outcome_of_planned, begun_alone, call_refused, outcome_of_call, called_by, outcome_of_answer, outcome_of_end, result_of_instruction, is_exit, machine_step, outcome_of_module_swi, module_entered, module_loaded, os_module_called, os_module_called_for, store_called, outcome_of_turn, unless_halted, without_x}
use Rattle.law_machine.specs.sliding.Laws.{PlansStay, PlansStayFromOutside}

abbrev Keeps : MachineState → StepOutcome → Type 0
Keeps s o = o.now.tables.plan ≡ s.tables.plan

-- how a call ends
ended_keeps_by : (s : MachineState) (x : Bool) (a : Answer) (e : Option Refusal) → Keeps s a.left → Keeps s (outcome_of_end s x a e)
ended_keeps_by s x a None kept = kept
ended_keeps_by s true a (Some (refusal.System e)) kept = kept
ended_keeps_by s true a (Some refusal.Own) kept = kept
ended_keeps_by s false a (Some e) kept = refl

ended_keeps : (s : MachineState) (x : Bool) (a : Answer) → Keeps s a.left → Keeps s (outcome_of_answer s x a)
ended_keeps s x a kept = ended_keeps_by s x a a.error kept

refused_keeps : (s : MachineState) (x : Bool) (next : ℕ) (e : ErrorNumber) → Keeps s (call_refused s x next e)
refused_keeps s true next e = refl
refused_keeps s false next e = refl

-- calls that run no module code
store_keeps : (s : MachineState) (next : ℕ) (r : Result (State × Store) Refusal) → Keeps s (went_on s next (on_store s r)).left
store_keeps s next (Ok q) = refl
store_keeps s next (Err e) = refl

area_store_keeps : (s : MachineState) (next : ℕ) (r : Result (State × AreaStore) Refusal) → Keeps s (went_on s next (on_area_store s r)).left
area_store_keeps s next (Ok q) = refl
area_store_keeps s next (Err e) = refl

module_state_keeps : (s : MachineState) (next : ℕ) (r : Result (State × ModuleState) Refusal) → Keeps s (went_on s next (on_module_state s r)).left
module_state_keeps s next (Ok q) = refl
module_state_keeps s next (Err e) = refl

flex_keeps : (s : MachineState) (next : ℕ) (r : Result (State × FlexMemory) Refusal) → Keeps s (went_on s next (on_flex s r)).left
flex_keeps s next (Ok q) = refl
flex_keeps s next (Err e) = refl

after_keeps : (s : MachineState) (next : ℕ) (o : Option (List ℕ)) → Keeps s (wrote_text_after s next o).left
after_keeps s next None = refl
after_keeps s next (Some text) = refl

at_keeps : (s : MachineState) (next at : ℕ) (o : Option (List ℕ)) → Keeps s (wrote_text_at s next at o).left
at_keeps s next at None = refl
at_keeps s next at (Some text) = refl

answer_keeps : (s : MachineState) (next number : ℕ) (name : Option SwiName) → Keeps s (call_answer s next number name).left
unfolding call_answer
answer_keeps s next number None = flex_keeps s next _
answer_keeps s next number (Some swi.WriteC) = refl
answer_keeps s next number (Some swi.WriteS) = after_keeps s next _
answer_keeps s next number (Some swi.Write0) = at_keeps s next (register_of s.cpu 0) _
answer_keeps s next number (Some swi.NewLine) = refl
answer_keeps s next number (Some swi.Exit) = flex_keeps s next _
answer_keeps s next number (Some swi.EnterOs) = refl
answer_keeps s next number (Some swi.Heap) = store_keeps s next _
answer_keeps s next number (Some swi.Module) = module_state_keeps s next _
answer_keeps s next number (Some swi.ChangeDynamicArea) = refl
answer_keeps s next number (Some swi.GenerateError) = refl
answer_keeps s next number (Some swi.ReadDynamicArea) = area_store_keeps s next _
answer_keeps s next number (Some swi.DynamicArea) = area_store_keeps s next _
answer_keeps s next number (Some swi.WriteI) = refl
answer_keeps s next number (Some swi.FlexInit) = flex_keeps s next _
answer_keeps s next number (Some swi.FlexAlloc) = flex_keeps s next _
answer_keeps s next number (Some swi.FlexFree) = flex_keeps s next _
answer_keeps s next number (Some swi.FlexSize) = flex_keeps s next _
answer_keeps s next number (Some swi.FlexExtend) = flex_keeps s next _
answer_keeps s next number (Some swi.FlexMidExtend) = flex_keeps s next _

-- refusals
abbrev IsErr : {A : Type 0} → Result A ErrorNumber → Type 0
IsErr (Ok a) = ⊥
IsErr (Err e) = Unit {0}

later_err : {A B : Type 0} (r : Result A ErrorNumber) (f : A → Result B ErrorNumber) → ((a : A) → IsErr (f a)) → IsErr (bind r f)
later_err (Ok a) f each = each a
later_err (Err e) f each = tt

first_err : {A B : Type 0} (r : Result A ErrorNumber) (f : A → Result B ErrorNumber) → IsErr r → IsErr (bind r f)
first_err (Ok a) f is = absurd is
first_err (Err e) f is = tt

finalise_err : (slots : List ℕ) (st : PlannerInput) → is_some st.plan ≡ true → IsErr (may_finalise slots st)
unfolding may_finalise
finalise_err slots st kept = rw kept tt

alone_err : (st : PlannerInput) → is_some st.plan ≡ true → IsErr (may_begin_alone st)
unfolding may_begin_alone
alone_err st kept = rw kept tt

reinit_err : (st : PlannerInput) → is_some st.plan ≡ true → IsErr (reinit_planned st)
unfolding reinit_planned
reinit_err st kept =
    let rest : List ℕ → Result Plan ErrorNumber = λ words. reinitialisation st.module_state.modules (name_part words) (text_part words) in
    later_err (string_asked st 1)
    (λ words. bind (slot_meant st.module_state.modules (name_part words)) (λ slot. bind (may_finalise (slot ∷ []) st) (λ _. rest words)))
    (λ words. later_err (slot_meant st.module_state.modules (name_part words)) (λ slot. bind (may_finalise (slot ∷ []) st) (λ _. rest words))
    (λ slot. first_err (may_finalise (slot ∷ []) st) (λ _. rest words) (finalise_err (slot ∷ []) st kept)))

delete_err : (st : PlannerInput) → is_some st.plan ≡ true → IsErr (delete_planned st)
unfolding delete_planned
delete_err st kept =
    let rest : List ℕ → Result Plan ErrorNumber = λ name. deletion st.module_state.modules name in
    later_err (string_asked st 1)
    (λ name. bind (slot_meant st.module_state.modules name) (λ slot. bind (may_finalise (slot ∷ []) st) (λ _. rest name)))
    (λ name. later_err (slot_meant st.module_state.modules name) (λ slot. bind (may_finalise (slot ∷ []) st) (λ _. rest name))
    (λ slot. first_err (may_finalise (slot ∷ []) st) (λ _. rest name) (finalise_err (slot ∷ []) st kept)))

tidy_err : (st : PlannerInput) (next : ℕ) → is_some st.plan ≡ true → IsErr (tidy_planned st next)
unfolding tidy_planned
tidy_err st next kept =
    first_err (may_begin_alone st) (λ _. let r : Result Plan ErrorNumber = Ok (tidying st.module_state.modules next) in r) (alone_err st kept)

clear_err : (st : PlannerInput) → is_some st.plan ≡ true → IsErr (clear_planned st)
unfolding clear_planned
clear_err st kept =
    first_err (may_begin_alone st) (λ _. let r : Result Plan ErrorNumber = Ok (clearing st.module_state.modules) in r) (alone_err st kept)

instantiation_err : (st : PlannerInput) → is_some st.plan ≡ true → IsErr (instantiation_planned st)
unfolding instantiation_planned
instantiation_err st kept =
    let rest : List ℕ → Result Plan ErrorNumber = λ words. instantiation st.module_state.modules (name_part words) (text_part words) in
    later_err (string_asked st 1)
    (λ words. bind (well_named (rest words)) (λ _. bind (may_finalise [] st) (λ _. rest words)))
    (λ words. later_err (well_named (rest words)) (λ _. bind (may_finalise [] st) (λ _. rest words))
    (λ u. first_err (may_finalise [] st) (λ _. rest words) (finalise_err [] st kept)))

may_load_err : (alone : Bool) (title : List ℕ) (st : PlannerInput) → is_some st.plan ≡ true → IsErr (may_load alone title st)
may_load_err true title st kept = alone_err st kept
may_load_err false title st kept = finalise_err (slots_of (modules_of_title title st.module_state.modules)) st kept

load_asked_err : (images : List Entry) (st : PlannerInput) (words : List ℕ) (alone : Bool) → is_some st.plan ≡ true
    → IsErr (load_asked images st words alone)
unfolding load_asked
load_asked_err images st words alone kept =
    let rest : List ℕ → Result Loading ErrorNumber = λ image. Ok (record { image = image; text = text_part words }) in
    later_err (ok_or (bytes_of_image images (name_part words)) ImageUnknown)
    (λ image. bind (good_header (header_of image)) (λ header. bind (may_load alone header.title.items st) (λ _. rest image)))
    (λ image. later_err (good_header (header_of image)) (λ header. bind (may_load alone header.title.items st) (λ _. rest image))
    (λ header. first_err (may_load alone header.title.items st) (λ _. rest image) (may_load_err alone header.title.items st kept)))

load_err : (images : List Entry) (s : MachineState) (words : List ℕ) (enters : Bool) → is_some s.tables.plan ≡ true
    → IsErr (load_planned images s words enters)
unfolding load_planned
load_err images s words enters kept =
    first_err (load_asked images (setting_of s) words enters) (λ l. image_planned s l.image l.text)
    (load_asked_err images (setting_of s) words enters kept)

named_err : (images : List Entry) (s : MachineState) (enters : Bool) → is_some s.tables.plan ≡ true → IsErr (named_load_planned images s enters)
named_err images s enters kept =
    later_err (string_asked (setting_of s) 1) (λ words. load_planned images s words enters) (λ words. load_err images s words enters kept)

abbrev either_err : {A : Type 0} (b : Bool) (e : ErrorNumber) (r : Result A ErrorNumber) → Result A ErrorNumber
either_err b e r = if b then Err e else r

unless_err : {A : Type 0} (b : Bool) (e : ErrorNumber) (r : Result A ErrorNumber) → IsErr r → IsErr (either_err b e r)
unless_err true e r is = tt
unless_err false e r is = is

range_err : (s : MachineState) (range : ImageRange) → is_some s.tables.plan ≡ true
    → (let r : Result ImageRange ErrorNumber = bind (may_add (setting_of s) range) (λ _. Ok range) in IsErr r)
range_err s range kept =
    let st : PlannerInput = setting_of s in
    first_err (may_add st range) (λ _. let r : Result ImageRange ErrorNumber = Ok range in r)
    (later_err (good_header (image_header_in st range.at range.len)) (λ header. may_replace header.title.items st)
    (λ header. finalise_err (slots_of (modules_of_title header.title.items st.module_state.modules)) st kept))

insertion_err : (s : MachineState) → is_some s.tables.plan ≡ true → IsErr (insertion_planned s)
unfolding insertion_planned insertion_asked
insertion_err s kept =
    let range : ImageRange = range_asked (setting_of s) in
    let given : Result ImageRange ErrorNumber = bind (may_add (setting_of s) range) (λ _. Ok range) in
    first_err (either_err (not (may_be_in_place s.store range.at range.len)) BadPointer given) (λ r. range_planned s r.at r.len)
    (unless_err (not (may_be_in_place s.store range.at range.len)) BadPointer given (range_err s range kept))

copy_err : (s : MachineState) → is_some s.tables.plan ≡ true → IsErr (copy_planned s)
unfolding copy_planned copy_asked
copy_err s kept =
    let range : ImageRange = range_asked (setting_of s) in
    let given : Result ImageRange ErrorNumber = bind (may_add (setting_of s) range) (λ _. Ok range) in
    first_err (either_err (not (may_be_copied (machine_area_store s) range.at range.len)) BadPointer given) (λ r. copied_range_planned s r.at r.len)
    (unless_err (not (may_be_copied (machine_area_store s) range.at range.len)) BadPointer given (range_err s range kept))

-- calls that would run module code
begun_keeps : (s : MachineState) (x : Bool) (next : ℕ) (enters : Bool) (r : Result Planned ErrorNumber) → IsErr r → Keeps s (outcome_of_planned s x next enters r)
unfolding outcome_of_planned
begun_keeps s x next enters (Ok w) is = absurd is
begun_keeps s x next enters (Err e) is = refused_keeps s x next e

opened_keeps : (s : MachineState) (text : List ℕ) (slot : ℕ) (o : Option ℕ) → (opened_at s text slot o).tables.plan ≡ s.tables.plan
opened_keeps s text slot None = refl
opened_keeps s text slot (Some at) = refl

entered_keeps : (s : MachineState) (x : Bool) (next : ℕ) (r : Result Opening ErrorNumber) → Keeps s (module_entered s x next r)
entered_keeps s x next (Err e) = refused_keeps s x next e
entered_keeps s x next (Ok o) = opened_keeps (gone_back s.cpu.psr s false next) o.text.items o.start.slot o.start.at

module _ (images : List Entry) (s : MachineState) (x : Bool) (next number : ℕ) (kept : is_some s.tables.plan ≡ true) where
  plain_keeps : (o : Option SwiName) → Keeps s (outcome_of_answer s x (call_answer s next number o))
  plain_keeps o = ended_keeps s x (call_answer s next number o) (answer_keeps s next number o)

  other_keeps : Keeps s (outcome_of_answer s x (call_answer s next number (Some swi.Module)))
  other_keeps = plain_keeps (Some swi.Module)

  alone_keeps : (r : Result Plan ErrorNumber) → IsErr r → Keeps s (begun_alone s x next r)
  alone_keeps r is =
      begun_keeps s x next false (bind r (λ p. let w : Result Planned ErrorNumber = Ok (plan_alone s p) in w))
      (first_err r (λ p. let w : Result Planned ErrorNumber = Ok (plan_alone s p) in w) is)

  module_keeps : (o : Option ModuleReason) → Keeps s (os_module_called_for images s x next number o)
  module_keeps None = other_keeps
  module_keeps (Some reason.Run) = begun_keeps s x next true (named_load_planned images s true) (named_err images s true kept)
  module_keeps (Some reason.Load) = begun_keeps s x next false (named_load_planned images s false) (named_err images s false kept)
  module_keeps (Some reason.Enter) = entered_keeps s x next (opening_asked (setting_of s))
  module_keeps (Some reason.Reinit) = alone_keeps (reinit_planned (setting_of s)) (reinit_err (setting_of s) kept)
  module_keeps (Some reason.Delete) = alone_keeps (delete_planned (setting_of s)) (delete_err (setting_of s) kept)
  module_keeps (Some reason.DescribeArea) = other_keeps
  module_keeps (Some reason.Claim) = other_keeps
  module_keeps (Some reason.Free) = other_keeps
  module_keeps (Some reason.Tidy) = alone_keeps (tidy_planned (setting_of s) next) (tidy_err (setting_of s) next kept)
  module_keeps (Some reason.Clear) = alone_keeps (clear_planned (setting_of s)) (clear_err (setting_of s) kept)
  module_keeps (Some reason.Insert) = begun_keeps s x next false (insertion_planned s) (insertion_err s kept)
  module_keeps (Some reason.InsertCopy) = begun_keeps s x next false (copy_planned s) (copy_err s kept)
  module_keeps (Some reason.Info) = other_keeps
  module_keeps (Some reason.Extend) = other_keeps
  module_keeps (Some reason.Instantiate) = alone_keeps (instantiation_planned (setting_of s)) (instantiation_err (setting_of s) kept)
  module_keeps (Some reason.Rename) = other_keeps
  module_keeps (Some reason.Prefer) = other_keeps
  module_keeps (Some reason.Lookup) = other_keeps

  handler_keeps : (o : Option Handler) → Keeps s (outcome_of_module_swi s x next number o)
  handler_keeps None = refused_keeps s x next SwiUnknown
  handler_keeps (Some h) = elim (cases_Bool (length s.tables.frames == 32)) [
    | inl full ↦ rw full (refused_keeps s x next FrameLimit)
    | inr room ↦ rw room refl
  ]

  named_keeps : (o : Option SwiName) → Keeps s (if is_exit o then outcome_of_halt s halt.Exit else called_by images s x next number o)
  unfolding os_module_called
  named_keeps None = handler_keeps (handler_of number s.tables.modules)
  named_keeps (Some swi.Exit) = refl
  named_keeps (Some swi.Module) = module_keeps (module_reason (register_of s.cpu 0))
  named_keeps (Some swi.WriteC) = plain_keeps (Some swi.WriteC)
  named_keeps (Some swi.WriteS) = plain_keeps (Some swi.WriteS)
  named_keeps (Some swi.Write0) = plain_keeps (Some swi.Write0)
  named_keeps (Some swi.NewLine) = plain_keeps (Some swi.NewLine)
  named_keeps (Some swi.EnterOs) = plain_keeps (Some swi.EnterOs)
  named_keeps (Some swi.Heap) = plain_keeps (Some swi.Heap)
  named_keeps (Some swi.ChangeDynamicArea) = plain_keeps (Some swi.ChangeDynamicArea)
  named_keeps (Some swi.GenerateError) = plain_keeps (Some swi.GenerateError)
  named_keeps (Some swi.ReadDynamicArea) = plain_keeps (Some swi.ReadDynamicArea)
  named_keeps (Some swi.DynamicArea) = plain_keeps (Some swi.DynamicArea)
  named_keeps (Some swi.WriteI) = plain_keeps (Some swi.WriteI)
  named_keeps (Some swi.FlexInit) = plain_keeps (Some swi.FlexInit)
  named_keeps (Some swi.FlexAlloc) = plain_keeps (Some swi.FlexAlloc)
  named_keeps (Some swi.FlexFree) = plain_keeps (Some swi.FlexFree)
  named_keeps (Some swi.FlexSize) = plain_keeps (Some swi.FlexSize)
  named_keeps (Some swi.FlexExtend) = plain_keeps (Some swi.FlexExtend)
  named_keeps (Some swi.FlexMidExtend) = plain_keeps (Some swi.FlexMidExtend)

  called_keeps : Keeps s (outcome_of_call images s x next number)
  unfolding outcome_of_call
  called_keeps = named_keeps (swi_of number)

halted_keeps : (s : MachineState) (o : Option Halt) (a : StepOutcome) → Keeps s a → Keeps s (unless_halted s o a)
halted_keeps s (Some h) a kept = refl
halted_keeps s None a kept = kept

turn_keeps : (images : List Entry) (s : MachineState) (r : Result (State × Bytes) StepEnd) → is_some s.tables.plan ≡ true
    → (r ≡ Err turn.Gate → ⊥) → Keeps s (outcome_of_turn images s r)
turn_keeps images s (Ok w) kept other = refl
turn_keeps images s (Err turn.Done) kept other = refl
turn_keeps images s (Err (turn.Swi n)) kept other = called_keeps images s (bit_of n 17) ((s.cpu.pc + 4) % 2 ^ 26) (without_x n) kept
turn_keeps images s (Err turn.Gate) kept other = absurd (other refl)
turn_keeps images s (Err (turn.Fault f)) kept other = refl

pub plans_kept : PlansStay
unfolding machine_step
plans_kept images s kept other = halted_keeps s s.halt (outcome_of_turn images s (result_of_instruction s)) (turn_keeps images s (result_of_instruction s) kept other)

pub plans_kept_outside : PlansStayFromOutside
unfolding store_called module_loaded
plans_kept_outside images s number text kept = (
  halted_keeps s s.halt (outcome_of_call images s true s.cpu.pc (without_x (number % 2 ^ 24)))
      (called_keeps images s true s.cpu.pc (without_x (number % 2 ^ 24)) kept),
  halted_keeps s s.halt (outcome_of_planned s true s.cpu.pc false (bind (ok_or (host_string text) BadString) (λ words. load_planned images s words false)))
      (begun_keeps s true s.cpu.pc false (bind (ok_or (host_string text) BadString) (λ words. load_planned images s words false))
      (later_err (ok_or (host_string text) BadString) (λ words. load_planned images s words false) (λ words. load_err images s words false kept))),
)
