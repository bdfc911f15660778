-- The plans of calls are ready when they are made: their actions find what they need, and the image
-- of a new module is pending.
use Rattle.std.proofs.Common.{◌≡◌, ℕ, ◌<◌, Bool, true, false, List, [], ◌∷◌, ◌++◌, map, refl, sym, ap, subst, ◌∙◌, Some, None, Ok, Err, inl, inr, zero, suc, get_or}
use Rattle.std.specs.Prelude.{IfSome, Option, Result, if◌then◌else◌, ok_or, option_map, slice_get}
use Rattle.std.specs.List.{list_any, position}
use Rattle.std.specs.Str.{str_eq_ignore_ascii_case}
use Rattle.std.proofs.lemmas.Bool.{cases_Bool, or_left, or_right}
use Rattle.std.proofs.lemmas.List.Quantifiers.{position-Some}
use Rattle.std.proofs.lemmas.Option.{slice_get-get_or}
use Rattle.instances_table.specs.Outcome.{bind}
use Rattle.instances_table.specs.ErrorNumber.{ErrorNumber}
use Rattle.instances_table.specs.ErrorNumber.TheVariants.{InstanceExists, InstanceTableFull, ModuleNotFound}
use Rattle.arrayvec.specs.ArrayVec.{ArrayVec}
use Rattle.instances_table.specs.declared.plans.action.PlanAction.TheVariants.{Insert, Initialise}
use Rattle.instances_table.specs.declared.plans.given.Given.{Given}
use Rattle.instances_table.specs.plans.Calls.{clear_plan, delete_plan, instantiate_plan, load_plan, reinit_plan, tidy_plan}
use Rattle.instances_table.specs.plans.Doable.{without_all}
use Rattle.instances_table.specs.declared.parts.NewInstance.{NewInstance}
use Rattle.instances_table.specs.Changes.{IsRoomFor, free_slot, module_has_slot, instance_room, is_slot_held, is_named, modules_of_title, titled_otherwise}
use Rattle.instances_table.specs.declared.parts.ModuleInfo.{ModuleInfo}
use Rattle.instances_table.specs.Lookup.{number_of_title, shown_of_module}
use Rattle.instances_table.specs.Modules.{AreModules, Instance, Module, has_title, slots_of}
use Rattle.instances_table.specs.Names.{name_given, new_name, full_name_parts}
use Rattle.instances_table.proofs.Counting.{same_test}
use Rattle.instances.specs.actions.Actions.{image_given}
use Rattle.instances.specs.actions.Pending.{pending_of, slots_titled}
use Rattle.instances.specs.actions.Ready.{CanName, IsReady}
use Rattle.instances.proofs.ActionsLemmas.CallsReady.{all_go, clear_is_ready, instantiate_is_ready, load_is_ready, reinit_is_ready, tidy_is_ready}
use Rattle.instances.proofs.ActionsLemmas.Settling.{clear_none, clear_then, tidy_none}
use Rattle.instances.proofs.DoableLemmas.{clear_doable, delete_doable, instantiate_doable, load_doable, reinit_doable, tidy_doable}

-- a load's plan
same_slots : (title : List ℕ) (ms : List Module) → slots_of (modules_of_title title ms) ≡ slots_titled title ms
same_slots title [] = refl
same_slots title (m ∷ ms) = elim (cases_Bool (has_title title m)) [
  | inl is ↦ rw is (ap (λ (xs : List ℕ). map (λ (i : Instance). i.slot) m.instances ++ xs) (same_slots title ms))
  | inr other ↦ rw other (same_slots title ms)
]

pub load_ready : (given : Given) (title : List ℕ) (slot : ℕ) (ms : List Module) → given.header.title.items ≡ title → AreModules ms → slot < 64
    → is_slot_held slot (titled_otherwise title ms) ≡ false → IsReady ms (load_plan given (slots_of (modules_of_title title ms)) slot)
load_ready given title slot ms same are below free =
    let old : List ℕ = slots_of (modules_of_title title ms) in
    let none : without_all (slots_of (modules_of_title title ms)) (slots_titled given.header.title.items ms) ≡ [] =
    ap (λ (t : List ℕ). without_all (slots_of (modules_of_title title ms)) (slots_titled t ms)) same
    ∙ ap (without_all (slots_of (modules_of_title title ms))) (sym (same_slots title ms)) ∙ all_go (slots_of (modules_of_title title ms)) in
    load_is_ready given ms (slots_of (modules_of_title title ms)) slot (load_doable given title slot ms are below free) none

pub load_pending : (given : Given) (old : List ℕ) (slot : ℕ) → pending_of (load_plan given old slot) ≡ image_given given ∷ []
load_pending given old slot = rw (clear_then old (Insert slot ∷ Initialise slot ∷ [])) refl

-- the plans of calls on instances that are there
pub delete_ready : (given : Given) (slot k : ℕ) (ms : List Module) → module_has_slot slot (slice_get ms k) ≡ true → IsReady ms (delete_plan given slot)
delete_ready given slot k ms here = clear_is_ready given ms (slot ∷ []) (delete_doable given slot k ms here)

pub reinit_ready : (given : Given) (slot k : ℕ) (ms : List Module) → module_has_slot slot (slice_get ms k) ≡ true → IsReady ms (reinit_plan given slot)
reinit_ready given slot k ms here = reinit_is_ready given ms slot (reinit_doable given slot k ms here)

pub clear_ready : (given : Given) (ms : List Module) → AreModules ms → IsReady ms (clear_plan given (slots_of ms))
clear_ready given ms are = clear_is_ready given ms (slots_of ms) (clear_doable given ms are)

pub tidy_ready : (given : Given) (ms : List Module) → AreModules ms → IsReady ms (tidy_plan given (slots_of ms))
tidy_ready given ms are = tidy_is_ready given ms (slots_of ms) (tidy_doable given ms are)

pub clear_pending : (given : Given) (slots : List ℕ) → pending_of (clear_plan given slots) ≡ []
clear_pending given slots = rw (clear_none slots) refl

pub tidy_pending : (given : Given) (slots : List ℕ) → pending_of (tidy_plan given slots) ≡ []
tidy_pending given slots = rw (tidy_none slots slots) refl

-- the plans of calls on instances that are there find what they need, and have no image
pub ruleset plans_ready = (delete_ready, reinit_ready, clear_ready, clear_pending, tidy_ready, tidy_pending)

-- An instantiation finds the module of its title, whose title is the same but for the case of its
-- letters.
slot_by : (number : ℕ) (name : List ℕ) (o : Option ℕ) (new : NewInstance)
    → (let room : Result NewInstance ErrorNumber = bind (ok_or o InstanceTableFull)
    (λ slot. Ok (record { number = number; name = record { items = name }; slot = slot })) in room ≡ Ok new) → number ≡ new.number
slot_by number name None new e = absurd (let no : Err InstanceTableFull ≡ Ok new = e in cc)
slot_by number name (Some slot) new e =
    let made : NewInstance = record { number = number; name = record { items = name }; slot = slot } in
    let same : made ≡ new = cc in
    ap (λ (x : NewInstance). x.number) same

pub room_titled : (modules : List Module) (full : List ℕ) (new : NewInstance) → instance_room modules full ≡ Ok new
    → number_of_title (full_name_parts full).title modules ≡ Some new.number
unfolding instance_room
room_titled modules full new e = given (name_given (full_name_parts full).name) refl where
  found : (name : List ℕ) (o : Option ℕ) → number_of_title (full_name_parts full).title modules ≡ o
      → (let room : Result NewInstance ErrorNumber = bind (ok_or o ModuleNotFound) (λ number.
      if is_named name (slice_get modules number) then Err InstanceExists else
      bind (ok_or (free_slot modules) InstanceTableFull) (λ slot.
      Ok (record { number = number; name = record { items = name }; slot = slot }))) in room ≡ Ok new)
      → number_of_title (full_name_parts full).title modules ≡ Some new.number
  found name None is e = absurd (let no : Err ModuleNotFound ≡ Ok new = e in cc)
  found name (Some number) is e = elim (cases_Bool (is_named name (slice_get modules number))) [
    | inl taken ↦ absurd (let no : Err InstanceExists ≡ Ok new = rw taken at e in cc)
    | inr free ↦ is ∙ ap Some (slot_by number name (free_slot modules) new (let t = rw free at e in t))
  ]

  formed : (r : Result (List ℕ) ErrorNumber)
      → (let room : Result NewInstance ErrorNumber = bind r (λ name. bind (ok_or (number_of_title (full_name_parts full).title modules) ModuleNotFound) (λ number.
      if is_named name (slice_get modules number) then Err InstanceExists else
      bind (ok_or (free_slot modules) InstanceTableFull) (λ slot.
      Ok (record { number = number; name = record { items = name }; slot = slot })))) in room ≡ Ok new)
      → number_of_title (full_name_parts full).title modules ≡ Some new.number
  formed (Err f) e = absurd (let no : Err f ≡ Ok new = e in cc)
  formed (Ok name) e = found name (number_of_title (full_name_parts full).title modules) refl e

  given : (r : Result (List ℕ) ErrorNumber) → name_given (full_name_parts full).name ≡ r → number_of_title (full_name_parts full).title modules ≡ Some new.number
  given (Err f) is = absurd (let no : Err f ≡ Ok new = rw is at e in cc)
  given (Ok name) is = formed (new_name name) (let t = rw is at e in t)

-- the module there has the title
title_there : (title : List ℕ) (modules : List Module) (number : ℕ) (m : Module) → number_of_title title modules ≡ Some number
    → slice_get modules number ≡ Some m → has_title title m ≡ true
title_there title modules number m found there =
    let at = position-Some (has_title title) modules number m found in
    let both : Some (get_or modules number m) ≡ Some m = sym (slice_get-get_or modules number m at.0) ∙ there in
    let same : get_or modules number m ≡ m = cc in
    sym (ap (has_title title) same) ∙ at.1

same_number : (title : List ℕ) (modules : List Module) (number : ℕ) (m : Module) → number_of_title title modules ≡ Some number
    → slice_get modules number ≡ Some m → number_of_title m.header.title.items modules ≡ Some number
same_number title modules number m found there =
    let is : str_eq_ignore_ascii_case m.header.title.items title ≡ true = title_there title modules number m found there in
    (λ i. position (λ (x : Module). same_test m.header.title.items title x.header.title.items is i) modules) ∙ found

some_titled : (p : Module → Bool) (modules : List Module) (number : ℕ) (m : Module) → slice_get modules number ≡ Some m → p m ≡ true → list_any p modules ≡ true
some_titled p [] number m there is = absurd (let no : None ≡ Some m = there in cc)
some_titled p (x ∷ xs) zero m there is = let same : x ≡ m = cc in or_left (p x) (list_any p xs) (ap p same ∙ is)
some_titled p (x ∷ xs) (suc number) m there is = or_right (p x) (list_any p xs) (some_titled p xs number m there is)

pub can_name : (given : Given) (modules : List Module) (full : List ℕ) (new : NewInstance) (m : Module) → instance_room modules full ≡ Ok new
    → IsRoomFor new modules → slice_get modules new.number ≡ Some m → given.header.title.items ≡ m.header.title.items → given.name.items ≡ new.name.items
    → CanName given modules
can_name given modules full new m room is there title name =
    let found : number_of_title (full_name_parts full).title modules ≡ Some new.number = room_titled modules full new room in
    let number : number_of_title m.header.title.items modules ≡ Some new.number = same_number (full_name_parts full).title modules new.number m found there in
    let own : has_title m.header.title.items m ≡ true = title_there m.header.title.items modules new.number m number there in
    record {
      titled = rw title (some_titled (has_title m.header.title.items) modules new.number m there own);
      named = rw (title, name, number) is.unnamed;
    }

pub instantiate_ready : (given : Given) (modules : List Module) (full : List ℕ) (new : NewInstance) (m : Module) → instance_room modules full ≡ Ok new
    → IsRoomFor new modules → slice_get modules new.number ≡ Some m → given.header.title.items ≡ m.header.title.items → given.name.items ≡ new.name.items
    → IsReady modules (instantiate_plan given new.slot)
instantiate_ready given modules full new m room is there title name =
    instantiate_is_ready given modules new.slot (instantiate_doable given new.slot modules is.below is.free)
    (can_name given modules full new m room is there title name)

-- the same with what the table reports the module
pub instantiate_shown : (given : Given) (modules : List Module) (full : List ℕ) (new : NewInstance) (t : Option ModuleInfo) (e : ErrorNumber) (info : ModuleInfo)
    → instance_room modules full ≡ Ok new → IsRoomFor new modules → t ≡ option_map shown_of_module (slice_get modules new.number) → Ok info ≡ ok_or t e
    → given.header.title ≡ info.title → given.name ≡ new.name → IsReady modules (instantiate_plan given new.slot)
instantiate_shown given modules full new t e info room is reported ok title name = go (slice_get modules new.number) refl where
  go : (o : Option Module) → slice_get modules new.number ≡ o → IsReady modules (instantiate_plan given new.slot)
  go None none =
      let no : Ok info ≡ Err e = ok ∙ ap (λ (x : Option ModuleInfo). ok_or x e) (reported ∙ ap (option_map shown_of_module) none) in
      absurd (cc)
  go (Some m) there =
      let both : Ok info ≡ Ok (shown_of_module m) = ok ∙ ap (λ (x : Option ModuleInfo). ok_or x e) (reported ∙ ap (option_map shown_of_module) there) in
      let same : info ≡ shown_of_module m = cc in
      instantiate_ready given modules full new m room is there
      (ap (λ (n : ArrayVec ℕ). n.items) (title ∙ ap (λ (x : ModuleInfo). x.title) same)) (ap (λ (n : ArrayVec ℕ). n.items) name)

-- the slot that is found is one of the module's
pub slot_held : (ms : List Module) (k : ℕ) (o : Option ℕ) (e : ErrorNumber) (slot : ℕ) → Ok slot ≡ ok_or o e
    → IfSome o (λ s. module_has_slot s (slice_get ms k) ≡ true) → module_has_slot slot (slice_get ms k) ≡ true
slot_held ms k None e slot ok held = absurd (let no : Ok slot ≡ Err e = ok in cc)
slot_held ms k (Some s) e slot ok held =
    let both : Ok slot ≡ Ok s = ok in
    let same : slot ≡ s = cc in
    subst (λ (x : ℕ). module_has_slot x (slice_get ms k) ≡ true) (sym same) held
