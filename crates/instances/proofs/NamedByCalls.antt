-- Which instances the plans of calls name: one that is deleted or initialised again, that one
-- alone; one that adds a module, those of its title.
use Rattle.std.proofs.Common.{◌≡◌, ℕ, ◌==◌, Bool, true, false, Ok, Err, IfOk, List, [], ◌∷◌, ◌++◌, refl, sym, ap, subst, ◌∙◌, inl, inr}
use Rattle.std.specs.Prelude.{Result, if◌then◌else◌, length, not}
use Rattle.std.proofs.lemmas.Bool.{cases_Bool, eqb-true, false≢true, or_parts}
use Rattle.instances_table.specs.Outcome.{Gives, bind}
use Rattle.instances_table.specs.ErrorNumber.{ErrorNumber}
use Rattle.instances_table.specs.ErrorNumber.TheVariants.{BadPointer, BadString}
use Rattle.rma.specs.Bytes.{bytes_between}
use Rattle.instances_table.specs.plans.HeaderFault.{HeaderFault}
use Rattle.instances_table.specs.plans.Header.{Header}
use Rattle.instances_table.specs.plans.ModuleHeaderHeader.{header_of}
use Rattle.rma.specs.Calls.{with_store}
use Rattle.rma.specs.Copies.{may_be_copied}
use Rattle.rma.specs.NewImages.{image_copied, image_made, may_be_in_place, with_image_in_place}
use Rattle.instances_table.specs.declared.plans.action.PlanAction.{PlanAction}
use Rattle.instances_table.specs.declared.plans.action.PlanAction.TheVariants.{GiveUp, Initialise, Insert}
use Rattle.instances_table.specs.plans.Calls.{clear_actions, delete_plan, reinit_plan}
use Rattle.instances_table.specs.plans.Doable.{CanDo, IsDoable, is_used, without, without_all}
use Rattle.instances_table.specs.plans.Plans.{Plan}
use Rattle.instances_table.specs.declared.parts.Image.{Image}
use Rattle.instances_table.specs.declared.parts.Place.{Place}
use Rattle.instances_table.specs.Changes.{instance_room, modules_of_title}
use Rattle.instances_table.specs.Lookup.{looked_up, module_at, slot_at}
use Rattle.instances_table.specs.Modules.{Module, slots_of}
use Rattle.instances.specs.module_state.ModuleState.{ModuleState}
use Rattle.instances.specs.actions.Ready.{IsReady}
use Rattle.instances.proofs.ActionsLemmas.Used.{others_stay}
use Rattle.instances.specs.Adding.{adding_plan, copying, good_header, inserting, instantiation, loading, slot_for}
use Rattle.instances.specs.Given.{given_only, is_text_too_long}
use Rattle.instances.specs.Naming.{NamesOnly, NamesTitled, slots_of_actions}
use Rattle.instances.specs.Plans.{deletion, reinitialisation}
use Rattle.instances.specs.Reading.{slot_meant}
use Rattle.instances.proofs.GoingOn.{bound}
use Rattle.instances.proofs.Naming.{apart_from}

-- a slot that isn't used is none that is
pub apart_used : (s slot : ℕ) (used : List ℕ) → is_used s used ≡ true → is_used slot used ≡ false → (slot == s) ≡ false
apart_used s slot used there free = elim (cases_Bool (slot == s)) [
  | inl e ↦ absurd (false≢true (sym free ∙ ap (λ (x : ℕ). is_used x used) (eqb-true slot s e) ∙ there))
  | inr e ↦ e
]

-- an instance that is there stays so while others go
still_there : (s : ℕ) (old used : List ℕ) → is_used s old ≡ false → is_used s used ≡ true → is_used s (without_all old used) ≡ true
still_there s [] used none there = there
still_there s (o ∷ os) used none there =
    let parts = or_parts (o == s) (is_used s os) none in
    still_there s os (without o used) parts.1 (others_stay o s used parts.0 ∙ there)

-- a plan that clears some slots, and then adds an instance in another that is free by then
added_free : (used old : List ℕ) (instead : List PlanAction) (slot : ℕ) → CanDo used instead (clear_actions old ++ Insert slot ∷ Initialise slot ∷ [])
    → is_used slot (without_all old used) ≡ false
added_free used [] instead slot can = can.0
added_free used (o ∷ os) instead slot can = added_free (without o used) os instead slot can.1.1.1

none_cleared : (s : ℕ) (old : List ℕ) (others : List PlanAction) → is_used s old ≡ false → is_used s (slots_of_actions others) ≡ false
    → is_used s (slots_of_actions (clear_actions old ++ others)) ≡ false
none_cleared s [] others none rest = rest
none_cleared s (o ∷ os) others none rest =
    let parts = or_parts (o == s) (is_used s os) none in
    rw parts.0 (none_cleared s os others parts.1 rest)

without_end : (xs : List ℕ) → xs ++ [] ≡ xs
without_end [] = refl
without_end (x ∷ xs) = ap (λ (ys : List ℕ). x ∷ ys) (without_end xs)

adding_names : (ms : List Module) (header : Header) (image : Image) (text : List ℕ) (slot : ℕ)
    → IsDoable (slots_of ms) (adding_plan ms header image text slot)
    → NamesOnly (slots_of (modules_of_title header.title.items ms)) ms (adding_plan ms header image text slot)
adding_names ms header image text slot can s there none =
    let old = slots_of (modules_of_title header.title.items ms) in
    let apart : (slot == s) ≡ false =
    apart_used s slot (without_all old (slots_of ms)) (still_there s old (slots_of ms) none there) (added_free (slots_of ms) old (GiveUp ∷ []) slot can) in
    ap (is_used s) (without_end (slots_of_actions (clear_actions old ++ Insert slot ∷ Initialise slot ∷ [])))
    ∙ none_cleared s old (Insert slot ∷ Initialise slot ∷ []) none (rw apart refl)

-- where a call is refused, nothing is named
unless : {A : Type 0} (P : A → Type 0) (t : Bool) (e : ErrorNumber) (r : Result A ErrorNumber) → IfOk r P → IfOk (if t then Err e else r) P
unless P true e r all = tt
unless P false e r all = all

-- reasons 1, 10 and 11, by the header of the image
abbrev pub ReadyTitled : List Module → Result Header HeaderFault → ModuleState × Plan → Type 0
ReadyTitled ms h r = IsReady ms r.1 → NamesTitled ms r.1 h

pub loading_names : (w : ModuleState) (image text : List ℕ) → IfOk (loading w image text) (ReadyTitled w.modules (header_of image))
unfolding loading
loading_names w image text =
    unless (ReadyTitled w.modules (header_of image)) (is_text_too_long text) BadString _ (by (header_of image)) where
      by : (h : Result Header HeaderFault) → IfOk (bind (good_header h) (λ header.
          bind (slot_for w.modules header) (λ slot.
          bind (image_made w.area_store image) (λ made.
          let placed : Image = record { at = made.1; len = length image } in
          let r : Result (ModuleState × Plan) ErrorNumber = Ok (record w { area_store = made.0 }, adding_plan w.modules header placed text slot) in r)))) (ReadyTitled w.modules h)
      by (Err fault) = tt
      by (Ok header) =
          bound (ReadyTitled w.modules (Ok header)) (slot_for w.modules header) _ (λ slot.
          bound (ReadyTitled w.modules (Ok header)) (image_made w.area_store image) _ (λ made ready.
          adding_names w.modules header (record { at = made.1; len = length image }) text slot ready.doable))

-- so of the plan that such a call gives
pub named_given : (ms : List Module) (h : Result Header HeaderFault) (old new : ModuleState) (r : Result (ModuleState × Plan) ErrorNumber) (p : Plan)
    → IfOk r (ReadyTitled ms h) → Gives old r (Ok p) new → IsReady ms p → NamesTitled ms p h
named_given ms h old new (Ok r) p names gives ready =
    subst (λ (q : Plan). NamesTitled ms q h) (sym gives.1) (names (subst (IsReady ms) gives.1 ready))
named_given ms h old new (Err e) p names gives ready = absurd gives

pub copying_names : (w : ModuleState) (at len : ℕ) → IfOk (copying w at len) (ReadyTitled w.modules (header_of (bytes_between w.area_store.store.bytes.at at len)))
unfolding copying
copying_names w at len =
    unless (ReadyTitled w.modules (header_of (bytes_between w.area_store.store.bytes.at at len))) (not (may_be_copied w.area_store at len)) BadPointer _
    (by (header_of (bytes_between w.area_store.store.bytes.at at len)))
  where
    by : (h : Result Header HeaderFault) → IfOk (bind (good_header h) (λ header.
        bind (slot_for w.modules header) (λ slot.
        bind (image_copied w.area_store at len) (λ made.
        let placed : Image = record { at = made.1; len = len } in
        let r : Result (ModuleState × Plan) ErrorNumber = Ok (record w { area_store = made.0 }, adding_plan w.modules header placed [] slot) in r)))) (ReadyTitled w.modules h)
    by (Err fault) = tt
    by (Ok header) =
        bound (ReadyTitled w.modules (Ok header)) (slot_for w.modules header) _ (λ slot.
        bound (ReadyTitled w.modules (Ok header)) (image_copied w.area_store at len) _ (λ made ready.
        adding_names w.modules header (record { at = made.1; len = len }) [] slot ready.doable))

pub inserting_names : (w : ModuleState) (at len : ℕ) → IfOk (inserting w at len) (ReadyTitled w.modules (header_of (bytes_between w.area_store.store.bytes.at at len)))
unfolding inserting
inserting_names w at len =
    unless (ReadyTitled w.modules (header_of (bytes_between w.area_store.store.bytes.at at len))) (not (may_be_in_place w.area_store.store at len)) BadPointer _
    (by (header_of (bytes_between w.area_store.store.bytes.at at len)))
  where
    by : (h : Result Header HeaderFault) → IfOk (bind (good_header h) (λ header.
        bind (slot_for w.modules header) (λ slot.
        let placed : Image = record { at = at; len = len } in
        let r : Result (ModuleState × Plan) ErrorNumber =
        Ok (record w { area_store = with_store w.area_store (with_image_in_place w.area_store.store at len) }, adding_plan w.modules header placed [] slot) in r)))
        (ReadyTitled w.modules h)
    by (Err fault) = tt
    by (Ok header) =
        bound (ReadyTitled w.modules (Ok header)) (slot_for w.modules header) _ (λ slot ready.
        adding_names w.modules header (record { at = at; len = len }) [] slot ready.doable)

-- reasons 3 and 4: the instance that the name means
abbrev pub NamesOne : List Module → Result Plan ErrorNumber → ℕ → Type 0
NamesOne ms r slot = IfOk r (NamesOnly (slot ∷ []) ms)

pub deletion_names : (ms : List Module) (full : List ℕ) → IfOk (slot_meant ms full) (NamesOne ms (deletion ms full))
unfolding deletion slot_meant
deletion_names ms full = by (looked_up ms full) where
  at : (r : Result ℕ ErrorNumber) → IfOk r (NamesOne ms (bind r (λ slot. Ok (delete_plan (given_only [] 0) slot))))
  at (Err e) = tt
  at (Ok slot) = λ s there none. rw (apart_from s slot none) refl

  by : (r : Result Place ErrorNumber)
      → IfOk (bind r (λ place. slot_at ms place)) (NamesOne ms (bind r (λ place. bind (slot_at ms place) (λ slot. Ok (delete_plan (given_only [] 0) slot)))))
  by (Err e) = tt
  by (Ok place) = at (slot_at ms place)

pub reinitialisation_names : (ms : List Module) (full text : List ℕ) → IfOk (slot_meant ms full) (NamesOne ms (reinitialisation ms full text))
unfolding reinitialisation slot_meant
reinitialisation_names ms full text = kept (is_text_too_long text) (bind (looked_up ms full) (λ place. slot_at ms place)) _ (by (looked_up ms full)) where
  kept : (t : Bool) (meant : Result ℕ ErrorNumber) (r : Result Plan ErrorNumber) → IfOk meant (NamesOne ms r)
      → IfOk meant (NamesOne ms (if t then Err BadString else r))
  kept t (Err e) r names = tt
  kept true (Ok slot) r names = tt
  kept false (Ok slot) r names = names

  at : (r : Result ℕ ErrorNumber) → IfOk r (NamesOne ms (bind r (λ slot. Ok (reinit_plan (given_only text 0) slot))))
  at (Err e) = tt
  at (Ok slot) = λ s there none. rw (apart_from s slot none) refl

  by : (r : Result Place ErrorNumber)
      → IfOk (bind r (λ place. slot_at ms place)) (NamesOne ms (bind r (λ place. bind (slot_at ms place) (λ slot. Ok (reinit_plan (given_only text 0) slot)))))
  by (Err e) = tt
  by (Ok place) = at (slot_at ms place)

-- reason 14: none that is there
abbrev pub NamesNone : List Module → Plan → Type 0
NamesNone ms p = IsReady ms p → NamesOnly [] ms p

pub instantiation_names : (ms : List Module) (full text : List ℕ) → IfOk (instantiation ms full text) (NamesNone ms)
unfolding instantiation
instantiation_names ms full text =
    unless (NamesNone ms) (is_text_too_long text) BadString _
    (bound (NamesNone ms) (instance_room ms full) _ (λ new.
    bound (NamesNone ms) (module_at ms new.number) _ (λ m ready s there none.
    rw (apart_used s new.slot (slots_of ms) there ready.doable.0) refl)))
