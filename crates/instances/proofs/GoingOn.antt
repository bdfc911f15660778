-- A call goes on over changes of the modules that leave all titles, images and slots, and over
-- changes of memory that leave the records.
use Rattle.std.proofs.Common.{◌≡◌, ◌==◌, ℕ, Bool, true, false, Some, None, Ok, Err, List, [], ◌∷◌, ◌++◌, map, refl, sym, ap, subst, ◌∙◌, inl, inr, zero, suc}
use Rattle.std.specs.Prelude.{IfOk, Option, Result, if◌then◌else◌, slice_get}
use Rattle.std.specs.Str.{str_eq_ignore_ascii_case}
use Rattle.std.proofs.lemmas.Bool.{cases_Bool, false≢true}
use Rattle.instances_table.specs.Outcome.{Leaves, bind}
use Rattle.instances_table.specs.ErrorNumber.{ErrorNumber}
use Rattle.instances_table.specs.ErrorNumber.TheVariants.{InstanceExists}
use Rattle.instances_table.specs.plans.Header.{Header}
use Rattle.rma.specs.Ground.{AreaStore, IsAreaStore}
use Rattle.instances_table.specs.declared.plans.action.PlanAction.{PlanAction}
use Rattle.instances_table.specs.declared.plans.action.PlanAction.TheVariants.{Finalise, Remove, FreePrivate, Insert, Instantiate, GiveUp, Slide, Initialise}
use Rattle.instances_table.specs.declared.plans.given.Given.{Given}
use Rattle.instances_table.specs.plans.Doable.{IsDoable}
use Rattle.instances_table.specs.plans.Plans.{Plan, first_action}
use Rattle.instances_table.specs.declared.parts.Image.{Image}
use Rattle.instances_table.specs.Changes.{is_named, modules_with_names, preferring, modules_after_rename, with_name, with_names, with_preferred}
use Rattle.instances_table.specs.Lookup.{place_meant, slot_at}
use Rattle.instances_table.specs.Modules.{Instance, Module, changed_at, slots_of}
use Rattle.instances_table.specs.Names.{name_given, new_name, full_name_parts}
use Rattle.instances.specs.module_state.Sound.{IsModuleState, images_of}
use Rattle.instances.specs.module_state.ModuleState.{ModuleState}
use Rattle.instances.proofs.ModuleStateLemmas.ModuleStates.{module_state_kept, module_state_renewed}
use Rattle.instances.specs.actions.Pending.{IsSettledOnce, pending_of, slots_titled}
use Rattle.instances.specs.actions.Ready.{CanNameFirst, IsReady, instantiates}
use Rattle.instances.proofs.ActionsLemmas.Slots.{slots_in}
use Rattle.instances.specs.Turns.{IsUnderWay, MayGoOn, calls_module}

-- a module with another's title, image and slots
record IsAlike (m n : Module) : Type 0 where
  pub header : n.header ≡ m.header
  pub image : n.image ≡ m.image
  pub slots : slots_in n.instances ≡ slots_in m.instances

-- so are all of a list, one by one
pub record KeepsSlots (old new : List Module) : Type 0 where
  pub images : images_of new ≡ images_of old
  pub slots : slots_of new ≡ slots_of old
  pub titled : (title : List ℕ) → slots_titled title new ≡ slots_titled title old

alike_all : (ms : List Module) → KeepsSlots ms ms
alike_all ms = record { images = refl; slots = refl; titled = λ title. refl }

titled_by : (title : List ℕ) (h : Header) (slots rest : List ℕ) → List ℕ
titled_by title h slots rest = if str_eq_ignore_ascii_case h.title.items title then slots ++ rest else rest

alike_more : (m n : Module) (ms ns : List Module) → IsAlike m n → KeepsSlots ms ns → KeepsSlots (m ∷ ms) (n ∷ ns)
unfolding titled_by
alike_more m n ms ns one rest = record {
  images = ap (λ (i : Image). i ∷ images_of ns) one.image ∙ ap (λ (xs : List Image). m.image ∷ xs) rest.images;
  slots = ap (λ (xs : List ℕ). xs ++ slots_of ns) one.slots ∙ ap (λ (xs : List ℕ). slots_in m.instances ++ xs) rest.slots;
  titled = λ title.
      ap (λ (h : Header). titled_by title h (slots_in n.instances) (slots_titled title ns)) one.header
      ∙ ap (λ (xs : List ℕ). titled_by title m.header xs (slots_titled title ns)) one.slots
      ∙ ap (λ (xs : List ℕ). titled_by title m.header (slots_in m.instances) xs) (rest.titled title);
}

-- after a change of every module, and of one
map_alike : (change : Module → Module) (ms : List Module) → ((m : Module) → IsAlike m (change m)) → KeepsSlots ms (map change ms)
map_alike change [] same = alike_all []
map_alike change (m ∷ ms) same = alike_more m (change m) ms (map change ms) (same m) (map_alike change ms same)

changed_alike : (number : ℕ) (change : Module → Module) (ms : List Module) → ((m : Module) → IsAlike m (change m)) → KeepsSlots ms (changed_at number change ms)
changed_alike number change [] same = alike_all []
changed_alike zero change (m ∷ ms) same = alike_more m (change m) ms ms (same m) (alike_all ms)
changed_alike (suc number) change (m ∷ ms) same =
    alike_more m m ms (changed_at number change ms) (record { header = refl; image = refl; slots = refl }) (changed_alike number change ms same)

-- another name, and another preferred instance
slots_named : (slot : ℕ) (name : List ℕ) (is : List Instance) → slots_in (map (with_name slot name) is) ≡ slots_in is
slots_named slot name [] = refl
slots_named slot name (i ∷ is) = elim (cases_Bool (i.slot == slot)) [
  | inl e ↦ rw e (ap (λ (xs : List ℕ). i.slot ∷ xs) (slots_named slot name is))
  | inr e ↦ rw e (ap (λ (xs : List ℕ). i.slot ∷ xs) (slots_named slot name is))
]

named_alike : (slot : ℕ) (name : List ℕ) (ms : List Module) → KeepsSlots ms (modules_with_names slot name ms)
named_alike slot name ms =
    map_alike (with_names slot name) ms (λ m. record { header = refl; image = refl; slots = slots_named slot name m.instances })

preferred_alike : (number slot : ℕ) (ms : List Module) → KeepsSlots ms (changed_at number (with_preferred slot) ms)
preferred_alike number slot ms = changed_alike number (with_preferred slot) ms (λ m. record { header = refl; image = refl; slots = refl })

-- what a call answers that goes on with what it found
pub bound : {A B E : Type 0} (P : B → Type 0) (r : Result A E) (next : A → Result B E) → ((a : A) → IfOk (next a) P) → IfOk (bind r next) P
bound P (Ok a) next each = each a
bound P (Err e) next each = tt

unless_taken : {A E : Type 0} (P : A → Type 0) (t : Bool) (e : E) (a : A) → P a → IfOk (let r : Result A E = if t then Err e else Ok a in r) P
unless_taken P true e a is = tt
unless_taken P false e a is = is

left_alike : {E : Type 0} (old new : List Module) (r : Result (List Module) E) (u : Result (Unit {0}) E) → IfOk r (KeepsSlots old) → Leaves old r u new
    → KeepsSlots old new
left_alike old new (Ok s) (Ok u) keeps left = subst (KeepsSlots old) (sym left) keeps
left_alike old new (Err f) (Err e) keeps left = subst (KeepsSlots old) (sym left.1) (alike_all old)
left_alike old new (Ok s) (Err e) keeps left = absurd left
left_alike old new (Err f) (Ok u) keeps left = absurd left

renamed_alike : (ms : List Module) (full new : List ℕ) → IfOk (modules_after_rename ms full new) (KeepsSlots ms)
unfolding modules_after_rename
renamed_alike ms full new =
    bound (KeepsSlots ms) (name_given (full_name_parts full).name) _ (λ old.
    bound (KeepsSlots ms) (new_name new) _ (λ name.
    bound (KeepsSlots ms) (place_meant (full_name_parts full) ms) _ (λ place.
    bound (KeepsSlots ms) (slot_at ms place) _ (λ slot.
    unless_taken (KeepsSlots ms) (is_named name (slice_get ms place.number)) InstanceExists (modules_with_names slot name ms) (named_alike slot name ms)))))

preferring_alike : (ms : List Module) (full : List ℕ) → IfOk (preferring ms full) (KeepsSlots ms)
unfolding preferring
preferring_alike ms full =
    bound (KeepsSlots ms) (name_given (full_name_parts full).name) _ (λ name.
    bound (KeepsSlots ms) (place_meant (full_name_parts full) ms) _ (λ place.
    bound (KeepsSlots ms) (slot_at ms place) _ (λ slot.
    preferred_alike place.number slot ms)))

-- While module code runs the first action has it, so that no instantiation is left whose name the
-- modules must leave free.
names_none : (a : PlanAction) → calls_module (Some a) ≡ true → instantiates a ≡ false
names_none (Finalise s f) calls = refl
names_none (Remove s) calls = refl
names_none (FreePrivate s) calls = refl
names_none (Insert s) calls = refl
names_none (Instantiate s) calls = absurd (false≢true calls)
names_none GiveUp calls = refl
names_none Slide calls = refl
names_none (Initialise s) calls = refl

names_kept : (g : Given) (old new : List Module) (actions : List PlanAction) → calls_module (first_action actions) ≡ true → CanNameFirst g old actions
    → CanNameFirst g new actions
names_kept g old new [] calls names = tt
names_kept g old new (a ∷ others) calls names = (names.0, λ is. absurd (false≢true (sym (names_none a calls) ∙ is)))

ready_kept : (old new : List Module) (p : Plan) → KeepsSlots old new → calls_module (first_action p.actions) ≡ true → IsReady old p → IsReady new p
ready_kept old new p keeps calls ready = record {
  doable = subst (λ (xs : List ℕ). IsDoable xs p) (sym keeps.slots) ready.doable;
  settles = subst (λ (xs : List ℕ). IsSettledOnce xs p) (sym (keeps.titled p.given.header.title.items)) ready.settles;
  names = names_kept p.given old new p.actions calls ready.names;
  instead = ready.instead;
}

module_state_alike : (v w : ModuleState) (pending : List Image) → w.area_store ≡ v.area_store → KeepsSlots v.modules w.modules → IsModuleState v pending → IsModuleState w pending
module_state_alike v w pending same keeps module_state =
    module_state_renewed v w pending pending module_state (ap (λ (xs : List Image). xs ++ pending) keeps.images) (ap (λ (e : AreaStore). e.store.others) same)
    (subst IsAreaStore (sym same) module_state.area_store)

going_alike : (v w : ModuleState) (plan : Option Plan) → w.area_store ≡ v.area_store → KeepsSlots v.modules w.modules → MayGoOn v plan → MayGoOn w plan
going_alike v w None same keeps module_state = module_state_alike v w [] same keeps module_state
going_alike v w (Some p) same keeps going = (
  going.0,
  record {
    module_state = module_state_alike v w (pending_of p) same keeps going.1.module_state;
    ready = ready_kept v.modules w.modules p keeps (going.1.code going.0) going.1.ready;
    code = going.1.code;
  },
)

-- a call on the modules that leaves each title, image and slot
goes_on_alike : (old new : List Module) → KeepsSlots old new → (e : AreaStore) (plan : Option Plan) → MayGoOn (record { area_store = e; modules = old }) plan
    → MayGoOn (record { area_store = e; modules = new }) plan
goes_on_alike old new keeps e plan going =
    going_alike (record { area_store = e; modules = old }) (record { area_store = e; modules = new }) plan refl keeps going

pub rename_goes_on : (old new : List Module) (full name : List ℕ) (r : Result (Unit {0}) ErrorNumber) → Leaves old (modules_after_rename old full name) r new
    → (e : AreaStore) (plan : Option Plan) → MayGoOn (record { area_store = e; modules = old }) plan → MayGoOn (record { area_store = e; modules = new }) plan
rename_goes_on old new full name r left = goes_on_alike old new (left_alike old new (modules_after_rename old full name) r (renamed_alike old full name) left)

pub prefer_goes_on : (old new : List Module) (full : List ℕ) (r : Result (Unit {0}) ErrorNumber) → Leaves old (preferring old full) r new
    → (e : AreaStore) (plan : Option Plan) → MayGoOn (record { area_store = e; modules = old }) plan → MayGoOn (record { area_store = e; modules = new }) plan
prefer_goes_on old new full r left = goes_on_alike old new (left_alike old new (preferring old full) r (preferring_alike old full) left)

-- and keeps the slots
pub rename_keeps_slots : (old new : List Module) (full name : List ℕ) (r : Result (Unit {0}) ErrorNumber) → Leaves old (modules_after_rename old full name) r new
    → slots_of new ≡ slots_of old
rename_keeps_slots old new full name r left = (left_alike old new (modules_after_rename old full name) r (renamed_alike old full name) left).slots

pub prefer_keeps_slots : (old new : List Module) (full : List ℕ) (r : Result (Unit {0}) ErrorNumber) → Leaves old (preferring old full) r new
    → slots_of new ≡ slots_of old
prefer_keeps_slots old new full r left = (left_alike old new (preferring old full) r (preferring_alike old full) left).slots

-- a call on memory that leaves the records and the modules
under_way_kept : (w v : ModuleState) (p : Plan) → IsAreaStore v.area_store → v.area_store.store.others ≡ w.area_store.store.others → v.modules ≡ w.modules → IsUnderWay w p
    → IsUnderWay v p
under_way_kept w v p area_store others modules going = record {
  module_state = module_state_kept w v (pending_of p) going.module_state modules others area_store;
  ready = subst (λ (ms : List Module). IsReady ms p) (sym modules) going.ready;
  code = going.code;
}

pub may_go_on_kept : (w v : ModuleState) (plan : Option Plan) → IsAreaStore v.area_store → v.area_store.store.others ≡ w.area_store.store.others → v.modules ≡ w.modules
    → MayGoOn w plan → MayGoOn v plan
may_go_on_kept w v None area_store others modules module_state = module_state_kept w v [] module_state modules others area_store
may_go_on_kept w v (Some p) area_store others modules going = (going.0, under_way_kept w v p area_store others modules going.1)
