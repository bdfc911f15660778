-- Calls that add a module or an instance (RISC OS 3 Programmer's Reference Manual, "OS_Module",
-- reasons 1, 10, 11 and 14): what each refuses, in order; what it does at once, which is to make
-- the image; and the plan of the rest. The order of the refusals, the slots, and that an image in
-- place meets nothing else that is recorded, are this project's own.
use Rattle.std.specs.Prelude.{◌≡◌, ℕ, not, List, [], length, ok_or, IfOk, MatchResult, Result, Ok, Err, if◌then◌else◌}
use Rattle.instances_table.specs.Outcome.{bind}
use Rattle.instances_table.specs.ErrorNumber.{ErrorNumber}
use Rattle.instances_table.specs.ErrorNumber.TheVariants.{BadPointer, BadString, ModuleBadHeader, InstanceTableFull}
use Rattle.rma.specs.Bytes.{bytes_between}
use Rattle.rma.specs.Memory.{mapping}
use Rattle.rma.specs.AddressMap.{AddressMap}
use Rattle.rma.specs.Kind.TheVariants as kind
use Rattle.instances_table.specs.plans.ModuleHeaderHeader.{header_of}
use Rattle.instances_table.specs.plans.HeaderFault.{HeaderFault}
use Rattle.instances_table.specs.plans.Header.{Header}
use Rattle.rma.specs.Areas.{AreaTable}
use Rattle.rma.specs.Order.{AddsRecord, KeepsOrder}
use Rattle.rma.specs.Store.{AreClasses, store_of}
use Rattle.rma.specs.Calls.{with_store}
use Rattle.rma.specs.Copies.{may_be_copied}
use Rattle.rma.specs.Places.{KeepsPlaces}
use Rattle.rma.specs.flex_frame.Keeping.{KeepsFlex}
use Rattle.rma.specs.NewImages.{image_copied, image_made, may_be_in_place, with_image_in_place}
use Rattle.instances_table.specs.plans.Calls.{instantiate_plan, load_plan}
use Rattle.instances_table.specs.plans.Plans.{Plan}
use Rattle.instances_table.specs.declared.parts.Image.{Image}
use Rattle.instances_table.specs.Modules.{Module, slots_of}
use Rattle.instances_table.specs.Changes.{free_slot_for, instance_room, modules_of_title}
use Rattle.instances_table.specs.Lookup.{module_at}
use Rattle.instances.specs.actions.Pending.{pending_of}
use Rattle.instances.specs.module_state.Sound.{IsModuleState}
use Rattle.instances.specs.module_state.ModuleState.{ModuleState, module_state_of}
use Rattle.instances.specs.Given.{given_instance, given_module, is_text_too_long}

-- Reason 14: a new instance of a module that is there, with its name, and a text, which has to be
-- one that can be kept
unfoldable pub instantiation : List Module → List ℕ → List ℕ → Result Plan ErrorNumber
instantiation modules full text =
    if is_text_too_long text then Err BadString else
    bind (instance_room modules full) (λ new.
    bind (module_at modules new.number) (λ m.
    Ok (instantiate_plan (given_instance m.header.title new text) new.slot)))

-- the header of an image, which has to be a good one
abbrev pub good_header : Result Header HeaderFault → Result Header ErrorNumber
good_header (Ok header) = Ok header
good_header (Err fault) = Err ModuleBadHeader

-- A new module takes the slots of an older one of its title as free ones, since the instances of
-- that go first.
abbrev pub slot_for : List Module → Header → Result ℕ ErrorNumber
slot_for modules header = ok_or (free_slot_for header.title.items modules) InstanceTableFull

abbrev pub adding_plan : List Module → Header → Image → List ℕ → ℕ → Plan
adding_plan modules header image text slot = load_plan (given_module header image text)
    (slots_of (modules_of_title header.title.items modules)) slot

-- Reason 1: an image that is given, with a text that can be kept, gets a block of the module area.
unfoldable pub loading : ModuleState → List ℕ → List ℕ → Result (ModuleState × Plan) ErrorNumber
loading w image text =
    if is_text_too_long text then Err BadString else
    bind (good_header (header_of image)) (λ header.
    bind (slot_for w.modules header) (λ slot.
    bind (image_made w.area_store image) (λ made.
    let placed : Image = record { at = made.1; len = length image } in
    Ok (record w { area_store = made.0 }, adding_plan w.modules header placed text slot))))

-- Reason 10: an image in place keeps its bytes.
unfoldable pub inserting : ModuleState → ℕ → ℕ → Result (ModuleState × Plan) ErrorNumber
inserting w at len =
    if not (may_be_in_place w.area_store.store at len) then Err BadPointer else
    bind (good_header (header_of (bytes_between w.area_store.store.bytes.at at len))) (λ header.
    bind (slot_for w.modules header) (λ slot.
    let placed : Image = record { at = at; len = len } in
    Ok (
      record w { area_store = with_store w.area_store (with_image_in_place w.area_store.store at len) },
      adding_plan w.modules header placed [] slot,
    )))

-- Reason 11: of an image that stands in memory the module area gets a copy.
unfoldable pub copying : ModuleState → ℕ → ℕ → Result (ModuleState × Plan) ErrorNumber
copying w at len =
    if not (may_be_copied w.area_store at len) then Err BadPointer else
    bind (good_header (header_of (bytes_between w.area_store.store.bytes.at at len))) (λ header.
    bind (slot_for w.modules header) (λ slot.
    bind (image_copied w.area_store at len) (λ made.
    let placed : Image = record { at = made.1; len = len } in
    Ok (record w { area_store = made.0 }, adding_plan w.modules header placed [] slot))))

-- The record of the new image, which begins at an address, comes after all others, and each of
-- these stands where it stood.
abbrev pub AddsImage : AddressMap → AddressMap → ℕ → Type 0
AddsImage m n at = AddsRecord m n kind.Image at

-- What such a call keeps where the image stays where it stands: the module state is sound, with the
-- image pending, all that is mapped stays where it is, and no record but the image's comes or goes.
pub record AddsInPlace (old new : AddressMap) (l : AreaTable) (modules : List Module)
    (result : Result Plan ErrorNumber) : Type 0 where
  pub sound : IfOk result (λ plan. IsModuleState (module_state_of new l modules) (pending_of plan))
  pub classes : AreClasses new
  pub mapping : mapping new ≡ mapping old
  pub order : MatchResult result (λ plan. AddsImage old new plan.given.image) (λ _. KeepsOrder old new)
  pub flex : KeepsFlex (store_of old) (store_of new)

-- The same where the image gets a block: the module area may grow, and what was mapped before lies
-- where it lay.
pub record AddsInBlock (old new : AddressMap) (before after : AreaTable) (modules : List Module)
    (result : Result Plan ErrorNumber) : Type 0 where
  pub sound : IfOk result (λ plan. IsModuleState (module_state_of new after modules) (pending_of plan))
  pub classes : AreClasses new
  pub order : MatchResult result (λ plan. AddsImage old new plan.given.image) (λ _. KeepsOrder old new)
  pub places : KeepsPlaces old new
  pub flex : KeepsFlex (store_of old) (store_of new)
  pub sizes : after.sizes ≡ before.sizes
