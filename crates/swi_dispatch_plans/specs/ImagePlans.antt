-- OS_Module, the reasons that add a module or an instance: what is refused before anything is done
-- (RISC OS 3 Programmer's Reference Manual, "OS_Module", reasons 0, 1, 10, 11 and 14; which calls
-- are refused while module code is under way, and the order of the refusals, are this project's
-- own). What each does then, and what it refuses at that, stands in `instances`.
use Rattle.std.specs.Prelude.{ℕ, Bool, not, List, [], ok_or, Result, Ok, Err, if◌then◌else◌}
use Rattle.profile.specs.Outcome.{bind}
use Rattle.profile.specs.ErrorNumber.{ErrorNumber}
use Rattle.profile.specs.ErrorNumber.TheVariants.{BadPointer, BadString, ImageUnknown, ModuleNotFound}
use Rattle.os_heap.specs.Bytes.{bytes_between}
use Rattle.swi_dispatch_answers.specs.State.{register_of}
use Rattle.profile.specs.images.Entries.{Entry, bytes_of_image}
use Rattle.instances.specs.Copies.{may_be_copied}
use Rattle.instances.specs.NewImages.{may_be_in_place}
use Rattle.swi_dispatch_answers.specs.Plans.{Plan}
use Rattle.instances.specs.Changes.{modules_of_title}
use Rattle.instances.specs.Modules.{slots_of}
use Rattle.profile.specs.declared.images.module_header.fault.HeaderFault.{HeaderFault}
use Rattle.profile.specs.declared.images.module_header.header.Header.{Header}
use Rattle.profile.specs.images.module_header.Header.{header_of}
use Rattle.swi_dispatch_answers.specs.Words.{name_part, text_part}
use Rattle.instances.specs.Adding.{good_header, instantiation}
use Rattle.swi_dispatch_plans.specs.Beginning.{SparesTitle}
use Rattle.swi_dispatch_plans.specs.declared.image_plans.ImageFound.{ImageFound}
use Rattle.swi_dispatch_plans.specs.declared.image_plans.ImageRange.{ImageRange}
use Rattle.swi_dispatch_plans.specs.declared.image_plans.Load.{Load}
use Rattle.swi_dispatch_plans.specs.ModulePlans.{may_begin_alone, may_finalise}
use Rattle.swi_dispatch_plans.specs.PlannerInput.{PlannerInput, string_asked}

-- A module that is added takes the place of an older one of its title, whose instances are
-- finalised.
abbrev pub may_replace : List ℕ → PlannerInput → Result (Unit {0}) ErrorNumber
may_replace title s = may_finalise (slots_of (modules_of_title title s.module_state.modules)) s

-- A load that is to enter its module then may begin only while no module code is under way.
abbrev pub may_load : Bool → List ℕ → PlannerInput → Result (Unit {0}) ErrorNumber
may_load must_be_alone title s = if must_be_alone then may_begin_alone s else may_replace title s

-- what a load is given: the bytes of an image, and a text
pub record Loading : Type 0 where
  pub image : List ℕ
  pub text : List ℕ

abbrev pub loading_of : Result Load ErrorNumber → Result Loading ErrorNumber
loading_of (Ok load) = Ok (record { image = load.image.now; text = load.text.now })
loading_of (Err e) = Err e

-- reasons 0 and 1, run and load: a string of the name of an image and a text
unfoldable pub load_asked : List Entry → PlannerInput → List ℕ → Bool → Result Loading ErrorNumber
load_asked images s words must_be_alone =
    bind (ok_or (bytes_of_image images (name_part words)) ImageUnknown) (λ image.
    bind (good_header (header_of image)) (λ header.
    bind (may_load must_be_alone header.title.items s) (λ _.
    Ok (record { image = image; text = text_part words }))))

-- reasons 10 and 11, insert and copy: R1 has the address of the image, R2 its length
abbrev pub range_asked : PlannerInput → ImageRange
range_asked s = record { at = register_of s.cpu 1; len = register_of s.cpu 2 }

-- where an image that was found stands
abbrev pub range_found : Result ImageFound ErrorNumber → Result ImageRange ErrorNumber
range_found (Ok found) = Ok found.range
range_found (Err e) = Err e

-- the header of the image that stands in a range
abbrev pub image_header_in : PlannerInput → ℕ → ℕ → Result Header HeaderFault
image_header_in s at len = header_of (bytes_between s.module_state.area_store.store.bytes.at at len)

-- no SWI is under way of an instance of the module that it takes the place of
abbrev pub SparesRange : PlannerInput → ℕ → ℕ → Type 0
SparesRange s at len = SparesTitle s (image_header_in s at len)

-- that image may be added
abbrev pub may_add : PlannerInput → ImageRange → Result (Unit {0}) ErrorNumber
may_add s range =
    bind (good_header (image_header_in s range.at range.len)) (λ header.
    may_replace header.title.items s)

-- reason 10, insert: the image stays in place, and has to be one that may
unfoldable pub insertion_asked : PlannerInput → Result ImageRange ErrorNumber
insertion_asked s =
    let range = range_asked s in
    if not (may_be_in_place s.module_state.area_store.store range.at range.len) then Err BadPointer else
    bind (may_add s range) (λ _. Ok range)

-- reason 11, copy: the image gets a block of its own
unfoldable pub copy_asked : PlannerInput → Result ImageRange ErrorNumber
copy_asked s =
    let range = range_asked s in
    if not (may_be_copied s.module_state.area_store range.at range.len) then Err BadPointer else
    bind (may_add s range) (λ _. Ok range)

-- Reason 14, instantiate: R1 points to a full name and a text. A bad name and an unknown module are
-- refused first, but an instance that exists and a full table only where module code may run.
abbrev pub well_named : Result Plan ErrorNumber → Result (Unit {0}) ErrorNumber
well_named (Err BadString) = Err BadString
well_named (Err ModuleNotFound) = Err ModuleNotFound
well_named _ = Ok tt

unfoldable pub instantiation_planned : PlannerInput → Result Plan ErrorNumber
instantiation_planned s =
    bind (string_asked s 1) (λ words.
    let planned = instantiation s.module_state.modules (name_part words) (text_part words) in
    bind (well_named planned) (λ _.
    bind (may_finalise [] s) (λ _. planned)))
