-- What the calls answer that read of the modules and of their private words (RISC OS 3 Programmer's
-- Reference Manual, "OS_Module", reasons 2, 12 and 18).
use Rattle.std.specs.Prelude.{ℕ, ◌+◌, ◌%◌, ◌^◌, ◌==◌, List, Option, Some, None, Result, Ok, if◌then◌else◌}
use Rattle.instances_table.specs.Outcome.{bind}
use Rattle.instances_table.specs.ErrorNumber.{ErrorNumber}
use Rattle.rma.specs.Bytes.{word_at}
use Rattle.instances_table.specs.plans.Code.{private_of}
use Rattle.instances_table.specs.declared.parts.Place.{Place}
use Rattle.instances_table.specs.Modules.{Module}
use Rattle.instances_table.specs.Lookup.{information, looked_up, module_at, slot_at}
use Rattle.instances.specs.declared.answers.Found.{Found}
use Rattle.instances.specs.declared.answers.Start.{Start}
use Rattle.instances.specs.declared.answers.Reported.{Reported}

-- OS_Module 12: the place after an instance, its module's image, and the value of its private word
abbrev pub instance_info : (ℕ → ℕ) → List Module → Place → Result Reported ErrorNumber
instance_info bytes modules place =
    bind (information modules place.number place.instance) (λ i.
    bind (slot_at modules place) (λ slot.
    Ok (record { next = i.next; image = i.image; word = word_at bytes (private_of slot) })))

-- OS_Module 18: where an instance is, and the same of it
abbrev pub instance_looked_up : (ℕ → ℕ) → List Module → List ℕ → Result Found ErrorNumber
instance_looked_up bytes modules full =
    bind (looked_up modules full) (λ place.
    bind (instance_info bytes modules place) (λ t.
    Ok (record { place = place; image = t.image; word = t.word })))

-- OS_Module 2: where the module of an instance is entered, at an offset in its image, and the
-- instance's slot. A start of 0 is none.
abbrev pub start_in : Module → Option ℕ
start_in m = if m.header.start == 0 then None else Some ((m.image.at + m.header.start) % 2 ^ 32)

-- the slot of the instance that a name means
unfoldable pub slot_meant : List Module → List ℕ → Result ℕ ErrorNumber
slot_meant modules full = bind (looked_up modules full) (λ place. slot_at modules place)

unfoldable pub start_found : List Module → List ℕ → Result Start ErrorNumber
start_found modules full =
    bind (looked_up modules full) (λ place.
    bind (slot_at modules place) (λ slot.
    bind (module_at modules place.number) (λ m.
    Ok (record { at = start_in m; slot = slot }))))
