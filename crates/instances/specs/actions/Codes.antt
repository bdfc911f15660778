-- The code that an action of a plan runs (RISC OS 3 Programmer's Reference Manual, "Modules",
-- "Initialisation entry point", "Finalisation entry point"). An action of a slot that no instance
-- has runs none.
use Rattle.instances_table.specs.MemoryMap.{environment_text_start}
use Rattle.std.specs.Prelude.{ℕ, Bool, true, false, ◌+◌, ◌%◌, ◌^◌, ◌==◌, List, Option, Some, None, slice_get, if◌then◌else◌}
use Rattle.instances_table.specs.plans.Header.{Header}
use Rattle.instances_table.specs.declared.plans.action.PlanAction.{PlanAction}
use Rattle.instances_table.specs.declared.plans.action.PlanAction.TheVariants as act
use Rattle.instances_table.specs.declared.plans.code.Code.{Code}
use Rattle.instances_table.specs.declared.plans.code.CodeKind.{CodeKind}
use Rattle.instances_table.specs.declared.plans.code.CodeKind.TheVariants as kind
use Rattle.instances_table.specs.plans.Code.{private_of}
use Rattle.instances_table.specs.declared.parts.Place.{Place}
use Rattle.instances_table.specs.Modules.{Module}
use Rattle.instances_table.specs.Lookup.{place_of_slot}

-- The code of an action, if its entry isn't 0. R10 is the text's address, or at a finalisation 1
-- where it is fatal, else 0; R11 the number of the instance; R12 the address of its private word.
abbrev pub code_at : CodeKind → ℕ → ℕ → ℕ → ℕ → Module → Option Code
code_at kind slot entry r10 number m =
    if entry == 0 then None
    else Some (record {
      kind = kind;
      slot = slot;
      at = (m.image.at + entry) % 2 ^ 32;
      r10 = r10;
      r11 = number;
      r12 = private_of slot;
    })

abbrev pub fatal_word : Bool → ℕ
fatal_word true = 1
fatal_word false = 0

abbrev pub entry_offset : CodeKind → Header → ℕ
entry_offset kind.Initialise header = header.initialise
entry_offset kind.Finalise header = header.finalise

abbrev pub entered_in : CodeKind → ℕ → ℕ → ℕ → Option Module → Option Code
entered_in kind slot r10 number None = None
entered_in kind slot r10 number (Some m) = code_at kind slot (entry_offset kind m.header) r10 number m

abbrev pub entered_at : CodeKind → ℕ → ℕ → List Module → Option Place → Option Code
entered_at kind slot r10 modules None = None
entered_at kind slot r10 modules (Some place) = entered_in kind slot r10 place.instance
    (slice_get modules place.number)

abbrev pub code_to_enter : CodeKind → ℕ → ℕ → List Module → Option Code
code_to_enter kind slot r10 modules = entered_at kind slot r10 modules (place_of_slot slot modules)

unfoldable pub code_among : List Module → PlanAction → Option Code
code_among modules (act.Finalise slot fatal) = code_to_enter kind.Finalise slot (fatal_word fatal) modules
code_among modules (act.Initialise slot) = code_to_enter kind.Initialise slot environment_text_start modules
code_among modules _ = None
