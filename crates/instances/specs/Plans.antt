-- The plans of the calls on instances that are there (RISC OS 3 Programmer's Reference Manual,
-- "OS_Module", reasons 3, 4, 8 and 9).
use Rattle.std.specs.Prelude.{ℕ, List, [], Result, Ok, Err, if◌then◌else◌}
use Rattle.instances_table.specs.Outcome.{bind}
use Rattle.instances_table.specs.ErrorNumber.{ErrorNumber}
use Rattle.instances_table.specs.ErrorNumber.TheVariants.{BadString}
use Rattle.instances_table.specs.plans.Calls.{delete_plan, clear_plan, reinit_plan, tidy_plan}
use Rattle.instances_table.specs.plans.Plans.{Plan}
use Rattle.instances_table.specs.Modules.{Module, slots_of}
use Rattle.instances_table.specs.Lookup.{looked_up, slot_at}
use Rattle.instances.specs.Given.{given_only, is_text_too_long}

-- the instance that a name means goes
unfoldable pub deletion : List Module → List ℕ → Result Plan ErrorNumber
deletion modules full =
    bind (looked_up modules full) (λ place.
    bind (slot_at modules place) (λ slot.
    Ok (delete_plan (given_only [] 0) slot)))

-- or is finalised and initialised again, with a text that can be kept
unfoldable pub reinitialisation : List Module → List ℕ → List ℕ → Result Plan ErrorNumber
reinitialisation modules full text =
    if is_text_too_long text then Err BadString else
    bind (looked_up modules full) (λ place.
    bind (slot_at modules place) (λ slot.
    Ok (reinit_plan (given_only text 0) slot)))

-- all instances go, or the module area is tidied between their finalisations and initialisations
abbrev pub clearing : List Module → Plan
clearing modules = clear_plan (given_only [] 0) (slots_of modules)

abbrev pub tidying : List Module → ℕ → Plan
tidying modules return = tidy_plan (given_only [] return) (slots_of modules)
