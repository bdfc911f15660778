-- OS_Module, the reasons that look up instances, name them and prefer them: 12, 15, 16 and 18 (RISC
-- OS 3 Programmer's Reference Manual, "OS_Module"). Strings are read first of all; a name is the
-- whole string.
use Rattle.std.specs.Prelude.{Result, Ok, List, ℕ}
use Rattle.profile.specs.Outcome.{bind}
use Rattle.profile.specs.ErrorNumber.{ErrorNumber}
use Rattle.swi_dispatch_answers.specs.State.{State, register_of, with_register}
use Rattle.swi_dispatch_answers.specs.declared.refusal.Refusal.{Refusal}
use Rattle.swi_dispatch_answers.specs.Refusals.{or_error}
use Rattle.swi_dispatch_answers.specs.Strings.{string_in}
use Rattle.instances.specs.declared.answers.Found.{Found}
use Rattle.instances.specs.declared.answers.Reported.{Reported}
use Rattle.instances.specs.Reading.{instance_looked_up, instance_info}
use Rattle.instances.specs.module_state.ModuleState.{ModuleState}
use Rattle.instances.specs.InstancesTablePlace.{Place}
use Rattle.instances.specs.Changes.{preferring, modules_after_rename}

-- reason 12, information: R1 and R2 have the numbers of a module and of an instance, and those of
-- the next instance then; R3 the address of the image, and R4 the value of the private word
abbrev pub place_asked : State → Place
place_asked cpu = record { number = register_of cpu 1; instance = register_of cpu 2 }

abbrev pub with_shown : State → Reported → State
with_shown cpu t =
    with_register (with_register
    (with_register (with_register cpu 1 t.next.number) 2 t.next.instance) 3 t.image) 4 t.word

abbrev pub instance_shown : State → ModuleState → Result (State × ModuleState) Refusal
instance_shown cpu w = bind (or_error (instance_info w.area_store.store.bytes.at w.modules (place_asked cpu)))
    (λ t. Ok (with_shown cpu t, w))

-- reason 15, rename: R1 points to the full name of an instance, R2 to its new name
abbrev pub named_anew : State → ModuleState → List ℕ → List ℕ → Result (State × ModuleState) ErrorNumber
named_anew cpu w full new = bind (modules_after_rename w.modules full new)
    (λ modules. Ok (cpu, record w { modules = modules }))

abbrev pub instance_renamed : State → ModuleState → Result (State × ModuleState) Refusal
instance_renamed cpu w =
    bind (or_error (string_in w.area_store.store.bytes cpu 1)) (λ full.
    bind (or_error (string_in w.area_store.store.bytes cpu 2)) (λ new. or_error (named_anew cpu w full new)))

-- reason 16, prefer: R1 points to the full name of an instance
abbrev pub made_preferred : State → ModuleState → List ℕ → Result (State × ModuleState) ErrorNumber
made_preferred cpu w full = bind (preferring w.modules full)
    (λ modules. Ok (cpu, record w { modules = modules }))

abbrev pub instance_preferred : State → ModuleState → Result (State × ModuleState) Refusal
instance_preferred cpu w =
    bind (or_error (string_in w.area_store.store.bytes cpu 1)) (λ full. or_error (made_preferred cpu w full))

-- reason 18, look up: R1 points to a name; R1 and R2 have the numbers then, R3 and R4 are as in
-- reason 12
abbrev pub with_found : State → Found → State
with_found cpu f =
    with_register (with_register
    (with_register (with_register cpu 1 f.place.number) 2 f.place.instance) 3 f.image) 4 f.word

abbrev pub looked_for : State → ModuleState → List ℕ → Result (State × ModuleState) ErrorNumber
looked_for cpu w full = bind (instance_looked_up w.area_store.store.bytes.at w.modules full)
    (λ f. Ok (with_found cpu f, w))

abbrev pub instance_found : State → ModuleState → Result (State × ModuleState) Refusal
instance_found cpu w =
    bind (or_error (string_in w.area_store.store.bytes cpu 1)) (λ full. or_error (looked_for cpu w full))
