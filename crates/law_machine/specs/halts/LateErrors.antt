-- What the calls leave that may err after they did something, where they are refused (RISC OS 3 Programmer's Reference
-- Manual, "OS_Module" and "OS_ChangeDynamicArea"; that a call on modules is refused before it does anything, or ends with
-- the error of a module's code, is this project's own).
use Rattle.std.specs.Prelude.{ℕ, ◌≡◌, true, false, Option, Some, None, ok_or, Result, Ok, Err, List}
use Rattle.profile.specs.Outcome.{bind}
use Rattle.profile.specs.Reasons.{module_reason}
use Rattle.profile.specs.SwiNames.{swi_of}
use Rattle.profile.specs.ErrorNumber.{ErrorNumber}
use Rattle.profile.specs.ErrorNumber.TheVariants.{BadString}
use Rattle.profile.specs.declared.reason.ModuleReason.{ModuleReason}
use Rattle.profile.specs.declared.reason.ModuleReason.TheVariants as reason
use Rattle.profile.specs.declared.swi.SwiName.TheVariants as swi
use Rattle.arm_core.specs.State.{register_of}
use Rattle.profile.specs.images.Entries.{Entry}
use Rattle.swi_dispatch_guest.specs.SwiDispatchAnswersWords.{host_string}
use Rattle.swi_dispatch_guest.specs.ImagePlans.{instantiation_planned}
use Rattle.swi_dispatch_guest.specs.ModulePlans.{clear_planned, delete_planned, reinit_planned, tidy_planned}
use Rattle.swi_dispatch_guest.specs.Areas.{area_changed, change_asked}
use Rattle.swi_dispatch_guest.specs.Additions.{Planned, copy_planned, insertion_planned, load_planned, named_load_planned}
use Rattle.swi_dispatch_guest.specs.Calls.{with_guest}
use Rattle.swi_dispatch_guest.specs.MachineState.{MachineState, machine_area_store, setting_of}
use Rattle.swi_dispatch_guest.specs.Step.{outcome_of_call, module_loaded}
use Rattle.law_machine.specs.halts.Refusals.{IsRefusal}

abbrev pub error_of : {A : Type 0} → Result A ErrorNumber → Option ErrorNumber
error_of (Ok planned) = None
error_of (Err e) = Some e

-- the error with which a call on modules is refused that may run module code, by its reason
abbrev pub plan_error : List Entry → MachineState → ℕ → Option ModuleReason → Option ErrorNumber
plan_error images s next (Some reason.Run) = error_of (named_load_planned images s true)
plan_error images s next (Some reason.Load) = error_of (named_load_planned images s false)
plan_error images s next (Some reason.Reinit) = error_of (reinit_planned (setting_of s))
plan_error images s next (Some reason.Delete) = error_of (delete_planned (setting_of s))
plan_error images s next (Some reason.Tidy) = error_of (tidy_planned (setting_of s) next)
plan_error images s next (Some reason.Clear) = error_of (clear_planned (setting_of s))
plan_error images s next (Some reason.Insert) = error_of (insertion_planned s)
plan_error images s next (Some reason.InsertCopy) = error_of (copy_planned s)
plan_error images s next (Some reason.Instantiate) = error_of (instantiation_planned (setting_of s))
plan_error images s next other = None

-- Such a call that is refused so changes nothing but what each refusal shows: its plan isn't begun.
abbrev pub RefusedPlansChangeNothing : Type 0
RefusedPlansChangeNothing =
    (images : List Entry) (s : MachineState) (next number : ℕ) (e : ErrorNumber) →
    swi_of number ≡ Some swi.Module
    → plan_error images s next (module_reason (register_of s.cpu 0)) ≡ Some e
    → IsRefusal s next (outcome_of_call images s true next number).now

-- So it is with a load from outside.
abbrev pub RefusedLoadsChangeNothing : Type 0
RefusedLoadsChangeNothing =
    (images : List Entry) (s : MachineState) (text : List ℕ) (e : ErrorNumber) → s.halt ≡ None
    → error_of (bind (ok_or (host_string text) BadString) (λ words. load_planned images s words false))
    ≡ Some e
    → IsRefusal s s.cpu.pc (module_loaded images s text).now

-- OS_ChangeDynamicArea that errs has moved the pages that it could, and shown in R1 how many bytes did: of the machine with
-- that it changes nothing but what each refusal shows.
abbrev pub ErringChangesMovePages : Type 0
ErringChangesMovePages =
    (images : List Entry) (s : MachineState) (next number : ℕ) (e : ErrorNumber)
    → swi_of number ≡ Some swi.ChangeDynamicArea → (change_asked s.cpu (machine_area_store s)).error ≡ Some e
    → IsRefusal (with_guest s (area_changed s.cpu (machine_area_store s))) next
    (outcome_of_call images s true next number).now
