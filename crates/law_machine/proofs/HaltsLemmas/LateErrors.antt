-- What the calls leave that may err after they did something, where they are refused.
use Rattle.std.proofs.Common.{ℕ, Bool, true, false, ◌≡◌, List, Option, Some, None, Result, Ok, Err, refl, sym, subst}
use Rattle.std.specs.Prelude.{ok_or, option_map}
use Rattle.profile.specs.Outcome.{bind}
use Rattle.profile.specs.Reasons.{module_reason}
use Rattle.profile.specs.SwiNames.{swi_of}
use Rattle.profile.specs.ErrorNumber.{ErrorNumber}
use Rattle.profile.specs.ErrorNumber.TheVariants.{BadString}
use Rattle.profile.specs.declared.reason.ModuleReason.{ModuleReason}
use Rattle.profile.specs.declared.reason.ModuleReason.TheVariants as reason
use Rattle.profile.specs.declared.swi.SwiName.TheVariants as swi
use Rattle.arm_core.specs.declared.psr.Psr.{Psr}
use Rattle.arm_core.specs.State.{State, register_of}
use Rattle.profile.specs.images.Entries.{Entry}
use Rattle.instances_table.specs.plans.Plans.{Plan}
use Rattle.dynamic_areas.specs.Ground.{AreaStore}
use Rattle.dynamic_areas.specs.Areas.{find_area}
use Rattle.dynamic_areas.specs.declared.area.Area.{Area}
use Rattle.swi_dispatch_guest.specs.SwiDispatchAnswersWords.{host_string}
use Rattle.swi_dispatch_guest.specs.Refusal.TheVariants as refusal
use Rattle.swi_dispatch_guest.specs.ImagePlans.{instantiation_planned}
use Rattle.swi_dispatch_guest.specs.ModulePlans.{clear_planned, delete_planned, reinit_planned, tidy_planned}
use Rattle.swi_dispatch_guest.specs.Areas.{area_changed, change_asked, change_left}
use Rattle.swi_dispatch_guest.specs.declared.halt.Halt.{Halt}
use Rattle.swi_dispatch_guest.specs.Additions.{Planned, copy_planned, insertion_planned, load_planned, named_load_planned}
use Rattle.swi_dispatch_guest.specs.Calls.{area_changing, call_answer, with_guest}
use Rattle.swi_dispatch_guest.specs.MachineState.{MachineState, machine_area_store, silent, setting_of}
use Rattle.swi_dispatch_guest.specs.Returns.{error_answered}
use Rattle.swi_dispatch_guest.specs.Step.{outcome_of_planned, begun_alone, outcome_of_call, outcome_of_answer, outcome_of_end, module_loaded, os_module_called, os_module_called_for, unless_halted}
use Rattle.law_machine.proofs.HaltsLemmas.Refusing.{refused_as}
use Rattle.law_machine.specs.halts.LateErrors.{ErringChangesMovePages, RefusedLoadsChangeNothing, RefusedPlansChangeNothing, error_of, plan_error}
use Rattle.law_machine.specs.halts.Refusals.{IsRefusal}

-- a plan that isn't begun
begun_refused : (s : MachineState) (next : ℕ) (enters : Bool) (r : Result Planned ErrorNumber) (e : ErrorNumber) → error_of r ≡ Some e
    → IsRefusal s next (outcome_of_planned s true next enters r).now
unfolding outcome_of_planned
begun_refused s next enters (Ok w) e is = absurd (let no : None ≡ Some e = is in cc)
begun_refused s next enters (Err f) e is = refused_as s next (refusal.System f)

alone_refused : (s : MachineState) (next : ℕ) (r : Result Plan ErrorNumber) (e : ErrorNumber) → error_of r ≡ Some e
    → IsRefusal s next (begun_alone s true next r).now
unfolding outcome_of_planned
alone_refused s next (Ok p) e is = absurd (let no : None ≡ Some e = is in cc)
alone_refused s next (Err f) e is = refused_as s next (refusal.System f)

none_refused : (e : ErrorNumber) → None ≡ Some e → ⊥
none_refused e is = cc

plan_refused : (images : List Entry) (s : MachineState) (next number : ℕ) (why : Option ModuleReason) (e : ErrorNumber)
    → plan_error images s next why ≡ Some e → IsRefusal s next (os_module_called_for images s true next number why).now
plan_refused images s next number (Some reason.Run) e is = begun_refused s next true (named_load_planned images s true) e is
plan_refused images s next number (Some reason.Load) e is = begun_refused s next false (named_load_planned images s false) e is
plan_refused images s next number (Some reason.Reinit) e is = alone_refused s next (reinit_planned (setting_of s)) e is
plan_refused images s next number (Some reason.Delete) e is = alone_refused s next (delete_planned (setting_of s)) e is
plan_refused images s next number (Some reason.Tidy) e is = alone_refused s next (tidy_planned (setting_of s) next) e is
plan_refused images s next number (Some reason.Clear) e is = alone_refused s next (clear_planned (setting_of s)) e is
plan_refused images s next number (Some reason.Insert) e is = begun_refused s next false (insertion_planned s) e is
plan_refused images s next number (Some reason.InsertCopy) e is = begun_refused s next false (copy_planned s) e is
plan_refused images s next number (Some reason.Instantiate) e is = alone_refused s next (instantiation_planned (setting_of s)) e is
plan_refused images s next number None e is = absurd (none_refused e is)
plan_refused images s next number (Some reason.Enter) e is = absurd (none_refused e is)
plan_refused images s next number (Some reason.DescribeArea) e is = absurd (none_refused e is)
plan_refused images s next number (Some reason.Claim) e is = absurd (none_refused e is)
plan_refused images s next number (Some reason.Free) e is = absurd (none_refused e is)
plan_refused images s next number (Some reason.Info) e is = absurd (none_refused e is)
plan_refused images s next number (Some reason.Extend) e is = absurd (none_refused e is)
plan_refused images s next number (Some reason.Rename) e is = absurd (none_refused e is)
plan_refused images s next number (Some reason.Prefer) e is = absurd (none_refused e is)
plan_refused images s next number (Some reason.Lookup) e is = absurd (none_refused e is)

pub refused_plans_change_nothing : RefusedPlansChangeNothing
unfolding outcome_of_call os_module_called
refused_plans_change_nothing images s next number e name is =
    rw name (plan_refused images s next number (module_reason (register_of s.cpu 0)) e is)

pub refused_loads_change_nothing : RefusedLoadsChangeNothing
unfolding module_loaded
refused_loads_change_nothing images s text e unhalted is =
    let plan : Result Planned ErrorNumber =
    bind (ok_or (host_string text) BadString) (λ words. load_planned images s words false) in
    subst (λ (o : Option Halt). IsRefusal s s.cpu.pc (unless_halted s o (outcome_of_planned s true s.cpu.pc false plan)).now) (sym unhalted)
    (begun_refused s s.cpu.pc false plan e is)

-- an error that comes after something was done
left_status : (cpu : State) (e : AreaStore) (found : Option Area) (bytes : ℕ) → (change_left cpu e found bytes).0.psr ≡ cpu.psr
left_status cpu e None bytes = refl
left_status cpu e (Some a) bytes = refl

late_refused : (caller : Psr) (u : MachineState) (next : ℕ) (e : ErrorNumber) → u.cpu.psr ≡ caller
    → IsRefusal u next (error_answered caller (silent u) next (refusal.System e)).now
late_refused caller u next e same =
    subst (λ (p : Psr). IsRefusal u next (error_answered p (silent u) next (refusal.System e)).now) same
    (refused_as u next (refusal.System e))

change_refused : (s : MachineState) (next : ℕ) (e : ErrorNumber) → (change_asked s.cpu (machine_area_store s)).error ≡ Some e
    → IsRefusal (with_guest s (area_changed s.cpu (machine_area_store s))) next (outcome_of_answer s true (area_changing s next)).now
change_refused s next e is =
    let u : MachineState = with_guest s (area_changed s.cpu (machine_area_store s)) in
    subst (λ (o : Option ErrorNumber). IsRefusal u next (outcome_of_end s true (area_changing s next) (option_map refusal.System o)).now) (sym is)
    (late_refused s.cpu.psr u next e (left_status s.cpu (machine_area_store s) (find_area (register_of s.cpu 0) s.tables.area_table.areas)
    (change_asked s.cpu (machine_area_store s)).bytes))

pub erring_changes_move_pages : ErringChangesMovePages
unfolding outcome_of_call call_answer
erring_changes_move_pages images s next number e name is = rw name (change_refused s next e is)
