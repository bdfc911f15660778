use Rattle.std.proofs.Common.{Bool, Some, ap, sym, ◌∙◌}
use Rattle.profile.specs.Reasons.{module_reason}
use Rattle.arm_run.specs.State.{register_of}
use Rattle.swi_dispatch_plans.specs.ImagePlans.{instantiation_planned}
use Rattle.swi_dispatch_plans.specs.ModulePlans.{clear_planned, delete_planned, reinit_planned, tidy_planned}
use Rattle.swi_dispatch_plans.specs.PlannerInput.{PlannerInput}
use Rattle.swi_dispatch_plans.specs.Call.{Call}
use Rattle.swi_dispatch_guest.specs.Additions.{copy_planned, insertion_planned, named_load_planned}
use Rattle.swi_dispatch_guest.specs.GuestState.{GuestState, state_of}
use Rattle.swi_dispatch_guest.specs.Step.{begun_alone, outcome_of_planned}
use Rattle.swi_dispatch_guest.proofs.Beginning.{os_module_by}
use Rattle.swi_dispatch_guest.proofs.guest.Guest.call_os_module.Goals as goal

pub returns-in-Some-Run : goal.returns-in-Some-Run
returns-in-Some-Run c = os_module_by _ _ _ _ _ _ _ _ (sym (c.in-Some-Run.is ∙ ap Some c.in-Some-Run.field-0-is) ∙ c.of.ensures
    ∙ ap module_reason (c.register.ensures ∙ ap (λ (p : GuestState). register_of (state_of p).cpu 0) c.self.view_is))
    c.requires.unprinted c.load_named.ensures

pub returns-in-Some-Load : goal.returns-in-Some-Load
returns-in-Some-Load c = os_module_by _ _ _ _ _ _ _ _ (sym (c.in-Some-Load.is ∙ ap Some c.in-Some-Load.field-0-is) ∙ c.of.ensures
    ∙ ap module_reason (c.register.ensures ∙ ap (λ (p : GuestState). register_of (state_of p).cpu 0) c.self.view_is))
    c.requires.unprinted (c.load_named-in-Some-Load.ensures
    ∙ ap (λ (b : Bool). outcome_of_planned (state_of c.args.self.now) c.args.call.is_x c.args.call.next b
    (named_load_planned c.args.images.now (state_of c.args.self.now) b)) (ap (λ (k : Call). k.enters) c.requires.made))

pub returns-in-Some-Enter : goal.returns-in-Some-Enter
returns-in-Some-Enter c = os_module_by _ _ _ _ _ _ _ _ (sym (c.in-Some-Enter.is ∙ ap Some c.in-Some-Enter.field-0-is) ∙ c.of.ensures
    ∙ ap module_reason (c.register.ensures ∙ ap (λ (p : GuestState). register_of (state_of p).cpu 0) c.self.view_is))
    c.requires.unprinted c.enter_module.ensures

pub returns-in-Some-Insert : goal.returns-in-Some-Insert
returns-in-Some-Insert c = os_module_by _ _ _ _ _ _ _ _ (sym (c.in-Some-Insert.is ∙ ap Some c.in-Some-Insert.field-0-is) ∙ c.of.ensures
    ∙ ap module_reason (c.register.ensures ∙ ap (λ (p : GuestState). register_of (state_of p).cpu 0) c.self.view_is))
    c.requires.unprinted (c.insert_range.ensures
    ∙ ap (λ (b : Bool). outcome_of_planned (state_of c.args.self.now) c.args.call.is_x c.args.call.next b
    (insertion_planned (state_of c.args.self.now))) (ap (λ (k : Call). k.enters) c.requires.made))

pub returns-in-Some-InsertCopy : goal.returns-in-Some-InsertCopy
returns-in-Some-InsertCopy c = os_module_by _ _ _ _ _ _ _ _ (sym (c.in-Some-InsertCopy.is ∙ ap Some c.in-Some-InsertCopy.field-0-is) ∙ c.of.ensures
    ∙ ap module_reason (c.register.ensures ∙ ap (λ (p : GuestState). register_of (state_of p).cpu 0) c.self.view_is))
    c.requires.unprinted (c.insert_copy.ensures
    ∙ ap (λ (b : Bool). outcome_of_planned (state_of c.args.self.now) c.args.call.is_x c.args.call.next b
    (copy_planned (state_of c.args.self.now))) (ap (λ (k : Call). k.enters) c.requires.made))

pub returns-in-Some-Reinit : goal.returns-in-Some-Reinit
returns-in-Some-Reinit c = os_module_by _ _ _ _ _ _ _ _ (sym (c.in-Some-Reinit.is ∙ ap Some c.in-Some-Reinit.field-0-is) ∙ c.of.ensures
    ∙ ap module_reason (c.register.ensures ∙ ap (λ (p : GuestState). register_of (state_of p).cpu 0) c.self.view_is))
    c.requires.unprinted (c.begin.ensures ∙ ap (begun_alone (state_of c.args.self.now) c.args.call.is_x c.args.call.next)
    (c.reinit-planned.ensures.value ∙ ap (λ (s : PlannerInput). reinit_planned s) c.planner.ensures))

pub returns-in-Some-Delete : goal.returns-in-Some-Delete
returns-in-Some-Delete c = os_module_by _ _ _ _ _ _ _ _ (sym (c.in-Some-Delete.is ∙ ap Some c.in-Some-Delete.field-0-is) ∙ c.of.ensures
    ∙ ap module_reason (c.register.ensures ∙ ap (λ (p : GuestState). register_of (state_of p).cpu 0) c.self.view_is))
    c.requires.unprinted (c.begin-in-Some-Delete.ensures ∙ ap (begun_alone (state_of c.args.self.now) c.args.call.is_x c.args.call.next)
    (c.delete-planned.ensures.value ∙ ap (λ (s : PlannerInput). delete_planned s) c.planner-in-Some-Delete.ensures))

pub returns-in-Some-Tidy : goal.returns-in-Some-Tidy
returns-in-Some-Tidy c = os_module_by _ _ _ _ _ _ _ _ (sym (c.in-Some-Tidy.is ∙ ap Some c.in-Some-Tidy.field-0-is) ∙ c.of.ensures
    ∙ ap module_reason (c.register.ensures ∙ ap (λ (p : GuestState). register_of (state_of p).cpu 0) c.self.view_is))
    c.requires.unprinted (c.begin-in-Some-Tidy.ensures ∙ ap (begun_alone (state_of c.args.self.now) c.args.call.is_x c.args.call.next)
    (c.tidy-planned.ensures.value ∙ ap (λ (s : PlannerInput). tidy_planned s c.args.call.next) c.planner-in-Some-Tidy.ensures))

pub returns-in-Some-Clear : goal.returns-in-Some-Clear
returns-in-Some-Clear c = os_module_by _ _ _ _ _ _ _ _ (sym (c.in-Some-Clear.is ∙ ap Some c.in-Some-Clear.field-0-is) ∙ c.of.ensures
    ∙ ap module_reason (c.register.ensures ∙ ap (λ (p : GuestState). register_of (state_of p).cpu 0) c.self.view_is))
    c.requires.unprinted (c.begin-in-Some-Clear.ensures ∙ ap (begun_alone (state_of c.args.self.now) c.args.call.is_x c.args.call.next)
    (c.clear-planned.ensures.value ∙ ap (λ (s : PlannerInput). clear_planned s) c.planner-in-Some-Clear.ensures))

pub returns-in-Some-Instantiate : goal.returns-in-Some-Instantiate
returns-in-Some-Instantiate c = os_module_by _ _ _ _ _ _ _ _ (sym (c.in-Some-Instantiate.is ∙ ap Some c.in-Some-Instantiate.field-0-is) ∙ c.of.ensures
    ∙ ap module_reason (c.register.ensures ∙ ap (λ (p : GuestState). register_of (state_of p).cpu 0) c.self.view_is))
    c.requires.unprinted (c.begin-in-Some-Instantiate.ensures ∙ ap (begun_alone (state_of c.args.self.now) c.args.call.is_x c.args.call.next)
    (c.instantiation-planned.ensures.value ∙ ap (λ (s : PlannerInput). instantiation_planned s) c.planner-in-Some-Instantiate.ensures))
