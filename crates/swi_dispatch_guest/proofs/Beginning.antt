-- A call that does something at once, and then goes on or is refused, is the call that begins.
use Rattle.std.proofs.Common.{◌≡◌, ℕ, Bool, List, [], Option, Ok, Err, ap, subst, sym, ◌∙◌}
use Rattle.std.specs.Prelude.{OnErr, Result}
use Rattle.profile.specs.ErrorNumber.{ErrorNumber}
use Rattle.profile.specs.Reasons.{module_reason}
use Rattle.profile.specs.declared.reason.ModuleReason.{ModuleReason}
use Rattle.arm_run.specs.State.{register_of}
use Rattle.swi_dispatch_plans.specs.Entries.{Entry}
use Rattle.swi_dispatch_plans.specs.Plans.{Plan}
use Rattle.swi_dispatch_plans.specs.Call.{Call}
use Rattle.swi_dispatch_guest.specs.Additions.{Planned, Starts}
use Rattle.swi_dispatch_guest.specs.Gates.{state_after_plan}
use Rattle.swi_dispatch_guest.specs.MachineState.{MachineState, StepOutcome, outcome_with, silent}
use Rattle.swi_dispatch_guest.specs.Step.{outcome_of_planned, outcome_of_plan, call_of, call_refused, os_module_called, os_module_called_for}

begins_by : (s t : MachineState) (x : Bool) (next : ℕ) (enters : Bool) (r : Result Planned ErrorNumber)
    (ended : Result (Option Plan) ErrorNumber) → Starts s (call_of s x next enters) r ended t
    → outcome_of_plan t (call_of s x next enters) ended ≡ outcome_of_planned s x next enters r
unfolding outcome_of_planned
begins_by s t x next enters (Ok w) (Ok ended) starts = λ i. silent
    (state_after_plan (starts.0 i) (call_of s x next enters) (starts.1 i))
begins_by s t x next enters (Err e) (Err f) starts = λ i. call_refused (starts.1 i) x next (starts.0 i)
begins_by s t x next enters (Ok w) (Err f) starts = absurd starts
begins_by s t x next enters (Err e) (Ok ended) starts = absurd starts

pub begins : (s t : MachineState) (x : Bool) (next : ℕ) (enters : Bool) (r : Result Planned ErrorNumber)
    (ended : Result (Option Plan) ErrorNumber) (call : Call)
    (end : StepOutcome) → call ≡ call_of s x next enters → Starts s call r ended t → end ≡ outcome_of_plan t call ended
    → end ≡ outcome_of_planned s x next enters r
begins s t x next enters r ended call end is starts after = after ∙ ap (λ (c : Call). outcome_of_plan t c ended) is
    ∙ begins_by s t x next enters r ended (subst (λ (c : Call). Starts s c r ended t) is starts)

-- where it is refused the guest is as it was
pub stays_made : (s t : MachineState) (call : Call) (r : Result Planned ErrorNumber) (started : Result (Option Plan) ErrorNumber)
    → Starts s call r started t → call ≡ call_of s call.is_x call.next call.enters
    → OnErr started (call ≡ call_of t call.is_x call.next call.enters)
stays_made s t call r (Ok ended) starts made = tt
stays_made s t call (Err e) (Err f) starts made =
    subst (λ (u : MachineState). call ≡ call_of u call.is_x call.next call.enters) (sym starts.1) made
stays_made s t call (Ok w) (Err f) starts made = absurd starts

-- OS_Module by its reason, where nothing is printed
pub os_module_by : (images : List Entry) (s t : MachineState) (x : Bool) (next number : ℕ) (r : Option ModuleReason) (printed : List ℕ)
    → r ≡ module_reason (register_of s.cpu 0) → printed ≡ [] → silent t ≡ os_module_called_for images s x next number r
    → outcome_with t printed ≡ os_module_called images s x next number
unfolding os_module_called
os_module_by images s t x next number r printed asked unprinted after =
    ap (outcome_with t) unprinted ∙ after ∙ ap (os_module_called_for images s x next number) asked
