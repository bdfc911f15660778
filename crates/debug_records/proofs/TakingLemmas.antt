-- What a step of the twin leaves of its machine.
use Rattle.std.proofs.Common.{◌≡◌, ◌∙◌, ℕ, List, Option, Some, None, refl, sym, ap}
use Rattle.profile.specs.images.Entries.{Entry}
use Rattle.debug_session.specs.Calls.{first_step, outside_called, step_made}
use Rattle.trace_json.specs.MachineState.{MachineState, StepOutcome}
use Rattle.debug_session.specs.Memory.{script_with_budget}
use Rattle.debug_session.specs.State.{ScriptState}
use Rattle.trace_json.specs.Step.{machine_step}
use Rattle.debug_session.specs.OutsideCall.{OutsideCall}
use Rattle.command_shell_lines.specs.declared.debug_words.stubs.Stub.{Stub}
use Rattle.debug_session.specs.Writes.{machine_with_register}
use Rattle.debug_session.specs.Routines.{script_at_routine}
use Rattle.debug_session.specs.Stubs.{StubDeedState, deed_ahead, machine_after_deed, script_after_deed, stubbed_step}
use Rattle.debug_session.proofs.StubLemmas.{deed_is_step, deed_steps, real_steps, stub_unhalted}
use Rattle.debug_records.specs.Moments.{IsSet}

pub deed_made : (stubs : List Stub) (images : List Entry) (s one after : ScriptState) (deed : Option StubDeedState) (d : StubDeedState)
    → one ≡ script_with_budget s 1 → after ≡ script_after_deed d one → deed ≡ Some d → deed ≡ deed_ahead stubs s.machine
    → after.machine ≡ (stubbed_step stubs images s.machine).now
deed_made stubs images s one after deed d budget acts is met =
    let ahead : deed_ahead stubs s.machine ≡ Some d = sym met ∙ is in
    let same : one.machine ≡ s.machine = ap (λ (x : ScriptState). x.machine) budget in
    ap (λ (x : ScriptState). x.machine) acts
    ∙ (ap (λ (x : ScriptState). x.machine) (deed_is_step d one (ap (λ (m : MachineState). m.halt) same ∙ stub_unhalted stubs s.machine d ahead))
    ∙ (ap (machine_after_deed d) same ∙ sym (ap (λ (o : StepOutcome). o.now) (deed_steps stubs images s.machine d ahead))))

pub step_taken : (stubs : List Stub) (images : List Entry) (s one after : ScriptState) (deed : Option StubDeedState)
    → one ≡ script_with_budget s 1 → after ≡ step_made one (machine_step images one.machine) → deed ≡ None → deed ≡ deed_ahead stubs s.machine
    → after.machine ≡ (stubbed_step stubs images s.machine).now
step_taken stubs images s one after deed budget steps is met =
    let same : one.machine ≡ s.machine = ap (λ (x : ScriptState). x.machine) budget in
    ap (λ (x : ScriptState). x.machine) steps
    ∙ (ap (λ (m : MachineState). (machine_step images m).now) same
    ∙ sym (ap (λ (o : StepOutcome). o.now) (real_steps stubs images s.machine (sym met ∙ is))))

pub call_made : (s one after : ScriptState) (call : OutsideCall) → one ≡ script_with_budget s 1 → after ≡ step_made one (first_step one call)
    → after.machine ≡ (outside_called s.images s.machine call).now
call_made s one after call budget steps =
    ap (λ (x : ScriptState). x.machine) steps ∙ ap (λ (x : ScriptState). (outside_called x.images x.machine call).now) budget

-- nothing was set
pub none_set : (s : MachineState) → IsSet s s
none_set s = record { store = refl; halt = refl }

pub then_set : (s t u : MachineState) → IsSet s t → IsSet t u → IsSet s u
then_set s t u h k = record { store = k.store ∙ h.store; halt = k.halt ∙ h.halt }

-- what is set by a script that has the store and the halt of another
pub set_by : (s t w : ScriptState) → t ≡ w → w.machine.store ≡ s.machine.store → w.machine.halt ≡ s.machine.halt → IsSet s.machine t.machine
set_by s t w is store halt = record {
  store = ap (λ (x : ScriptState). x.machine.store) is ∙ store;
  halt = ap (λ (x : ScriptState). x.machine.halt) is ∙ halt;
}

-- a script that stands at a routine
pub routine_set : (s t : ScriptState) (address : ℕ) → t ≡ script_at_routine s address → IsSet s.machine t.machine
unfolding machine_with_register
routine_set s t address is = set_by s t (script_at_routine s address) is refl refl
