-- A step that the core does by itself is no software interrupt, and so meets no stub.
use Rattle.std.proofs.Common.{◌≡◌, ◌∙◌, ℕ, Bool, true, false, List, [], ◌∷◌, Option, None, Some, Result, Ok, Err, ap, refl, sym}
use Rattle.std.specs.Prelude.{◌==◌, if◌then◌else◌}
use Rattle.profile.specs.MemoryMap.{return_gate}
use Rattle.profile.specs.Fault.{Fault}
use Rattle.law_machine.specs.Store.{owned_in}
use Rattle.law_machine.specs.Step.{executed_if_fetched, result_of_step}
use Rattle.address_map.specs.Bytes.{Bytes, word_loaded}
use Rattle.arm_core.specs.State.{State}
use Rattle.arm_core.specs.declared.turn.StepEnd.{StepEnd}
use Rattle.arm_core.specs.declared.turn.StepEnd.TheVariants as turn
use Rattle.law_machine.proofs.Silent.{done_step}
use Rattle.law_machine.specs.Halt.{Halt}
use Rattle.debug_tables.specs.MachineState.{MachineState, StepOutcome}
use Rattle.debug_tables.specs.GuestState.{TakesTurn}
use Rattle.debug_tables.specs.Step.{Turned, machine_step, result_of_instruction}
use Rattle.debug_tables.specs.State.{ScriptState}
use Rattle.debug_runs.specs.Runs.{next_step}
use Rattle.debug_tables.specs.Stubs.{StubDeedState, deed_ahead, deed_of_swi, deed_that_fits, deed_unless_empty, deed_unless_fetched, deed_unless_halted, stub_end, swi_in_turn}
use Rattle.debug_tables.specs.declared.modes.StepModes.{StepModes}
use Rattle.debug_lines.specs.Stub.{Stub}
use Rattle.debug_tables.proofs.StubLemmas.{real_steps}

abbrev pub with_stubs : List Stub → StepModes
with_stubs stubs = record { stubs = stubs; watches = [] }

no_swi_by : (s next : MachineState) (r : Result (State × Bytes) StepEnd) → Turned s r turn.Done next → swi_in_turn r ≡ None
no_swi_by s next (Ok w) h = refl
no_swi_by s next (Err e) h = ap (λ (t : StepEnd). swi_in_turn (Err t)) (sym h.0)

-- what is fetched by a step of the core's own, is fetched
no_fetch_fails : (s next : MachineState) (gate : Bool) (r : Result ℕ Fault)
    → Turned s (if gate then Err turn.Gate else executed_if_fetched (owned_in s.store) s.cpu s.store.bytes r) turn.Done next
    → deed_unless_fetched s.cpu s.store.bytes r ≡ None
no_fetch_fails s next gate (Ok word) h = refl
no_fetch_fails s next true (Err fault) h = let other = h.0 in absurd (cc)
no_fetch_fails s next false (Err fault) h = let other = h.0 in absurd (cc)

by_end : (stubs : List Stub) (s : MachineState) (at_end : Bool)
    → deed_unless_fetched s.cpu s.store.bytes (word_loaded s.store.bytes s.cpu.pc) ≡ None
    → swi_in_turn (result_of_instruction s) ≡ None
    → (if at_end then deed_unless_fetched s.cpu s.store.bytes (word_loaded s.store.bytes s.cpu.pc)
    else deed_of_swi stubs s (swi_in_turn (result_of_instruction s))) ≡ None
by_end stubs s true fetched none = fetched
by_end stubs s false fetched none = ap (deed_of_swi stubs s) none

no_deed_if : (stubs : List Stub) (o : Option Halt) → deed_unless_empty stubs (deed_unless_halted o None) ≡ None
no_deed_if [] o = refl
no_deed_if (stub ∷ others) None = refl
no_deed_if (stub ∷ others) (Some halt) = refl

no_deed : (stubs : List Stub) (s next : MachineState) → TakesTurn s turn.Done next → deed_ahead stubs s ≡ None
unfolding result_of_step
no_deed stubs s next h =
    ap (λ (deed : Option StubDeedState). deed_unless_empty stubs (deed_unless_halted s.halt (deed_that_fits s deed)))
    (by_end stubs s (s.cpu.pc == stub_end)
    (no_fetch_fails s next (s.cpu.pc == return_gate) (word_loaded s.store.bytes s.cpu.pc) h)
    (no_swi_by s next (result_of_instruction s) h))
    ∙ no_deed_if stubs s.halt

pub real_step : (stubs : List Stub) (s : ScriptState) (next : MachineState) → s.machine.halt ≡ None → TakesTurn s.machine turn.Done next
    → next_step (with_stubs stubs) s ≡ machine_step s.images s.machine
real_step stubs s next unhalted h =
    real_steps stubs s.images s.machine (no_deed stubs s.machine next h)

pub step_leads : (s : ScriptState) (next : MachineState) → s.machine.halt ≡ None → TakesTurn s.machine turn.Done next
    → next ≡ (machine_step s.images s.machine).now
step_leads s next unhalted h = sym (ap (λ (o : StepOutcome). o.now) (done_step s.images s.machine next unhalted h))
