-- A step opens one frame at most, and closes none but from the gate, where it closes the innermost.
use Rattle.std.proofs.Common.{ℕ, zero, suc, Bool, true, false, ◌+◌, ◌-◌, ◌≤◌, ◌%◌, ◌^◌, ◌==◌, ◌&&◌, ◌≡◌, ◌≢◌, ◌⊎◌, ◌∙◌, ◌++◌, List, [], ◌∷◌, Option, Some, None, Result, Ok, Err, length, map, min, take, refl, sym, ap, subst, inl, inr, arith}
use Rattle.std.specs.Prelude.{is_none, ok_or, if◌then◌else◌}
use Rattle.std.proofs.lemmas.Bool.{cases_Bool, eq-eqb, false≢true}
use Rattle.std.proofs.lemmas.List.{append-nil, length-append, length-take-le}
use Rattle.profile.specs.MemoryMap.{return_gate}
use Rattle.profile.specs.Outcome.{bind}
use Rattle.profile.specs.SwiNames.{swi_of}
use Rattle.profile.specs.Word.{bit_of}
use Rattle.profile.specs.ErrorNumber.{ErrorNumber}
use Rattle.profile.specs.ErrorNumber.TheVariants.{BadString, FrameLimit, SwiUnknown}
use Rattle.profile.specs.Fault.TheVariants.{FetchUnmapped, StackChanged}
use Rattle.profile.specs.declared.reason.ModuleReason.{ModuleReason}
use Rattle.profile.specs.declared.reason.ModuleReason.TheVariants as reason
use Rattle.profile.specs.declared.swi.SwiName.{SwiName}
use Rattle.profile.specs.declared.swi.SwiName.TheVariants as swi
use Rattle.profile.specs.Reasons.{module_reason}
use Rattle.address_map.specs.Bytes.{Bytes}
use Rattle.arm_core.specs.State.{State, register_in, register_of}
use Rattle.arm_core.specs.declared.psr.Mode.TheVariants.{Supervisor}
use Rattle.arm_core.specs.declared.turn.StepEnd.{StepEnd}
use Rattle.arm_core.specs.declared.turn.StepEnd.TheVariants as turn
use Rattle.law_machine.specs.Step.{result_of_step}
use Rattle.profile.specs.images.Entries.{Entry}
use Rattle.instances_table.specs.declared.plans.code.Code.{Code}
use Rattle.instances_table.specs.declared.plans.given.Given.{Given}
use Rattle.instances_table.specs.declared.parts.Handler.{Handler}
use Rattle.instances_table.specs.Lookup.{handler_of}
use Rattle.instances_table.specs.plans.Carrying.{Carried}
use Rattle.instances_table.specs.plans.Plans.{Plan, plan_after_code}
use Rattle.swi_dispatch_answers.specs.Words.{host_string}
use Rattle.swi_dispatch_answers.specs.declared.refusal.Refusal.{Refusal}
use Rattle.swi_dispatch_answers.specs.declared.refusal.Refusal.TheVariants as refusal
use Rattle.swi_dispatch_answers.specs.declared.frames.call.Call.{Call}
use Rattle.swi_dispatch_answers.specs.declared.frames.frame.Frame.{Frame}
use Rattle.swi_dispatch_answers.specs.declared.frames.frame.FrameKind.{FrameKind}
use Rattle.swi_dispatch_answers.specs.declared.frames.frame.FrameKind.TheVariants as frame
use Rattle.swi_dispatch_answers.specs.frames.Frames.{frame_of, frames_after_close, innermost_frame}
use Rattle.law_machine.specs.ImagePlans.{instantiation_planned}
use Rattle.law_machine.specs.ModulePlans.{clear_planned, delete_planned, reinit_planned, tidy_planned}
use Rattle.law_machine.specs.Openings.{opening_asked}
use Rattle.law_machine.specs.Reading.{start_found}
use Rattle.law_machine.specs.Start.{Start}
use Rattle.law_machine.specs.Trials.{module_state_carried}
use Rattle.law_machine.specs.Opening.{Opening}
use Rattle.law_machine.specs.ModuleState.{ModuleState}
use Rattle.law_machine.specs.Halt.{Halt}
use Rattle.law_machine.specs.Halt.TheVariants as halt
use Rattle.law_machine.specs.Additions.{Planned, copy_planned, insertion_planned, load_planned, named_load_planned, plan_alone}
use Rattle.law_machine.specs.Answers.{Answer, refusal_answer}
use Rattle.law_machine.specs.Calls.{call_answer}
use Rattle.law_machine.specs.Gates.{call_ended_by, carried_on, come_back, ended_of, entered_if, entered_with, entry_left, fault_ahead, frame_closed, frame_left, frames_by, gated_by, outcome_left, outcome_of_gate, plan_left, state_after_plan, state_with_code_entered, swi_left, unless_fault}
use Rattle.trace_store_text.specs.MachineState.{MachineState, StepOutcome, machine_module_state, silent, setting_of, with_module_state}
use Rattle.law_machine.specs.ModuleStart.{opened_at}
use Rattle.law_machine.specs.Returns.{error_answered, gone_back, outcome_of_error, outcome_of_halt}
use Rattle.trace_store_text.specs.Step.{begun_alone, call_of, call_refused, called_by, is_exit, machine_step, module_entered, module_loaded, os_module_called, os_module_called_for, outcome_of_answer, outcome_of_call, outcome_of_end, outcome_of_module_swi, outcome_of_planned, outcome_of_turn, result_of_instruction, store_called, unless_halted, without_x}
use Rattle.law_machine.specs.Frames.{KeepsFrames, OnlyTheGateCloses}
use Rattle.law_machine.proofs.Answering.{IsLeft, answer_left}
use Rattle.law_machine.proofs.Keeping.{only_the_gate_closes}
use Rattle.trace_moments.specs.Frames.{AreKept}
use Rattle.trace_moments.proofs.FrameLemmas.{kept_if_closed, kept_if_left, kept_if_opened, kept_shown}
use Rattle.trace_moments.specs.law_replay.Steps.{Keeps, KeepsOpenFrames, StepsKeepFrames, count_kept, count_open}

-- the frames that are open, and behind them one at most
record OpensOne (s : MachineState) (o : StepOutcome) : Type 0 where
  opened : List Frame
  are : o.now.tables.frames ≡ s.tables.frames ++ opened
  few : length opened ≤ 1

opens_none : (s : MachineState) (o : StepOutcome) → IsLeft s o → OpensOne s o
opens_none s o same = record { opened = []; are = same ∙ sym (append-nil s.tables.frames); few = omega arith }

-- how a call ends that has left the frames
refusal_opens : (s : MachineState) (a : Answer) (e : Refusal) → IsLeft s a.left → OpensOne s (error_answered s.cpu.psr a.left a.next e)
refusal_opens s a (refusal.System e) same = opens_none s (error_answered s.cpu.psr a.left a.next (refusal.System e)) same
refusal_opens s a refusal.Own same = opens_none s (error_answered s.cpu.psr a.left a.next refusal.Own) same

error_opens : (s : MachineState) (x : Bool) (answered : StepOutcome) → OpensOne s answered → OpensOne s (outcome_of_error s x answered)
error_opens s true answered opens = opens
error_opens s false answered opens = opens_none s (outcome_of_error s false answered) refl

end_opens : (s : MachineState) (x : Bool) (a : Answer) (e : Option Refusal) → IsLeft s a.left → OpensOne s (outcome_of_end s x a e)
end_opens s x a None same = opens_none s (outcome_of_end s x a None) same
end_opens s x a (Some e) same = error_opens s x (error_answered s.cpu.psr a.left a.next e) (refusal_opens s a e same)

answer_opens : (s : MachineState) (x : Bool) (a : Answer) → IsLeft s a.left → OpensOne s (outcome_of_answer s x a)
answer_opens s x a same = end_opens s x a a.error same

refused_opens : (s : MachineState) (x : Bool) (next : ℕ) (e : ErrorNumber) → OpensOne s (call_refused s x next e)
refused_opens s x next e = answer_opens s x (refusal_answer s next (refusal.System e)) refl

-- a call on modules that goes back leaves the frames, and whether the machine is halted
record GoesOn (s t : MachineState) : Type 0 where
  frames : t.tables.frames ≡ s.tables.frames
  halt : t.halt ≡ s.halt

opened_goes_on : (s : MachineState) (text : List ℕ) (slot : ℕ) (o : Option ℕ) → GoesOn s (opened_at s text slot o)
opened_goes_on s text slot None = record { frames = refl; halt = refl }
opened_goes_on s text slot (Some at) = record { frames = refl; halt = refl }

entered_goes_on : (s : MachineState) (text : List ℕ) (r : Result Start ErrorNumber) → GoesOn s (entered_with s text r)
entered_goes_on s text (Ok start) = opened_goes_on s text start.slot start.at
entered_goes_on s text (Err e) = record { frames = refl; halt = refl }

entered_if_goes_on : (enters : Bool) (s : MachineState) (g : Given) → GoesOn s (entered_if enters s g)
entered_if_goes_on true s g = entered_goes_on s g.text.items (start_found s.tables.modules g.header.title.items)
entered_if_goes_on false s g = record { frames = refl; halt = refl }

ended_goes_on : (s : MachineState) (call : Call) (g : Given) (first : Option ℕ) → GoesOn s (call_ended_by s call g first)
ended_goes_on s call g (Some r0) = record { frames = refl; halt = refl }
ended_goes_on s call g None =
    let rest = entered_if_goes_on call.enters (gone_back call.caller s false call.next) g in
    record { frames = rest.frames; halt = rest.halt }

plan_goes_on : (s : MachineState) (call : Call) (p : Option Plan) → GoesOn s (state_after_plan s call p)
plan_goes_on s call (Some p) = ended_goes_on s call p.given p.first
plan_goes_on s call None = record { frames = refl; halt = refl }

-- and one that is carried on opens one for its next code
one_for : State → Call → Option Code → List Frame
one_for cpu call (Some code) = frame_of cpu call (frame.Entry code.kind) code.slot ∷ []
one_for cpu call None = []

by_code : (frames : List Frame) (cpu : State) (call : Call) (code : Option Code) → frames_by frames cpu call code ≡ frames ++ one_for cpu call code
unfolding one_for
by_code frames cpu call (Some code) = refl
by_code frames cpu call None = sym (append-nil frames)

few_for : (cpu : State) (call : Call) (code : Option Code) → length (one_for cpu call code) ≤ 1
unfolding one_for
few_for cpu call (Some code) = omega arith
few_for cpu call None = omega arith

carried_opens : (s t : MachineState) (call : Call) (p : Plan) → GoesOn s t → OpensOne s (silent (carried_on t call p))
carried_opens s t call p same =
    let c : Carried ModuleState = module_state_carried (machine_module_state t) p in
    record {
      opened = one_for t.cpu call c.code;
      are = (plan_goes_on (state_with_code_entered t call c) call (ended_of c)).frames
          ∙ (by_code t.tables.frames t.cpu call c.code
          ∙ ap (λ (frames : List Frame). frames ++ one_for t.cpu call c.code) same.frames);
      few = few_for t.cpu call c.code;
    }

planned_opens : (s : MachineState) (x : Bool) (next : ℕ) (enters : Bool) (r : Result Planned ErrorNumber) → OpensOne s (outcome_of_planned s x next enters r)
unfolding outcome_of_planned
planned_opens s x next enters (Ok w) =
    carried_opens s (with_module_state s w.module_state) (call_of s x next enters) w.plan (record { frames = refl; halt = refl })
planned_opens s x next enters (Err e) = refused_opens s x next e

module_opens : (s : MachineState) (x : Bool) (next : ℕ) (r : Result Opening ErrorNumber) → OpensOne s (module_entered s x next r)
module_opens s x next (Err e) = refused_opens s x next e
module_opens s x next (Ok o) =
    opens_none s (module_entered s x next (Ok o)) (opened_goes_on (gone_back s.cpu.psr s false next) o.text.items o.start.slot o.start.at).frames

module _ (images : List Entry) (s : MachineState) (x : Bool) (next number : ℕ) where
  plain_opens : (o : Option SwiName) → OpensOne s (outcome_of_answer s x (call_answer s next number o))
  plain_opens o = answer_opens s x (call_answer s next number o) (answer_left s next number o)

  alone_opens : (r : Result Plan ErrorNumber) → OpensOne s (begun_alone s x next r)
  alone_opens r = planned_opens s x next false (bind r (λ p. let w : Result Planned ErrorNumber = Ok (plan_alone s p) in w))

  reason_opens : (o : Option ModuleReason) → OpensOne s (os_module_called_for images s x next number o)
  reason_opens (Some reason.Run) = planned_opens s x next true (named_load_planned images s true)
  reason_opens (Some reason.Load) = planned_opens s x next false (named_load_planned images s false)
  reason_opens (Some reason.Enter) = module_opens s x next (opening_asked (setting_of s))
  reason_opens (Some reason.Reinit) = alone_opens (reinit_planned (setting_of s))
  reason_opens (Some reason.Delete) = alone_opens (delete_planned (setting_of s))
  reason_opens (Some reason.Tidy) = alone_opens (tidy_planned (setting_of s) next)
  reason_opens (Some reason.Clear) = alone_opens (clear_planned (setting_of s))
  reason_opens (Some reason.Insert) = planned_opens s x next false (insertion_planned s)
  reason_opens (Some reason.InsertCopy) = planned_opens s x next false (copy_planned s)
  reason_opens (Some reason.Instantiate) = alone_opens (instantiation_planned (setting_of s))
  reason_opens other = plain_opens (Some swi.Module)

  handler_opens : (o : Option Handler) → OpensOne s (outcome_of_module_swi s x next number o)
  handler_opens None = refused_opens s x next SwiUnknown
  handler_opens (Some h) = elim (cases_Bool (length s.tables.frames == 32)) [
    | inl full ↦ rw full (refused_opens s x next FrameLimit)
    | inr room ↦ rw room (record { opened = frame_of s.cpu (call_of s x next false) (frame.Swi number) h.slot ∷ []; are = refl; few = omega arith })
  ]

  name_opens : (o : Option SwiName) → OpensOne s (called_by images s x next number o)
  unfolding os_module_called
  name_opens None = handler_opens (handler_of number s.tables.modules)
  name_opens (Some swi.Module) = reason_opens (module_reason (register_of s.cpu 0))
  name_opens (Some name) = plain_opens (Some name)

  exit_opens : (exits : Bool) (o : Option SwiName) → OpensOne s (if exits then outcome_of_halt s halt.Exit else called_by images s x next number o)
  exit_opens true o = opens_none s (outcome_of_halt s halt.Exit) refl
  exit_opens false o = name_opens o

  call_opens : OpensOne s (outcome_of_call images s x next number)
  unfolding outcome_of_call
  call_opens = exit_opens (is_exit (swi_of number)) (swi_of number)

-- At the gate the innermost is closed, unless the machine is halted there.
record HasClosed (s : MachineState) (o : StepOutcome) : Type 0 where
  halt : o.now.halt ≡ s.halt
  opened : List Frame
  are : o.now.tables.frames ≡ frames_after_close s.tables.frames ++ opened
  few : length opened ≤ 1

abbrev GateEnds : MachineState → StepOutcome → Type 0
GateEnds s o = IsLeft s o ⊎ HasClosed s o

closes_alone : (s : MachineState) (f : Frame) → HasClosed s (silent (frame_closed s f))
closes_alone s f = record { halt = refl; opened = []; are = sym (append-nil (frames_after_close s.tables.frames)); few = omega arith }

error_ends : (s : MachineState) (x : Bool) (o : StepOutcome) → HasClosed s o → GateEnds s (outcome_of_error s x o)
error_ends s true o closed = inr closed
error_ends s false o closed = inl refl

swi_ends_by : (s : MachineState) (f : Frame) (refused : Bool)
    → GateEnds s (if refused then outcome_of_error s f.call.is_x (silent (frame_closed s f)) else silent (frame_closed s f))
swi_ends_by s f true = error_ends s f.call.is_x (silent (frame_closed s f)) (closes_alone s f)
swi_ends_by s f false = inr (closes_alone s f)

swi_ends : (s : MachineState) (f : Frame) → GateEnds s (swi_left s f)
swi_ends s f = swi_ends_by s f s.cpu.psr.overflow

carried_closes : (s : MachineState) (f : Frame) (p : Plan) → HasClosed s (silent (carried_on (come_back s f) f.call p))
carried_closes s f p =
    let t : MachineState = come_back s f in
    let c : Carried ModuleState = module_state_carried (machine_module_state t) p in
    let on = plan_goes_on (state_with_code_entered t f.call c) f.call (ended_of c) in
    record {
      halt = on.halt;
      opened = one_for t.cpu f.call c.code;
      are = on.frames ∙ by_code t.tables.frames t.cpu f.call c.code;
      few = few_for t.cpu f.call c.code;
    }

fault_ends : (s : MachineState) (f : Frame) (p : Plan) (o : Option ℕ) → GateEnds s (unless_fault s o (carried_on (come_back s f) f.call p))
fault_ends s f p None = inr (carried_closes s f p)
fault_ends s f p (Some number) = inl refl

plan_ends : (s : MachineState) (f : Frame) (p : Option Plan) → GateEnds s (plan_left s f p)
plan_ends s f None = inl refl
plan_ends s f (Some p) =
    let q : Plan = plan_after_code p (outcome_left s.cpu) in
    fault_ends s f q (fault_ahead f.call (machine_module_state s) q)

frame_ends : (s : MachineState) (f : Frame) (kind : FrameKind) (p : Option Plan) → GateEnds s (frame_left s f kind p)
frame_ends s f (frame.Swi number) p = swi_ends s f
frame_ends s f (frame.Entry kind) p = plan_ends s f p

innermost_ends : (s : MachineState) (o : Option Frame) → GateEnds s (gated_by s o)
innermost_ends s None = inl refl
innermost_ends s (Some f) = elim (cases_Bool (register_in Supervisor s.cpu 13 == f.stack)) [
  | inl there ↦ rw there (frame_ends s f f.kind s.tables.plan)
  | inr changed ↦ rw changed (inl refl)
]

-- a turn of the core
abbrev TurnEnds : MachineState → Result (State × Bytes) StepEnd → StepOutcome → Type 0
TurnEnds s (Err turn.Gate) o = GateEnds s o
TurnEnds s _ o = OpensOne s o

-- which frames are kept
open_kept : (s : MachineState) (o : StepOutcome) → OpensOne s o → AreKept s.tables.frames o.now.tables.frames (count_open s o.now)
open_kept s o opens =
    let long : length o.now.tables.frames ≡ length s.tables.frames + length opens.opened =
    ap (λ (fs : List Frame). length fs) opens.are ∙ length-append s.tables.frames opens.opened in
    kept_if_opened s.tables.frames opens.opened o.now.tables.frames (count_open s o.now) opens.are opens.few (omega arith)

gate_kept : (s : MachineState) (o : StepOutcome) → s.halt ≡ None → GateEnds s o
    → AreKept s.tables.frames o.now.tables.frames (if is_none o.now.halt then length s.tables.frames - 1 else count_open s o.now)
gate_kept s o unhalted (inl same) =
    let long : length o.now.tables.frames ≡ length s.tables.frames = ap (λ (fs : List Frame). length fs) same in
    elim (cases_Bool (is_none o.now.halt)) [
      | inl goes_on ↦ rw goes_on (kept_if_left s.tables.frames o.now.tables.frames (length s.tables.frames - 1) same (omega arith) (omega arith))
      | inr halted ↦ rw halted (kept_if_left s.tables.frames o.now.tables.frames (count_open s o.now) same (omega arith) (omega arith))
    ]
gate_kept s o unhalted (inr closed) =
    let goes_on : is_none o.now.halt ≡ true = ap (λ (h : Option Halt). is_none h) (closed.halt ∙ unhalted) in
    rw goes_on (kept_if_closed s.tables.frames closed.opened o.now.tables.frames closed.are closed.few)

-- so of each step, and of each call from outside
halted_opens : (s : MachineState) (kept : Option Halt) (o : StepOutcome) → OpensOne s o → OpensOne s (unless_halted s kept o)
halted_opens s (Some h) o opens = opens_none s (silent s) refl
halted_opens s None o opens = opens

turn_ends : (images : List Entry) (s : MachineState) (r : Result (State × Bytes) StepEnd) → TurnEnds s r (outcome_of_turn images s r)
turn_ends images s (Ok w) = opens_none s (outcome_of_turn images s (Ok w)) refl
turn_ends images s (Err turn.Done) = opens_none s (silent s) refl
turn_ends images s (Err (turn.Swi n)) = call_opens images s (bit_of n 17) ((s.cpu.pc + 4) % 2 ^ 26) (without_x n)
turn_ends images s (Err turn.Gate) = innermost_ends s (innermost_frame s.tables.frames)
turn_ends images s (Err (turn.Fault f)) = opens_none s (outcome_of_halt s (halt.Fault f)) refl

unhalted_ends : (images : List Entry) (s : MachineState) (kept : Option Halt) (r : Result (State × Bytes) StepEnd) → kept ≡ None
    → TurnEnds s r (unless_halted s kept (outcome_of_turn images s r))
unhalted_ends images s None r unhalted = turn_ends images s r
unhalted_ends images s (Some h) r unhalted = absurd (let no : Some h ≡ None = unhalted in cc)

gate_turn : (s : MachineState) (r : Result (State × Bytes) StepEnd) (o : StepOutcome) → r ≡ Err turn.Gate → TurnEnds s r o → GateEnds s o
gate_turn s (Ok w) o is ends = absurd (let no : Ok w ≡ Err turn.Gate = is in cc)
gate_turn s (Err turn.Done) o is ends = absurd (let no : Err turn.Done ≡ Err turn.Gate = is in cc)
gate_turn s (Err (turn.Swi n)) o is ends = absurd (let no : Err (turn.Swi n) ≡ Err turn.Gate = is in cc)
gate_turn s (Err turn.Gate) o is ends = ends
gate_turn s (Err (turn.Fault f)) o is ends = absurd (let no : Err (turn.Fault f) ≡ Err turn.Gate = is in cc)

at_gate : (s : MachineState) → s.cpu.pc == return_gate ≡ true → result_of_instruction s ≡ Err turn.Gate
unfolding result_of_step
at_gate s here = rw here refl

gate_step : (images : List Entry) (s : MachineState) → s.halt ≡ None → s.cpu.pc == return_gate ≡ true → GateEnds s (machine_step images s)
unfolding machine_step
gate_step images s unhalted here =
    gate_turn s (result_of_instruction s) (machine_step images s) (at_gate s here) (unhalted_ends images s s.halt (result_of_instruction s) unhalted)

-- no more than one more is open, whatever the turn is
few_opened : (s : MachineState) (o : StepOutcome) → OpensOne s o → length o.now.tables.frames ≤ length s.tables.frames + 1
few_opened s o opens =
    let long : length o.now.tables.frames ≡ length s.tables.frames + length opens.opened =
    ap (λ (fs : List Frame). length fs) opens.are ∙ length-append s.tables.frames opens.opened in
    omega (arith, opens.few)

few_at_gate : (s : MachineState) (o : StepOutcome) → GateEnds s o → length o.now.tables.frames ≤ length s.tables.frames + 1
few_at_gate s o (inl same) = omega (arith, ap (λ (fs : List Frame). length fs) same)
few_at_gate s o (inr closed) =
    let long : length o.now.tables.frames ≡ length (take (length s.tables.frames - 1) s.tables.frames) + length closed.opened =
    ap (λ (fs : List Frame). length fs) closed.are ∙ length-append (take (length s.tables.frames - 1) s.tables.frames) closed.opened in
    omega (arith, closed.few, length-take-le (length s.tables.frames - 1) s.tables.frames (omega arith))

few_turned : (s : MachineState) (r : Result (State × Bytes) StepEnd) (o : StepOutcome) → TurnEnds s r o
    → length o.now.tables.frames ≤ length s.tables.frames + 1
few_turned s (Ok w) o ends = few_opened s o ends
few_turned s (Err turn.Done) o ends = few_opened s o ends
few_turned s (Err (turn.Swi n)) o ends = few_opened s o ends
few_turned s (Err turn.Gate) o ends = few_at_gate s o ends
few_turned s (Err (turn.Fault f)) o ends = few_opened s o ends

other_step : (images : List Entry) (s : MachineState) → s.halt ≡ None → s.cpu.pc == return_gate ≡ false → OpensOne s (machine_step images s)
unfolding machine_step
other_step images s unhalted other =
    let elsewhere : s.cpu.pc ≢ return_gate = λ same. false≢true (sym other ∙ eq-eqb s.cpu.pc return_gate same) in
    let keeps : KeepsFrames s (machine_step images s) = only_the_gate_closes images s elsewhere in
    let long : length (machine_step images s).now.tables.frames ≡ length s.tables.frames + length keeps.opened =
    ap (λ (fs : List Frame). length fs) keeps.are ∙ length-append s.tables.frames keeps.opened in
    record {
      opened = keeps.opened;
      are = keeps.are;
      few = omega (arith, few_turned s (result_of_instruction s) (machine_step images s) (unhalted_ends images s s.halt (result_of_instruction s) unhalted));
    }

step_kept : (images : List Entry) (s : MachineState) → s.halt ≡ None
    → AreKept s.tables.frames (machine_step images s).now.tables.frames (count_kept s (machine_step images s).now)
step_kept images s unhalted =
    elim (cases_Bool (s.cpu.pc == return_gate)) [
      | inl here ↦ rw here (gate_kept s (machine_step images s) unhalted (gate_step images s unhalted here))
      | inr other ↦ rw other (open_kept s (machine_step images s) (other_step images s unhalted other))
    ]

call_from_outside : (images : List Entry) (s : MachineState) (number : ℕ) → OpensOne s (store_called images s number)
unfolding store_called
call_from_outside images s number =
    halted_opens s s.halt (outcome_of_call images s true s.cpu.pc (without_x (number % 2 ^ 24)))
    (call_opens images s true s.cpu.pc (without_x (number % 2 ^ 24)))

load_from_outside : (images : List Entry) (s : MachineState) (text : List ℕ) → OpensOne s (module_loaded images s text)
unfolding module_loaded
load_from_outside images s text =
    let planned : Result Planned ErrorNumber = bind (ok_or (host_string text) BadString) (λ words. load_planned images s words false) in
    halted_opens s s.halt (outcome_of_planned s true s.cpu.pc false planned) (planned_opens s true s.cpu.pc false planned)

pub steps_keep : StepsKeepFrames
steps_keep images s unhalted = record {
  step = kept_shown s.tables.frames (machine_step images s).now.tables.frames (count_kept s (machine_step images s).now) (step_kept images s unhalted);
  call = λ number. kept_shown s.tables.frames (store_called images s number).now.tables.frames (count_open s (store_called images s number).now)
      (open_kept s (store_called images s number) (call_from_outside images s number));
  load = λ text. kept_shown s.tables.frames (module_loaded images s text).now.tables.frames (count_open s (module_loaded images s text).now)
      (open_kept s (module_loaded images s text) (load_from_outside images s text));
}
