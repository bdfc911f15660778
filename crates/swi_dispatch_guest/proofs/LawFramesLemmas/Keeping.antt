-- A step leaves open what was open: each call goes on with the frames as they were, or with one more, and the core by
-- itself opens and closes none.
use Rattle.std.proofs.Common.{ℕ, Bool, true, false, ◌+◌, ◌%◌, ◌^◌, ◌==◌, ◌≡◌, ◌≢◌, ◌∙◌, ◌++◌, List, [], ◌∷◌, Option, Some, None, Result, Ok, Err, length, refl, sym, ap, inl, inr, ne_eqb}
use Rattle.std.specs.Prelude.{if◌then◌else◌}
use Rattle.std.proofs.lemmas.Bool.{cases_Bool}
use Rattle.std.proofs.lemmas.List.{append-nil}
use Rattle.profile.specs.MemoryMap.{return_gate}
use Rattle.profile.specs.Outcome.{bind}
use Rattle.profile.specs.SwiNames.{swi_of}
use Rattle.profile.specs.Word.{bit_of}
use Rattle.profile.specs.ErrorNumber.{ErrorNumber}
use Rattle.profile.specs.ErrorNumber.TheVariants.{FrameLimit, SwiUnknown}
use Rattle.profile.specs.Fault.{Fault}
use Rattle.profile.specs.declared.reason.ModuleReason.{ModuleReason}
use Rattle.profile.specs.declared.reason.ModuleReason.TheVariants as reason
use Rattle.profile.specs.declared.swi.SwiName.{SwiName}
use Rattle.profile.specs.declared.swi.SwiName.TheVariants as swi
use Rattle.profile.specs.Reasons.{module_reason}
use Rattle.os_heap.specs.Bytes.{Bytes, word_loaded}
use Rattle.arm_run.specs.Conditions.{condition_holds}
use Rattle.arm_run.specs.Effect.{with_next_pc}
use Rattle.arm_run.specs.State.{State, register_of}
use Rattle.arm_run.specs.StepEnd.{StepEnd}
use Rattle.arm_run.specs.StepEnd.TheVariants as turn
use Rattle.arm_run.specs.ArmDecodeDecoded.{instruction_of_word}
use Rattle.arm_run.specs.Fields.{condition_in}
use Rattle.arm_run.specs.Action.{Action}
use Rattle.arm_run.specs.Action.TheVariants as action
use Rattle.arm_run.specs.Condition.{Condition}
use Rattle.arm_run.specs.Step.{acted_if_decoded, executed_if_fetched, or_fault, result_of_action, result_of_step, result_of_word}
use Rattle.arm_run.specs.Transfers.{result_of_transfer}
use Rattle.arm_run.specs.Blocks.{result_of_block_transfer}
use Rattle.os_heap.specs.Store.{owned_in}
use Rattle.profile.specs.images.Entries.{Entry}
use Rattle.swi_dispatch_plans.specs.Code.{Code}
use Rattle.swi_dispatch_plans.specs.Given.{Given}
use Rattle.swi_dispatch_plans.specs.Carrying.{Carried}
use Rattle.swi_dispatch_plans.specs.Plans.{Plan}
use Rattle.swi_dispatch_plans.specs.module_state.ModuleState.{ModuleState}
use Rattle.swi_dispatch_plans.specs.Handler.{Handler}
use Rattle.swi_dispatch_plans.specs.Lookup.{handler_of}
use Rattle.swi_dispatch_plans.specs.Refusal.{Refusal}
use Rattle.swi_dispatch_plans.specs.Refusal.TheVariants as refusal
use Rattle.swi_dispatch_plans.specs.Call.{Call}
use Rattle.swi_dispatch_plans.specs.Frame.{Frame}
use Rattle.swi_dispatch_plans.specs.FrameKind.TheVariants as frame
use Rattle.swi_dispatch_plans.specs.Frames.{frame_of}
use Rattle.swi_dispatch_plans.specs.ImagePlans.{instantiation_planned}
use Rattle.swi_dispatch_plans.specs.ModulePlans.{clear_planned, delete_planned, reinit_planned, tidy_planned}
use Rattle.swi_dispatch_plans.specs.Openings.{opening_asked}
use Rattle.swi_dispatch_plans.specs.Trials.{module_state_carried}
use Rattle.swi_dispatch_plans.specs.declared.openings.Opening.{Opening}
use Rattle.swi_dispatch_plans.specs.Start.{Start}
use Rattle.swi_dispatch_plans.specs.Reading.{start_found}
use Rattle.swi_dispatch_guest.specs.declared.halt.Halt.{Halt}
use Rattle.swi_dispatch_guest.specs.declared.halt.Halt.TheVariants as halt
use Rattle.swi_dispatch_guest.specs.Additions.{Planned, copy_planned, insertion_planned, named_load_planned, plan_alone}
use Rattle.swi_dispatch_guest.specs.Answers.{Answer, refusal_answer}
use Rattle.swi_dispatch_guest.specs.Calls.{call_answer}
use Rattle.swi_dispatch_guest.specs.Gates.{call_ended_by, carried_on, ended_of, entered_if, entered_with, frames_by, state_after_plan, state_with_code_entered}
use Rattle.swi_dispatch_guest.specs.MachineState.{MachineState, StepOutcome, machine_module_state, silent, setting_of, with_module_state}
use Rattle.swi_dispatch_guest.specs.ModuleStart.{opened_at}
use Rattle.swi_dispatch_guest.specs.Returns.{error_answered, gone_back, outcome_of_error, outcome_of_halt}
use Rattle.swi_dispatch_guest.specs.Step.{begun_alone, call_of, call_refused, called_by, is_exit, machine_step, module_entered, os_module_called, os_module_called_for, outcome_of_answer, outcome_of_call, outcome_of_end, outcome_of_module_swi, outcome_of_planned, outcome_of_turn, result_of_instruction, unless_halted, without_x}
use Rattle.swi_dispatch_guest.proofs.LawFramesLemmas.Answering.{IsLeft, answer_left}
use Rattle.swi_dispatch_guest.specs.law_frames.Frames.{KeepsFrames, OnlyTheGateCloses}

-- none is opened
none_opened : (s : MachineState) (o : StepOutcome) → IsLeft s o → KeepsFrames s o
none_opened s o same = record { opened = []; are = same ∙ sym (append-nil s.tables.frames) }

-- how a call ends
refused_left : (s : MachineState) (a : Answer) (e : Refusal) → IsLeft s a.left → IsLeft s (error_answered s.cpu.psr a.left a.next e)
refused_left s a (refusal.System e) same = same
refused_left s a refusal.Own same = same

erred_left : (s : MachineState) (x : Bool) (answered : StepOutcome) → IsLeft s answered → IsLeft s (outcome_of_error s x answered)
erred_left s true answered same = same
erred_left s false answered same = refl

ended_left : (s : MachineState) (x : Bool) (a : Answer) (e : Option Refusal) → IsLeft s a.left → IsLeft s (outcome_of_end s x a e)
ended_left s x a None same = same
ended_left s x a (Some e) same = erred_left s x (error_answered s.cpu.psr a.left a.next e) (refused_left s a e same)

ended_keeps : (s : MachineState) (x : Bool) (a : Answer) → IsLeft s a.left → KeepsFrames s (outcome_of_answer s x a)
ended_keeps s x a same = none_opened s (outcome_of_answer s x a) (ended_left s x a a.error same)

refused_keeps : (s : MachineState) (x : Bool) (next : ℕ) (e : ErrorNumber) → KeepsFrames s (call_refused s x next e)
refused_keeps s x next e = ended_keeps s x (refusal_answer s next (refusal.System e)) refl

-- a call on modules that is carried on opens one frame at most
abbrev SameFrames : MachineState → MachineState → Type 0
SameFrames s t = t.tables.frames ≡ s.tables.frames

opened_at_same : (s : MachineState) (text : List ℕ) (slot : ℕ) (o : Option ℕ) → SameFrames s (opened_at s text slot o)
opened_at_same s text slot None = refl
opened_at_same s text slot (Some at) = refl

entered_same : (s : MachineState) (text : List ℕ) (r : Result Start ErrorNumber) → SameFrames s (entered_with s text r)
entered_same s text (Ok start) = opened_at_same s text start.slot start.at
entered_same s text (Err e) = refl

entered_if_same : (enters : Bool) (s : MachineState) (g : Given) → SameFrames s (entered_if enters s g)
entered_if_same true s g = entered_same s g.text.items (start_found s.tables.modules g.header.title.items)
entered_if_same false s g = refl

ended_same : (s : MachineState) (call : Call) (g : Given) (first : Option ℕ) → SameFrames s (call_ended_by s call g first)
ended_same s call g (Some r0) = refl
ended_same s call g None = entered_if_same call.enters (gone_back call.caller s false call.next) g

finished_same : (s : MachineState) (call : Call) (p : Option Plan) → SameFrames s (state_after_plan s call p)
finished_same s call (Some p) = ended_same s call p.given p.first
finished_same s call None = refl

-- the frame of the code that is entered
frames_opened : State → Call → Option Code → List Frame
frames_opened cpu call (Some code) = frame_of cpu call (frame.Entry code.kind) code.slot ∷ []
frames_opened cpu call None = []

opened_by : (frames : List Frame) (cpu : State) (call : Call) (code : Option Code) → frames_by frames cpu call code ≡ frames ++ frames_opened cpu call code
unfolding frames_opened
opened_by frames cpu call (Some code) = refl
opened_by frames cpu call None = sym (append-nil frames)

carried_keeps : (s t : MachineState) (call : Call) (p : Plan) → SameFrames s t → KeepsFrames s (silent (carried_on t call p))
carried_keeps s t call p same =
    let c : Carried ModuleState = module_state_carried (machine_module_state t) p in
    record {
      opened = frames_opened t.cpu call c.code;
      are = finished_same (state_with_code_entered t call c) call (ended_of c)
          ∙ opened_by t.tables.frames t.cpu call c.code
          ∙ ap (λ (frames : List Frame). frames ++ frames_opened t.cpu call c.code) same;
    }

begun_keeps : (s : MachineState) (x : Bool) (next : ℕ) (enters : Bool) (r : Result Planned ErrorNumber) → KeepsFrames s (outcome_of_planned s x next enters r)
unfolding outcome_of_planned
begun_keeps s x next enters (Ok w) = carried_keeps s (with_module_state s w.module_state) (call_of s x next enters) w.plan refl
begun_keeps s x next enters (Err e) = refused_keeps s x next e

module_entered_keeps : (s : MachineState) (x : Bool) (next : ℕ) (r : Result Opening ErrorNumber) → KeepsFrames s (module_entered s x next r)
module_entered_keeps s x next (Err e) = refused_keeps s x next e
module_entered_keeps s x next (Ok o) =
    none_opened s (module_entered s x next (Ok o)) (opened_at_same (gone_back s.cpu.psr s false next) o.text.items o.start.slot o.start.at)

module _ (images : List Entry) (s : MachineState) (x : Bool) (next number : ℕ) where
  plain_keeps : (o : Option SwiName) → KeepsFrames s (outcome_of_answer s x (call_answer s next number o))
  plain_keeps o = ended_keeps s x (call_answer s next number o) (answer_left s next number o)

  other_keeps : KeepsFrames s (outcome_of_answer s x (call_answer s next number (Some swi.Module)))
  other_keeps = plain_keeps (Some swi.Module)

  alone_keeps : (r : Result Plan ErrorNumber) → KeepsFrames s (begun_alone s x next r)
  alone_keeps r = begun_keeps s x next false (bind r (λ p. let w : Result Planned ErrorNumber = Ok (plan_alone s p) in w))

  module_keeps : (o : Option ModuleReason) → KeepsFrames s (os_module_called_for images s x next number o)
  module_keeps None = other_keeps
  module_keeps (Some reason.Run) = begun_keeps s x next true (named_load_planned images s true)
  module_keeps (Some reason.Load) = begun_keeps s x next false (named_load_planned images s false)
  module_keeps (Some reason.Enter) = module_entered_keeps s x next (opening_asked (setting_of s))
  module_keeps (Some reason.Reinit) = alone_keeps (reinit_planned (setting_of s))
  module_keeps (Some reason.Delete) = alone_keeps (delete_planned (setting_of s))
  module_keeps (Some reason.DescribeArea) = other_keeps
  module_keeps (Some reason.Claim) = other_keeps
  module_keeps (Some reason.Free) = other_keeps
  module_keeps (Some reason.Tidy) = alone_keeps (tidy_planned (setting_of s) next)
  module_keeps (Some reason.Clear) = alone_keeps (clear_planned (setting_of s))
  module_keeps (Some reason.Insert) = begun_keeps s x next false (insertion_planned s)
  module_keeps (Some reason.InsertCopy) = begun_keeps s x next false (copy_planned s)
  module_keeps (Some reason.Info) = other_keeps
  module_keeps (Some reason.Extend) = other_keeps
  module_keeps (Some reason.Instantiate) = alone_keeps (instantiation_planned (setting_of s))
  module_keeps (Some reason.Rename) = other_keeps
  module_keeps (Some reason.Prefer) = other_keeps
  module_keeps (Some reason.Lookup) = other_keeps

  handler_keeps : (o : Option Handler) → KeepsFrames s (outcome_of_module_swi s x next number o)
  handler_keeps None = refused_keeps s x next SwiUnknown
  handler_keeps (Some h) = elim (cases_Bool (length s.tables.frames == 32)) [
    | inl full ↦ rw full (refused_keeps s x next FrameLimit)
    | inr room ↦ rw room (record { opened = frame_of s.cpu (call_of s x next false) (frame.Swi number) h.slot ∷ []; are = refl })
  ]

  -- each call but OS_Exit
  named_keeps : (o : Option SwiName) → KeepsFrames s (called_by images s x next number o)
  unfolding os_module_called
  named_keeps None = handler_keeps (handler_of number s.tables.modules)
  named_keeps (Some swi.Exit) = plain_keeps (Some swi.Exit)
  named_keeps (Some swi.Module) = module_keeps (module_reason (register_of s.cpu 0))
  named_keeps (Some swi.WriteC) = plain_keeps (Some swi.WriteC)
  named_keeps (Some swi.WriteS) = plain_keeps (Some swi.WriteS)
  named_keeps (Some swi.Write0) = plain_keeps (Some swi.Write0)
  named_keeps (Some swi.NewLine) = plain_keeps (Some swi.NewLine)
  named_keeps (Some swi.EnterOs) = plain_keeps (Some swi.EnterOs)
  named_keeps (Some swi.Heap) = plain_keeps (Some swi.Heap)
  named_keeps (Some swi.ChangeDynamicArea) = plain_keeps (Some swi.ChangeDynamicArea)
  named_keeps (Some swi.GenerateError) = plain_keeps (Some swi.GenerateError)
  named_keeps (Some swi.ReadDynamicArea) = plain_keeps (Some swi.ReadDynamicArea)
  named_keeps (Some swi.DynamicArea) = plain_keeps (Some swi.DynamicArea)
  named_keeps (Some swi.WriteI) = plain_keeps (Some swi.WriteI)
  named_keeps (Some swi.FlexInit) = plain_keeps (Some swi.FlexInit)
  named_keeps (Some swi.FlexAlloc) = plain_keeps (Some swi.FlexAlloc)
  named_keeps (Some swi.FlexFree) = plain_keeps (Some swi.FlexFree)
  named_keeps (Some swi.FlexSize) = plain_keeps (Some swi.FlexSize)
  named_keeps (Some swi.FlexExtend) = plain_keeps (Some swi.FlexExtend)
  named_keeps (Some swi.FlexMidExtend) = plain_keeps (Some swi.FlexMidExtend)

  halted_keeps : (h : Halt) → KeepsFrames s (outcome_of_halt s h)
  halted_keeps h = none_opened s (outcome_of_halt s h) refl

  exit_keeps : (exits : Bool) (o : Option SwiName)
      → KeepsFrames s (if exits then outcome_of_halt s halt.Exit else called_by images s x next number o)
  exit_keeps true o = halted_keeps halt.Exit
  exit_keeps false o = named_keeps o

  call_keeps : KeepsFrames s (outcome_of_call images s x next number)
  unfolding outcome_of_call
  call_keeps = exit_keeps (is_exit (swi_of number)) (swi_of number)

-- the gate comes next nowhere else
abbrev IsNoGate : Result (State × Bytes) StepEnd → Type 0
IsNoGate (Err turn.Gate) = ⊥
IsNoGate _ = Unit {0}

memory_no_gate : (r : Result (State × Bytes) Fault) → IsNoGate (or_fault r)
memory_no_gate (Ok w) = tt
memory_no_gate (Err f) = tt

action_no_gate : (owned : ℕ → Bool) (s : State) (b : Bytes) (a : Action) → IsNoGate (result_of_action owned s b a)
unfolding result_of_action
action_no_gate owned s b (action.Operate o) = tt
action_no_gate owned s b (action.Multiply m) = tt
action_no_gate owned s b (action.Transfer t) = memory_no_gate (result_of_transfer owned s b t)
action_no_gate owned s b (action.BlockTransfer t) = memory_no_gate (result_of_block_transfer owned s b t)
action_no_gate owned s b (action.Branch links distance) = tt
action_no_gate owned s b (action.SoftwareInterrupt n) = tt

decoded_no_gate : (owned : ℕ → Bool) (s : State) (b : Bytes) (i : Result (Condition × Action) Fault) → IsNoGate (acted_if_decoded owned s b i)
decoded_no_gate owned s b (Ok i) = action_no_gate owned s b i.1
decoded_no_gate owned s b (Err f) = tt

word_no_gate : (met : Bool) (owned : ℕ → Bool) (s : State) (b : Bytes) (i : Result (Condition × Action) Fault)
    → IsNoGate (if met then acted_if_decoded owned s b i else Ok (with_next_pc s, b))
word_no_gate true owned s b i = decoded_no_gate owned s b i
word_no_gate false owned s b i = tt

fetched_no_gate : (owned : ℕ → Bool) (s : State) (b : Bytes) (r : Result ℕ Fault) → IsNoGate (executed_if_fetched owned s b r)
fetched_no_gate owned s b (Ok w) = word_no_gate (condition_holds (condition_in w) s.psr) owned s b (instruction_of_word w)
fetched_no_gate owned s b (Err f) = tt

step_no_gate : (gate : Bool) (owned : ℕ → Bool) (s : State) (b : Bytes) → gate ≡ false
    → IsNoGate (if gate then Err turn.Gate else executed_if_fetched owned s b (word_loaded b s.pc))
step_no_gate true owned s b other = absurd (cc)
step_no_gate false owned s b other = fetched_no_gate owned s b (word_loaded b s.pc)

no_gate : (s : MachineState) → s.cpu.pc ≢ return_gate → IsNoGate (result_of_instruction s)
unfolding result_of_step
no_gate s other =
    step_no_gate (s.cpu.pc == return_gate) (owned_in s.store) s.cpu s.store.bytes (ne_eqb s.cpu.pc return_gate other)

-- a turn of the core
turn_keeps : (images : List Entry) (s : MachineState) (r : Result (State × Bytes) StepEnd) → IsNoGate r → KeepsFrames s (outcome_of_turn images s r)
turn_keeps images s (Ok w) other = none_opened s (outcome_of_turn images s (Ok w)) refl
turn_keeps images s (Err turn.Done) other = none_opened s (silent s) refl
turn_keeps images s (Err (turn.Swi n)) other = call_keeps images s (bit_of n 17) ((s.cpu.pc + 4) % 2 ^ 26) (without_x n)
turn_keeps images s (Err turn.Gate) other = absurd other
turn_keeps images s (Err (turn.Fault f)) other = none_opened s (outcome_of_halt s (halt.Fault f)) refl

step_keeps : (images : List Entry) (s : MachineState) (kept : Option Halt) → IsNoGate (result_of_instruction s)
    → KeepsFrames s (unless_halted s kept (outcome_of_turn images s (result_of_instruction s)))
step_keeps images s (Some h) other = none_opened s (silent s) refl
step_keeps images s None other = turn_keeps images s (result_of_instruction s) other

pub only_the_gate_closes : OnlyTheGateCloses
unfolding machine_step
only_the_gate_closes images s other = step_keeps images s s.halt (no_gate s other)
