-- Over any move but a flex call, what a machine keeps of where the flex store is stays.
use Rattle.std.proofs.Common.{ℕ, ◌≡◌, ◌+◌, ◌==◌, ◌%◌, ◌^◌, Bool, true, false, length, List, Option, Some, None, Result, Ok, Err, refl}
use Rattle.std.specs.Prelude.{if◌then◌else◌, ok_or}
use Rattle.std.proofs.lemmas.Bool.{true≢false}
use Rattle.profile.specs.Outcome.{bind}
use Rattle.profile.specs.Reasons.{module_reason}
use Rattle.profile.specs.SwiNames.{swi_of}
use Rattle.profile.specs.Word.{bit_of}
use Rattle.profile.specs.ErrorNumber.{ErrorNumber}
use Rattle.profile.specs.ErrorNumber.TheVariants.{BadString, FrameLimit, SwiUnknown}
use Rattle.profile.specs.Fault.TheVariants.{StackChanged}
use Rattle.profile.specs.declared.reason.ModuleReason.{ModuleReason}
use Rattle.profile.specs.declared.reason.ModuleReason.TheVariants as reason
use Rattle.profile.specs.declared.swi.SwiName.{SwiName}
use Rattle.profile.specs.declared.swi.SwiName.TheVariants as swi
use Rattle.address_map.specs.Bytes.{Bytes}
use Rattle.arm_core.specs.State.{State, register_in, register_of, with_register}
use Rattle.arm_core.specs.declared.psr.Mode.TheVariants.{Supervisor}
use Rattle.arm_core.specs.declared.turn.StepEnd.{StepEnd}
use Rattle.arm_core.specs.declared.turn.StepEnd.TheVariants as turn
use Rattle.profile.specs.images.Entries.{Entry}
use Rattle.os_heap.specs.Store.{Store}
use Rattle.dynamic_areas.specs.Ground.{AreaStore}
use Rattle.flex_store.specs.Calls.{flex_block_size}
use Rattle.flex_store.specs.declared.flex.Flex.{Flex}
use Rattle.instances.specs.module_state.ModuleState.{ModuleState}
use Rattle.instances_table.specs.plans.Carrying.{Carried}
use Rattle.instances_table.specs.plans.Plans.{Plan, plan_after_code}
use Rattle.instances_table.specs.declared.plans.code.Code.{Code}
use Rattle.instances_table.specs.declared.plans.given.Given.{Given}
use Rattle.instances_table.specs.Lookup.{handler_of}
use Rattle.instances_table.specs.declared.parts.Handler.{Handler}
use Rattle.swi_dispatch_guest.specs.Refusals.{or_error}
use Rattle.swi_dispatch_guest.specs.SwiDispatchAnswersWords.{host_string}
use Rattle.swi_dispatch_guest.specs.Refusal.{Refusal}
use Rattle.swi_dispatch_guest.specs.Refusal.TheVariants as refusal
use Rattle.swi_dispatch_guest.specs.SwiDispatchFlexCalls.{flex_called, state_in}
use Rattle.swi_dispatch_guest.specs.Call.{Call}
use Rattle.swi_dispatch_guest.specs.SwiDispatchAnswersFrame.{Frame}
use Rattle.swi_dispatch_guest.specs.FrameKind.{FrameKind}
use Rattle.swi_dispatch_guest.specs.FrameKind.TheVariants as frame_kind
use Rattle.swi_dispatch_guest.specs.Frames.{innermost_frame}
use Rattle.swi_dispatch_guest.specs.SwiDispatchPlansCalls.{result_of_module_call as area_called}
use Rattle.swi_dispatch_guest.specs.Openings.{opening_asked}
use Rattle.swi_dispatch_guest.specs.Trials.{module_state_carried}
use Rattle.swi_dispatch_guest.specs.Opening.{Opening}
use Rattle.instances.specs.declared.answers.Start.{Start}
use Rattle.instances.specs.Reading.{start_found}
use Rattle.swi_dispatch_guest.specs.Areas.{area_called as area_work, area_read}
use Rattle.swi_dispatch_guest.specs.Heaps.{heap_called}
use Rattle.swi_dispatch_guest.specs.declared.halt.Halt.{Halt}
use Rattle.swi_dispatch_guest.specs.declared.halt.Halt.TheVariants as halt
use Rattle.swi_dispatch_guest.specs.Additions.{Planned, load_planned}
use Rattle.swi_dispatch_guest.specs.Answers.{Answer, refusal_answer, went_on}
use Rattle.swi_dispatch_guest.specs.Calls.{call_answer, machine_flex, on_area_store, on_flex, on_store, on_module_state, printable_at, wrote_text_after, wrote_text_at}
use Rattle.swi_dispatch_guest.specs.Errors.{with_error}
use Rattle.swi_dispatch_guest.specs.Gates.{call_ended_by, carried_on, come_back, ended_of, entered_if, entered_with, fault_ahead, state_after_plan, frame_closed, frame_left, outcome_of_gate, gated_by, state_with_code_entered, outcome_left, plan_left, unless_fault}
use Rattle.swi_dispatch_guest.specs.MachineState.{MachineState, StepOutcome, machine_area_store, machine_module_state, silent, setting_of, with_module_state}
use Rattle.swi_dispatch_guest.specs.ModuleStart.{opened_at}
use Rattle.swi_dispatch_guest.specs.Returns.{outcome_of_error, gone_back, outcome_of_halt}
use Rattle.swi_dispatch_guest.specs.Step.{outcome_of_planned, call_of, outcome_of_call, called_by, outcome_of_answer, outcome_of_end, handler_entered, is_exit, outcome_of_module_swi as handler_called, module_entered, module_loaded, os_module_called, os_module_called_for, outcome_of_turn, unless_halted, without_x}
use Rattle.swi_dispatch_guest.specs.Moves.{swi_of_turn}
use Rattle.law_machine.specs.live_bytes.FlexPlaces.{may_change_flex}

module _ (s : MachineState) where
  abbrev pub Same : MachineState → Type 0
  Same t = t.tables.flex ≡ s.tables.flex

  -- answers, and errors
  error_same : (t : MachineState) (e : Refusal) → Same t → Same (with_error t e)
  error_same t refusal.Own same = same
  error_same t (refusal.System e) same = same

  by_error : (x : Bool) (a : Answer) (e : Option Refusal) → Same a.left.now → Same (outcome_of_end s x a e).now
  by_error x a None same = same
  by_error true a (Some e) same = error_same a.left.now e same
  by_error false a (Some e) same = refl

  ended_same : (x : Bool) (a : Answer) → Same a.left.now → Same (outcome_of_answer s x a).now
  ended_same x a same = by_error x a a.error same

  abbrev Went : Result MachineState Refusal → Type 0
  Went (Ok t) = Same t
  Went (Err e) = Unit {0}

  went_same : (next : ℕ) (r : Result MachineState Refusal) → Went r → Same (went_on s next r).left.now
  went_same next (Ok t) same = same
  went_same next (Err e) same = refl

  store_went : (r : Result (State × Store) Refusal) → Went (on_store s r)
  store_went (Ok q) = refl
  store_went (Err e) = tt

  area_store_went : (r : Result (State × AreaStore) Refusal) → Went (on_area_store s r)
  area_store_went (Ok q) = refl
  area_store_went (Err e) = tt

  module_state_went : (r : Result (State × ModuleState) Refusal) → Went (on_module_state s r)
  module_state_went (Ok q) = refl
  module_state_went (Err e) = tt

  text_after : (next : ℕ) (o : Option (List ℕ)) → Same (wrote_text_after s next o).left.now
  text_after next None = refl
  text_after next (Some text) = refl

  text_at : (next at : ℕ) (o : Option (List ℕ)) → Same (wrote_text_at s next at o).left.now
  text_at next at None = refl
  text_at next at (Some text) = refl

  size_went : (r : Result ℕ ErrorNumber) → Went (on_flex s (bind (or_error r) (λ n. Ok (with_register s.cpu 0 n, machine_flex s))))
  size_went (Ok n) = refl
  size_went (Err e) = tt

  size_same : (next : ℕ) → Same (went_on s next (on_flex s (flex_called s.cpu (machine_flex s) (Some swi.FlexSize)))).left.now
  unfolding flex_called
  size_same next =
      went_same next (on_flex s (flex_called s.cpu (machine_flex s) (Some swi.FlexSize)))
      (size_went (flex_block_size (state_in (machine_flex s)) (register_of s.cpu 0)))

  unknown_same : (next : ℕ) → Same (went_on s next (on_flex s (flex_called s.cpu (machine_flex s) None))).left.now
  unfolding flex_called
  unknown_same next = refl

  exit_same : (next : ℕ) → Same (went_on s next (on_flex s (flex_called s.cpu (machine_flex s) (Some swi.Exit)))).left.now
  unfolding flex_called
  exit_same next = refl

  answer_same : (next number : ℕ) (name : Option SwiName) → may_change_flex name ≡ false → Same (call_answer s next number name).left.now
  unfolding call_answer
  answer_same next number (Some swi.WriteC) other = refl
  answer_same next number (Some swi.WriteS) other = text_after next (printable_at s.store.bytes next)
  answer_same next number (Some swi.Write0) other = text_at next (register_of s.cpu 0) (printable_at s.store.bytes (register_of s.cpu 0))
  answer_same next number (Some swi.NewLine) other = refl
  answer_same next number (Some swi.Exit) other = exit_same next
  answer_same next number (Some swi.EnterOs) other = refl
  answer_same next number (Some swi.Heap) other = went_same next (on_store s (heap_called s.cpu s.store)) (store_went (heap_called s.cpu s.store))
  answer_same next number (Some swi.Module) other =
      went_same next (on_module_state s (area_called s.cpu (machine_module_state s))) (module_state_went (area_called s.cpu (machine_module_state s)))
  answer_same next number (Some swi.ChangeDynamicArea) other = refl
  answer_same next number (Some swi.GenerateError) other = refl
  answer_same next number (Some swi.ReadDynamicArea) other =
      went_same next (on_area_store s (area_read s.cpu (machine_area_store s))) (area_store_went (area_read s.cpu (machine_area_store s)))
  answer_same next number (Some swi.DynamicArea) other =
      went_same next (on_area_store s (area_work s.cpu (machine_area_store s))) (area_store_went (area_work s.cpu (machine_area_store s)))
  answer_same next number (Some swi.WriteI) other = refl
  answer_same next number (Some swi.FlexInit) other = absurd (true≢false other)
  answer_same next number (Some swi.FlexAlloc) other = absurd (true≢false other)
  answer_same next number (Some swi.FlexFree) other = absurd (true≢false other)
  answer_same next number (Some swi.FlexSize) other = size_same next
  answer_same next number (Some swi.FlexExtend) other = absurd (true≢false other)
  answer_same next number (Some swi.FlexMidExtend) other = absurd (true≢false other)
  answer_same next number None other = unknown_same next

  call_refused_same : (x : Bool) (next : ℕ) (e : Refusal) → Same (outcome_of_answer s x (refusal_answer s next e)).now
  call_refused_same x next e = ended_same x (refusal_answer s next e) refl

  -- a SWI of a module
  entered_same : (x : Bool) (next number : ℕ) (handler : Handler) (full : Bool)
      → Same (if full then outcome_of_answer s x (refusal_answer s next (refusal.System FrameLimit)) else silent (handler_entered s (call_of s x next false) number handler)).now
  entered_same x next number handler true = call_refused_same x next (refusal.System FrameLimit)
  entered_same x next number handler false = refl

  handler_same : (x : Bool) (next number : ℕ) (o : Option Handler) → Same (handler_called s x next number o).now
  handler_same x next number None = call_refused_same x next (refusal.System SwiUnknown)
  handler_same x next number (Some handler) = entered_same x next number handler (length s.tables.frames == 32)

-- a call on modules that is carried on
opened_same : (s : MachineState) (text : List ℕ) (slot : ℕ) (o : Option ℕ) → Same s (opened_at s text slot o)
opened_same s text slot None = refl
opened_same s text slot (Some at) = refl

start_same : (s : MachineState) (text : List ℕ) (r : Result Start ErrorNumber) → Same s (entered_with s text r)
start_same s text (Ok start) = opened_same s text start.slot start.at
start_same s text (Err e) = refl

if_same : (s : MachineState) (enters : Bool) (g : Given) → Same s (entered_if enters s g)
if_same s true g = start_same s g.text.items (start_found s.tables.modules g.header.title.items)
if_same s false g = refl

back_same : (s : MachineState) (call : Call) (g : Given) (first : Option ℕ) → Same s (call_ended_by s call g first)
back_same s call g (Some r0) = refl
back_same s call g None = if_same (gone_back call.caller s false call.next) call.enters g

finished_same : (s : MachineState) (call : Call) (w : ModuleState) (q : Plan) (o : Option Code)
    → (let c : Carried ModuleState = record { module_state = w; rest = q; code = o } in Same s (state_after_plan (state_with_code_entered s call c) call (ended_of c)))
finished_same s call w q (Some code) = refl
finished_same s call w q None = back_same (state_with_code_entered s call (record { module_state = w; rest = q; code = None })) call q.given q.first

carried_same : (s : MachineState) (call : Call) (p : Plan) → Same s (carried_on s call p)
carried_same s call p =
    let c : Carried ModuleState = module_state_carried (machine_module_state s) p in
    finished_same s call c.module_state c.rest c.code

begun_same : (s : MachineState) (x : Bool) (next : ℕ) (enters : Bool) (r : Result Planned ErrorNumber) → Same s (outcome_of_planned s x next enters r).now
unfolding outcome_of_planned
begun_same s x next enters (Err e) = call_refused_same s x next (refusal.System e)
begun_same s x next enters (Ok w) = carried_same (with_module_state s w.module_state) (call_of s x next enters) w.plan

module_entered_same : (s : MachineState) (x : Bool) (next : ℕ) (r : Result Opening ErrorNumber) → Same s (module_entered s x next r).now
module_entered_same s x next (Err e) = call_refused_same s x next (refusal.System e)
module_entered_same s x next (Ok o) = opened_same (gone_back s.cpu.psr s false next) o.text.items o.start.slot o.start.at

module _ (images : List Entry) (s : MachineState) (x : Bool) (next number : ℕ) where
  area_same : Same s (outcome_of_answer s x (call_answer s next number (Some swi.Module))).now
  area_same = ended_same s x (call_answer s next number (Some swi.Module)) (answer_same s next number (Some swi.Module) refl)

  reason_same : (why : Option ModuleReason) → Same s (os_module_called_for images s x next number why).now
  reason_same (Some reason.Run) = begun_same s x next true _
  reason_same (Some reason.Load) = begun_same s x next false _
  reason_same (Some reason.Enter) = module_entered_same s x next (opening_asked (setting_of s))
  reason_same (Some reason.Reinit) = begun_same s x next false _
  reason_same (Some reason.Delete) = begun_same s x next false _
  reason_same (Some reason.Tidy) = begun_same s x next false _
  reason_same (Some reason.Clear) = begun_same s x next false _
  reason_same (Some reason.Insert) = begun_same s x next false _
  reason_same (Some reason.InsertCopy) = begun_same s x next false _
  reason_same (Some reason.Instantiate) = begun_same s x next false _
  reason_same (Some reason.DescribeArea) = area_same
  reason_same (Some reason.Claim) = area_same
  reason_same (Some reason.Free) = area_same
  reason_same (Some reason.Info) = area_same
  reason_same (Some reason.Extend) = area_same
  reason_same (Some reason.Rename) = area_same
  reason_same (Some reason.Prefer) = area_same
  reason_same (Some reason.Lookup) = area_same
  reason_same None = area_same

  module_same : Same s (os_module_called images s x next number).now
  unfolding os_module_called
  module_same = reason_same (module_reason (register_of s.cpu 0))

  name_same : (name : Option SwiName) → may_change_flex name ≡ false → Same s (called_by images s x next number name).now
  name_same None other = handler_same s x next number (handler_of number s.tables.modules)
  name_same (Some swi.Module) other = module_same
  name_same (Some name) other = ended_same s x (call_answer s next number (Some name)) (answer_same s next number (Some name) other)

  exit_or : (name : Option SwiName) (exits : Bool) → may_change_flex name ≡ false
      → Same s (if exits then outcome_of_halt s halt.Exit else called_by images s x next number name).now
  exit_or name true other = refl
  exit_or name false other = name_same name other

  pub called_same : may_change_flex (swi_of number) ≡ false → Same s (outcome_of_call images s x next number).now
  unfolding outcome_of_call
  called_same other = exit_or (swi_of number) (is_exit (swi_of number)) other

-- module code comes back
module _ (s : MachineState) where
  fault_same : (t : MachineState) (o : Option ℕ) → Same s t → Same s (unless_fault s o t).now
  fault_same t None same = same
  fault_same t (Some number) same = refl

  plan_same : (f : Frame) (o : Option Plan) → Same s (plan_left s f o).now
  plan_same f None = refl
  plan_same f (Some p) =
      let q : Plan = plan_after_code p (outcome_left s.cpu) in
      fault_same (carried_on (come_back s f) f.call q) (fault_ahead f.call (machine_module_state s) q) (carried_same (come_back s f) f.call q)

  swi_same : (f : Frame) (overflow x : Bool) → Same s (if overflow then outcome_of_error s x (silent (frame_closed s f)) else silent (frame_closed s f)).now
  swi_same f false x = refl
  swi_same f true true = refl
  swi_same f true false = refl

  frame_same : (f : Frame) (kind : FrameKind) → Same s (frame_left s f kind s.tables.plan).now
  frame_same f (frame_kind.Swi number) = swi_same f s.cpu.psr.overflow f.call.is_x
  frame_same f (frame_kind.Entry kind) = plan_same f s.tables.plan

  stack_same : (f : Frame) (well : Bool) → Same s (if well then frame_left s f f.kind s.tables.plan else outcome_of_halt s (halt.Fault StackChanged)).now
  stack_same f true = frame_same f f.kind
  stack_same f false = refl

  innermost_same : (o : Option Frame) → Same s (gated_by s o).now
  innermost_same None = refl
  innermost_same (Some f) = stack_same f (register_in Supervisor s.cpu 13 == f.stack)

  gate_same : Same s (outcome_of_gate s).now
  gate_same = innermost_same (innermost_frame s.tables.frames)

  pub turn_same : (images : List Entry) (r : Result (State × Bytes) StepEnd) → may_change_flex (swi_of_turn r) ≡ false → Same s (outcome_of_turn images s r).now
  turn_same images (Ok w) other = refl
  turn_same images (Err turn.Done) other = refl
  turn_same images (Err (turn.Swi n)) other = called_same images s (bit_of n 17) ((s.cpu.pc + 4) % 2 ^ 26) (without_x n) other
  turn_same images (Err turn.Gate) other = gate_same
  turn_same images (Err (turn.Fault f)) other = refl

  pub unhalted_same : (o : Option Halt) (a : StepOutcome) → Same s a.now → Same s (unless_halted s o a).now
  unhalted_same None a same = same
  unhalted_same (Some why) a same = refl

  pub loaded_same : (images : List Entry) (text : List ℕ) → Same s (module_loaded images s text).now
  unfolding module_loaded
  loaded_same images text =
      let o : StepOutcome = outcome_of_planned s true s.cpu.pc false (bind (ok_or (host_string text) BadString) (λ words. load_planned images s words false)) in
      unhalted_same s.halt o (begun_same s true s.cpu.pc false _)
