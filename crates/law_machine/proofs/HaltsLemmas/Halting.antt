-- A step that ends in a halt leaves the machine as it was: each call goes on, or halts at once.
use Rattle.std.proofs.Common.{ℕ, Bool, true, false, ◌+◌, ◌%◌, ◌^◌, ◌==◌, ◌≡◌, ◌∙◌, ◌⊎◌, List, Option, Some, None, Result, Ok, Err, length, refl, sym, ap, inl, inr}
use Rattle.std.specs.Prelude.{if◌then◌else◌, ok_or}
use Rattle.std.proofs.lemmas.Bool.{cases_Bool}
use Rattle.profile.specs.Outcome.{bind}
use Rattle.profile.specs.SwiNames.{swi_of}
use Rattle.profile.specs.Word.{bit_of}
use Rattle.profile.specs.ErrorNumber.{ErrorNumber}
use Rattle.profile.specs.ErrorNumber.TheVariants.{BadString, FrameLimit, SwiUnknown}
use Rattle.profile.specs.Fault.{Fault}
use Rattle.profile.specs.Fault.TheVariants.{ErrorStop, FetchUnmapped, StackChanged}
use Rattle.profile.specs.declared.reason.ModuleReason.{ModuleReason}
use Rattle.profile.specs.declared.reason.ModuleReason.TheVariants as reason
use Rattle.profile.specs.declared.swi.SwiName.{SwiName}
use Rattle.profile.specs.declared.swi.SwiName.TheVariants as swi
use Rattle.profile.specs.Reasons.{module_reason}
use Rattle.address_map.specs.Bytes.{Bytes}
use Rattle.arm_core.specs.declared.psr.Mode.TheVariants.{Supervisor}
use Rattle.arm_core.specs.State.{State, register_in, register_of}
use Rattle.arm_core.specs.declared.turn.StepEnd.{StepEnd}
use Rattle.arm_core.specs.declared.turn.StepEnd.TheVariants as turn
use Rattle.profile.specs.images.Entries.{Entry}
use Rattle.instances_table.specs.declared.plans.given.Given.{Given}
use Rattle.instances_table.specs.plans.Carrying.{Carried}
use Rattle.instances_table.specs.plans.Plans.{Plan, plan_after_code}
use Rattle.instances.specs.module_state.ModuleState.{ModuleState}
use Rattle.instances_table.specs.declared.parts.Handler.{Handler}
use Rattle.instances_table.specs.Lookup.{handler_of}
use Rattle.swi_dispatch_guest.specs.SwiDispatchAnswersWords.{host_string}
use Rattle.swi_dispatch_guest.specs.Refusal.{Refusal}
use Rattle.swi_dispatch_guest.specs.Refusal.TheVariants as refusal
use Rattle.swi_dispatch_guest.specs.Call.{Call}
use Rattle.swi_dispatch_guest.specs.SwiDispatchAnswersFrame.{Frame}
use Rattle.swi_dispatch_guest.specs.FrameKind.{FrameKind}
use Rattle.swi_dispatch_guest.specs.FrameKind.TheVariants as frame
use Rattle.swi_dispatch_guest.specs.Frames.{innermost_frame}
use Rattle.swi_dispatch_guest.specs.ImagePlans.{instantiation_planned}
use Rattle.swi_dispatch_guest.specs.ModulePlans.{clear_planned, delete_planned, reinit_planned, tidy_planned}
use Rattle.swi_dispatch_guest.specs.Openings.{opening_asked}
use Rattle.swi_dispatch_guest.specs.Trials.{module_state_carried}
use Rattle.swi_dispatch_guest.specs.Opening.{Opening}
use Rattle.instances.specs.declared.answers.Start.{Start}
use Rattle.instances.specs.Reading.{start_found}
use Rattle.swi_dispatch_guest.proofs.NextTurn.{unhalted_step}
use Rattle.swi_dispatch_guest.specs.declared.halt.Halt.{Halt}
use Rattle.swi_dispatch_guest.specs.declared.halt.Halt.TheVariants as halt
use Rattle.swi_dispatch_guest.specs.Additions.{Planned, copy_planned, insertion_planned, load_planned, named_load_planned, plan_alone}
use Rattle.swi_dispatch_guest.specs.Answers.{Answer, refusal_answer}
use Rattle.swi_dispatch_guest.specs.Calls.{call_answer}
use Rattle.swi_dispatch_guest.specs.Errors.{error_number}
use Rattle.swi_dispatch_guest.specs.Gates.{call_ended_by, carried_on, come_back, ended_of, entered_if, entered_with, fault_ahead, state_after_plan, frame_closed, frame_left, gated_by, state_with_code_entered, outcome_left, plan_left, swi_left, unless_fault}
use Rattle.swi_dispatch_guest.specs.MachineState.{MachineState, StepOutcome, machine_module_state, silent, setting_of, with_module_state}
use Rattle.swi_dispatch_guest.specs.ModuleStart.{opened_at}
use Rattle.swi_dispatch_guest.specs.Returns.{outcome_of_error, error_answered, gone_back, outcome_of_halt}
use Rattle.swi_dispatch_guest.specs.Step.{outcome_of_planned, begun_alone, call_of, call_refused, outcome_of_call, called_by, outcome_of_answer, outcome_of_end, result_of_instruction, is_exit, machine_step, outcome_of_module_swi, module_entered, module_loaded, os_module_called, os_module_called_for, store_called, outcome_of_turn, unless_halted, without_x}
use Rattle.law_machine.proofs.HaltsLemmas.Answering.{answer_left}
use Rattle.law_machine.specs.halts.Halts.{Exits, ExitsAreCalls, HaltsChangeNothing, NoFaultFromOutside, stopped_as_it_was}

-- What ends in no call of OS_Exit leaves the halt, or where no error is answered ends in a fault at
-- once.
abbrev Goes : Bool → MachineState → StepOutcome → Type 0
Goes x s o = (o.now.halt ≡ s.halt) ⊎ ((x ≡ false) × ((f : Fault) × (o ≡ outcome_of_halt s (halt.Fault f))))

-- how a call ends
ended_goes_by : (s : MachineState) (x : Bool) (a : Answer) (e : Option Refusal) → a.left.now.halt ≡ s.halt → Goes x s (outcome_of_end s x a e)
ended_goes_by s x a None kept = inl kept
ended_goes_by s true a (Some (refusal.System e)) kept = inl kept
ended_goes_by s true a (Some refusal.Own) kept = inl kept
ended_goes_by s false a (Some e) kept =
    inr (refl, (ErrorStop (error_number (error_answered s.cpu.psr a.left a.next e).now), refl))

ended_goes : (s : MachineState) (x : Bool) (a : Answer) → a.left.now.halt ≡ s.halt → Goes x s (outcome_of_answer s x a)
ended_goes s x a kept = ended_goes_by s x a a.error kept

refused_goes : (s : MachineState) (x : Bool) (next : ℕ) (e : ErrorNumber) → Goes x s (call_refused s x next e)
refused_goes s x next e = ended_goes s x (refusal_answer s next (refusal.System e)) refl

-- a call on modules that is carried on never halts
opened_at_kept : (s : MachineState) (text : List ℕ) (slot : ℕ) (o : Option ℕ) → (opened_at s text slot o).halt ≡ s.halt
opened_at_kept s text slot None = refl
opened_at_kept s text slot (Some at) = refl

entered_kept : (s : MachineState) (text : List ℕ) (r : Result Start ErrorNumber) → (entered_with s text r).halt ≡ s.halt
entered_kept s text (Ok start) = opened_at_kept s text start.slot start.at
entered_kept s text (Err e) = refl

entered_if_kept : (enters : Bool) (s : MachineState) (g : Given) → (entered_if enters s g).halt ≡ s.halt
entered_if_kept true s g = entered_kept s g.text.items (start_found s.tables.modules g.header.title.items)
entered_if_kept false s g = refl

ended_kept : (s : MachineState) (call : Call) (g : Given) (first : Option ℕ) → (call_ended_by s call g first).halt ≡ s.halt
ended_kept s call g (Some r0) = refl
ended_kept s call g None = entered_if_kept call.enters (gone_back call.caller s false call.next) g

finished_kept : (s : MachineState) (call : Call) (p : Option Plan) → (state_after_plan s call p).halt ≡ s.halt
finished_kept s call (Some p) = ended_kept s call p.given p.first
finished_kept s call None = refl

carried_kept : (s : MachineState) (call : Call) (p : Plan) → (carried_on s call p).halt ≡ s.halt
carried_kept s call p =
    let c : Carried ModuleState = module_state_carried (machine_module_state s) p in
    finished_kept (state_with_code_entered s call c) call (ended_of c)

begun_goes : (s : MachineState) (x : Bool) (next : ℕ) (enters : Bool) (r : Result Planned ErrorNumber) → Goes x s (outcome_of_planned s x next enters r)
unfolding outcome_of_planned
begun_goes s x next enters (Ok w) = inl (carried_kept (with_module_state s w.module_state) (call_of s x next enters) w.plan)
begun_goes s x next enters (Err e) = refused_goes s x next e

module_entered_goes : (s : MachineState) (x : Bool) (next : ℕ) (r : Result Opening ErrorNumber) → Goes x s (module_entered s x next r)
module_entered_goes s x next (Err e) = refused_goes s x next e
module_entered_goes s x next (Ok o) = inl (opened_at_kept (gone_back s.cpu.psr s false next) o.text.items o.start.slot o.start.at)

module _ (images : List Entry) (s : MachineState) (x : Bool) (next number : ℕ) where
  plain_goes : (o : Option SwiName) → Goes x s (outcome_of_answer s x (call_answer s next number o))
  plain_goes o = ended_goes s x (call_answer s next number o) (answer_left s next number o)

  other_goes : Goes x s (outcome_of_answer s x (call_answer s next number (Some swi.Module)))
  other_goes = plain_goes (Some swi.Module)

  alone_goes : (r : Result Plan ErrorNumber) → Goes x s (begun_alone s x next r)
  alone_goes r = begun_goes s x next false (bind r (λ p. let w : Result Planned ErrorNumber = Ok (plan_alone s p) in w))

  module_goes : (o : Option ModuleReason) → Goes x s (os_module_called_for images s x next number o)
  module_goes None = other_goes
  module_goes (Some reason.Run) = begun_goes s x next true (named_load_planned images s true)
  module_goes (Some reason.Load) = begun_goes s x next false (named_load_planned images s false)
  module_goes (Some reason.Enter) = module_entered_goes s x next (opening_asked (setting_of s))
  module_goes (Some reason.Reinit) = alone_goes (reinit_planned (setting_of s))
  module_goes (Some reason.Delete) = alone_goes (delete_planned (setting_of s))
  module_goes (Some reason.DescribeArea) = other_goes
  module_goes (Some reason.Claim) = other_goes
  module_goes (Some reason.Free) = other_goes
  module_goes (Some reason.Tidy) = alone_goes (tidy_planned (setting_of s) next)
  module_goes (Some reason.Clear) = alone_goes (clear_planned (setting_of s))
  module_goes (Some reason.Insert) = begun_goes s x next false (insertion_planned s)
  module_goes (Some reason.InsertCopy) = begun_goes s x next false (copy_planned s)
  module_goes (Some reason.Info) = other_goes
  module_goes (Some reason.Extend) = other_goes
  module_goes (Some reason.Instantiate) = alone_goes (instantiation_planned (setting_of s))
  module_goes (Some reason.Rename) = other_goes
  module_goes (Some reason.Prefer) = other_goes
  module_goes (Some reason.Lookup) = other_goes

  handler_goes : (o : Option Handler) → Goes x s (outcome_of_module_swi s x next number o)
  handler_goes None = refused_goes s x next SwiUnknown
  handler_goes (Some h) = elim (cases_Bool (length s.tables.frames == 32)) [
    | inl full ↦ rw full (refused_goes s x next FrameLimit)
    | inr room ↦ rw room (inl refl)
  ]

  -- each call but OS_Exit
  named_goes : (o : Option SwiName) → (o ≡ Some swi.Exit → ⊥) → Goes x s (called_by images s x next number o)
  unfolding os_module_called
  named_goes None other = handler_goes (handler_of number s.tables.modules)
  named_goes (Some swi.Exit) other = absurd (other refl)
  named_goes (Some swi.Module) other = module_goes (module_reason (register_of s.cpu 0))
  named_goes (Some swi.WriteC) other = plain_goes (Some swi.WriteC)
  named_goes (Some swi.WriteS) other = plain_goes (Some swi.WriteS)
  named_goes (Some swi.Write0) other = plain_goes (Some swi.Write0)
  named_goes (Some swi.NewLine) other = plain_goes (Some swi.NewLine)
  named_goes (Some swi.EnterOs) other = plain_goes (Some swi.EnterOs)
  named_goes (Some swi.Heap) other = plain_goes (Some swi.Heap)
  named_goes (Some swi.ChangeDynamicArea) other = plain_goes (Some swi.ChangeDynamicArea)
  named_goes (Some swi.GenerateError) other = plain_goes (Some swi.GenerateError)
  named_goes (Some swi.ReadDynamicArea) other = plain_goes (Some swi.ReadDynamicArea)
  named_goes (Some swi.DynamicArea) other = plain_goes (Some swi.DynamicArea)
  named_goes (Some swi.WriteI) other = plain_goes (Some swi.WriteI)
  named_goes (Some swi.FlexInit) other = plain_goes (Some swi.FlexInit)
  named_goes (Some swi.FlexAlloc) other = plain_goes (Some swi.FlexAlloc)
  named_goes (Some swi.FlexFree) other = plain_goes (Some swi.FlexFree)
  named_goes (Some swi.FlexSize) other = plain_goes (Some swi.FlexSize)
  named_goes (Some swi.FlexExtend) other = plain_goes (Some swi.FlexExtend)
  named_goes (Some swi.FlexMidExtend) other = plain_goes (Some swi.FlexMidExtend)

-- is a name OS_Exit?
pub exit_cases : (o : Option SwiName) → ((o ≡ Some swi.Exit) × (is_exit o ≡ true)) ⊎ ((o ≡ Some swi.Exit → ⊥) × (is_exit o ≡ false))
exit_cases None = inr ((λ same. cc), refl)
exit_cases (Some swi.Exit) = inl (refl, refl)
exit_cases (Some swi.Module) = inr ((λ same. cc), refl)
exit_cases (Some swi.WriteC) = inr ((λ same. cc), refl)
exit_cases (Some swi.WriteS) = inr ((λ same. cc), refl)
exit_cases (Some swi.Write0) = inr ((λ same. cc), refl)
exit_cases (Some swi.NewLine) = inr ((λ same. cc), refl)
exit_cases (Some swi.EnterOs) = inr ((λ same. cc), refl)
exit_cases (Some swi.Heap) = inr ((λ same. cc), refl)
exit_cases (Some swi.ChangeDynamicArea) = inr ((λ same. cc), refl)
exit_cases (Some swi.GenerateError) = inr ((λ same. cc), refl)
exit_cases (Some swi.ReadDynamicArea) = inr ((λ same. cc), refl)
exit_cases (Some swi.DynamicArea) = inr ((λ same. cc), refl)
exit_cases (Some swi.WriteI) = inr ((λ same. cc), refl)
exit_cases (Some swi.FlexInit) = inr ((λ same. cc), refl)
exit_cases (Some swi.FlexAlloc) = inr ((λ same. cc), refl)
exit_cases (Some swi.FlexFree) = inr ((λ same. cc), refl)
exit_cases (Some swi.FlexSize) = inr ((λ same. cc), refl)
exit_cases (Some swi.FlexExtend) = inr ((λ same. cc), refl)
exit_cases (Some swi.FlexMidExtend) = inr ((λ same. cc), refl)

-- a call by its number
pub called_exits : (images : List Entry) (s : MachineState) (x : Bool) (next number : ℕ) → swi_of number ≡ Some swi.Exit
    → outcome_of_call images s x next number ≡ outcome_of_halt s halt.Exit
unfolding outcome_of_call
called_exits images s x next number is = rw is refl

called_goes : (images : List Entry) (s : MachineState) (x : Bool) (next number : ℕ) → (swi_of number ≡ Some swi.Exit → ⊥)
    → Goes x s (outcome_of_call images s x next number)
unfolding outcome_of_call
called_goes images s x next number other = elim (exit_cases (swi_of number)) [
  | inl is ↦ absurd (other is.0)
  | inr is ↦ rw is.1 (named_goes images s x next number (swi_of number) other)
]

-- the gate
erred_goes : (s : MachineState) (x : Bool) (answered : StepOutcome) → answered.now.halt ≡ s.halt → Goes false s (outcome_of_error s x answered)
erred_goes s true answered kept = inl kept
erred_goes s false answered kept = inr (refl, (ErrorStop (error_number answered.now), refl))

swi_left_by : (s : MachineState) (f : Frame) (refused : Bool) (answered : StepOutcome) → answered.now.halt ≡ s.halt
    → Goes false s (if refused then outcome_of_error s f.call.is_x answered else answered)
swi_left_by s f true answered kept = erred_goes s f.call.is_x answered kept
swi_left_by s f false answered kept = inl kept

swi_left_goes : (s : MachineState) (f : Frame) → Goes false s (swi_left s f)
swi_left_goes s f = swi_left_by s f s.cpu.psr.overflow (silent (frame_closed s f)) refl

fault_goes : (s : MachineState) (o : Option ℕ) (t : MachineState) → t.halt ≡ s.halt → Goes false s (unless_fault s o t)
fault_goes s None t kept = inl kept
fault_goes s (Some number) t kept = inr (refl, (ErrorStop number, refl))

plan_goes : (s : MachineState) (f : Frame) (kept : Option Plan) → Goes false s (plan_left s f kept)
plan_goes s f None = inr (refl, (FetchUnmapped, refl))
plan_goes s f (Some p) =
    let q : Plan = plan_after_code p (outcome_left s.cpu) in
    fault_goes s (fault_ahead f.call (machine_module_state s) q) (carried_on (come_back s f) f.call q) (carried_kept (come_back s f) f.call q)

frame_goes : (s : MachineState) (f : Frame) (kind : FrameKind) (kept : Option Plan) → Goes false s (frame_left s f kind kept)
frame_goes s f (frame.Swi number) kept = swi_left_goes s f
frame_goes s f (frame.Entry kind) kept = plan_goes s f kept

gate_goes : (s : MachineState) (o : Option Frame) → Goes false s (gated_by s o)
gate_goes s None = inr (refl, (FetchUnmapped, refl))
gate_goes s (Some f) = elim (cases_Bool (register_in Supervisor s.cpu 13 == f.stack)) [
  | inl same ↦ rw same (frame_goes s f f.kind s.tables.plan)
  | inr changed ↦ rw changed (inr (refl, (StackChanged, refl)))
]

-- a turn of the core
any_goes : (x : Bool) (s : MachineState) (o : StepOutcome) → Goes x s o → Goes false s o
any_goes x s o (inl kept) = inl kept
any_goes x s o (inr is) = inr (refl, is.1)

turn_goes : (images : List Entry) (s : MachineState) (r : Result (State × Bytes) StepEnd)
    → ((n : ℕ) × (r ≡ Err (turn.Swi n)) × (swi_of (without_x n) ≡ Some swi.Exit)) ⊎ Goes false s (outcome_of_turn images s r)
turn_goes images s (Ok w) = inr (inl refl)
turn_goes images s (Err turn.Done) = inr (inl refl)
turn_goes images s (Err (turn.Swi n)) = elim (exit_cases (swi_of (without_x n))) [
  | inl is ↦ inl (n, refl, is.0)
  | inr is ↦ inr (any_goes (bit_of n 17) s (outcome_of_call images s (bit_of n 17) ((s.cpu.pc + 4) % 2 ^ 26) (without_x n))
      (called_goes images s (bit_of n 17) ((s.cpu.pc + 4) % 2 ^ 26) (without_x n) is.0))
]
turn_goes images s (Err turn.Gate) = inr (gate_goes s (innermost_frame s.tables.frames))
turn_goes images s (Err (turn.Fault f)) = inr (inr (refl, (f, refl)))

exit_turned : (images : List Entry) (s : MachineState) (r : Result (State × Bytes) StepEnd) (n : ℕ) → r ≡ Err (turn.Swi n)
    → swi_of (without_x n) ≡ Some swi.Exit → outcome_of_turn images s r ≡ outcome_of_halt s halt.Exit
exit_turned images s r n is name =
    ap (λ (r : Result (State × Bytes) StepEnd). outcome_of_turn images s r) is
    ∙ called_exits images s (bit_of n 17) ((s.cpu.pc + 4) % 2 ^ 26) (without_x n) name

-- what is halted as it was is so with the halt that it has
as_it_was : (s : MachineState) (o : StepOutcome) (g h : Halt) → o ≡ outcome_of_halt s g → o.now.halt ≡ Some h → o ≡ stopped_as_it_was s h
as_it_was s o g h is ends =
    is ∙ ap (λ (k : Option Halt). let o : StepOutcome = silent (record s { halt = k }) in o) (sym (ap (λ (o : StepOutcome). o.now.halt) is) ∙ ends)

halts_by : (images : List Entry) (s : MachineState) (kept : Option Halt) (h : Halt) → s.halt ≡ kept
    → (unless_halted s kept (outcome_of_turn images s (result_of_instruction s))).now.halt ≡ Some h
    → unless_halted s kept (outcome_of_turn images s (result_of_instruction s)) ≡ stopped_as_it_was s h
halts_by images s (Some k) h is ends = ap (λ (k : Option Halt). let o : StepOutcome = silent (record s { halt = k }) in o) ends
halts_by images s None h is ends = elim (turn_goes images s (result_of_instruction s)) [
  | inl exit ↦ as_it_was s (outcome_of_turn images s (result_of_instruction s)) halt.Exit h (exit_turned images s (result_of_instruction s) exit.0 exit.1 exit.2) ends
  | inr goes ↦ elim goes [
    | inl kept ↦ absurd (let none : Some h ≡ None = sym ends ∙ (kept ∙ is) in cc)
    | inr stopped ↦ as_it_was s (outcome_of_turn images s (result_of_instruction s)) (halt.Fault stopped.1.0) h stopped.1.1 ends
  ]
]

pub halts_change_nothing : HaltsChangeNothing
unfolding machine_step
halts_change_nothing images s h ends = halts_by images s s.halt h refl ends

exits_by : (images : List Entry) (s : MachineState) → s.halt ≡ None → (outcome_of_turn images s (result_of_instruction s)).now.halt ≡ Some halt.Exit → Exits s
exits_by images s unhalted ends = elim (turn_goes images s (result_of_instruction s)) [
  | inl exit ↦ record { number = exit.0; is = exit.1; name = exit.2 }
  | inr goes ↦ elim goes [
    | inl kept ↦ absurd (let none : Some halt.Exit ≡ None = sym ends ∙ (kept ∙ unhalted) in cc)
    | inr stopped ↦
        absurd (let fault : Some halt.Exit ≡ Some (halt.Fault stopped.1.0) = sym ends ∙ ap (λ (o : StepOutcome). o.now.halt) stopped.1.1 in cc)
  ]
]

pub exits_are_calls : ExitsAreCalls
exits_are_calls images s unhalted = (
  λ ends. exits_by images s unhalted (sym (ap (λ (o : StepOutcome). o.now.halt) (unhalted_step images s unhalted)) ∙ ends),
  λ exit. ap (λ (o : StepOutcome). o.now.halt)
      (unhalted_step images s unhalted ∙ exit_turned images s (result_of_instruction s) exit.number exit.is exit.name),
)

-- from outside
x_kept : (s : MachineState) (o : StepOutcome) → Goes true s o → o.now.halt ≡ s.halt
x_kept s o (inl kept) = kept
x_kept s o (inr is) = absurd (let no : true ≡ false = is.0 in cc)

pub no_fault_from_outside : NoFaultFromOutside
unfolding store_called module_loaded
no_fault_from_outside images s number text unhalted =
    let n : ℕ = without_x (number % 2 ^ 24) in
    let after : StepOutcome = outcome_of_call images s true s.cpu.pc n in
    let plan : Result Planned ErrorNumber =
    bind (ok_or (host_string text) BadString) (λ words. load_planned images s words false) in
    let loaded : StepOutcome = outcome_of_planned s true s.cpu.pc false plan in
    record {
      exit = λ name.
          ap (λ (o : Option Halt). unless_halted s o after) unhalted ∙ called_exits images s true s.cpu.pc n name;
      call = λ other.
          ap (λ (o : Option Halt). (unless_halted s o after).now.halt) unhalted
          ∙ (x_kept s after (called_goes images s true s.cpu.pc n other) ∙ unhalted);
      load =
          ap (λ (o : Option Halt). (unless_halted s o loaded).now.halt) unhalted
          ∙ (x_kept s loaded (begun_goes s true s.cpu.pc false plan) ∙ unhalted);
    }
