-- Which bytes of the whole of memory a move of a machine writes, a store call from outside or a
-- step: those of its row in the table of calls, and of an error's block the number and the text
-- (RISC OS 3 Programmer's Reference Manual, "OS_Heap", "OS_Module", "OS_ChangeDynamicArea" and
-- "Generating and handling errors"; Acorn C manual, "flex").
use Rattle.profile.specs.MemoryMap.{application_start, error_block_start}
use Rattle.std.specs.Prelude.{ℕ, ◌≡◌, ◌-◌, ◌+◌, ◌%◌, ◌^◌, ◌⊎◌, Bool, true, false, length, List, [], ◌∷◌, Option, Some, None, Result, Ok, Err}
use Rattle.profile.specs.ErrorNames.{error_code, error_name}
use Rattle.profile.specs.Outcome.{bind}
use Rattle.profile.specs.Reasons.{module_reason}
use Rattle.profile.specs.Sizes.{Sizes}
use Rattle.profile.specs.ErrorNumber.{ErrorNumber}
use Rattle.profile.specs.declared.reason.ModuleReason.{ModuleReason}
use Rattle.profile.specs.declared.reason.ModuleReason.TheVariants as reason
use Rattle.profile.specs.declared.swi.SwiName.{SwiName}
use Rattle.profile.specs.declared.swi.SwiName.TheVariants as swi
use Rattle.address_map.specs.Bytes.{Bytes, in_range}
use Rattle.arm_core.specs.State.{State, register_of}
use Rattle.arm_core.specs.declared.turn.StepEnd.{StepEnd}
use Rattle.arm_core.specs.declared.turn.StepEnd.TheVariants as turn
use Rattle.profile.specs.images.Entries.{Entry}
use Rattle.swi_dispatch_guest.specs.Ground.{spelled_store}
use Rattle.flex_store.specs.Blocks.{FlexStore}
use Rattle.flex_store.specs.Runs.{Alloc, Extend, FlexCall, MidExtend, Release}
use Rattle.flex_store.specs.declared.flex.Extent.{Extent}
use Rattle.flex_store.specs.declared.flex.Flex.{Flex}
use Rattle.instances_table.specs.plans.Plans.{Plan, plan_after_code}
use Rattle.os_heap.specs.Store.{Store}
use Rattle.swi_dispatch_guest.specs.SwiDispatchAnswersFrame.{Frame}
use Rattle.swi_dispatch_guest.specs.Frames.{innermost_frame}
use Rattle.swi_dispatch_guest.specs.ImagePlans.{instantiation_planned}
use Rattle.swi_dispatch_guest.specs.ModulePlans.{clear_planned, delete_planned, reinit_planned, tidy_planned}
use Rattle.swi_dispatch_guest.specs.Openings.{opening_asked}
use Rattle.swi_dispatch_guest.specs.Opening.{Opening}
use Rattle.swi_dispatch_guest.specs.Additions.{Planned, copy_planned, insertion_planned, load_planned, named_load_planned, plan_alone}
use Rattle.swi_dispatch_guest.specs.Errors.{error_number}
use Rattle.swi_dispatch_guest.specs.Gates.{outcome_left}
use Rattle.swi_dispatch_guest.specs.MachineState.{MachineState, machine_start, machine_module_state, setting_of}
use Rattle.swi_dispatch_guest.specs.Moves.{Call, Move, Step, machine_after_event, machine_with_words, moved_all, outside_name, swi_made}
use Rattle.swi_dispatch_guest.specs.GuestState.{IsState}
use Rattle.swi_dispatch_guest.specs.Step.{module_loaded, result_of_instruction}
use Rattle.swi_dispatch_guest.specs.Writes.{with_program}
use Rattle.law_machine.specs.heap_alone.ByteLaws.{IsStoredPlain}
use Rattle.law_machine.specs.heap_alone.ModuleMoves.{is_at_gate}
use Rattle.law_machine.specs.live_bytes.FlexLaws.{IsAnchorByte}
use Rattle.law_machine.specs.live_bytes.HeapWrites.{IsWrittenByCall}
use Rattle.law_machine.specs.other_bytes.ActionWrites.{IsTextByte, IsWrittenByActions}
use Rattle.law_machine.specs.other_bytes.AreaWrites.{IsAreaWord, IsOfMovedAreaBlock}
use Rattle.law_machine.specs.other_bytes.FlexWrites.{header_of_call}
use Rattle.law_machine.specs.other_bytes.PageWrites.{IsAreaEndByte, IsUnmapped}

-- The call was refused, which V shows, by an error of the system: R0 points to the block of errors,
-- where its number stands then. The byte is of that word, of the error's text, or of the zero after
-- it.
pub record IsErrorByte (t : MachineState) (a : ℕ) : Type 0 where
  pub refused : t.cpu.psr.overflow ≡ true
  pub pointed : register_of t.cpu 0 ≡ error_block_start
  pub error : ErrorNumber
  pub number : error_number t ≡ error_code error
  pub byte : in_range error_block_start (length (error_name error) + 5) a ≡ true

-- OS_Module, the reasons that may run module code: what is planned of the call, which isn't refused
abbrev pub IsPlanned : List Entry → MachineState → ℕ → ModuleReason → Planned → Type 0
IsPlanned images s next reason.Run w = named_load_planned images s true ≡ Ok w
IsPlanned images s next reason.Load w = named_load_planned images s false ≡ Ok w
IsPlanned images s next reason.Reinit w = bind (reinit_planned (setting_of s)) (λ p. Ok (plan_alone s p)) ≡
    Ok w
IsPlanned images s next reason.Delete w = bind (delete_planned (setting_of s)) (λ p. Ok (plan_alone s p)) ≡
    Ok w
IsPlanned images s next reason.Tidy w = bind (tidy_planned (setting_of s) next) (λ p. Ok (plan_alone s p)) ≡
    Ok w
IsPlanned images s next reason.Clear w = bind (clear_planned (setting_of s)) (λ p. Ok (plan_alone s p)) ≡ Ok w
IsPlanned images s next reason.Insert w = insertion_planned s ≡ Ok w
IsPlanned images s next reason.InsertCopy w = copy_planned s ≡ Ok w
IsPlanned images s next reason.Instantiate w =
    bind (instantiation_planned (setting_of s)) (λ p. Ok (plan_alone s p)) ≡ Ok w
IsPlanned images s next other w = ⊥

-- those that make a block for a new image, whose bytes are written there; and the one that enters
-- its module at its end, with its text
abbrev pub makes_block : ModuleReason → Bool
makes_block reason.Run = true
makes_block reason.Load = true
makes_block reason.InsertCopy = true
makes_block other = false

abbrev pub enters_module : ModuleReason → Bool
enters_module reason.Run = true
enters_module other = false

-- What a plan writes that is begun: at once the new image, if it makes one; then what its actions
-- do up to the first module code; and the text, if the module is entered.
abbrev pub IsOfPlan : Bool → Bool → Planned → ℕ → Type 0
IsOfPlan makes enters w a =
    ((makes ≡ true) × (IsAreaWord w.module_state.area_store.store a
    ⊎ (in_range w.plan.given.image w.plan.given.len a ≡ true)))
    ⊎ (IsWrittenByActions w.plan.given w.module_state w.plan.actions a
    ⊎ ((enters ≡ true) × IsTextByte w.plan.given.text.items a))

pub record IsOfPlannedCall (images : List Entry) (s : MachineState) (next : ℕ) (why : ModuleReason) (a : ℕ) :
    Type 0 where
  pub planned : Planned
  pub is : IsPlanned images s next why planned
  pub byte : IsOfPlan (makes_block why) (enters_module why) planned a

-- OS_Module 2: a module is entered with a text.
pub record IsOfOpening (s : MachineState) (a : ℕ) : Type 0 where
  pub opening : Opening
  pub asked : opening_asked (setting_of s) ≡ Ok opening
  pub byte : IsTextByte opening.text.items a

-- a call that was done, which V shows
abbrev pub IsDone : MachineState → Type 0
IsDone t = t.cpu.psr.overflow ≡ false

-- OS_Module, by its reason: reasons 5, 12, 15, 16 and 18 write nothing.
abbrev pub IsOfModuleCall : List Entry → MachineState → ℕ → Option ModuleReason → MachineState → ℕ → Type 0
IsOfModuleCall images s next (Some reason.DescribeArea) t a = ⊥
IsOfModuleCall images s next (Some reason.Info) t a = ⊥
IsOfModuleCall images s next (Some reason.Rename) t a = ⊥
IsOfModuleCall images s next (Some reason.Prefer) t a = ⊥
IsOfModuleCall images s next (Some reason.Lookup) t a = ⊥
IsOfModuleCall images s next (Some reason.Claim) t a = IsDone t × IsAreaWord t.store a
IsOfModuleCall images s next (Some reason.Free) t a = IsDone t × IsAreaWord t.store a
IsOfModuleCall images s next (Some reason.Extend) t a = IsDone t × (IsAreaWord t.store a
    ⊎ IsOfMovedAreaBlock s.store t.store (register_of s.cpu 2) (register_of s.cpu 3) a)
IsOfModuleCall images s next (Some reason.Enter) t a = IsOfOpening s a
IsOfModuleCall images s next (Some why) t a = IsOfPlannedCall images s next why a
IsOfModuleCall images s next None t a = ⊥

-- A flex call: a byte of an anchor, or one from the block that the call makes, changes or takes
-- away on, before the end of the last block then.
pub record IsOfFlexText (s : MachineState) (f : Flex) (call : FlexCall) (a : ℕ) : Type 0 where
  pub old : FlexStore
  pub found : spelled_store s.store.bytes.at s.tables.flex.extent ≡ Some old
  pub new : Extent
  pub left : f.extent ≡ Some new
  pub byte : in_range (header_of_call old call) (new.start + new.used - header_of_call old call) a ≡ true

abbrev pub IsOfFlexCall : MachineState → Store → Flex → FlexCall → ℕ → Type 0
IsOfFlexCall s t f call a = IsAnchorByte s.store t a ⊎ IsOfFlexText s f call a

-- What each call writes, by its name: those that aren't here write nothing. `next` is where the
-- caller goes on.
abbrev pub IsOfCall : List Entry → MachineState → ℕ → Option SwiName → MachineState → ℕ → Type 0
IsOfCall images s next (Some swi.Heap) t a = IsWrittenByCall s.cpu s.store t a
IsOfCall images s next (Some swi.Module) t a = IsOfModuleCall images s next
    (module_reason (register_of s.cpu 0)) t a
IsOfCall images s next (Some swi.ChangeDynamicArea) t a = IsUnmapped t.store a
    ⊎ ((register_of s.cpu 0 ≡ 1) × IsAreaEndByte a)
IsOfCall images s next (Some swi.DynamicArea) t a = IsDone t × IsUnmapped t.store a
IsOfCall images s next (Some swi.FlexAlloc) t a = IsDone t × IsOfFlexCall s t.store t.tables.flex
    (Alloc (register_of s.cpu 0) (register_of s.cpu 1)) a
IsOfCall images s next (Some swi.FlexFree) t a = IsDone t × IsOfFlexCall s t.store t.tables.flex
    (Release (register_of s.cpu 0)) a
IsOfCall images s next (Some swi.FlexExtend) t a = IsDone t × IsOfFlexCall s t.store t.tables.flex
    (Extend (register_of s.cpu 0) (register_of s.cpu 1)) a
IsOfCall images s next (Some swi.FlexMidExtend) t a = IsDone t × IsOfFlexCall s t.store t.tables.flex
    (MidExtend (register_of s.cpu 0) (register_of s.cpu 1) (register_of s.cpu 2)) a
IsOfCall images s next other t a = ⊥

-- Module code comes back to its frame, and its call is carried on with what is left of its plan; at
-- the end of a call that enters its module the text is written.
abbrev pub IsOfGate : MachineState → Option Frame → Option Plan → ℕ → Type 0
IsOfGate s (Some f) (Some p) a =
    (let q : Plan = plan_after_code p (outcome_left s.cpu) in
    IsWrittenByActions q.given (machine_module_state s) q.actions a
    ⊎ ((f.call.enters ≡ true) × IsTextByte q.given.text.items a))
IsOfGate s frame plan a = ⊥

-- is the instruction one that makes a call?
abbrev pub is_at_call : Result (State × Bytes) StepEnd → Bool
is_at_call (Err (turn.Swi number)) = true
is_at_call other = false

-- What a move may write: a step what its instruction stores, where no record is kept; a call its
-- row, or where it is refused its error; and a step in which module code comes back what is left of
-- the call.
abbrev pub MayWrite : List Entry → MachineState → MachineState → Move → ℕ → Type 0
MayWrite images s t (Call number words) a =
    (let u : MachineState = machine_with_words s words in
    IsErrorByte t a ⊎ IsOfCall images u u.cpu.pc (outside_name number) t a)
MayWrite images s t Step a =
    IsStoredPlain s a
    ⊎ (((is_at_gate (result_of_instruction s) ≡ true) × IsOfGate s (innermost_frame s.tables.frames)
    s.tables.plan a)
    ⊎ ((is_at_call (result_of_instruction s) ≡ true) × (IsErrorByte t a
    ⊎ IsOfCall images s ((s.cpu.pc + 4) % 2 ^ 26) (swi_made s Step) t a)))

-- Each other byte of memory stays what it is, whether it is a block's or free, fills something up,
-- is of a forgotten heap, of a page that no area has, or of what follows a text.
abbrev pub OtherBytesStay : Type 0
OtherBytesStay =
    (images : List Entry) (s : MachineState) (m : Move) (a : ℕ) → IsState s →
    IsState (machine_after_event images s m)
    → ((machine_after_event images s m).store.bytes.at a ≡ s.store.bytes.at a)
    ⊎ MayWrite images s (machine_after_event images s m) m a

-- A module that is loaded from outside writes what reason 1 of OS_Module does, with a string that
-- is given.
pub record IsOfLoad (images : List Entry) (s : MachineState) (a : ℕ) : Type 0 where
  pub words : List ℕ
  pub planned : Planned
  pub is : load_planned images s words false ≡ Ok planned
  pub byte : IsOfPlan true false planned a

abbrev pub LoadsKeepOthers : Type 0
LoadsKeepOthers =
    (images : List Entry) (s : MachineState) (text : List ℕ) (a : ℕ) → IsState s
    → ((module_loaded images s text).now.store.bytes.at a ≡ s.store.bytes.at a)
    ⊎ (IsErrorByte (module_loaded images s text).now a ⊎ IsOfLoad images s a)

-- Over a list of moves, each of which leads to a machine's state, a byte stays, or one of the moves
-- may have written it.
abbrev pub AreStates : List Entry → MachineState → List Move → Type 0
AreStates images s [] = Unit {0}
AreStates images s (m ∷ ms) = IsState (machine_after_event images s m) ×
    AreStates images (machine_after_event images s m) ms

abbrev pub MayWriteOver : List Entry → MachineState → List Move → ℕ → Type 0
MayWriteOver images s [] a = ⊥
MayWriteOver images s (m ∷ ms) a =
    MayWrite images s (machine_after_event images s m) m a
    ⊎ MayWriteOver images (machine_after_event images s m) ms a

abbrev pub OtherBytesStayOver : Type 0
OtherBytesStayOver =
    (images : List Entry) (s : MachineState) (moves : List Move) (a : ℕ) → IsState s
    → AreStates images s moves
    → ((moved_all images s moves).store.bytes.at a ≡ s.store.bytes.at a) ⊎ MayWriteOver images s moves a

-- A program that a user puts at the start of the application space writes its own bytes there.
abbrev pub ProgramsKeepOthers : Type 0
ProgramsKeepOthers =
    (s : MachineState) (program : List ℕ) (a : ℕ)
    → ((with_program s program).store.bytes.at a ≡ s.store.bytes.at a)
    ⊎ (in_range application_start (length program) a ≡ true)

-- So a page that comes is of zeros, but for what the move writes there.
abbrev pub NewPagesAreZero : Type 0
NewPagesAreZero =
    (images : List Entry) (s : MachineState) (m : Move) (a : ℕ) → IsState s →
    IsState (machine_after_event images s m) → s.store.bytes.mapped a ≡ false
    → ((machine_after_event images s m).store.bytes.at a ≡ 0)
    ⊎ MayWrite images s (machine_after_event images s m) m a

-- At a machine's start all bytes are 0 but those of the module area's descriptor.
abbrev pub StartsAreZero : Type 0
StartsAreZero =
    (sizes : Sizes) (a : ℕ)
    → ((machine_start sizes).store.bytes.at a ≡ 0) ⊎ IsAreaWord (machine_start sizes).store a
