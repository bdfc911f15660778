-- Over any move but a flex call, and but for what an instruction stores, the bytes of the flex
-- store stay.
use Rattle.profile.specs.MemoryMap.{system_start}
use Rattle.std.proofs.Common.{ℕ, ◌≡◌, ◌*◌, ◌+◌, ◌%◌, ◌^◌, ◌∙◌, ◌⊎◌, Bool, true, false, List, Option, Some, None, Result, Ok, Err, refl, sym, ap, subst, inl, inr}
use Rattle.std.specs.Prelude.{IfOk, if◌then◌else◌, ok_or}
use Rattle.std.proofs.lemmas.Bool.{cases_Bool, false≢true, or_left}
use Rattle.profile.specs.Outcome.{Gives, bind}
use Rattle.profile.specs.Reasons.{heap_reason, module_reason}
use Rattle.profile.specs.SwiNames.{swi_of}
use Rattle.profile.specs.Word.{bit_of}
use Rattle.profile.specs.ErrorNumber.{ErrorNumber}
use Rattle.profile.specs.ErrorNumber.TheVariants.{BadString}
use Rattle.profile.specs.declared.reason.HeapReason.{HeapReason}
use Rattle.profile.specs.declared.reason.HeapReason.TheVariants as reason
use Rattle.profile.specs.declared.swi.SwiName.{SwiName}
use Rattle.profile.specs.declared.swi.SwiName.TheVariants as swi
use Rattle.address_map.specs.Bytes.{Bytes, in_range}
use Rattle.arm_core.specs.State.{State, register_of}
use Rattle.arm_core.specs.declared.turn.StepEnd.{StepEnd}
use Rattle.arm_core.specs.declared.turn.StepEnd.TheVariants as turn
use Rattle.profile.specs.images.Entries.{Entry}
use Rattle.os_heap.specs.Calls.{store_after_init, block_sized, store_after_change, heap_description, gave_back, store_after_get, store_after_resize}
use Rattle.os_heap.specs.Store.{IsSound, Store, is_in_flex_store}
use Rattle.dynamic_areas.specs.Ground.{AreaStore}
use Rattle.rma.proofs.FlexFrameLemmas.Heaps.{heap_calls_keep}
use Rattle.rma.specs.flex_frame.Keeping.{AreAnchorsFree, KeepsFlex}
use Rattle.rma.specs.flex_frame.Laws.{HeapCallKeeps}
use Rattle.law_machine.proofs.HeapCallsLemmas.DoneCalls.{OnDone}
use Rattle.law_machine.specs.heap_calls.Turns.{call_on}
use Rattle.law_machine.proofs.HeapFrameLemmas.Holding.{keeps_all, keeps_both, system_outside}
use Rattle.law_machine.specs.heap_frame.FitAreaStores.{IsFitAreaStore}
use Rattle.law_machine.specs.heap_frame.Fits.{KeepsOutside, is_module_byte}
use Rattle.law_machine.specs.heap_frame.PlanLaws.{IsFitModuleState}
use Rattle.instances_table.specs.plans.Plans.{Plan, plan_after_code}
use Rattle.swi_dispatch_guest.specs.Refusal.{Refusal}
use Rattle.swi_dispatch_guest.specs.Refusal.TheVariants as refusal
use Rattle.swi_dispatch_guest.specs.Heaps.{heap_called, heap_called_for}
use Rattle.swi_dispatch_guest.proofs.NextTurn.{unhalted_step, outside_call}
use Rattle.swi_dispatch_guest.specs.declared.halt.Halt.{Halt}
use Rattle.swi_dispatch_guest.specs.declared.halt.Halt.TheVariants as halt
use Rattle.swi_dispatch_guest.specs.SwiDispatchAnswersWords.{host_string}
use Rattle.swi_dispatch_guest.specs.Additions.{Planned, load_planned}
use Rattle.swi_dispatch_guest.specs.Answers.{went_on}
use Rattle.swi_dispatch_guest.specs.Calls.{call_answer, on_store}
use Rattle.swi_dispatch_guest.specs.Errors.{with_error}
use Rattle.swi_dispatch_guest.specs.Gates.{carried_on, come_back, outcome_of_gate, outcome_left}
use Rattle.swi_dispatch_guest.specs.MachineState.{MachineState, StepOutcome, machine_area_store, machine_module_state, with_module_state}
use Rattle.swi_dispatch_guest.specs.Returns.{gone_back, outcome_of_halt}
use Rattle.swi_dispatch_guest.specs.Step.{outcome_of_planned as call_begun, outcome_of_call, called_by, outcome_of_answer, result_of_instruction, is_exit, machine_step, os_module_called, store_called, outcome_of_turn, without_x}
use Rattle.law_machine.proofs.HeapAloneLemmas.HeapAnswers.{Agree, heap_agrees}
use Rattle.law_machine.proofs.HeapAloneLemmas.LiveBytes.{byte_done}
use Rattle.law_machine.proofs.HeapAloneLemmas.ModuleCalls.{area_call_out}
use Rattle.law_machine.proofs.HeapAloneLemmas.ModuleHosts.{HasModules, carried_out, fit_module_state, opened_out}
use Rattle.law_machine.proofs.HeapAloneLemmas.OwnCalls.{heap_swi}
use Rattle.law_machine.proofs.HeapAloneLemmas.PlansMade.{IsFitPlanned, load_made}
use Rattle.law_machine.proofs.HeapAloneLemmas.Rows.{is_flex_call}
use Rattle.law_machine.proofs.HeapAloneLemmas.States.{IsGiven, given_goes, given_same, given_stays, has_store, sound_store}
use Rattle.law_machine.specs.heap_alone.ByteLaws.{IsStoredPlain}
use Rattle.swi_dispatch_guest.specs.Moves.{Call, Step, machine_with_words, machine_after_event, outside_name, swi_of_turn}
use Rattle.swi_dispatch_guest.specs.GuestState.{IsState}
use Rattle.law_machine.specs.heap_alone.ModuleMoves.{is_module_name}
use Rattle.law_machine.specs.heap_alone.Moves.{is_heap_swi}
use Rattle.law_machine.proofs.LiveBytesLemmas.Answers.{other_has}
use Rattle.law_machine.proofs.LiveBytesLemmas.AreaCases.{area_call_has}
use Rattle.law_machine.proofs.LiveBytesLemmas.FlexRows.{init_byte}
use Rattle.law_machine.proofs.LiveBytesLemmas.FlexStays.{flex_after, flex_off, flex_outside}
use Rattle.law_machine.proofs.LiveBytesLemmas.Gates.{Goes, gate_has}
use Rattle.law_machine.proofs.LiveBytesLemmas.Heaps.{HasHeaps, given_heaps, has_heaps}
use Rattle.law_machine.proofs.LiveBytesLemmas.ModuleCalls.{HoldsOver, Planning, begun_has, os_module_has, plan_by}
use Rattle.law_machine.proofs.LiveBytesLemmas.Moves.{call_halted, named_call, named_step, step_halted}
use Rattle.law_machine.proofs.LiveBytesLemmas.Rows.{error_off}
use Rattle.law_machine.specs.live_bytes.Changes.{FlexBytesStay, is_flex_name}
use Rattle.law_machine.specs.live_bytes.AreaLaws.{AreaCallHas}
use Rattle.instances.proofs.GoingOn.{bound as bound_any}

-- an error's block lies in the system pages
error_out : (s : MachineState) (e : Refusal) → IsFitAreaStore (machine_area_store s) → KeepsOutside s.store (with_error s e).store
error_out s refusal.Own fit = keeps_all s.store
error_out s (refusal.System e) fit =
    system_outside (4096 * fit.area.pages) s.store (with_error s (refusal.System e)).store.bytes fit.store (error_off s (refusal.System e))

any_planned : (o : Option (Result Planned ErrorNumber)) → Planning (λ w. Unit {0}) o
any_planned None = tt
any_planned (Some (Ok w)) = tt
any_planned (Some (Err e)) = tt

-- calls of OS_Module, and steps in which module code comes back, write the module area and the
-- system pages alone
module _ (s : MachineState) (has : HasModules s) where
  fit : IsFitModuleState (machine_module_state s)
  fit = fit_module_state s has

  outside_over : HoldsOver s (KeepsOutside s.store) (λ w. Unit {0})
  outside_over = record {
    same = keeps_all s.store;
    error = λ e. error_out s e fit.area_store;
    area = area_call_out s.cpu (machine_module_state s) fit.area_store;
    carried = λ call w made any.
        let t : MachineState = with_module_state s w.module_state in
        keeps_both s.store t.store (carried_on t call w.plan).store made.module_state.area_store.outside
        (carried_out t call w.plan (record { area_store = made.module_state.area_store.fit; slots = made.module_state.slots }) made.plan);
    opened = λ next o few. opened_out (gone_back s.cpu.psr s false next) o.text.items o.start.slot o.start.at fit.area_store few;
  }

  pub os_module_out : (images : List Entry) (x : Bool) (next number : ℕ) → KeepsOutside s.store (os_module_called images s x next number).now.store
  os_module_out images x next number =
      os_module_has s has (KeepsOutside s.store) (λ w. Unit {0}) outside_over images x next number
      (any_planned (plan_by images s next (module_reason (register_of s.cpu 0))))

  -- and so does a load from outside
  any_load : (r : Result Planned ErrorNumber) → IfOk r (λ w. Unit {0})
  any_load (Ok w) = tt
  any_load (Err e) = tt

  pub loaded_out : (images : List Entry) (x : Bool) (next : ℕ) (text : List ℕ)
      → KeepsOutside s.store (call_begun s x next false (bind (ok_or (host_string text) BadString) (λ words. load_planned images s words false))).now.store
  loaded_out images x next text =
      let r : Result Planned ErrorNumber = bind (ok_or (host_string text) BadString) (λ words. load_planned images s words false) in
      begun_has s has (KeepsOutside s.store) (λ w. Unit {0}) outside_over x next false r
      (bound_any (IsFitPlanned s) (ok_or (host_string text) BadString) (λ words. load_planned images s words false)
      (λ words. load_made images s words false fit)) (any_load r)

  goes_out : (o : Option Plan) → Goes s has (KeepsOutside s.store) (keeps_all s.store) o
  goes_out None = tt
  goes_out (Some p) = λ f plan. carried_out (come_back s f) f.call (plan_after_code p (outcome_left s.cpu)) (fit_module_state s has) plan

  pub gate_out : KeepsOutside s.store (outcome_of_gate s).now.store
  gate_out = gate_has s has (KeepsOutside s.store) (keeps_all s.store) (goes_out s.tables.plan)

gives : (A : Type 0) (s : Store) (r : Result (Store × A) ErrorNumber) (x : Store × A) → r ≡ Ok x → Gives s r (Ok x.1) x.0
gives A s r x is = subst (λ (q : Result (Store × A) ErrorNumber). Gives s q (Ok x.1) x.0) (sym is) (refl, refl)

module _ (images : List Entry) (s : MachineState) (has : HasHeaps s) (a : ℕ) (flex : is_in_flex_store s.store.others a ≡ true) where
  abbrev Stays : Store → Type 0
  Stays t = t.bytes.at a ≡ s.store.bytes.at a

  off : in_range system_start 0x3000 a ≡ false
  off = flex_off (machine_area_store s) has.modules.store.area_store has.modules.store.system a flex

  out : is_module_byte a ≡ false
  out = flex_outside (machine_area_store s) has.modules.store.area_store has.modules.store.system a flex

  error_stays : (t : MachineState) (e : Refusal) → Stays t.store → Stays (with_error t e).store
  error_stays t e stays = error_off t e a off ∙ stays

  areas_stay : (e : AreaStore) → AreaCallHas (machine_area_store s) Stays e
  areas_stay e =
      area_call_has (machine_area_store s) has.modules.store.area_store Stays
      (flex_after (machine_area_store s) has.modules.store.area_store has.modules.store.system a flex) e

  -- OS_Heap
  abbrev Kept : Store → Type 0
  Kept t = IsSound t → Stays t

  free : AreAnchorsFree s.store
  free = has.modules.store.stores.flex.free

  flex_frame : (t : Store) → KeepsFlex s.store t → Stays t
  unfolding KeepsFlex
  flex_frame t keeps = (keeps free).0.bytes a (or_left (is_in_flex_store s.store.others a) (s.store.anchor a) flex)

  by_done : (A : Type 0) (k : A → ℕ × ℕ) (r : Result (Store × A) ErrorNumber) → ((x : Store × A) → r ≡ Ok x → Kept x.0)
      → OnDone (ℕ × ℕ) Kept (bind r (λ x. Ok (x.0, k x.1)))
  by_done A k (Ok x) keeps = keeps x refl
  by_done A k (Err e) keeps = tt

  by_shown : (A : Type 0) (k : A → ℕ × ℕ) (r : Result A ErrorNumber) → OnDone (ℕ × ℕ) Kept (bind r (λ x. Ok (s.store, k x)))
  by_shown A k (Ok x) = λ sound. refl
  by_shown A k (Err e) = tt

  keeps : (heap : ℕ) (t : Store) → IsSound t → HeapCallKeeps s.store t heap
  keeps heap t sound = heap_calls_keep s.store t heap (sound_store s has.modules.store) sound

  heap_kept : (heap : ℕ) (why : HeapReason) (block size : ℕ) → OnDone (ℕ × ℕ) Kept (call_on s.store heap why block size)
  heap_kept heap reason.Initialise block size =
      by_done (Unit {0}) (λ _. (block, size)) (store_after_init s.store heap size) (λ x is sound.
      flex_frame x.0 ((keeps heap x.0 sound).init size (Ok x.1) (gives (Unit {0}) s.store (store_after_init s.store heap size) x is)))
  heap_kept heap reason.Describe block size = by_shown (ℕ × ℕ) (λ r. r) (heap_description s.store heap)
  heap_kept heap reason.Get block size =
      by_done ℕ (λ n. (n, size)) (store_after_get s.store heap size) (λ x is sound.
      flex_frame x.0 ((keeps heap x.0 sound).get size (Ok x.1) (gives ℕ s.store (store_after_get s.store heap size) x is)))
  heap_kept heap reason.Free block size =
      by_done (Unit {0}) (λ _. (block, size)) (gave_back s.store heap block) (λ x is sound.
      flex_frame x.0 ((keeps heap x.0 sound).free block (Ok x.1) (gives (Unit {0}) s.store (gave_back s.store heap block) x is)))
  heap_kept heap reason.Resize block size =
      by_done ℕ (λ n. (n, size)) (store_after_resize s.store heap block size) (λ x is sound.
      flex_frame x.0 ((keeps heap x.0 sound).resize block size (Ok x.1) (gives ℕ s.store (store_after_resize s.store heap block size) x is)))
  heap_kept heap reason.ChangeSize block size =
      by_done (Unit {0}) (λ _. (block, size)) (store_after_change s.store heap size) (λ x is sound.
      flex_frame x.0 ((keeps heap x.0 sound).change_size size (Ok x.1) (gives (Unit {0}) s.store (store_after_change s.store heap size) x is)))
  heap_kept heap reason.BlockSize block size = by_shown ℕ (λ n. (block, n)) (block_sized s.store heap block)

  abbrev HeapWent : Result MachineState Refusal → Type 0
  HeapWent (Ok t) = Kept t.store
  HeapWent (Err e) = Unit {0}

  heap_by : (q : Result (State × Store) Refusal) (r : Result (Store × (ℕ × ℕ)) ErrorNumber) → Agree q r → OnDone (ℕ × ℕ) Kept r → HeapWent (on_store s q)
  heap_by (Ok q) (Ok r) agree kept = subst Kept (sym agree.0) kept
  heap_by (Err e) (Err number) agree kept = tt
  heap_by (Ok q) (Err number) agree kept = absurd agree
  heap_by (Err e) (Ok r) agree kept = absurd agree

  heap_for : (o : Option HeapReason) → HeapWent (on_store s (heap_called_for s.cpu s.store o))
  heap_for None = tt
  heap_for (Some why) =
      heap_by (heap_called_for s.cpu s.store (Some why)) (call_on s.store (register_of s.cpu 1) why (register_of s.cpu 2) (register_of s.cpu 3))
      (heap_agrees s.cpu has.modules.store.size s.store why) (heap_kept (register_of s.cpu 1) why (register_of s.cpu 2) (register_of s.cpu 3))

  heap_went : HeapWent (on_store s (heap_called s.cpu s.store))
  unfolding heap_called
  heap_went = heap_for (heap_reason (register_of s.cpu 0))

  heap_ended : (x : Bool) (next : ℕ) (r : Result MachineState Refusal) → HeapWent r → IsSound (outcome_of_answer s x (went_on s next r)).now.store
      → Stays (outcome_of_answer s x (went_on s next r)).now.store
  heap_ended x next (Ok t) went sound = went sound
  heap_ended true next (Err e) went sound = error_stays s e refl
  heap_ended false next (Err e) went sound = refl

  heap_goes : (x : Bool) (next number : ℕ) → swi_of number ≡ Some swi.Heap
      → outcome_of_call images s x next number ≡ outcome_of_answer s x (went_on s next (on_store s (heap_called s.cpu s.store)))
  unfolding outcome_of_call call_answer
  heap_goes x next number name = ap (λ (o : Option SwiName). if is_exit o then outcome_of_halt s halt.Exit else called_by images s x next number o) name

  heap_stays : (x : Bool) (next number : ℕ) → swi_of number ≡ Some swi.Heap → IsSound (outcome_of_call images s x next number).now.store
      → Stays (outcome_of_call images s x next number).now.store
  heap_stays x next number name sound =
      let call = heap_goes x next number name in
      subst (λ (o : StepOutcome). Stays o.now.store) (sym call)
      (heap_ended x next (on_store s (heap_called s.cpu s.store)) heap_went (subst (λ (o : StepOutcome). IsSound o.now.store) call sound))

  -- OS_Module
  module_named : (x : Bool) (next number : ℕ) (name : Option SwiName) → is_module_name name ≡ true
      → Stays (if is_exit name then outcome_of_halt s halt.Exit else called_by images s x next number name).now.store
  module_named x next number (Some swi.Module) is = (os_module_out s has.modules images x next number).bytes a out
  module_named x next number None is = absurd (false≢true is)
  module_named x next number (Some name) is = absurd (false≢true is)

  module_stays : (x : Bool) (next number : ℕ) → is_module_name (swi_of number) ≡ true → Stays (outcome_of_call images s x next number).now.store
  unfolding outcome_of_call
  module_stays x next number is = module_named x next number (swi_of number) is

  -- flex calls: init writes nothing
  law_flex_names : (name : Option SwiName) → is_flex_call name ≡ true → (name ≡ Some swi.FlexInit) ⊎ (is_flex_name name ≡ true)
  law_flex_names (Some swi.FlexInit) is = inl refl
  law_flex_names (Some swi.FlexAlloc) is = inr refl
  law_flex_names (Some swi.FlexFree) is = inr refl
  law_flex_names (Some swi.FlexExtend) is = inr refl
  law_flex_names (Some swi.FlexMidExtend) is = inr refl
  law_flex_names other is = absurd (false≢true is)

  init_goes : (x : Bool) (next number : ℕ) → swi_of number ≡ Some swi.FlexInit
      → outcome_of_call images s x next number ≡ outcome_of_answer s x (call_answer s next number (Some swi.FlexInit))
  unfolding outcome_of_call
  init_goes x next number name = ap (λ (o : Option SwiName). if is_exit o then outcome_of_halt s halt.Exit else called_by images s x next number o) name

  flex_call_stays : (x : Bool) (next number : ℕ) → is_flex_call (swi_of number) ≡ true
      → Stays (outcome_of_call images s x next number).now.store ⊎ (is_flex_name (swi_of number) ≡ true)
  flex_call_stays x next number is = elim (law_flex_names (swi_of number) is) [
    | inr name ↦ inr name
    | inl init ↦ inl (subst (λ (o : StepOutcome). Stays o.now.store) (sym (init_goes x next number init)) (init_byte s has.modules.store a off x next number))
  ]

  pub call_stays : (x : Bool) (next number : ℕ) → IsSound (outcome_of_call images s x next number).now.store
      → Stays (outcome_of_call images s x next number).now.store ⊎ (is_flex_name (swi_of number) ≡ true)
  call_stays x next number sound = elim (cases_Bool (is_heap_swi (swi_of number))) [
    | inl heap ↦ inl (heap_stays x next number (heap_swi (swi_of number) heap) sound)
    | inr no_heap ↦ elim (cases_Bool (is_module_name (swi_of number))) [
      | inl is ↦ inl (module_stays x next number is)
      | inr no_module ↦ elim (cases_Bool (is_flex_call (swi_of number))) [
        | inl call ↦ flex_call_stays x next number call
        | inr other ↦ inl (other_has s Stays refl error_stays areas_stay images x next number (no_module, (no_heap, other)))
      ]
    ]
  ]

  abbrev TurnStays : Result (State × Bytes) StepEnd → Store → Type 0
  TurnStays r t = Stays t ⊎ (IsStoredPlain s a ⊎ (is_flex_name (swi_of_turn r) ≡ true))

  from_call : (n : ℕ) (t : Store) → Stays t ⊎ (is_flex_name (swi_of (without_x n)) ≡ true) → TurnStays (Err (turn.Swi n)) t
  from_call n t (inl stays) = inl stays
  from_call n t (inr call) = inr (inr call)

  from_stored : (r : Result (State × Bytes) StepEnd) (t : Store) → Stays t ⊎ IsStoredPlain s a → TurnStays r t
  from_stored r t (inl stays) = inl stays
  from_stored r t (inr stored) = inr (inl stored)

  pub turn_stays : (r : Result (State × Bytes) StepEnd) → result_of_instruction s ≡ r → IsSound (outcome_of_turn images s r).now.store → TurnStays r (outcome_of_turn images s r).now.store
  turn_stays (Ok w) is sound = from_stored (Ok w) (outcome_of_turn images s (Ok w)).now.store (byte_done s w a is)
  turn_stays (Err turn.Done) is sound = inl refl
  turn_stays (Err (turn.Swi n)) is sound =
      from_call n (outcome_of_turn images s (Err (turn.Swi n))).now.store (call_stays (bit_of n 17) ((s.cpu.pc + 4) % 2 ^ 26) (without_x n) sound)
  turn_stays (Err turn.Gate) is sound = inl ((gate_out s has.modules).bytes a out)
  turn_stays (Err (turn.Fault f)) is sound = inl refl

step_stays : (images : List Entry) (s : MachineState) (a : ℕ) (o : Option Halt) → s.halt ≡ o → IsState s → IsState (machine_after_event images s Step)
    → is_in_flex_store s.store.others a ≡ true
    → ((machine_after_event images s Step).store.bytes.at a ≡ s.store.bytes.at a)
    ⊎ (((Step ≡ Step) × IsStoredPlain s a) ⊎ (is_flex_name (swi_of_turn (result_of_instruction s)) ≡ true))
step_stays images s a (Some h) is state after flex = inl (ap (λ (o : StepOutcome). o.now.store.bytes.at a) (step_halted images s h is))
step_stays images s a None goes state after flex =
    let step : machine_step images s ≡ outcome_of_turn images s (result_of_instruction s) = unhalted_step images s goes in
    let sound : IsSound (outcome_of_turn images s (result_of_instruction s)).now.store =
    subst (λ (o : StepOutcome). IsSound o.now.store) step (sound_store (machine_after_event images s Step) (has_store (machine_after_event images s Step) after)) in
    subst (λ (o : StepOutcome). (o.now.store.bytes.at a ≡ s.store.bytes.at a)
    ⊎ (((Step ≡ Step) × IsStoredPlain s a) ⊎ (is_flex_name (swi_of_turn (result_of_instruction s)) ≡ true))) (sym step)
    (named_step _ _ _ (turn_stays images s (has_heaps s state) a flex (result_of_instruction s) refl sound))

call_from_outside : (images : List Entry) (s : MachineState) (number : ℕ) (words : List ℕ) (a : ℕ) (o : Option Halt) → s.halt ≡ o → IsState s
    → IsState (machine_after_event images s (Call number words)) → is_in_flex_store s.store.others a ≡ true
    → ((machine_after_event images s (Call number words)).store.bytes.at a ≡ s.store.bytes.at a)
    ⊎ (((Call number words ≡ Step) × IsStoredPlain s a) ⊎ (is_flex_name (outside_name number) ≡ true))
call_from_outside images s number words a (Some h) is state after flex =
    let u : MachineState = machine_with_words s words in
    let same : IsGiven s u = given_same s 0 words (has_store s state).size in
    inl (ap (λ (o : StepOutcome). o.now.store.bytes.at a) (call_halted images u number h (given_goes s u same ∙ is)) ∙ ap (λ (t : Store). t.bytes.at a) (given_stays s u same))
call_from_outside images s number words a None goes state after flex =
    let u : MachineState = machine_with_words s words in
    let same : IsGiven s u = given_same s 0 words (has_store s state).size in
    let stays : u.store ≡ s.store = given_stays s u same in
    let o : StepOutcome = outcome_of_call images u true u.cpu.pc (without_x (number % 2 ^ 24)) in
    let call : store_called images u number ≡ o = outside_call images u number (given_goes s u same ∙ goes) in
    let sound : IsSound o.now.store =
    subst (λ (o : StepOutcome). IsSound o.now.store) call (sound_store (machine_after_event images s (Call number words)) (has_store (machine_after_event images s (Call number words)) after)) in
    let flex' : is_in_flex_store u.store.others a ≡ true = subst (λ (t : Store). is_in_flex_store t.others a ≡ true) (sym stays) flex in
    let byte = call_stays images u (given_heaps s u (has_heaps s state) same) a flex' true u.cpu.pc (without_x (number % 2 ^ 24)) sound in
    subst (λ (p : StepOutcome). (p.now.store.bytes.at a ≡ s.store.bytes.at a)
    ⊎ (((Call number words ≡ Step) × IsStoredPlain s a) ⊎ (is_flex_name (outside_name number) ≡ true))) (sym call)
    (named_call _ _ _ (subst (λ (t : Store). (o.now.store.bytes.at a ≡ t.bytes.at a) ⊎ (is_flex_name (outside_name number) ≡ true)) stays byte))

pub flex_bytes_stay : FlexBytesStay
flex_bytes_stay images s Step a state after flex = step_stays images s a s.halt refl state after flex
flex_bytes_stay images s (Call number words) a state after flex = call_from_outside images s number words a s.halt refl state after flex
