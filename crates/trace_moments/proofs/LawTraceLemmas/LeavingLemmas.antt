-- The calls that leave the store as it is, name by name and reason by reason.
use Rattle.std.proofs.Common.{◌≡◌, ◌≢◌, ◌∙◌, ◌⊎◌, ◌==◌, ◌+◌, ◌<◌, ◌≤◌, ◌++◌, ℕ, Bool, true, false, List, [], ◌∷◌, length, Option, Some, None, Result, Ok, Err, refl, sym, ap, arith, inl, inr, if◌then◌else◌}
use Rattle.std.proofs.lemmas.Bool.{both_ways, cases_Bool, false≢true}
use Rattle.profile.specs.MemoryMap.{error_block_start}
use Rattle.profile.specs.ErrorNames.{error_code, error_name}
use Rattle.profile.specs.Outcome.{bind}
use Rattle.profile.specs.Reasons.{area_reason, heap_reason, module_reason}
use Rattle.profile.specs.SwiNames.{swi_of}
use Rattle.profile.specs.ErrorNumber.{ErrorNumber}
use Rattle.profile.specs.ErrorNumber.TheVariants.{FrameLimit, SwiUnknown}
use Rattle.profile.specs.declared.reason.AreaReason.{AreaReason}
use Rattle.profile.specs.declared.reason.AreaReason.TheVariants as area
use Rattle.profile.specs.declared.reason.HeapReason.{HeapReason}
use Rattle.profile.specs.declared.reason.HeapReason.TheVariants as heap
use Rattle.profile.specs.declared.reason.ModuleReason.{ModuleReason}
use Rattle.profile.specs.declared.reason.ModuleReason.TheVariants as reason
use Rattle.profile.specs.declared.swi.SwiName.{SwiName}
use Rattle.profile.specs.declared.swi.SwiName.TheVariants as swi
use Rattle.profile.specs.images.Entries.{Entry}
use Rattle.address_map.specs.Bytes.{Bytes, in_range, with_word_at}
use Rattle.address_map.proofs.Stores.{in_range-cases}
use Rattle.arm_core.specs.State.{State, register_of, with_register}
use Rattle.arm_core.specs.declared.turn.StepEnd.{StepEnd}
use Rattle.arm_core.specs.declared.turn.StepEnd.TheVariants as turn
use Rattle.os_heap.specs.Calls.{block_sized, heap_description}
use Rattle.os_heap.specs.Store.{Store}
use Rattle.dynamic_areas.specs.Areas.{AreaTable, area_in, areas_after_renumber, extent_asked, next_number, with_areas}
use Rattle.flex_store.proofs.Holding.{bytes_beside, word_beside}
use Rattle.flex_store.specs.Calls.{flex_block_size}
use Rattle.law_machine.specs.Reading.{instance_info, instance_looked_up}
use Rattle.instances_table.specs.Lookup.{handler_of}
use Rattle.instances_table.specs.declared.parts.Handler.{Handler}
use Rattle.swi_dispatch_answers.specs.Errors.{memory_with_error}
use Rattle.swi_dispatch_answers.specs.Refusals.{or_error}
use Rattle.swi_dispatch_answers.specs.Strings.{string_in}
use Rattle.swi_dispatch_answers.specs.declared.refusal.Refusal.{Refusal}
use Rattle.swi_dispatch_answers.specs.declared.refusal.Refusal.TheVariants as refusal
use Rattle.law_machine.specs.SwiDispatchPlansCalls.{flex_called, state_in}
use Rattle.law_machine.specs.SwiDispatchPlansModulesCalls.{module_called_for, result_of_module_call}
use Rattle.law_machine.specs.Naming.{looked_for, place_asked, with_found, with_shown}
use Rattle.law_machine.specs.Areas.{area_called, area_called_for, area_read, with_area_shown, with_extent}
use Rattle.law_machine.specs.Heaps.{heap_called, heap_called_for}
use Rattle.law_machine.proofs.Kept.{short_name}
use Rattle.law_machine.specs.Answers.{Answer, refusal_answer, went_on}
use Rattle.law_machine.specs.Calls.{call_answer, machine_flex, on_area_store, on_flex, on_store, on_module_state, printable_at, wrote_text_after, wrote_text_at}
use Rattle.trace_store_text.specs.MachineState.{MachineState, StepOutcome, machine_area_store, machine_module_state, silent}
use Rattle.law_machine.specs.Returns.{outcome_of_halt}
use Rattle.trace_store_text.specs.Step.{call_of, call_refused, called_by, handler_entered, is_exit, machine_step, os_module_called, os_module_called_for, outcome_of_answer, outcome_of_call, outcome_of_end, outcome_of_module_swi, outcome_of_turn, result_of_instruction, swi_called, unless_halted, without_x}
use Rattle.law_machine.specs.Halt.{Halt}
use Rattle.law_machine.specs.Halt.TheVariants as halt
use Rattle.law_machine.proofs.HeapAloneLemmas.HeapAnswers.{overflow_back}
use Rattle.trace_effects.specs.Leaving.{area_asks, call_leaves, heap_asks, module_asks, named_call_leaves}
use Rattle.trace_moments.specs.law_trace.Laws.{CallsLeaveStore, IsOfError, IsStoreLeft}

-- what calls act on beside the core and the areas is as it was
record IsAlike (s t : MachineState) : Type 0 where
  store : t.store ≡ s.store
  modules : t.tables.modules ≡ s.tables.modules
  flex : t.tables.flex ≡ s.tables.flex
  frames : t.tables.frames ≡ s.tables.frames

left : (s t : MachineState) → t.store ≡ s.store → t.tables.modules ≡ s.tables.modules → t.tables.flex ≡ s.tables.flex → IsStoreLeft s t
left s t store modules flex = record {
  mapped = ap (λ (v : Store). v.bytes.mapped) store;
  heaps = ap (λ (v : Store). v.heaps) store;
  others = ap (λ (v : Store). v.others) store;
  modules = modules;
  flex = flex;
  bytes = λ a differs. absurd (differs (ap (λ (v : Store). v.bytes.at a) store));
}

-- an error's block
error_beside : (b : Bytes) (e : ErrorNumber) (a : ℕ) → in_range error_block_start 256 a ≡ false
    → (memory_with_error b (error_code e) (error_name e)).at a ≡ b.at a
error_beside b e a out =
    let clear : (a < error_block_start) ⊎ (error_block_start + 256 ≤ a) = elim (in_range-cases error_block_start 256 a) [
      | inl r ↦ absurd (both_ways (in_range error_block_start 256 a) out r.0)
      | inr r ↦ r.1
    ] in
    bytes_beside (with_word_at b.at error_block_start (error_code e)) 0x01C02104 (error_name e ++ 0 ∷ []) a
    (elim clear [ inl low ↦ inl (omega (arith, low)) | inr high ↦ inr (omega (arith, high, short_name e)) ])
    ∙ word_beside b.at error_block_start (error_code e) a (elim clear [ inl low ↦ inl low | inr high ↦ inr (omega (arith, high)) ])

module _ (s : MachineState) where
  alike : IsAlike s s
  alike = record { store = refl; modules = refl; flex = refl; frames = refl }

  -- what is left where there is no error
  abbrev Went : Result MachineState Refusal → Type 0
  Went (Ok t) = IsAlike s t
  Went (Err e) = Unit {0}

  went : (next : ℕ) (r : Result MachineState Refusal) → Went r → IsAlike s (went_on s next r).left.now
  went next (Ok t) is = is
  went next (Err e) is = alike

  -- a core that is shown something, and all else as it was
  of_store : {A : Type 0} (r : Result A ErrorNumber) (k : A → State) → Went (on_store s (bind (or_error r) (λ x. Ok (k x, s.store))))
  of_store (Ok x) k = record { store = refl; modules = refl; flex = refl; frames = refl }
  of_store (Err e) k = tt

  of_area_store : {A : Type 0} (r : Result A ErrorNumber) (k : A → State) (l : A → AreaTable)
      → Went (on_area_store s (bind (or_error r) (λ x. Ok (k x, record (machine_area_store s) { area_table = l x }))))
  of_area_store (Ok x) k l = record { store = refl; modules = refl; flex = refl; frames = refl }
  of_area_store (Err e) k l = tt

  of_module_state : {A : Type 0} (r : Result A ErrorNumber) (k : A → State) → Went (on_module_state s (bind (or_error r) (λ x. Ok (k x, machine_module_state s))))
  of_module_state (Ok x) k = record { store = refl; modules = refl; flex = refl; frames = refl }
  of_module_state (Err e) k = tt

  of_flex : {A : Type 0} (r : Result A ErrorNumber) (k : A → State) → Went (on_flex s (bind (or_error r) (λ x. Ok (k x, machine_flex s))))
  of_flex (Ok x) k = record { store = refl; modules = refl; flex = refl; frames = refl }
  of_flex (Err e) k = tt

  heap_for : (why : Option HeapReason) → heap_asks why ≡ true → Went (on_store s (heap_called_for s.cpu s.store why))
  heap_for (Some heap.Initialise) asks = absurd (false≢true asks)
  heap_for (Some heap.Describe) asks = of_store (heap_description s.store (register_of s.cpu 1)) (λ r. with_register (with_register s.cpu 2 r.0) 3 r.1)
  heap_for (Some heap.Get) asks = absurd (false≢true asks)
  heap_for (Some heap.Free) asks = absurd (false≢true asks)
  heap_for (Some heap.Resize) asks = absurd (false≢true asks)
  heap_for (Some heap.ChangeSize) asks = absurd (false≢true asks)
  heap_for (Some heap.BlockSize) asks = of_store (block_sized s.store (register_of s.cpu 1) (register_of s.cpu 2)) (λ n. with_register s.cpu 3 n)
  heap_for None asks = tt

  heap_answer : (next : ℕ) → heap_asks (heap_reason (register_of s.cpu 0)) ≡ true
      → IsAlike s (went_on s next (on_store s (heap_called s.cpu s.store))).left.now
  unfolding heap_called
  heap_answer next asks = went next (on_store s (heap_called s.cpu s.store)) (heap_for (heap_reason (register_of s.cpu 0)) asks)

  area_for : (why : Option AreaReason) → area_asks why ≡ true → Went (on_area_store s (area_called_for s.cpu (machine_area_store s) why))
  area_for (Some area.Create) asks = absurd (false≢true asks)
  area_for (Some area.Remove) asks = absurd (false≢true asks)
  area_for (Some area.Info) asks =
      of_area_store (area_in s.tables.area_table.areas (register_of s.cpu 1)) (λ a. with_area_shown s.cpu a) (λ a. s.tables.area_table)
  area_for (Some area.Enumerate) asks =
      of_area_store (next_number s.tables.area_table.areas (register_of s.cpu 1)) (λ n. with_register s.cpu 1 n) (λ n. s.tables.area_table)
  area_for (Some area.Renumber) asks =
      of_area_store (areas_after_renumber s.tables.area_table.areas (register_of s.cpu 1) (register_of s.cpu 2)) (λ areas. s.cpu)
      (λ areas. with_areas s.tables.area_table areas)
  area_for None asks = tt

  area_answer : (next : ℕ) → area_asks (area_reason (register_of s.cpu 0)) ≡ true
      → IsAlike s (went_on s next (on_area_store s (area_called s.cpu (machine_area_store s)))).left.now
  unfolding area_called
  area_answer next asks = went next (on_area_store s (area_called s.cpu (machine_area_store s))) (area_for (area_reason (register_of s.cpu 0)) asks)

  read_answer : (next : ℕ) → IsAlike s (went_on s next (on_area_store s (area_read s.cpu (machine_area_store s)))).left.now
  unfolding area_read
  read_answer next =
      went next (on_area_store s (area_read s.cpu (machine_area_store s)))
      (of_area_store (extent_asked s.tables.area_table.areas (register_of s.cpu 0)) (λ x. with_extent s.cpu x) (λ x. s.tables.area_table))

  found : (full : Result (List ℕ) ErrorNumber)
      → Went (on_module_state s (bind (or_error full) (λ name. or_error (looked_for s.cpu (machine_module_state s) name))))
  found (Ok name) = found_by (instance_looked_up s.store.bytes.at s.tables.modules name) (with_found s.cpu) where
    found_by : {A : Type 0} (r : Result A ErrorNumber) (k : A → State) → Went (on_module_state s (or_error (bind r (λ x. Ok (k x, machine_module_state s)))))
    found_by (Ok x) k = record { store = refl; modules = refl; flex = refl; frames = refl }
    found_by (Err e) k = tt
  found (Err e) = tt

  module_for : (why : Option ModuleReason) → module_asks why ≡ true → Went (on_module_state s (module_called_for s.cpu (machine_module_state s) why))
  module_for None asks = tt
  module_for (Some reason.DescribeArea) asks = record { store = refl; modules = refl; flex = refl; frames = refl }
  module_for (Some reason.Info) asks = of_module_state (instance_info s.store.bytes.at s.tables.modules (place_asked s.cpu)) (with_shown s.cpu)
  module_for (Some reason.Lookup) asks = found (string_in s.store.bytes s.cpu 1)
  module_for (Some reason.Run) asks = absurd (false≢true asks)
  module_for (Some reason.Load) asks = absurd (false≢true asks)
  module_for (Some reason.Enter) asks = absurd (false≢true asks)
  module_for (Some reason.Reinit) asks = absurd (false≢true asks)
  module_for (Some reason.Delete) asks = absurd (false≢true asks)
  module_for (Some reason.Claim) asks = absurd (false≢true asks)
  module_for (Some reason.Free) asks = absurd (false≢true asks)
  module_for (Some reason.Tidy) asks = absurd (false≢true asks)
  module_for (Some reason.Clear) asks = absurd (false≢true asks)
  module_for (Some reason.Insert) asks = absurd (false≢true asks)
  module_for (Some reason.InsertCopy) asks = absurd (false≢true asks)
  module_for (Some reason.Extend) asks = absurd (false≢true asks)
  module_for (Some reason.Instantiate) asks = absurd (false≢true asks)
  module_for (Some reason.Rename) asks = absurd (false≢true asks)
  module_for (Some reason.Prefer) asks = absurd (false≢true asks)

  module_answer : (next : ℕ) → module_asks (module_reason (register_of s.cpu 0)) ≡ true
      → IsAlike s (went_on s next (on_module_state s (result_of_module_call s.cpu (machine_module_state s)))).left.now
  unfolding result_of_module_call
  module_answer next asks =
      went next (on_module_state s (result_of_module_call s.cpu (machine_module_state s))) (module_for (module_reason (register_of s.cpu 0)) asks)

  size_answer : (next : ℕ) → IsAlike s (went_on s next (on_flex s (flex_called s.cpu (machine_flex s) (Some swi.FlexSize)))).left.now
  unfolding flex_called
  size_answer next =
      went next (on_flex s (flex_called s.cpu (machine_flex s) (Some swi.FlexSize)))
      (of_flex (flex_block_size (state_in (machine_flex s)) (register_of s.cpu 0)) (λ n. with_register s.cpu 0 n))

  text_after : (next : ℕ) (o : Option (List ℕ)) → IsAlike s (wrote_text_after s next o).left.now
  text_after next None = alike
  text_after next (Some text) = alike

  text_at : (next at : ℕ) (o : Option (List ℕ)) → IsAlike s (wrote_text_at s next at o).left.now
  text_at next at None = alike
  text_at next at (Some text) = record { store = refl; modules = refl; flex = refl; frames = refl }

  answer : (next number : ℕ) (name : SwiName) → is_exit (Some name) ≡ false → named_call_leaves (register_of s.cpu 0) (Some name) ≡ true
      → IsAlike s (call_answer s next number (Some name)).left.now
  unfolding call_answer
  answer next number swi.WriteC goes leaves = alike
  answer next number swi.WriteS goes leaves = text_after next (printable_at s.store.bytes next)
  answer next number swi.Write0 goes leaves = text_at next (register_of s.cpu 0) (printable_at s.store.bytes (register_of s.cpu 0))
  answer next number swi.NewLine goes leaves = alike
  answer next number swi.Exit goes leaves = absurd (false≢true (sym goes))
  answer next number swi.EnterOs goes leaves = record { store = refl; modules = refl; flex = refl; frames = refl }
  answer next number swi.Heap goes leaves = heap_answer next leaves
  answer next number swi.Module goes leaves = module_answer next leaves
  answer next number swi.ChangeDynamicArea goes leaves = absurd (false≢true leaves)
  answer next number swi.GenerateError goes leaves = alike
  answer next number swi.ReadDynamicArea goes leaves = read_answer next
  answer next number swi.DynamicArea goes leaves = area_answer next leaves
  answer next number swi.WriteI goes leaves = alike
  answer next number swi.FlexInit goes leaves = absurd (false≢true leaves)
  answer next number swi.FlexAlloc goes leaves = absurd (false≢true leaves)
  answer next number swi.FlexFree goes leaves = absurd (false≢true leaves)
  answer next number swi.FlexSize goes leaves = size_answer next
  answer next number swi.FlexExtend goes leaves = absurd (false≢true leaves)
  answer next number swi.FlexMidExtend goes leaves = absurd (false≢true leaves)

  -- how a call ends
  by_error : (x : Bool) (a : Answer) (e : Option Refusal) → IsAlike s a.left.now → IsStoreLeft s (outcome_of_end s x a e).now
  by_error x a None is = left s (outcome_of_end s x a None).now is.store is.modules is.flex
  by_error false a (Some e) is = left s (outcome_of_end s false a (Some e)).now refl refl refl
  by_error true a (Some refusal.Own) is = left s (outcome_of_end s true a (Some refusal.Own)).now is.store is.modules is.flex
  by_error true a (Some (refusal.System e)) is = record {
    mapped = ap (λ (v : Store). v.bytes.mapped) is.store;
    heaps = ap (λ (v : Store). v.heaps) is.store;
    others = ap (λ (v : Store). v.others) is.store;
    modules = is.modules;
    flex = is.flex;
    bytes = λ b differs. elim (cases_Bool (in_range error_block_start 256 b)) [
      | inl inside ↦ record {
        block = inside;
        error = overflow_back s.cpu.psr (with_register a.left.now.cpu 0 error_block_start) true a.next;
        frames = ap length is.frames;
      }
      | inr out ↦ absurd (differs (error_beside a.left.now.store.bytes e b out ∙ ap (λ (v : Store). v.bytes.at b) is.store))
    ];
  }

  ended : (x : Bool) (a : Answer) → IsAlike s a.left.now → IsStoreLeft s (outcome_of_answer s x a).now
  ended x a is = by_error x a a.error is

  refused : (x : Bool) (next : ℕ) (f : ErrorNumber) → IsStoreLeft s (call_refused s x next f).now
  refused x next f = ended x (refusal_answer s next (refusal.System f)) alike

  abbrev entered : Bool → ℕ → ℕ → Handler → Bool → StepOutcome
  entered x next number handler full =
      if full then call_refused s x next FrameLimit else silent (handler_entered s (call_of s x next false) number handler)

  entering : (x : Bool) (next number : ℕ) (handler : Handler) (full : Bool) → IsStoreLeft s (entered x next number handler full).now
  entering x next number handler true = refused x next FrameLimit
  entering x next number handler false = left s (entered x next number handler false).now refl refl refl

  handled : (x : Bool) (next number : ℕ) (o : Option Handler) → IsStoreLeft s (outcome_of_module_swi s x next number o).now
  handled x next number None = refused x next SwiUnknown
  handled x next number (Some handler) = entering x next number handler (length s.tables.frames == 32)

  reasoned : (images : List Entry) (x : Bool) (next number : ℕ) (why : Option ModuleReason) → module_asks why ≡ true
      → module_asks (module_reason (register_of s.cpu 0)) ≡ true → IsStoreLeft s (os_module_called_for images s x next number why).now
  reasoned images x next number None asks asks0 = ended x (call_answer s next number (Some swi.Module)) (answer next number swi.Module refl asks0)
  reasoned images x next number (Some reason.DescribeArea) asks asks0 =
      ended x (call_answer s next number (Some swi.Module)) (answer next number swi.Module refl asks0)
  reasoned images x next number (Some reason.Info) asks asks0 =
      ended x (call_answer s next number (Some swi.Module)) (answer next number swi.Module refl asks0)
  reasoned images x next number (Some reason.Lookup) asks asks0 =
      ended x (call_answer s next number (Some swi.Module)) (answer next number swi.Module refl asks0)
  reasoned images x next number (Some reason.Run) asks asks0 = absurd (false≢true asks)
  reasoned images x next number (Some reason.Load) asks asks0 = absurd (false≢true asks)
  reasoned images x next number (Some reason.Enter) asks asks0 = absurd (false≢true asks)
  reasoned images x next number (Some reason.Reinit) asks asks0 = absurd (false≢true asks)
  reasoned images x next number (Some reason.Delete) asks asks0 = absurd (false≢true asks)
  reasoned images x next number (Some reason.Claim) asks asks0 = absurd (false≢true asks)
  reasoned images x next number (Some reason.Free) asks asks0 = absurd (false≢true asks)
  reasoned images x next number (Some reason.Tidy) asks asks0 = absurd (false≢true asks)
  reasoned images x next number (Some reason.Clear) asks asks0 = absurd (false≢true asks)
  reasoned images x next number (Some reason.Insert) asks asks0 = absurd (false≢true asks)
  reasoned images x next number (Some reason.InsertCopy) asks asks0 = absurd (false≢true asks)
  reasoned images x next number (Some reason.Extend) asks asks0 = absurd (false≢true asks)
  reasoned images x next number (Some reason.Instantiate) asks asks0 = absurd (false≢true asks)
  reasoned images x next number (Some reason.Rename) asks asks0 = absurd (false≢true asks)
  reasoned images x next number (Some reason.Prefer) asks asks0 = absurd (false≢true asks)

  module_called : (images : List Entry) (x : Bool) (next number : ℕ) → module_asks (module_reason (register_of s.cpu 0)) ≡ true
      → IsStoreLeft s (os_module_called images s x next number).now
  unfolding os_module_called
  module_called images x next number asks = reasoned images x next number (module_reason (register_of s.cpu 0)) asks asks

  named : (images : List Entry) (x : Bool) (next number : ℕ) (name : Option SwiName) → is_exit name ≡ false
      → named_call_leaves (register_of s.cpu 0) name ≡ true → IsStoreLeft s (called_by images s x next number name).now
  named images x next number None goes leaves = handled x next number (handler_of number s.tables.modules)
  named images x next number (Some swi.Module) goes leaves = module_called images x next number leaves
  named images x next number (Some name) goes leaves = ended x (call_answer s next number (Some name)) (answer next number name goes leaves)

  exit_or : (images : List Entry) (x : Bool) (next number : ℕ) (name : Option SwiName) (exits : Bool) → is_exit name ≡ exits
      → named_call_leaves (register_of s.cpu 0) name ≡ true
      → IsStoreLeft s (if exits then outcome_of_halt s halt.Exit else called_by images s x next number name).now
  exit_or images x next number name true is leaves = left s (outcome_of_halt s halt.Exit).now refl refl refl
  exit_or images x next number name false is leaves = named images x next number name is leaves

  called : (images : List Entry) (x : Bool) (next number : ℕ) → call_leaves (register_of s.cpu 0) number ≡ true
      → IsStoreLeft s (outcome_of_call images s x next number).now
  unfolding outcome_of_call
  called images x next number leaves = exit_or images x next number (swi_of number) (is_exit (swi_of number)) refl leaves

  stepped : (images : List Entry) (n : ℕ) (o : Option Halt) (r : Result (State × Bytes) StepEnd) → o ≡ None → r ≡ Err (turn.Swi n)
      → IsStoreLeft s (swi_called images s n).now → IsStoreLeft s (unless_halted s o (outcome_of_turn images s r)).now
  stepped images n o r unhalted is done = rw (unhalted, is) done

pub calls_leave : CallsLeaveStore
unfolding machine_step
calls_leave images s n unhalted is leaves =
    stepped s images n s.halt (result_of_instruction s) unhalted is (called s images _ _ (without_x n) leaves)
