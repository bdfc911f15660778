-- What each call writes that a machine makes, by its name.
use Rattle.std.proofs.Common.{ℕ, ◌≡◌, ◌==◌, ◌⊎◌, Bool, true, false, List, length, Option, Some, None, Result, Ok, Err, refl, inl, inr}
use Rattle.std.specs.Prelude.{if◌then◌else◌}
use Rattle.std.proofs.lemmas.Bool.{true≢false}
use Rattle.profile.specs.Outcome.{bind}
use Rattle.profile.specs.SwiNames.{swi_of}
use Rattle.profile.specs.ErrorNumber.{ErrorNumber}
use Rattle.profile.specs.ErrorNumber.TheVariants.{BadString, FrameLimit, SwiUnknown}
use Rattle.profile.specs.declared.swi.SwiName.{SwiName}
use Rattle.profile.specs.declared.swi.SwiName.TheVariants as swi
use Rattle.arm_core.specs.State.{register_of, with_register}
use Rattle.profile.specs.images.Entries.{Entry}
use Rattle.os_heap.specs.Store.{IsSound}
use Rattle.dynamic_areas.specs.Areas.{extent_asked}
use Rattle.dynamic_areas.specs.declared.area.Extent.{Extent}
use Rattle.flex_store.specs.Calls.{flex_block_size}
use Rattle.flex_store.specs.Runs.{Alloc, Extend, MidExtend, Release}
use Rattle.instances_table.specs.Lookup.{handler_of}
use Rattle.instances_table.specs.declared.parts.Handler.{Handler}
use Rattle.swi_dispatch_guest.specs.Refusals.{or_error}
use Rattle.swi_dispatch_guest.specs.Refusal.{Refusal}
use Rattle.swi_dispatch_guest.specs.Refusal.TheVariants as refusal
use Rattle.swi_dispatch_guest.specs.SwiDispatchFlexCalls.{flex_called, state_in}
use Rattle.swi_dispatch_guest.specs.Areas.{area_called, area_read, with_extent}
use Rattle.swi_dispatch_guest.specs.declared.halt.Halt.TheVariants as halt
use Rattle.swi_dispatch_guest.specs.Answers.{went_on}
use Rattle.swi_dispatch_guest.specs.Calls.{call_answer, generated_refusal, machine_flex, on_area_store, on_flex, printable_at, wrote_text_after, wrote_text_at}
use Rattle.swi_dispatch_guest.specs.MachineState.{MachineState, StepOutcome, machine_area_store, silent}
use Rattle.swi_dispatch_guest.specs.Returns.{outcome_of_halt}
use Rattle.swi_dispatch_guest.specs.Step.{call_of, call_refused, called_by, handler_entered, is_exit, outcome_of_answer, outcome_of_call, outcome_of_module_swi}
use Rattle.law_machine.proofs.HeapAloneLemmas.ModuleHosts.{HasModules}
use Rattle.law_machine.proofs.HeapAloneLemmas.States.{HasStore}
use Rattle.law_machine.specs.heap_alone.ModuleMoves.{is_module_name}
use Rattle.law_machine.proofs.OtherBytesLemmas.Ending.{Ends, EndsDone, Nothing, Went, refused, went}
use Rattle.law_machine.proofs.OtherBytesLemmas.FlexRow.{Row, alloc_made, extend_made, init_made, mid_made, release_made}
use Rattle.law_machine.proofs.OtherBytesLemmas.HeapRow.{heap_ends}
use Rattle.law_machine.proofs.OtherBytesLemmas.ModuleRow.{module_ends}
use Rattle.law_machine.proofs.OtherBytesLemmas.PageRow.{PageRow, area_went, change_ends}
use Rattle.law_machine.specs.other_bytes.MoveWrites.{IsErrorByte, IsOfCall}

module _ (s : MachineState) (has : HasStore s) (a : ℕ) where
  nothing_done : (t : MachineState) → EndsDone s a Nothing t → Ends s a Nothing t
  nothing_done t (inl same) = inl same
  nothing_done t (inr (inl own)) = inr (inl own)
  nothing_done t (inr (inr never)) = absurd never.1

  nothing_went : (x : Bool) (next : ℕ) (r : Result MachineState Refusal) → Went s a Nothing r
      → Ends s a Nothing (outcome_of_answer s x (went_on s next r)).now
  nothing_went x next r done = nothing_done (outcome_of_answer s x (went_on s next r)).now (went s has a Nothing x next r done)

  text_after : (x : Bool) (next : ℕ) (o : Option (List ℕ)) → Ends s a Nothing (outcome_of_answer s x (wrote_text_after s next o)).now
  text_after x next None = refused s has a Nothing x next (refusal.System BadString)
  text_after x next (Some text) = inl refl

  text_at : (x : Bool) (next at : ℕ) (o : Option (List ℕ)) → Ends s a Nothing (outcome_of_answer s x (wrote_text_at s next at o)).now
  text_at x next at None = refused s has a Nothing x next (refusal.System BadString)
  text_at x next at (Some text) = inl refl

  read_went : (r : Result Extent ErrorNumber) → Went s a Nothing (on_area_store s (bind (or_error r) (λ x. Ok (with_extent s.cpu x, machine_area_store s))))
  read_went (Ok x) = inl refl
  read_went (Err e) = tt

  read_made : Went s a Nothing (on_area_store s (area_read s.cpu (machine_area_store s)))
  unfolding area_read
  read_made = read_went (extent_asked s.tables.area_table.areas (register_of s.cpu 0))

  size_went : (r : Result ℕ ErrorNumber) → Went s a Nothing (on_flex s (bind (or_error r) (λ n. Ok (with_register s.cpu 0 n, machine_flex s))))
  size_went (Ok n) = inl refl
  size_went (Err e) = tt

  size_made : Went s a Nothing (on_flex s (flex_called s.cpu (machine_flex s) (Some swi.FlexSize)))
  unfolding flex_called
  size_made = size_went (flex_block_size (state_in (machine_flex s)) (register_of s.cpu 0))

  unknown_made : Went s a Nothing (on_flex s (flex_called s.cpu (machine_flex s) None))
  unfolding flex_called
  unknown_made = tt

  exit_made : Went s a Nothing (on_flex s (flex_called s.cpu (machine_flex s) (Some swi.Exit)))
  unfolding flex_called
  exit_made = tt

module _ (images : List Entry) (s : MachineState) (has : HasModules s) (a : ℕ) (x : Bool) (next number : ℕ) where
  -- what a call by a name leaves
  abbrev CallEnds : Option SwiName → MachineState → Type 0
  CallEnds name t = IsSound t.store → (t.store.bytes.at a ≡ s.store.bytes.at a) ⊎ (IsErrorByte t a ⊎ IsOfCall images s next name t a)

  none : (t : MachineState) (name : Option SwiName) → Ends s a Nothing t → CallEnds name t
  none t name (inl same) = λ sound. inl same
  none t name (inr (inl own)) = λ sound. inr (inl own)
  none t name (inr (inr never)) = absurd never

  abbrev answered : Option SwiName → MachineState
  answered name = (outcome_of_answer s x (call_answer s next number name)).now

  answer_ends : (name : Option SwiName) → is_module_name name ≡ false → CallEnds name (answered name)
  unfolding call_answer
  answer_ends (Some swi.WriteC) other = none (answered (Some swi.WriteC)) (Some swi.WriteC) (inl refl)
  answer_ends (Some swi.WriteS) other =
      none (answered (Some swi.WriteS)) (Some swi.WriteS)
      (text_after s has.store a x next (printable_at s.store.bytes next))
  answer_ends (Some swi.Write0) other =
      none (answered (Some swi.Write0)) (Some swi.Write0)
      (text_at s has.store a x next (register_of s.cpu 0) (printable_at s.store.bytes (register_of s.cpu 0)))
  answer_ends (Some swi.NewLine) other = none (answered (Some swi.NewLine)) (Some swi.NewLine) (inl refl)
  answer_ends (Some swi.Exit) other =
      none (answered (Some swi.Exit)) (Some swi.Exit)
      (nothing_went s has.store a x next (on_flex s (flex_called s.cpu (machine_flex s) (Some swi.Exit))) (exit_made s has.store a))
  answer_ends (Some swi.EnterOs) other = none (answered (Some swi.EnterOs)) (Some swi.EnterOs) (inl refl)
  answer_ends (Some swi.Heap) other = heap_ends s has.store a x next number
  answer_ends (Some swi.Module) other = absurd (true≢false other)
  answer_ends (Some swi.ChangeDynamicArea) other = λ sound. change_ends s has.store a x next
  answer_ends (Some swi.GenerateError) other =
      none (answered (Some swi.GenerateError)) (Some swi.GenerateError)
      (refused s has.store a Nothing x next (generated_refusal s (register_of s.cpu 0)))
  answer_ends (Some swi.ReadDynamicArea) other =
      none (answered (Some swi.ReadDynamicArea)) (Some swi.ReadDynamicArea)
      (nothing_went s has.store a x next (on_area_store s (area_read s.cpu (machine_area_store s))) (read_made s has.store a))
  answer_ends (Some swi.DynamicArea) other = λ sound. went s has.store a (PageRow s has.store a) x next (on_area_store s (area_called s.cpu (machine_area_store s))) (area_went s has.store a)
  answer_ends (Some swi.WriteI) other = none (answered (Some swi.WriteI)) (Some swi.WriteI) (inl refl)
  answer_ends (Some swi.FlexInit) other =
      none (answered (Some swi.FlexInit)) (Some swi.FlexInit)
      (nothing_went s has.store a x next (on_flex s (flex_called s.cpu (machine_flex s) (Some swi.FlexInit))) (init_made s has.store a Nothing))
  answer_ends (Some swi.FlexAlloc) other = λ sound.
      went s has.store a (Row s has.store a (Alloc (register_of s.cpu 0) (register_of s.cpu 1))) x next (on_flex s (flex_called s.cpu (machine_flex s) (Some swi.FlexAlloc))) (alloc_made s has.store a)
  answer_ends (Some swi.FlexFree) other = λ sound.
      went s has.store a (Row s has.store a (Release (register_of s.cpu 0))) x next (on_flex s (flex_called s.cpu (machine_flex s) (Some swi.FlexFree))) (release_made s has.store a)
  answer_ends (Some swi.FlexSize) other =
      none (answered (Some swi.FlexSize)) (Some swi.FlexSize)
      (nothing_went s has.store a x next (on_flex s (flex_called s.cpu (machine_flex s) (Some swi.FlexSize))) (size_made s has.store a))
  answer_ends (Some swi.FlexExtend) other = λ sound.
      went s has.store a (Row s has.store a (Extend (register_of s.cpu 0) (register_of s.cpu 1))) x next (on_flex s (flex_called s.cpu (machine_flex s) (Some swi.FlexExtend))) (extend_made s has.store a)
  answer_ends (Some swi.FlexMidExtend) other = λ sound.
      went s has.store a (Row s has.store a (MidExtend (register_of s.cpu 0) (register_of s.cpu 1) (register_of s.cpu 2))) x next (on_flex s (flex_called s.cpu (machine_flex s) (Some swi.FlexMidExtend))) (mid_made s has.store a)
  answer_ends None other =
      none (answered None) None
      (nothing_went s has.store a x next (on_flex s (flex_called s.cpu (machine_flex s) None)) (unknown_made s has.store a))

  -- a SWI of a module
  refused_ends : (f : ErrorNumber) → CallEnds None (call_refused s x next f).now
  refused_ends f = none (call_refused s x next f).now None (refused s has.store a Nothing x next (refusal.System f))

  abbrev entered : Handler → Bool → StepOutcome
  entered handler full = if full then call_refused s x next FrameLimit else silent (handler_entered s (call_of s x next false) number handler)

  entered_ends : (handler : Handler) (full : Bool) → CallEnds None (entered handler full).now
  entered_ends handler true = refused_ends FrameLimit
  entered_ends handler false = λ sound. inl refl

  handler_ends : (o : Option Handler) → CallEnds None (outcome_of_module_swi s x next number o).now
  handler_ends None = refused_ends SwiUnknown
  handler_ends (Some handler) = entered_ends handler (length s.tables.frames == 32)

  name_ends : (name : Option SwiName) → CallEnds name (called_by images s x next number name).now
  name_ends None = handler_ends (handler_of number s.tables.modules)
  name_ends (Some swi.Module) = λ sound. module_ends s has a images next x number
  name_ends (Some name) = answer_ends (Some name) refl

  exit_or : (name : Option SwiName) (exits : Bool) → CallEnds name (if exits then outcome_of_halt s halt.Exit else called_by images s x next number name).now
  exit_or name true = λ sound. inl refl
  exit_or name false = name_ends name

  pub call_ends : CallEnds (swi_of number) (outcome_of_call images s x next number).now
  unfolding outcome_of_call
  call_ends = exit_or (swi_of number) (is_exit (swi_of number))
