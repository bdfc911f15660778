-- What the calls leave that are none of OS_Heap, of OS_Module or of flex: nothing is changed, or
-- areas are, or an error's block is written.
use Rattle.std.proofs.Common.{ℕ, ◌≡◌, ◌==◌, Bool, true, false, length, List, Option, Some, None, Result, Ok, Err}
use Rattle.std.specs.Prelude.{if◌then◌else◌}
use Rattle.std.proofs.lemmas.Bool.{true≢false}
use Rattle.profile.specs.Outcome.{bind}
use Rattle.profile.specs.SwiNames.{swi_of}
use Rattle.profile.specs.ErrorNumber.{ErrorNumber}
use Rattle.profile.specs.ErrorNumber.TheVariants.{FrameLimit, SwiUnknown}
use Rattle.profile.specs.declared.swi.SwiName.{SwiName}
use Rattle.profile.specs.declared.swi.SwiName.TheVariants as swi
use Rattle.arm_core.specs.State.{register_of, with_register}
use Rattle.profile.specs.images.Entries.{Entry}
use Rattle.os_heap.specs.Store.{Store}
use Rattle.dynamic_areas.specs.Areas.{extent_asked}
use Rattle.dynamic_areas.specs.Ground.{AreaStore}
use Rattle.dynamic_areas.specs.declared.area.Extent.{Extent}
use Rattle.flex_store.specs.Calls.{flex_block_size}
use Rattle.instances_table.specs.Lookup.{handler_of}
use Rattle.instances_table.specs.declared.parts.Handler.{Handler}
use Rattle.swi_dispatch_guest.specs.Refusals.{or_error}
use Rattle.swi_dispatch_guest.specs.Refusal.{Refusal}
use Rattle.swi_dispatch_guest.specs.Refusal.TheVariants as refusal
use Rattle.swi_dispatch_guest.specs.SwiDispatchFlexCalls.{flex_called, state_in}
use Rattle.swi_dispatch_guest.specs.Areas.{area_called, area_read, with_extent}
use Rattle.swi_dispatch_guest.specs.declared.halt.Halt.TheVariants as halt
use Rattle.swi_dispatch_guest.specs.Answers.{Answer, refusal_answer, went_on}
use Rattle.swi_dispatch_guest.specs.Calls.{call_answer, machine_flex, on_area_store, on_flex, printable_at, wrote_text_after, wrote_text_at}
use Rattle.swi_dispatch_guest.specs.Errors.{with_error}
use Rattle.swi_dispatch_guest.specs.MachineState.{MachineState, StepOutcome, machine_area_store, silent}
use Rattle.swi_dispatch_guest.specs.Returns.{outcome_of_halt}
use Rattle.swi_dispatch_guest.specs.Step.{call_of, call_refused, outcome_of_call, called_by, outcome_of_answer, outcome_of_end, handler_entered, is_exit, outcome_of_module_swi as handler_called}
use Rattle.law_machine.proofs.HeapAloneLemmas.Rows.{is_flex_call}
use Rattle.law_machine.specs.heap_alone.ModuleMoves.{is_module_name}
use Rattle.law_machine.specs.heap_alone.Moves.{is_heap_swi}
use Rattle.law_machine.proofs.LiveBytesLemmas.AreaRows.{HasWent, area_has, change_has}
use Rattle.law_machine.specs.live_bytes.AreaLaws.{AreaCallHas}

-- is it another call than those?
abbrev pub IsOther : Option SwiName → Type 0
IsOther name = (is_module_name name ≡ false) × ((is_heap_swi name ≡ false) × (is_flex_call name ≡ false))

-- A property of stores that holds where nothing is changed, of an error's block, and of what a call
-- on areas leaves.
module _ (s : MachineState) (P : Store → Type 0) (same : P s.store) (error : (t : MachineState) (e : Refusal) → P t.store → P (with_error t e).store)
    (calls : (e : AreaStore) → AreaCallHas (machine_area_store s) P e) where
  abbrev Left : Answer → Type 0
  Left a = P a.left.now.store

  by_error : (x : Bool) (a : Answer) (e : Option Refusal) → Left a → P (outcome_of_end s x a e).now.store
  by_error x a None left = left
  by_error true a (Some e) left = error a.left.now e left
  by_error false a (Some e) left = same

  ended_has : (x : Bool) (a : Answer) → Left a → P (outcome_of_answer s x a).now.store
  ended_has x a left = by_error x a a.error left

  went_has : (next : ℕ) (r : Result MachineState Refusal) → HasWent P r → Left (went_on s next r)
  went_has next (Ok t) went = went
  went_has next (Err e) went = same

  text_after : (next : ℕ) (o : Option (List ℕ)) → Left (wrote_text_after s next o)
  text_after next None = same
  text_after next (Some text) = same

  text_at : (next at : ℕ) (o : Option (List ℕ)) → Left (wrote_text_at s next at o)
  text_at next at None = same
  text_at next at (Some text) = same

  read_went : (r : Result Extent ErrorNumber) → HasWent P (on_area_store s (bind (or_error r) (λ x. Ok (with_extent s.cpu x, machine_area_store s))))
  read_went (Ok x) = same
  read_went (Err e) = tt

  read_has : (next : ℕ) → Left (went_on s next (on_area_store s (area_read s.cpu (machine_area_store s))))
  unfolding area_read
  read_has next =
      went_has next (on_area_store s (area_read s.cpu (machine_area_store s))) (read_went (extent_asked s.tables.area_table.areas (register_of s.cpu 0)))

  size_went : (r : Result ℕ ErrorNumber) → HasWent P (on_flex s (bind (or_error r) (λ n. Ok (with_register s.cpu 0 n, machine_flex s))))
  size_went (Ok n) = same
  size_went (Err e) = tt

  size_has : (next : ℕ) → Left (went_on s next (on_flex s (flex_called s.cpu (machine_flex s) (Some swi.FlexSize))))
  unfolding flex_called
  size_has next =
      went_has next (on_flex s (flex_called s.cpu (machine_flex s) (Some swi.FlexSize)))
      (size_went (flex_block_size (state_in (machine_flex s)) (register_of s.cpu 0)))

  unknown_has : (next : ℕ) → Left (went_on s next (on_flex s (flex_called s.cpu (machine_flex s) None)))
  unfolding flex_called
  unknown_has next = same

  exit_has : (next : ℕ) → Left (went_on s next (on_flex s (flex_called s.cpu (machine_flex s) (Some swi.Exit))))
  unfolding flex_called
  exit_has next = same

  answer_has : (next number : ℕ) (name : Option SwiName) → IsOther name → Left (call_answer s next number name)
  unfolding call_answer
  answer_has next number (Some swi.WriteC) other = same
  answer_has next number (Some swi.WriteS) other = text_after next (printable_at s.store.bytes next)
  answer_has next number (Some swi.Write0) other = text_at next (register_of s.cpu 0) (printable_at s.store.bytes (register_of s.cpu 0))
  answer_has next number (Some swi.NewLine) other = same
  answer_has next number (Some swi.Exit) other = exit_has next
  answer_has next number (Some swi.EnterOs) other = same
  answer_has next number (Some swi.Heap) other = absurd (true≢false other.1.0)
  answer_has next number (Some swi.Module) other = absurd (true≢false other.0)
  answer_has next number (Some swi.ChangeDynamicArea) other = change_has s P same calls
  answer_has next number (Some swi.GenerateError) other = same
  answer_has next number (Some swi.ReadDynamicArea) other = read_has next
  answer_has next number (Some swi.DynamicArea) other =
      went_has next (on_area_store s (area_called s.cpu (machine_area_store s))) (area_has s P same calls)
  answer_has next number (Some swi.WriteI) other = same
  answer_has next number (Some swi.FlexInit) other = absurd (true≢false other.1.1)
  answer_has next number (Some swi.FlexAlloc) other = absurd (true≢false other.1.1)
  answer_has next number (Some swi.FlexFree) other = absurd (true≢false other.1.1)
  answer_has next number (Some swi.FlexSize) other = size_has next
  answer_has next number (Some swi.FlexExtend) other = absurd (true≢false other.1.1)
  answer_has next number (Some swi.FlexMidExtend) other = absurd (true≢false other.1.1)
  answer_has next number None other = unknown_has next

  -- a SWI of a module
  refused_has : (x : Bool) (next : ℕ) (f : ErrorNumber) → P (call_refused s x next f).now.store
  refused_has x next f = ended_has x (refusal_answer s next (refusal.System f)) same

  abbrev entered : Bool → ℕ → ℕ → Handler → Bool → StepOutcome
  entered x next number handler full =
      if full then call_refused s x next FrameLimit else silent (handler_entered s (call_of s x next false) number handler)

  entered_has : (x : Bool) (next number : ℕ) (handler : Handler) (full : Bool) → P (entered x next number handler full).now.store
  entered_has x next number handler true = refused_has x next FrameLimit
  entered_has x next number handler false = same

  handler_has : (x : Bool) (next number : ℕ) (o : Option Handler) → P (handler_called s x next number o).now.store
  handler_has x next number None = refused_has x next SwiUnknown
  handler_has x next number (Some handler) = entered_has x next number handler (length s.tables.frames == 32)

  name_has : (images : List Entry) (x : Bool) (next number : ℕ) (name : Option SwiName) → IsOther name
      → P (called_by images s x next number name).now.store
  name_has images x next number None other = handler_has x next number (handler_of number s.tables.modules)
  name_has images x next number (Some swi.Module) other = absurd (true≢false other.0)
  name_has images x next number (Some name) other = ended_has x (call_answer s next number (Some name)) (answer_has next number (Some name) other)

  exit_or : (images : List Entry) (x : Bool) (next number : ℕ) (name : Option SwiName) (exits : Bool) → IsOther name
      → P (if exits then outcome_of_halt s halt.Exit else called_by images s x next number name).now.store
  exit_or images x next number name true other = same
  exit_or images x next number name false other = name_has images x next number name other

  pub other_has : (images : List Entry) (x : Bool) (next number : ℕ) → IsOther (swi_of number) → P (outcome_of_call images s x next number).now.store
  unfolding outcome_of_call
  other_has images x next number other = exit_or images x next number (swi_of number) (is_exit (swi_of number)) other
