-- What the calls on dynamic areas write that a machine makes.
use Rattle.profile.specs.MemoryMap.{error_block_start}
use Rattle.std.proofs.Common.{ℕ, ◌≡◌, ◌*◌, ◌∙◌, ◌⊎◌, codes, Bool, true, false, length, List, Option, Some, None, Result, Ok, Err, refl, inl, inr}
use Rattle.profile.specs.Outcome.{bind}
use Rattle.profile.specs.Reasons.{area_reason}
use Rattle.profile.specs.ErrorNumber.{ErrorNumber}
use Rattle.profile.specs.ErrorNumber.TheVariants.{BadString}
use Rattle.profile.specs.declared.reason.AreaReason.{AreaReason}
use Rattle.profile.specs.declared.reason.AreaReason.TheVariants as area
use Rattle.arm_core.specs.State.{State, register_of}
use Rattle.os_heap.specs.Store.{Store}
use Rattle.flex_store.specs.declared.flex.Flex.{Flex}
use Rattle.dynamic_areas.proofs.SystemPages.{change_keeps_system}
use Rattle.dynamic_areas.specs.Areas.{AreaTable, area_in, areas_after_renumber, find_area, next_number, with_areas}
use Rattle.dynamic_areas.specs.Changing.{area_table_after_remove, store_emptied}
use Rattle.dynamic_areas.specs.Creating.{area_wanted, area_table_after_create, pages_for}
use Rattle.dynamic_areas.specs.Ground.{AreaStore}
use Rattle.dynamic_areas.specs.Remapped.{with_pages_at}
use Rattle.dynamic_areas.specs.declared.area.Area.{Area}
use Rattle.dynamic_areas.specs.declared.area.Created.{Created}
use Rattle.dynamic_areas.specs.declared.area.Wanted.{Wanted}
use Rattle.swi_dispatch_guest.specs.Refusals.{or_error, system_error}
use Rattle.swi_dispatch_guest.specs.Strings.{string_at}
use Rattle.swi_dispatch_guest.specs.Refusal.{Refusal}
use Rattle.swi_dispatch_guest.specs.Refusal.TheVariants as refusal
use Rattle.swi_dispatch_guest.specs.Areas.{area_called, area_called_for, area_changed, area_made, area_named, area_resized, change_asked, change_left, wanted_of, with_area_table}
use Rattle.swi_dispatch_guest.specs.Calls.{area_changing, on_area_store, with_guest}
use Rattle.swi_dispatch_guest.specs.Errors.{with_error}
use Rattle.swi_dispatch_guest.specs.MachineState.{MachineState, machine_area_store}
use Rattle.swi_dispatch_guest.specs.Step.{outcome_of_answer, outcome_of_end}
use Rattle.law_machine.proofs.HeapAloneLemmas.HeapAnswers.{set_length}
use Rattle.law_machine.proofs.HeapAloneLemmas.States.{HasStore, mapped_block}
use Rattle.law_machine.proofs.OtherBytesLemmas.Ending.{Ends, Went, error_byte}
use Rattle.law_machine.proofs.OtherBytesLemmas.Pages.{page_calls_keep_others}
use Rattle.law_machine.specs.other_bytes.PageWrites.{IsAreaEndByte, IsUnmapped, PageCallWrites}

-- an error leaves pages where they are
unmapped_after : (u : MachineState) (e : Refusal) (a : ℕ) → IsUnmapped u.store a → IsUnmapped (with_error u e).store a
unmapped_after u refusal.Own a gone = gone
unmapped_after u (refusal.System e) a gone = gone

module _ (s : MachineState) (has : HasStore s) (a : ℕ) where
  abbrev e : AreaStore
  e = machine_area_store s

  calls : (left : AreaStore) → PageCallWrites e left a
  calls left = page_calls_keep_others e left a has.area_store has.stores.memory.bytes

  -- those that make areas and remove them
  abbrev pub PageRow : Store → Flex → Type 0
  PageRow t f = IsUnmapped t a

  created_went : (w : Wanted) (name : List ℕ) (r : Result (AreaTable × Created) ErrorNumber) → area_table_after_create s.tables.area_table s.pool w name ≡ r
      → Went s a PageRow (on_area_store s (bind (or_error r) (λ q. Ok (area_made s.cpu e w q))))
  created_went w name (Ok q) is = inl ((calls (with_area_table (with_pages_at s.store q.1.base (4096 * pages_for w.size)) q.0)).create w name q.1 is refl)
  created_went w name (Err f) is = tt

  unnamed_went : (r : Result Area ErrorNumber) → Went s a PageRow (on_area_store s (bind (or_error r) (λ x. system_error BadString)))
  unnamed_went (Ok x) = tt
  unnamed_went (Err f) = tt

  named_went : (w : Wanted) (o : Option (List ℕ)) → Went s a PageRow (on_area_store s (area_named s.cpu e w o))
  named_went w None = unnamed_went (area_wanted s.tables.area_table s.pool w (codes "?"))
  named_went w (Some name) = created_went w name (area_table_after_create s.tables.area_table s.pool w name) refl

  removed_went : (number : ℕ) (r : Result AreaTable ErrorNumber) → area_table_after_remove s.tables.area_table s.store number ≡ r
      → Went s a PageRow (on_area_store s (bind (or_error r) (λ l. Ok (s.cpu, with_area_table (store_emptied s.store (find_area number s.tables.area_table.areas)) l))))
  removed_went number (Ok l) is = (calls (with_area_table (store_emptied s.store (find_area number s.tables.area_table.areas)) l)).remove number is refl
  removed_went number (Err f) is = tt

  shown_went : (A : Type 0) (k : A → State) (l : A → AreaTable) (r : Result A ErrorNumber)
      → Went s a PageRow (on_area_store s (bind (or_error r) (λ x. Ok (k x, record e { area_table = l x }))))
  shown_went A k l (Ok x) = inl refl
  shown_went A k l (Err f) = tt

  area_for : (o : Option AreaReason) → Went s a PageRow (on_area_store s (area_called_for s.cpu e o))
  area_for (Some area.Create) = named_went (wanted_of s.cpu) (string_at s.store.bytes (register_of s.cpu 8))
  area_for (Some area.Remove) = removed_went (register_of s.cpu 1) (area_table_after_remove s.tables.area_table s.store (register_of s.cpu 1)) refl
  area_for (Some area.Info) = shown_went Area _ (λ _. s.tables.area_table) (area_in s.tables.area_table.areas (register_of s.cpu 1))
  area_for (Some area.Enumerate) = shown_went ℕ _ (λ _. s.tables.area_table) (next_number s.tables.area_table.areas (register_of s.cpu 1))
  area_for (Some area.Renumber) =
      shown_went (List Area) _ (λ areas. with_areas s.tables.area_table areas) (areas_after_renumber s.tables.area_table.areas (register_of s.cpu 1) (register_of s.cpu 2))
  area_for None = tt

  pub area_went : Went s a PageRow (on_area_store s (area_called s.cpu (machine_area_store s)))
  unfolding area_called
  area_went = area_for (area_reason (register_of s.cpu 0))

  -- the one that changes an area, which may err too
  abbrev pub ChangeRow : Store → Flex → Type 0
  ChangeRow t f = IsUnmapped t a ⊎ ((register_of s.cpu 0 ≡ 1) × IsAreaEndByte a)

  abbrev Changed : Store → Type 0
  Changed t = (t.bytes.at a ≡ s.store.bytes.at a) ⊎ (IsUnmapped t a ⊎ ((register_of s.cpu 0 ≡ 1) × IsAreaEndByte a))

  change_for : (o : Option Area) → Changed (change_left s.cpu e o (change_asked s.cpu e).bytes).1.store
  change_for None = inl refl
  change_for (Some x) =
      (calls (area_resized s.cpu e (register_of s.cpu 0) (register_of s.cpu 1) (change_asked s.cpu e).bytes).1).change (register_of s.cpu 0) (register_of s.cpu 1) refl

  changed : Changed (with_guest s (area_changed s.cpu e)).store
  changed = change_for (find_area (register_of s.cpu 0) s.tables.area_table.areas)

  row_after : (u : MachineState) (f : Refusal) → (IsUnmapped u.store a ⊎ ((register_of s.cpu 0 ≡ 1) × IsAreaEndByte a))
      → IsUnmapped (with_error u f).store a ⊎ ((register_of s.cpu 0 ≡ 1) × IsAreaEndByte a)
  row_after u f (inl gone) = inl (unmapped_after u f a gone)
  row_after u f (inr ended) = inr ended

  -- the block of errors is mapped still, and the core has its registers
  size_for : (o : Option Area) → length (change_left s.cpu e o (change_asked s.cpu e).bytes).0.file ≡ 26
  size_for None = has.size
  size_for (Some x) = set_length s.cpu 1 (change_asked s.cpu e).bytes has.size

  mapped_for : (o : Option Area) → find_area (register_of s.cpu 0) s.tables.area_table.areas ≡ o
      → (change_left s.cpu e o (change_asked s.cpu e).bytes).1.store.bytes.mapped error_block_start ≡ true
  mapped_for None found = mapped_block s has
  mapped_for (Some x) found =
      change_keeps_system s.store s.pool s.tables.area_table (register_of s.cpu 0) (register_of s.cpu 1) x error_block_start has.area_store found refl

  change_by : (x : Bool) (next : ℕ) (o : Option Refusal) → Changed (with_guest s (area_changed s.cpu e)).store
      → Ends s a ChangeRow (outcome_of_end s x (area_changing s next) o).now
  change_by x next None (inl same) = inl same
  change_by x next None (inr row) = inr (inr row)
  change_by false next (Some f) row = inl refl
  change_by true next (Some f) row = elim (error_byte (with_guest s (area_changed s.cpu e)) s.cpu.psr next a f (mapped_for (find_area (register_of s.cpu 0) s.tables.area_table.areas) refl) (size_for (find_area (register_of s.cpu 0) s.tables.area_table.areas))) [
    | inr own ↦ inr (inl own)
    | inl kept ↦ elim row [
      | inl same ↦ inl (kept ∙ same)
      | inr written ↦ inr (inr (row_after (with_guest s (area_changed s.cpu e)) f written))
    ]
  ]

  pub change_ends : (x : Bool) (next : ℕ) → Ends s a ChangeRow (outcome_of_answer s x (area_changing s next)).now
  change_ends x next = change_by x next (area_changing s next).error changed
