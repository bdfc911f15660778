-- Calls on areas and on the flex store leave a guest's heap.
use Rattle.std.proofs.Common.{ℕ, ◌≡◌, ◌*◌, Bool, true, false, codes, List, Option, Some, None, Result, Ok, Err, refl, subst}
use Rattle.std.proofs.lemmas.Bool.{false≢true}
use Rattle.profile.specs.Outcome.{bind}
use Rattle.profile.specs.ErrorNumber.{ErrorNumber}
use Rattle.profile.specs.ErrorNumber.TheVariants.{BadString}
use Rattle.profile.specs.declared.reason.AreaReason.{AreaReason}
use Rattle.profile.specs.declared.reason.AreaReason.TheVariants as area
use Rattle.profile.specs.declared.swi.SwiName.{SwiName}
use Rattle.profile.specs.declared.swi.SwiName.TheVariants as swi
use Rattle.address_map.specs.Bytes.{in_range}
use Rattle.arm_core.specs.State.{State, register_of}
use Rattle.os_heap_words.specs.lists.Heap.{HeapList}
use Rattle.os_heap.specs.Calls.{has_own_size}
use Rattle.os_heap.specs.Store.{Store, find_heap}
use Rattle.dynamic_areas.specs.Areas.{AreaTable, area_in, find_area, next_number, areas_after_renumber, with_areas}
use Rattle.dynamic_areas.specs.Changing.{area_table_after_remove, store_emptied}
use Rattle.dynamic_areas.specs.Creating.{area_wanted, area_table_after_create, pages_for}
use Rattle.dynamic_areas.specs.Ground.{AreaStore}
use Rattle.dynamic_areas.specs.Remapped.{with_pages_at}
use Rattle.dynamic_areas.specs.declared.area.Area.{Area}
use Rattle.dynamic_areas.specs.declared.area.Created.{Created}
use Rattle.dynamic_areas.specs.declared.area.Wanted.{Wanted}
use Rattle.flex_store.specs.Calls.{FlexState, flex_after_alloc, flex_after_init, flex_after_extend, mid_extended, flex_after_release}
use Rattle.flex_store.specs.Runs.{Alloc, Extend, MidExtend, Release}
use Rattle.swi_dispatch_guest.specs.Ground.{flex_state, with_flex_record}
use Rattle.law_machine.specs.heap_calls.Laws.{HeapHasNoAnchor, KeepsHeap}
use Rattle.law_machine.proofs.HeapFrameLemmas.Areas.{area_calls_keep, heap_same}
use Rattle.law_machine.proofs.HeapFrameLemmas.Turns.{turns_keep}
use Rattle.law_machine.specs.heap_frame.FlexLaws.{IsFreeOfAnchors}
use Rattle.law_machine.specs.heap_frame.GuestLaws.{HasGuestHeap}
use Rattle.law_machine.specs.heap_frame.TurnLaws.{TurnsOutside}
use Rattle.law_machine.specs.sliding_stores.Meaning.{Stores, store_in}
use Rattle.law_machine.specs.sliding_stores.Turning.{Call, Init, FlexOrSlide, stores_after_flex, stores_after_step}
use Rattle.swi_dispatch_guest.specs.Refusals.{or_error, system_error}
use Rattle.swi_dispatch_guest.specs.Strings.{string_at}
use Rattle.swi_dispatch_guest.specs.Refusal.{Refusal}
use Rattle.swi_dispatch_guest.specs.SwiDispatchFlexCalls.{fit_shown, flex_called, memory_after_flex as memory_left}
use Rattle.swi_dispatch_guest.specs.Areas.{area_called_for, area_changed, area_made, area_named, area_resized, change_asked, change_left, wanted_of, with_area_table}
use Rattle.swi_dispatch_guest.specs.Calls.{machine_flex, on_area_store, on_flex, with_guest}
use Rattle.swi_dispatch_guest.specs.MachineState.{MachineState, machine_area_store}
use Rattle.law_machine.proofs.HeapAloneLemmas.Keeping.{Went}
use Rattle.law_machine.proofs.HeapAloneLemmas.States.{HasStore, sound_store, stores_in}

-- the calls that change the flex store; an alloc names no anchor in the heap
abbrev pub is_flex_call : Option SwiName → Bool
is_flex_call (Some swi.FlexInit) = true
is_flex_call (Some swi.FlexAlloc) = true
is_flex_call (Some swi.FlexFree) = true
is_flex_call (Some swi.FlexExtend) = true
is_flex_call (Some swi.FlexMidExtend) = true
is_flex_call other = false

abbrev pub NamesNone : MachineState → HeapList → Option SwiName → Type 0
NamesNone s h (Some swi.FlexAlloc) = in_range h.start h.end (register_of s.cpu 0) ≡ false
NamesNone s h other = Unit {0}

-- what a call leaves that is done keeps the heap, whatever else it is
abbrev pub Left : HeapList → Store → Result MachineState Refusal → Type 0
Left h s (Ok t) = KeepsHeap h s t.store
Left h s (Err e) = Unit {0}

module _ (s : MachineState) (h : HeapList) (has : HasStore s) (found : find_heap h.start s.store.heaps ≡ Some h) (own : has_own_size h.kind ≡ true) where
  abbrev e : AreaStore
  e = machine_area_store s

  guest : HasGuestHeap (machine_area_store s) h
  guest = record { area_store = has.stores.module_state.area_store; system = has.stores.module_state.system; found = found; own = own }

  same : KeepsHeap h s.store s.store
  same = heap_same h s.store found

  free : HeapHasNoAnchor s.store h → IsFreeOfAnchors h s.store
  free none = record { sound = sound_store s has; found = found; anchors = none }

  -- areas
  created_left : (w : Wanted) (name : List ℕ) (r : Result (AreaTable × Created) ErrorNumber) → area_table_after_create s.tables.area_table s.pool w name ≡ r
      → Left h s.store (on_area_store s (bind (or_error r) (λ q. Ok (area_made s.cpu e w q))))
  created_left w name (Ok q) is =
      let to : AreaStore = with_area_table (with_pages_at s.store q.1.base (4096 * pages_for w.size)) q.0 in
      ((area_calls_keep e to h guest).create w name q.1 is refl)
  created_left w name (Err f) is = tt

  unnamed_left : (r : Result Area ErrorNumber) → Left h s.store (on_area_store s (bind (or_error r) (λ a. system_error BadString)))
  unnamed_left (Ok a) = tt
  unnamed_left (Err f) = tt

  named_left : (w : Wanted) (o : Option (List ℕ)) → Left h s.store (on_area_store s (area_named s.cpu e w o))
  named_left w None = unnamed_left (area_wanted s.tables.area_table s.pool w (codes "?"))
  named_left w (Some name) = created_left w name (area_table_after_create s.tables.area_table s.pool w name) refl

  removed_left : (number : ℕ) (r : Result AreaTable ErrorNumber) → area_table_after_remove s.tables.area_table s.store number ≡ r
      → Left h s.store (on_area_store s (bind (or_error r) (λ l. Ok (s.cpu, with_area_table (store_emptied s.store (find_area number s.tables.area_table.areas)) l))))
  removed_left number (Ok l) is =
      let to : AreaStore = with_area_table (store_emptied s.store (find_area number s.tables.area_table.areas)) l in
      ((area_calls_keep e to h guest).remove number is refl)
  removed_left number (Err f) is = tt

  shown_left : (A : Type 0) (k : A → State) (l : A → AreaTable) (r : Result A ErrorNumber)
      → Left h s.store (on_area_store s (bind (or_error r) (λ x. Ok (k x, record e { area_table = l x }))))
  shown_left A k l (Ok x) = same
  shown_left A k l (Err f) = tt

  pub area_left : (o : Option AreaReason) → Left h s.store (on_area_store s (area_called_for s.cpu e o))
  area_left (Some area.Create) = named_left (wanted_of s.cpu) (string_at s.store.bytes (register_of s.cpu 8))
  area_left (Some area.Remove) = removed_left (register_of s.cpu 1) (area_table_after_remove s.tables.area_table s.store (register_of s.cpu 1)) refl
  area_left (Some area.Info) = shown_left Area _ (λ _. s.tables.area_table) (area_in s.tables.area_table.areas (register_of s.cpu 1))
  area_left (Some area.Enumerate) = shown_left ℕ _ (λ _. s.tables.area_table) (next_number s.tables.area_table.areas (register_of s.cpu 1))
  area_left (Some area.Renumber) =
      shown_left (List Area) _ (λ areas. with_areas s.tables.area_table areas) (areas_after_renumber s.tables.area_table.areas (register_of s.cpu 1) (register_of s.cpu 2))
  area_left None = tt

  left_went : (r : Result MachineState Refusal) → Left h s.store r → Went h s.store r
  left_went (Ok t) left = λ _ _. left
  left_went (Err f) left = tt

  pub area_went : (o : Option AreaReason) → Went h s.store (on_area_store s (area_called_for s.cpu e o))
  area_went o = left_went (on_area_store s (area_called_for s.cpu e o)) (area_left o)

  change_by : (o : Option Area) → KeepsHeap h s.store (change_left s.cpu e o (change_asked s.cpu e).bytes).1.store
  change_by None = same
  change_by (Some a) =
      let to : AreaStore = (area_resized s.cpu e (register_of s.cpu 0) (register_of s.cpu 1) (change_asked s.cpu e).bytes).1 in
      ((area_calls_keep e to h guest).change (register_of s.cpu 0) (register_of s.cpu 1) refl)

  pub change_keeps : KeepsHeap h s.store (with_guest s (area_changed s.cpu e)).store
  change_keeps = change_by (find_area (register_of s.cpu 0) s.tables.area_table.areas)

  -- flex calls, as turns of the stores
  fit_went : (turn : FlexOrSlide) (places : Store) (r : Result (FlexState × Bool) ErrorNumber) → stores_after_step turn (stores_in s has.pending) ≡ stores_after_flex (stores_in s has.pending) places r
      → TurnsOutside h turn → IsFreeOfAnchors h s.store → Went h s.store (on_flex s (fit_shown s.cpu (memory_left places r)))
  fit_went turn places (Ok q) is outside free = λ _ _.
      subst (λ (y : Stores). KeepsHeap h s.store (store_in y)) is
      (turns_keep (stores_in s has.pending) turn h has.stores free own outside)
  fit_went turn places (Err f) is outside free = tt

  silent_went : (turn : FlexOrSlide) (places : Store) (r : Result (FlexState × Unit {0}) ErrorNumber)
      → stores_after_step turn (stores_in s has.pending) ≡ stores_after_flex (stores_in s has.pending) places (bind r (λ q. Ok (q.0, true)))
      → TurnsOutside h turn → IsFreeOfAnchors h s.store → Went h s.store (on_flex s (bind (or_error (memory_left places r)) (λ q. Ok (s.cpu, q.0))))
  silent_went turn places (Ok q) is outside free = λ _ _.
      subst (λ (y : Stores). KeepsHeap h s.store (store_in y)) is
      (turns_keep (stores_in s has.pending) turn h has.stores free own outside)
  silent_went turn places (Err f) is outside free = tt

  pub flex_went : (name : Option SwiName) → is_flex_call name ≡ true → NamesNone s h name → HeapHasNoAnchor s.store h
      → Went h s.store (on_flex s (flex_called s.cpu (machine_flex s) name))
  unfolding flex_called stores_after_step
  flex_went (Some swi.FlexInit) flex outside none =
      silent_went (Init (register_of s.cpu 0) (register_of s.cpu 1)) (with_flex_record s.store (register_of s.cpu 0) (register_of s.cpu 1))
      (flex_after_init s.store (flex_state s.store s.tables.flex) (register_of s.cpu 0) (register_of s.cpu 1)) refl tt (free none)
  flex_went (Some swi.FlexAlloc) flex outside none =
      fit_went (Call (Alloc (register_of s.cpu 0) (register_of s.cpu 1))) s.store
      (flex_after_alloc s.store (flex_state s.store s.tables.flex) (register_of s.cpu 0) (register_of s.cpu 1)) refl outside (free none)
  flex_went (Some swi.FlexFree) flex outside none =
      silent_went (Call (Release (register_of s.cpu 0))) s.store (flex_after_release (flex_state s.store s.tables.flex) (register_of s.cpu 0)) refl tt (free none)
  flex_went (Some swi.FlexExtend) flex outside none =
      fit_went (Call (Extend (register_of s.cpu 0) (register_of s.cpu 1))) s.store
      (flex_after_extend (flex_state s.store s.tables.flex) (register_of s.cpu 0) (register_of s.cpu 1)) refl tt (free none)
  flex_went (Some swi.FlexMidExtend) flex outside none =
      fit_went (Call (MidExtend (register_of s.cpu 0) (register_of s.cpu 1) (register_of s.cpu 2))) s.store
      (mid_extended (flex_state s.store s.tables.flex) (register_of s.cpu 0) (register_of s.cpu 1) (register_of s.cpu 2)) refl tt (free none)
  flex_went other flex outside none = absurd (false≢true flex)
