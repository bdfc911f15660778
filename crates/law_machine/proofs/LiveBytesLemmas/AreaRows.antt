-- The calls on areas as the machine makes them, done or refused: a property of stores that holds
-- after each holds of what is left.
use Rattle.std.proofs.Common.{ℕ, ◌≡◌, ◌*◌, codes, List, Option, Some, None, Result, Ok, Err, refl}
use Rattle.profile.specs.Outcome.{bind}
use Rattle.profile.specs.Reasons.{area_reason}
use Rattle.profile.specs.ErrorNumber.{ErrorNumber}
use Rattle.profile.specs.ErrorNumber.TheVariants.{BadString}
use Rattle.profile.specs.declared.reason.AreaReason.{AreaReason}
use Rattle.profile.specs.declared.reason.AreaReason.TheVariants as area
use Rattle.arm_core.specs.State.{State, register_of}
use Rattle.os_heap.specs.Store.{Store}
use Rattle.dynamic_areas.specs.Areas.{AreaTable, area_in, find_area, next_number, areas_after_renumber, with_areas}
use Rattle.dynamic_areas.specs.Changing.{area_table_after_remove, store_emptied}
use Rattle.dynamic_areas.specs.Creating.{area_wanted, area_table_after_create, pages_for}
use Rattle.dynamic_areas.specs.Ground.{AreaStore}
use Rattle.dynamic_areas.specs.Remapped.{with_pages_at}
use Rattle.dynamic_areas.specs.declared.area.Area.{Area}
use Rattle.dynamic_areas.specs.declared.area.Created.{Created}
use Rattle.dynamic_areas.specs.declared.area.Wanted.{Wanted}
use Rattle.swi_dispatch_guest.specs.Refusals.{or_error, system_error}
use Rattle.swi_dispatch_guest.specs.Strings.{string_at}
use Rattle.swi_dispatch_guest.specs.Refusal.{Refusal}
use Rattle.swi_dispatch_guest.specs.Areas.{area_called, area_called_for, area_changed, area_made, area_named, area_resized, change_asked, change_left, wanted_of, with_area_table}
use Rattle.swi_dispatch_guest.specs.Calls.{on_area_store, with_guest}
use Rattle.swi_dispatch_guest.specs.MachineState.{MachineState, machine_area_store}
use Rattle.law_machine.specs.live_bytes.AreaLaws.{AreaCallHas}

-- what is left where there is no error
abbrev pub HasWent : (Store → Type 0) → Result MachineState Refusal → Type 0
HasWent P (Ok t) = P t.store
HasWent P (Err e) = Unit {0}

module _ (s : MachineState) (P : Store → Type 0) (same : P s.store) (calls : (e : AreaStore) → AreaCallHas (machine_area_store s) P e) where
  abbrev e : AreaStore
  e = machine_area_store s

  created_has : (w : Wanted) (name : List ℕ) (r : Result (AreaTable × Created) ErrorNumber) → area_table_after_create s.tables.area_table s.pool w name ≡ r
      → HasWent P (on_area_store s (bind (or_error r) (λ q. Ok (area_made s.cpu e w q))))
  created_has w name (Ok q) is = (calls (with_area_table (with_pages_at s.store q.1.base (4096 * pages_for w.size)) q.0)).create w name q.1 is refl
  created_has w name (Err f) is = tt

  unnamed_has : (r : Result Area ErrorNumber) → HasWent P (on_area_store s (bind (or_error r) (λ a. system_error BadString)))
  unnamed_has (Ok a) = tt
  unnamed_has (Err f) = tt

  named_has : (w : Wanted) (o : Option (List ℕ)) → HasWent P (on_area_store s (area_named s.cpu e w o))
  named_has w None = unnamed_has (area_wanted s.tables.area_table s.pool w (codes "?"))
  named_has w (Some name) = created_has w name (area_table_after_create s.tables.area_table s.pool w name) refl

  removed_has : (number : ℕ) (r : Result AreaTable ErrorNumber) → area_table_after_remove s.tables.area_table s.store number ≡ r
      → HasWent P (on_area_store s (bind (or_error r) (λ l. Ok (s.cpu, with_area_table (store_emptied s.store (find_area number s.tables.area_table.areas)) l))))
  removed_has number (Ok l) is = (calls (with_area_table (store_emptied s.store (find_area number s.tables.area_table.areas)) l)).remove number is refl
  removed_has number (Err f) is = tt

  shown_has : (A : Type 0) (k : A → State) (l : A → AreaTable) (r : Result A ErrorNumber)
      → HasWent P (on_area_store s (bind (or_error r) (λ x. Ok (k x, record e { area_table = l x }))))
  shown_has A k l (Ok x) = same
  shown_has A k l (Err f) = tt

  area_for : (o : Option AreaReason) → HasWent P (on_area_store s (area_called_for s.cpu e o))
  area_for (Some area.Create) = named_has (wanted_of s.cpu) (string_at s.store.bytes (register_of s.cpu 8))
  area_for (Some area.Remove) = removed_has (register_of s.cpu 1) (area_table_after_remove s.tables.area_table s.store (register_of s.cpu 1)) refl
  area_for (Some area.Info) = shown_has Area _ (λ _. s.tables.area_table) (area_in s.tables.area_table.areas (register_of s.cpu 1))
  area_for (Some area.Enumerate) = shown_has ℕ _ (λ _. s.tables.area_table) (next_number s.tables.area_table.areas (register_of s.cpu 1))
  area_for (Some area.Renumber) =
      shown_has (List Area) _ (λ areas. with_areas s.tables.area_table areas) (areas_after_renumber s.tables.area_table.areas (register_of s.cpu 1) (register_of s.cpu 2))
  area_for None = tt

  pub area_has : HasWent P (on_area_store s (area_called s.cpu (machine_area_store s)))
  unfolding area_called
  area_has = area_for (area_reason (register_of s.cpu 0))

  change_for : (o : Option Area) → P (change_left s.cpu e o (change_asked s.cpu e).bytes).1.store
  change_for None = same
  change_for (Some a) =
      (calls (area_resized s.cpu e (register_of s.cpu 0) (register_of s.cpu 1) (change_asked s.cpu e).bytes).1).change (register_of s.cpu 0) (register_of s.cpu 1) refl

  pub change_has : P (with_guest s (area_changed s.cpu (machine_area_store s))).store
  change_has = change_for (find_area (register_of s.cpu 0) s.tables.area_table.areas)
