-- The calls on dynamic areas (RISC OS 3 Programmer's Reference Manual, "OS_ChangeDynamicArea",
-- "OS_ReadDynamicArea", and its supplement, "OS_DynamicArea"; what each refuses, and in which
-- order, is this project's own).
use Rattle.std.specs.Prelude.{ℕ, ◌*◌, Option, Some, None, Result, Ok, List, codes}
use Rattle.profile.specs.Outcome.{bind}
use Rattle.profile.specs.Reasons.{area_reason}
use Rattle.profile.specs.ErrorNumber.TheVariants.{AreaBadReason, BadString}
use Rattle.profile.specs.declared.reason.AreaReason.{AreaReason}
use Rattle.profile.specs.declared.reason.AreaReason.TheVariants as reason
use Rattle.swi_dispatch_answers.specs.State.{State, register_of, with_register}
use Rattle.os_heap.specs.Store.{Store}
use Rattle.instances.specs.Area.{Area}
use Rattle.instances.specs.Changed.{Changed}
use Rattle.instances.specs.Created.{Created}
use Rattle.instances.specs.Extent.{Extent}
use Rattle.instances.specs.Wanted.{Wanted}
use Rattle.instances.specs.Areas.{AreaTable, area_in, extent_asked, find_area, next_number, areas_after_renumber, with_areas}
use Rattle.instances.specs.Changing.{change_answer, area_table_changed, area_table_after_remove, store_changed, store_emptied}
use Rattle.instances.specs.Creating.{area_wanted, area_table_after_create, pages_for}
use Rattle.instances.specs.Ground.{AreaStore, pool_of}
use Rattle.instances.specs.Remapped.{with_pages_at}
use Rattle.swi_dispatch_answers.specs.declared.refusal.Refusal.{Refusal}
use Rattle.swi_dispatch_answers.specs.Refusals.{or_error, system_error}
use Rattle.swi_dispatch_answers.specs.Strings.{string_at}

-- another store and other areas: all pages that no area has are in the pool
abbrev pub with_area_table : Store → AreaTable → AreaStore
with_area_table s l = record { store = s; pool = pool_of l; area_table = l }

-- OS_ReadDynamicArea: R0 has the area's number on entry, and its base then; R1 has its size, and R2
-- its maximum, where that was asked for.
abbrev pub with_maximum : State → Option ℕ → State
with_maximum cpu None = cpu
with_maximum cpu (Some maximum) = with_register cpu 2 maximum

abbrev pub with_extent : State → Extent → State
with_extent cpu x = with_maximum (with_register (with_register cpu 0 x.base) 1 x.size) x.maximum

unfoldable pub area_read : State → AreaStore → Result (State × AreaStore) Refusal
area_read cpu e = bind (or_error (extent_asked e.area_table.areas (register_of cpu 0)))
    (λ x. Ok (with_extent cpu x, e))

-- OS_DynamicArea, by its reason in R0. Reason 0, create: R1 to R7 are the words of a new area, and
-- R8 points to its name. Its number, base and maximum go to R1, R3 and R5.
abbrev pub wanted_of : State → Wanted
wanted_of cpu = record {
  number = register_of cpu 1;
  size = register_of cpu 2;
  base = register_of cpu 3;
  flags = register_of cpu 4;
  maximum = register_of cpu 5;
  handler = register_of cpu 6;
  workspace = register_of cpu 7;
}

abbrev pub with_created : State → Created → State
with_created cpu c = with_register (with_register (with_register cpu 1 c.number) 3 c.base) 5 c.maximum

abbrev pub area_made : State → AreaStore → Wanted → AreaTable × Created → State × AreaStore
area_made cpu e w r = (
  with_created cpu r.1,
  with_area_table (with_pages_at e.store r.1.base
      (4096 * pages_for w.size)) r.0,
)

-- where the name can't be read, all else is tested first, as with a good name
abbrev pub area_named : State → AreaStore → Wanted → Option (List ℕ) → Result (State × AreaStore) Refusal
area_named cpu e w (Some name) = bind (or_error (area_table_after_create e.area_table e.pool w name))
    (λ r. Ok (area_made cpu e w r))
area_named cpu e w None = bind (or_error (area_wanted e.area_table e.pool w (codes "?")))
    (λ a. system_error BadString)

abbrev pub area_created : State → AreaStore → Result (State × AreaStore) Refusal
area_created cpu e = area_named cpu e (wanted_of cpu) (string_at e.store.bytes (register_of cpu 8))

-- reason 1, remove: R1 has the number
abbrev pub area_removed : State → AreaStore → Result (State × AreaStore) Refusal
area_removed cpu e =
    let number : ℕ = register_of cpu 1 in
    bind (or_error (area_table_after_remove e.area_table e.store number)) (λ l.
    Ok (cpu, with_area_table (store_emptied e.store (find_area number e.area_table.areas)) l))

-- reason 2, read: R1 has the number; size, base, flags, maximum, 0 for the handler, and workspace
-- go to R2 to R7
abbrev pub with_area_shown : State → Area → State
with_area_shown cpu a =
    let extent : State = with_register (with_register cpu 2 (4096 * a.pages)) 3 a.base in
    with_register (with_register
    (with_register (with_register extent 4 a.flags) 5 a.maximum) 6 0) 7 a.workspace

abbrev pub area_shown : State → AreaStore → Result (State × AreaStore) Refusal
area_shown cpu e = bind (or_error (area_in e.area_table.areas (register_of cpu 1)))
    (λ a. Ok (with_area_shown cpu a, e))

-- reason 3, enumerate: R1 has a number or -1, and the next greater number or -1 then
abbrev pub area_enumerated : State → AreaStore → Result (State × AreaStore) Refusal
area_enumerated cpu e =
    bind (or_error (next_number e.area_table.areas (register_of cpu 1))) (λ n. Ok (with_register cpu 1 n, e))

-- reason 4, renumber: R1 has the old number, R2 the new one
abbrev pub area_renumbered : State → AreaStore → Result (State × AreaStore) Refusal
area_renumbered cpu e =
    bind (or_error (areas_after_renumber e.area_table.areas (register_of cpu 1) (register_of cpu 2)))
    (λ areas.
    Ok (cpu, record e { area_table = with_areas e.area_table areas }))

abbrev pub area_called_for : State → AreaStore → Option AreaReason → Result (State × AreaStore) Refusal
area_called_for cpu e (Some reason.Create) = area_created cpu e
area_called_for cpu e (Some reason.Remove) = area_removed cpu e
area_called_for cpu e (Some reason.Info) = area_shown cpu e
area_called_for cpu e (Some reason.Enumerate) = area_enumerated cpu e
area_called_for cpu e (Some reason.Renumber) = area_renumbered cpu e
area_called_for cpu e None = system_error AreaBadReason

unfoldable pub area_called : State → AreaStore → Result (State × AreaStore) Refusal
area_called cpu e = area_called_for cpu e (area_reason (register_of cpu 0))

-- OS_ChangeDynamicArea: R0 has the number, R1 the change. Pages move even where not all can; R1
-- says how many bytes did, where there is the area.
abbrev pub change_asked : State → AreaStore → Changed
change_asked cpu e = change_answer e.area_table.areas e.store e.pool (register_of cpu 0) (register_of cpu 1)

abbrev pub area_resized : State → AreaStore → ℕ → ℕ → ℕ → State × AreaStore
area_resized cpu e number amount bytes = (
  with_register cpu 1 bytes,
  with_area_table (store_changed e.store e.area_table.areas number amount bytes)
      (area_table_changed e.area_table number amount bytes),
)

abbrev pub change_left : State → AreaStore → Option Area → ℕ → State × AreaStore
change_left cpu e None bytes = (cpu, e)
change_left cpu e (Some a) bytes = area_resized cpu e (register_of cpu 0) (register_of cpu 1) bytes

abbrev pub area_changed : State → AreaStore → State × AreaStore
area_changed cpu e = change_left cpu e (find_area (register_of cpu 0) e.area_table.areas)
    (change_asked cpu e).bytes
