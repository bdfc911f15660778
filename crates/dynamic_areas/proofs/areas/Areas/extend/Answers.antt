use Rattle.profile.specs.MemoryMap.{module_area_start}
use Rattle.std.proofs.Common.{◌≡◌, ℕ, ◌+◌, ◌*◌, ◌∙◌, Some, refl, sym, ap, subst, arith}
use Rattle.os_heap.specs.Memory.{Mapping, free_pages}
use Rattle.os_heap.specs.Calls.{ending}
use Rattle.os_heap.proofs.Order.{order_kept}
use Rattle.os_heap.specs.Store.{Store, store_of, find_heap, IsSound}
use Rattle.dynamic_areas.specs.Areas.{find_area, area_with_pages, with_pages}
use Rattle.dynamic_areas.specs.Rooms.{IsAreaRoom}
use Rattle.dynamic_areas.proofs.GroundLemmas.{FitsWindow, fits_window, find_paged, area_table_none}
use Rattle.dynamic_areas.proofs.KeptLemmas.{stays_before}
use Rattle.dynamic_areas.proofs.ModuleArea.{IsModuleArea, module_area_known, may_grow_heap, find_ended, ground_ended}
use Rattle.dynamic_areas.proofs.PutLemmas.{find_paged_other}
use Rattle.dynamic_areas.proofs.RoomLemmas.{found_room, room_small}
use Rattle.dynamic_areas.proofs.areas.Areas.extend.Goals as goal

pub returns-in_default-clause-area_table : goal.returns-in_default-clause-area_table
returns-in_default-clause-area_table c =
    let e = rw (c.list.ensures.value, c.in_default.is) at c.find.ensures in
    area_table_none c.args.self.now c.args.number _ (sym e)

pub overflow_add-pages : goal.overflow_add-pages
overflow_add-pages c =
    let e = rw c.list.ensures.value at c.in-Some.ensures in
    let a = c.in-Some.area.now in
    let room : IsAreaRoom a = found_room c.args.number c.args.self.now.areas a c.requires.state.area_store.ground.table.rooms (sym e) in
    let fits : FitsWindow a a.pages c.args.count = fits_window a a.pages c.args.count room (c.requires.room a (sym e)) in
    omega (arith, fits.sum)

pub overflow_mul-pages : goal.overflow_mul-pages
overflow_mul-pages c =
    let e = rw c.list.ensures.value at c.in-Some.ensures in
    let a = c.in-Some.area.now in
    let room : IsAreaRoom a = found_room c.args.number c.args.self.now.areas a c.requires.state.area_store.ground.table.rooms (sym e) in
    omega (arith, c.requires.room a (sym e), room_small a room)

pub grow-requires-clause-state : goal.grow-requires-clause-state
grow-requires-clause-state c = record { ground = c.requires.state.area_store.ground; classes = c.requires.state.classes }

pub set_module_area_end-requires-clause-state : goal.set_module_area_end-requires-clause-state
set_module_area_end-requires-clause-state c = record { sound = c.grow.ensures.kept.ground.sound; classes = c.grow.ensures.kept.classes }

pub set_module_area_end-requires-clause-may : goal.set_module_area_end-requires-clause-may
set_module_area_end-requires-clause-may c =
    let e = rw c.list.ensures.value at c.in-Some.ensures in
    let a = c.in-Some.area.now in
    let first : find_area 1 c.args.self.now.areas ≡ Some a =
    subst (λ (n : ℕ). find_area n c.args.self.now.areas ≡ Some a) c.if-number-eq-MODULE_AREA.true (sym e) in
    let store = rw (← e) at c.grow.ensures.store in
    rw store (may_grow_heap (store_of c.args.map.now) (free_pages c.args.map.now) c.args.self.now a c.args.count c.requires.state.area_store first
    (c.requires.room a (sym e)) (c.requires.pool a (sym e)))

pub returns-then-number-eq-MODULE_AREA-clause-kept : goal.returns-then-number-eq-MODULE_AREA-clause-kept
returns-then-number-eq-MODULE_AREA-clause-kept c =
    let e = rw c.list.ensures.value at c.in-Some.ensures in
    let a = c.in-Some.area.now in
    let first : find_area 1 c.args.self.now.areas ≡ Some a =
    subst (λ (n : ℕ). find_area n c.args.self.now.areas ≡ Some a) c.if-number-eq-MODULE_AREA.true (sym e) in
    let m : IsModuleArea (store_of c.args.map.now) a =
    module_area_known (store_of c.args.map.now) (free_pages c.args.map.now) c.args.self.now a c.requires.state.area_store first in
    let end : ℕ = 4096 * (a.pages + c.args.count) in
    let store = rw (← e) at c.grow.ensures.store in
    let found : find_heap module_area_start (store_of c.grow.new.map).heaps ≡ Some m.heap = rw store m.found in
    let is : store_of c.set_module_area_end.new.map ≡ ending (store_of c.grow.new.map) m.heap (4096 * (a.pages + c.args.count)) =
    (let ends = rw found at c.set_module_area_end.ensures.store in ends) in
    let sound : IsSound (ending (store_of c.grow.new.map) m.heap (4096 * (a.pages + c.args.count))) =
    (let s = rw is at c.set_module_area_end.ensures.kept.sound in s) in
    let free : free_pages c.set_module_area_end.new.map ≡ free_pages c.grow.new.map =
    ap (λ (x : Mapping). x.free_pages) c.set_module_area_end.ensures.kept.mapping in
    let area_table = rw (← e) at c.grow.ensures.area_table in
    let there : find_area 1 (with_pages c.args.number (a.pages + c.args.count) c.args.self.now.areas) ≡ Some (area_with_pages (a.pages + c.args.count) a) =
    subst (λ (n : ℕ). find_area n (with_pages c.args.number (a.pages + c.args.count) c.args.self.now.areas) ≡ Some (area_with_pages (a.pages + c.args.count) a))
    c.if-number-eq-MODULE_AREA.true (find_paged c.args.number (a.pages + c.args.count) c.args.self.now.areas a (sym e)) in
    let ended = find_ended (store_of c.grow.new.map).heaps m.heap module_area_start (4096 * (a.pages + c.args.count)) found in
    record {
      area_store = record {
        ground = rw (is, free) (ground_ended (store_of c.grow.new.map) (free_pages c.grow.new.map) c.grow.new.self m.heap (4096 * (a.pages + c.args.count))
            c.grow.ensures.kept.ground sound);
        heap = rw (is, ended, area_table, there) (m.kind, refl);
      };
      classes = c.set_module_area_end.ensures.kept.classes;
      order = c.set_module_area_end.ensures.kept.order ∙ order_kept c.args.map.now c.grow.new.map c.grow.ensures.kept.regions;
      stays = stays_before c.args.map.now c.grow.new.map c.set_module_area_end.new.map c.grow.ensures.kept.stays c.set_module_area_end.ensures.kept.mapping;
      sizes = c.grow.ensures.kept.sizes;
    }

pub returns-else-number-eq-MODULE_AREA-clause-kept : goal.returns-else-number-eq-MODULE_AREA-clause-kept
returns-else-number-eq-MODULE_AREA-clause-kept c =
    let e = rw c.list.ensures.value at c.in-Some.ensures in
    let a = c.in-Some.area.now in
    let heaps : (store_of c.grow.new.map).heaps ≡ (store_of c.args.map.now).heaps =
    (let store = rw (← e) at c.grow.ensures.store in ap (λ (s : Store). s.heaps) store) in
    let area_table = rw (← e) at c.grow.ensures.area_table in
    record {
      area_store = record {
        ground = c.grow.ensures.kept.ground;
        heap = rw (heaps, area_table, find_paged_other c.args.number (a.pages + c.args.count) 1 c.args.self.now.areas c.if-number-eq-MODULE_AREA.false)
            c.requires.state.area_store.heap;
      };
      classes = c.grow.ensures.kept.classes;
      order = order_kept c.args.map.now c.grow.new.map c.grow.ensures.kept.regions;
      stays = c.grow.ensures.kept.stays;
      sizes = c.grow.ensures.kept.sizes;
    }
