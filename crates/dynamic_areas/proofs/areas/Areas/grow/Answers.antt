use Rattle.std.proofs.Common.{◌≡◌, ◌+◌, ◌-◌, ◌*◌, refl, sym, ap, arith}
use Rattle.os_heap.specs.Memory.{free_pages}
use Rattle.os_heap.specs.Store.{Store, store_of}
use Rattle.os_heap.proofs.Frame.{classes_same}
use Rattle.dynamic_areas.specs.Remapped.{with_pages_at}
use Rattle.dynamic_areas.specs.Rooms.{IsAreaRoom}
use Rattle.dynamic_areas.proofs.GroundLemmas.{ground_grown, unmapped_above, FitsWindow, fits_window, area_table_none}
use Rattle.dynamic_areas.proofs.Remapped.{store_grown}
use Rattle.dynamic_areas.proofs.RoomLemmas.{found_room, room_small}
use Rattle.dynamic_areas.proofs.areas.Areas.grow.Goals as goal

pub returns-in_default-clause-area_table : goal.returns-in_default-clause-area_table
returns-in_default-clause-area_table c =
    let e = rw (c.list.ensures.value, c.in_default.is) at c.find.ensures in
    area_table_none c.args.self.now c.args.number _ (sym e)

pub overflow_mul-pages : goal.overflow_mul-pages
overflow_mul-pages c =
    let e = rw c.list.ensures.value at c.in-Some.ensures in
    let a = c.in-Some.area.now in
    let room : IsAreaRoom a = found_room c.args.number c.args.self.now.areas a c.requires.state.ground.table.rooms (sym e) in
    omega (arith, room.within, room_small a room)

pub overflow_add-area : goal.overflow_add-area
overflow_add-area c =
    let e = rw c.list.ensures.value at c.in-Some.ensures in
    let a = c.in-Some.area.now in
    let room : IsAreaRoom a = found_room c.args.number c.args.self.now.areas a c.requires.state.ground.table.rooms (sym e) in
    let fits : FitsWindow a a.pages c.args.count = fits_window a a.pages c.args.count room (c.requires.room a (sym e)) in
    omega (arith, fits.below)

pub overflow_add-pages : goal.overflow_add-pages
overflow_add-pages c =
    let e = rw c.list.ensures.value at c.in-Some.ensures in
    let a = c.in-Some.area.now in
    let room : IsAreaRoom a = found_room c.args.number c.args.self.now.areas a c.requires.state.ground.table.rooms (sym e) in
    let fits : FitsWindow a a.pages c.args.count = fits_window a a.pages c.args.count room (c.requires.room a (sym e)) in
    omega (arith, fits.sum)

pub map_pages-requires-clause-aligned : goal.map_pages-requires-clause-aligned
map_pages-requires-clause-aligned c =
    let e = rw c.list.ensures.value at c.in-Some.ensures in
    let a = c.in-Some.area.now in
    let room : IsAreaRoom a = found_room c.args.number c.args.self.now.areas a c.requires.state.ground.table.rooms (sym e) in
    let fits : FitsWindow a a.pages c.args.count = fits_window a a.pages c.args.count room (c.requires.room a (sym e)) in
    fits.aligned

pub map_pages-requires-clause-below : goal.map_pages-requires-clause-below
map_pages-requires-clause-below c =
    let e = rw c.list.ensures.value at c.in-Some.ensures in
    let a = c.in-Some.area.now in
    let room : IsAreaRoom a = found_room c.args.number c.args.self.now.areas a c.requires.state.ground.table.rooms (sym e) in
    let fits : FitsWindow a a.pages c.args.count = fits_window a a.pages c.args.count room (c.requires.room a (sym e)) in
    omega (arith, fits.below)

pub map_pages-requires-clause-unmapped : goal.map_pages-requires-clause-unmapped
unfolding store_of
map_pages-requires-clause-unmapped c =
    let e = rw c.list.ensures.value at c.in-Some.ensures in
    let a = c.in-Some.area.now in
    unmapped_above (store_of c.args.map.now) (free_pages c.args.map.now) c.args.self.now c.args.number a c.args.count c.requires.state.ground (sym e)
    (c.requires.room a (sym e))

pub returns-clause-store : goal.returns-clause-store
unfolding store_of
returns-clause-store c =
    let e = rw c.list.ensures.value at c.in-Some.ensures in
    let a = c.in-Some.area.now in
    rw (← e) (store_grown c.args.map.now c.map_pages.new.self (a.base + 4096 * a.pages) (4096 * c.args.count) c.requires.state.ground.sound
    (unmapped_above (store_of c.args.map.now) (free_pages c.args.map.now) c.args.self.now c.args.number a c.args.count c.requires.state.ground (sym e)
    (c.requires.room a (sym e))) c.map_pages.ensures.mapping c.map_pages.ensures.bytes c.map_pages.ensures.regions c.map_pages.ensures.marks)

pub returns-clause-kept : goal.returns-clause-kept
returns-clause-kept c =
    let e = rw c.list.ensures.value at c.in-Some.ensures in
    let a = c.in-Some.area.now in
    let pool : free_pages c.map_pages.new.self ≡ free_pages c.args.map.now - c.args.count = omega (arith, c.map_pages.ensures.pages) in
    let after : store_of c.map_pages.new.self ≡ with_pages_at (store_of c.args.map.now) (a.base + 4096 * a.pages) (4096 * c.args.count) =
    (let store = returns-clause-store c in rw (← e) at store) in
    record {
      ground = rw (after, pool, c.set_pages.ensures)
          (ground_grown (store_of c.args.map.now) (free_pages c.args.map.now) c.args.self.now c.args.number a c.args.count c.requires.state.ground (sym e)
          (c.requires.room a (sym e)) c.requires.pool);
      classes = classes_same c.args.map.now c.map_pages.new.self (ap (λ (s : Store). s.heaps) after) (λ x i. c.map_pages.ensures.marks i x) c.requires.state.classes;
      regions = c.map_pages.ensures.regions;
      stays = c.map_pages.ensures.stays;
      sizes = rw c.set_pages.ensures refl;
    }
