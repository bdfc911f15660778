use Rattle.std.proofs.Common.{◌≡◌, ◌+◌, ◌-◌, ◌*◌, ◌≤◌, refl, sym, ap, arith}
use Rattle.os_heap.specs.Memory.{bytes_of, regions, free_pages}
use Rattle.os_heap.specs.Store.{Store, store_of}
use Rattle.dynamic_areas.specs.Changing.{AreLoose}
use Rattle.dynamic_areas.specs.Remapped.{without_pages_at}
use Rattle.dynamic_areas.specs.Rooms.{IsAreaRoom}
use Rattle.dynamic_areas.proofs.ClassLemmas.{no_anchor, classes_unmapped}
use Rattle.dynamic_areas.proofs.GroundLemmas.{ground_shrunk, mapped_held, FitsWindow, fits_window, area_table_none}
use Rattle.dynamic_areas.proofs.RecordLemmas.{unmet_records}
use Rattle.dynamic_areas.proofs.Remapped.{store_shrunk}
use Rattle.dynamic_areas.proofs.RoomLemmas.{found_room, room_small}
use Rattle.dynamic_areas.proofs.areas.Areas.shrink.Goals as goal

pub returns-in_default-clause-area_table : goal.returns-in_default-clause-area_table
returns-in_default-clause-area_table c =
    let e = rw (c.list.ensures.value, c.in_default.is) at c.find.ensures in
    area_table_none c.args.self.now c.args.number _ (sym e)

pub overflow_sub-pages : goal.overflow_sub-pages
overflow_sub-pages c =
    let e = rw c.list.ensures.value at c.in-Some.ensures in
    (c.requires.loose c.in-Some.area.now (sym e)).fits

pub overflow_mul-pages : goal.overflow_mul-pages
overflow_mul-pages c =
    let e = rw c.list.ensures.value at c.in-Some.ensures in
    let a = c.in-Some.area.now in
    let room : IsAreaRoom a = found_room c.args.number c.args.self.now.areas a c.requires.state.ground.table.rooms (sym e) in
    omega (arith, room.within, room_small a room)

pub overflow_add-area : goal.overflow_add-area
overflow_add-area c =
    let e = rw c.list.ensures.value at c.in-Some.ensures in
    let a = c.in-Some.area.now in
    let room : IsAreaRoom a = found_room c.args.number c.args.self.now.areas a c.requires.state.ground.table.rooms (sym e) in
    let fits : FitsWindow a a.pages 0 = fits_window a a.pages 0 room (omega (arith, room.within)) in
    omega (arith, fits.below)

pub unmap_pages-requires-clause-aligned : goal.unmap_pages-requires-clause-aligned
unmap_pages-requires-clause-aligned c =
    let e = rw c.list.ensures.value at c.in-Some.ensures in
    let a = c.in-Some.area.now in
    let room : IsAreaRoom a = found_room c.args.number c.args.self.now.areas a c.requires.state.ground.table.rooms (sym e) in
    let fits : FitsWindow a (a.pages - c.args.count) 0 = fits_window a (a.pages - c.args.count) 0 room (omega (arith, room.within)) in
    fits.aligned

pub unmap_pages-requires-clause-mapped : goal.unmap_pages-requires-clause-mapped
unfolding store_of
unmap_pages-requires-clause-mapped c =
    let e = rw c.list.ensures.value at c.in-Some.ensures in
    let a = c.in-Some.area.now in
    let fits : c.args.count ≤ a.pages = (c.requires.loose a (sym e)).fits in
    λ x low high. mapped_held (store_of c.args.map.now) (free_pages c.args.map.now) c.args.self.now c.args.number a c.requires.state.ground (sym e) x
    (omega arith) (omega arith)

pub unmap_pages-requires-clause-unrecorded : goal.unmap_pages-requires-clause-unrecorded
unfolding store_of
unmap_pages-requires-clause-unrecorded c =
    let e = rw c.list.ensures.value at c.in-Some.ensures in
    let loose : AreLoose (store_of c.args.map.now) c.in-Some.area.now c.args.count = c.requires.loose c.in-Some.area.now (sym e) in
    unmet_records (bytes_of c.args.map.now) _ _ (regions c.args.map.now) loose.heaps loose.ranges

pub unmap_pages-requires-clause-unanchored : goal.unmap_pages-requires-clause-unanchored
unmap_pages-requires-clause-unanchored c =
    let e = rw c.list.ensures.value at c.in-Some.ensures in
    no_anchor c.args.map.now _ _ (c.requires.loose c.in-Some.area.now (sym e)).anchors

pub returns-clause-store : goal.returns-clause-store
returns-clause-store c =
    let e = rw c.list.ensures.value at c.in-Some.ensures in
    let a = c.in-Some.area.now in
    let loose : AreLoose (store_of c.args.map.now) a c.args.count = c.requires.loose a (sym e) in
    rw (← e) (store_shrunk c.args.map.now c.unmap_pages.new.self (a.base + 4096 * (a.pages - c.args.count)) (4096 * c.args.count)
    c.requires.state.ground.sound loose.heaps loose.ranges loose.anchors c.unmap_pages.ensures.mapping c.unmap_pages.ensures.bytes c.unmap_pages.ensures.regions c.unmap_pages.ensures.marks)

pub returns-clause-kept : goal.returns-clause-kept
returns-clause-kept c =
    let e = rw c.list.ensures.value at c.in-Some.ensures in
    let a = c.in-Some.area.now in
    let loose : AreLoose (store_of c.args.map.now) a c.args.count = c.requires.loose a (sym e) in
    let after : store_of c.unmap_pages.new.self
    ≡ without_pages_at (store_of c.args.map.now) (a.base + 4096 * (a.pages - c.args.count)) (4096 * c.args.count) =
    (let store = returns-clause-store c in rw (← e) at store) in
    record {
      ground = rw (after, c.unmap_pages.ensures.pages, c.set_pages.ensures)
          (ground_shrunk (store_of c.args.map.now) (free_pages c.args.map.now) c.args.self.now c.args.number a c.args.count c.requires.state.ground (sym e)
          loose.fits loose.heaps loose.ranges loose.anchors);
      classes = classes_unmapped c.args.map.now c.unmap_pages.new.self (a.base + 4096 * (a.pages - c.args.count)) (4096 * c.args.count)
          c.requires.state.ground.sound loose.heaps (ap (λ (s : Store). s.heaps) after) c.unmap_pages.ensures.marks c.requires.state.classes;
      regions = c.unmap_pages.ensures.regions;
      stays = c.unmap_pages.ensures.stays;
      sizes = rw c.set_pages.ensures refl;
    }
