use Rattle.std.proofs.Common.{◌≡◌, ℕ, ◌+◌, ◌*◌, ◌≤◌, Some, refl, sym, ap, subst, ◌∙◌, List, zero-add, arith, rules}
use Rattle.os_heap.specs.Memory.{free_pages}
use Rattle.os_heap.specs.Store.{Store, store_of}
use Rattle.dynamic_areas.specs.declared.area.Area.{Area}
use Rattle.dynamic_areas.specs.Areas.{find_area, area_with_pages, with_area, with_areas}
use Rattle.dynamic_areas.specs.Creating.{area_table_after_create}
use Rattle.dynamic_areas.proofs.PutLemmas.{find_with, ground_put, paged_with}
use Rattle.dynamic_areas.proofs.RoomLemmas.{find_with_other}
use Rattle.dynamic_areas.proofs.WantedLemmas.{IsWanted, wanted_area}
use Rattle.dynamic_areas.proofs.areas.Areas.create.Goals as goal

pub put_area-requires : goal.put_area-requires
put_area-requires c =
    let e = rw c.free_pages.ensures at c.in_ok-area.ensures in
    (wanted_area c.args.self.now (free_pages c.args.map.now) c.args.wanted.now c.args.name.now c.in_ok-area.area c.requires.state.area_store.ground.table.rooms (sym e)).few

pub grow-requires-clause-state : goal.grow-requires-clause-state
grow-requires-clause-state c =
    let e = rw c.free_pages.ensures at c.in_ok-area.ensures in
    let w : IsWanted c.args.self.now (free_pages c.args.map.now) c.args.wanted.now c.in_ok-area.area =
    wanted_area c.args.self.now (free_pages c.args.map.now) c.args.wanted.now c.args.name.now c.in_ok-area.area c.requires.state.area_store.ground.table.rooms (sym e) in
    record {
      ground = rw c.put_area.ensures (ground_put (store_of c.args.map.now) (free_pages c.args.map.now) c.args.self.now (area_with_pages 0 c.in_ok-area.area)
          c.requires.state.area_store.ground w.room refl w.other w.new w.clear);
      classes = c.requires.state.classes;
    }

pub grow-requires-clause-room : goal.grow-requires-clause-room
grow-requires-clause-room c b found =
    let e = rw c.free_pages.ensures at c.in_ok-area.ensures in
    let w : IsWanted c.args.self.now (free_pages c.args.map.now) c.args.wanted.now c.in_ok-area.area =
    wanted_area c.args.self.now (free_pages c.args.map.now) c.args.wanted.now c.args.name.now c.in_ok-area.area c.requires.state.area_store.ground.table.rooms (sym e) in
    let found' = rw c.put_area.ensures at found in
    let both : Some (area_with_pages 0 c.in_ok-area.area) ≡ Some b = sym (find_with (area_with_pages 0 c.in_ok-area.area) c.args.self.now.areas w.new) ∙ found' in
    let same : area_with_pages 0 c.in_ok-area.area ≡ b = cc in
    subst (λ (y : Area). 4096 * (y.pages + c.in_ok-area.area.pages) ≤ y.maximum) same (omega (arith, w.fits))

pub grow-requires-clause-pool : goal.grow-requires-clause-pool
grow-requires-clause-pool c =
    let e = rw c.free_pages.ensures at c.in_ok-area.ensures in
    (wanted_area c.args.self.now (free_pages c.args.map.now) c.args.wanted.now c.args.name.now c.in_ok-area.area c.requires.state.area_store.ground.table.rooms (sym e)).pool

pub returns-clause-store : goal.returns-clause-store
returns-clause-store c =
    let e = rw c.free_pages.ensures at c.in_ok-area.ensures in
    let a = c.in_ok-area.area in
    let w : IsWanted c.args.self.now (free_pages c.args.map.now) c.args.wanted.now a =
    wanted_area c.args.self.now (free_pages c.args.map.now) c.args.wanted.now c.args.name.now a c.requires.state.area_store.ground.table.rooms (sym e) in
    let find : find_area a.number (with_area (area_with_pages 0 a) c.args.self.now.areas) ≡ Some (area_with_pages 0 a) = find_with (area_with_pages 0 a) c.args.self.now.areas w.new in
    let base : a.base + 4096 * 0 ≡ a.base = omega arith in
    let store = rw (c.put_area.ensures, find, base, w.pages) at c.grow.ensures.store in
    store

pub returns-clause-area_table : goal.returns-clause-area_table
unfolding area_table_after_create
returns-clause-area_table c =
    let e = rw c.free_pages.ensures at c.in_ok-area.ensures in
    let a = c.in_ok-area.area in
    let w : IsWanted c.args.self.now (free_pages c.args.map.now) c.args.wanted.now a =
    wanted_area c.args.self.now (free_pages c.args.map.now) c.args.wanted.now c.args.name.now a c.requires.state.area_store.ground.table.rooms (sym e) in
    let find : find_area a.number (with_area (area_with_pages 0 a) c.args.self.now.areas) ≡ Some (area_with_pages 0 a) = find_with (area_with_pages 0 a) c.args.self.now.areas w.new in
    let area_table = rw (c.put_area.ensures, find) at c.grow.ensures.area_table in
    rw (← e) (
      area_table ∙ ap (λ (xs : List Area). with_areas c.args.self.now xs) (paged_with (area_with_pages 0 a) (0 + a.pages) c.args.self.now.areas w.new
          ∙ ap (λ (n : ℕ). with_area (area_with_pages n a) c.args.self.now.areas) (zero-add a.pages)),
      refl,
    )

pub returns-clause-kept : goal.returns-clause-kept
returns-clause-kept c =
    let e = rw c.free_pages.ensures at c.in_ok-area.ensures in
    let a = c.in_ok-area.area in
    let w : IsWanted c.args.self.now (free_pages c.args.map.now) c.args.wanted.now a =
    wanted_area c.args.self.now (free_pages c.args.map.now) c.args.wanted.now c.args.name.now a c.requires.state.area_store.ground.table.rooms (sym e) in
    let find : find_area a.number (with_area (area_with_pages 0 a) c.args.self.now.areas) ≡ Some (area_with_pages 0 a) = find_with (area_with_pages 0 a) c.args.self.now.areas w.new in
    let area_table = rw (c.put_area.ensures, find) at c.grow.ensures.area_table in
    let after : c.grow.new.self ≡ with_areas c.args.self.now (with_area a c.args.self.now.areas) =
    area_table ∙ ap (λ (xs : List Area). with_areas c.args.self.now xs) (paged_with (area_with_pages 0 a) (0 + a.pages) c.args.self.now.areas w.new
    ∙ ap (λ (n : ℕ). with_area (area_with_pages n a) c.args.self.now.areas) (zero-add a.pages)) in
    let heaps : (store_of c.grow.new.map).heaps ≡ (store_of c.args.map.now).heaps = ap (λ (s : Store). s.heaps) (returns-clause-store c) in
    record {
      area_store = record {
        ground = c.grow.ensures.kept.ground;
        heap = rw (heaps, after, find_with_other a 1 c.args.self.now.areas w.other) c.requires.state.area_store.heap;
      };
      classes = c.grow.ensures.kept.classes;
      regions = c.grow.ensures.kept.regions;
      stays = c.grow.ensures.kept.stays;
      sizes = rw after refl;
    }

pub returns-in_err-area-clause-area_table : goal.returns-in_err-area-clause-area_table
unfolding area_table_after_create
returns-in_err-area-clause-area_table c = search rules
