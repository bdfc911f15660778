use Rattle.profile.specs.MemoryMap.{module_area_start}
use Rattle.std.proofs.Common.{◌≡◌, ℕ, ◌-◌, ◌*◌, ◌≤◌, Some, refl, sym, ap, subst, ◌∙◌, arith}
use Rattle.os_heap.specs.Memory.{free_pages, mapping}
use Rattle.os_heap.specs.Calls.{ending}
use Rattle.os_heap.specs.Order.{KeepsOrder}
use Rattle.os_heap.proofs.Order.{order_kept}
use Rattle.os_heap.specs.Store.{Store, store_of}
use Rattle.dynamic_areas.specs.declared.area.Area.{Area}
use Rattle.dynamic_areas.specs.Areas.{find_area, area_with_pages, with_pages}
use Rattle.dynamic_areas.specs.Changing.{AreLoose, loose_pages}
use Rattle.dynamic_areas.specs.Rooms.{IsAreaRoom}
use Rattle.dynamic_areas.proofs.GroundLemmas.{find_paged, area_table_none}
use Rattle.dynamic_areas.proofs.KeptLemmas.{stays_after}
use Rattle.dynamic_areas.proofs.LooseLemmas.{loose_created}
use Rattle.dynamic_areas.proofs.Loosened.{loose_ended}
use Rattle.dynamic_areas.proofs.ModuleArea.{IsModuleArea, module_area_known, may_shrink_heap, find_ended}
use Rattle.dynamic_areas.proofs.PutLemmas.{find_paged_other}
use Rattle.dynamic_areas.proofs.RoomLemmas.{found_number, found_room, room_small}
use Rattle.dynamic_areas.proofs.areas.Areas.reduce.Goals as goal
use Rattle.dynamic_areas.proofs.areas.Areas.reduce.Goals.{then-number-eq-MODULE_AREA, else-number-eq-MODULE_AREA}

pub returns-in_default-clause-area_table : goal.returns-in_default-clause-area_table
returns-in_default-clause-area_table c =
    let e = rw (c.list.ensures.value, c.in_default.is) at c.find.ensures in
    area_table_none c.args.self.now c.args.number _ (sym e)

pub overflow_sub-area : goal.overflow_sub-area
overflow_sub-area c =
    let e = rw c.list.ensures.value at c.in-Some.ensures in
    omega (arith, c.requires.loose c.in-Some.area.now (sym e))

pub overflow_mul-area : goal.overflow_mul-area
overflow_mul-area c =
    let e = rw c.list.ensures.value at c.in-Some.ensures in
    let a = c.in-Some.area.now in
    let room : IsAreaRoom a = found_room c.args.number c.args.self.now.areas a c.requires.state.area_store.ground.table.rooms (sym e) in
    omega (arith, room.within, room_small a room)

pub set_module_area_end-requires-clause-state : goal.set_module_area_end-requires-clause-state
set_module_area_end-requires-clause-state c = record { sound = c.requires.state.area_store.ground.sound; classes = c.requires.state.classes }

pub set_module_area_end-requires-clause-may : goal.set_module_area_end-requires-clause-may
set_module_area_end-requires-clause-may c =
    let e = rw c.list.ensures.value at c.in-Some.ensures in
    let a = c.in-Some.area.now in
    let first : find_area 1 c.args.self.now.areas ≡ Some a =
    subst (λ (n : ℕ). find_area n c.args.self.now.areas ≡ Some a) c.if-number-eq-MODULE_AREA.true (sym e) in
    may_shrink_heap (store_of c.args.map.now) (free_pages c.args.map.now) c.args.self.now a c.args.count c.requires.state.area_store first (c.requires.loose a (sym e))

pub shrink-requires-clause-loose : goal.shrink-requires-clause-loose
unfolding store_of
shrink-requires-clause-loose c b found =
    let e = rw c.list.ensures.value at c.in-Some.ensures in
    let a = c.in-Some.area.now in
    let both : Some c.in-Some.area.now ≡ Some b = e ∙ found in
    let same : c.in-Some.area.now ≡ b = cc in
    let loose : c.args.count ≤ loose_pages (store_of c.args.map.now) a = c.requires.loose a (sym e) in
    subst (λ (y : Area). AreLoose (store_of c.if-number-eq-MODULE_AREA.map) y c.args.count) same (
    elim c.if-number-eq-MODULE_AREA.branch [
      | then-number-eq-MODULE_AREA w ↦
          let first : find_area 1 c.args.self.now.areas ≡ Some a =
          subst (λ (n : ℕ). find_area n c.args.self.now.areas ≡ Some a) w.if-number-eq-MODULE_AREA.true (sym e) in
          let m : IsModuleArea (store_of c.args.map.now) a =
          module_area_known (store_of c.args.map.now) (free_pages c.args.map.now) c.args.self.now a c.requires.state.area_store first in
          let is : store_of w.set_module_area_end.new.map ≡ ending (store_of c.args.map.now) m.heap (4096 * (a.pages - c.args.count)) =
          (let ends = rw m.found at w.set_module_area_end.ensures.store in ends) in
          rw w.map-is (loose_ended (store_of c.args.map.now) (store_of w.set_module_area_end.new.map) (free_pages c.args.map.now) c.args.self.now a c.args.count m
          c.requires.state.area_store first loose (ap (λ (s : Store). s.heaps) is) w.set_module_area_end.ensures.kept.others (ap (λ (s : Store). s.anchor) is))
      | else-number-eq-MODULE_AREA w ↦
          let number : a.number ≡ c.args.number = found_number c.args.number c.args.self.now.areas a (sym e) in
          rw w.map-is (loose_created (store_of c.args.map.now) a c.args.count (λ is. w.if-number-eq-MODULE_AREA.false (sym number ∙ is)) loose)
    ]
    )

pub returns-clause-kept : goal.returns-clause-kept
returns-clause-kept c =
    let e = rw c.list.ensures.value at c.in-Some.ensures in
    let a = c.in-Some.area.now in
    let heaps : (store_of c.shrink.new.map).heaps ≡ (store_of c.if-number-eq-MODULE_AREA.map).heaps =
    (let store = rw (← e) at c.shrink.ensures.store in ap (λ (s : Store). s.heaps) store) in
    let area_table = rw (← e) at c.shrink.ensures.area_table in
    let ended : KeepsOrder c.args.map.now c.if-number-eq-MODULE_AREA.map = elim c.if-number-eq-MODULE_AREA.branch [
      | then-number-eq-MODULE_AREA w ↦ rw w.map-is w.set_module_area_end.ensures.kept.order
      | else-number-eq-MODULE_AREA w ↦ rw w.map-is refl
    ] in
    let same : mapping c.if-number-eq-MODULE_AREA.map ≡ mapping c.args.map.now = elim c.if-number-eq-MODULE_AREA.branch [
      | then-number-eq-MODULE_AREA w ↦ rw w.map-is w.set_module_area_end.ensures.kept.mapping
      | else-number-eq-MODULE_AREA w ↦ rw w.map-is refl
    ] in
    record {
      area_store = record {
        ground = c.shrink.ensures.kept.ground;
        heap = elim c.if-number-eq-MODULE_AREA.branch [
          | then-number-eq-MODULE_AREA w ↦
              let first : find_area 1 c.args.self.now.areas ≡ Some a =
              subst (λ (n : ℕ). find_area n c.args.self.now.areas ≡ Some a) w.if-number-eq-MODULE_AREA.true (sym e) in
              let m : IsModuleArea (store_of c.args.map.now) a =
              module_area_known (store_of c.args.map.now) (free_pages c.args.map.now) c.args.self.now a c.requires.state.area_store first in
              let is : store_of w.set_module_area_end.new.map ≡ ending (store_of c.args.map.now) m.heap (4096 * (a.pages - c.args.count)) =
              (let ends = rw m.found at w.set_module_area_end.ensures.store in ends) in
              let there : find_area 1 (with_pages c.args.number (a.pages - c.args.count) c.args.self.now.areas) ≡ Some (area_with_pages (a.pages - c.args.count) a) =
              subst (λ (n : ℕ). find_area n (with_pages c.args.number (a.pages - c.args.count) c.args.self.now.areas) ≡ Some (area_with_pages (a.pages - c.args.count) a))
              w.if-number-eq-MODULE_AREA.true (find_paged c.args.number (a.pages - c.args.count) c.args.self.now.areas a (sym e)) in
              let ended = find_ended (store_of c.args.map.now).heaps m.heap module_area_start (4096 * (a.pages - c.args.count)) m.found in
              rw (heaps, w.map-is, is, ended, area_table, there) (m.kind, refl)
          | else-number-eq-MODULE_AREA w ↦
              rw (heaps, w.map-is, area_table, find_paged_other c.args.number (a.pages - c.args.count) 1 c.args.self.now.areas w.if-number-eq-MODULE_AREA.false)
              c.requires.state.area_store.heap
        ];
      };
      classes = c.shrink.ensures.kept.classes;
      order = order_kept c.if-number-eq-MODULE_AREA.map c.shrink.new.map c.shrink.ensures.kept.regions ∙ ended;
      stays = stays_after c.args.map.now c.if-number-eq-MODULE_AREA.map c.shrink.new.map same c.shrink.ensures.kept.stays;
      sizes = c.shrink.ensures.kept.sizes;
    }
