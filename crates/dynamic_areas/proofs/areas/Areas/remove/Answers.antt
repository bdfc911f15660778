use Rattle.std.proofs.Common.{◌≡◌, ◌-◌, ◌≤◌, Some, refl, sym, ap, subst, ◌∙◌, List, arith, rules}
use Rattle.std.proofs.lemmas.Bool.{ne_eqb, le-ltb}
use Rattle.os_heap.specs.Memory.{free_pages}
use Rattle.os_heap.specs.Store.{Store, store_of}
use Rattle.dynamic_areas.specs.declared.area.Area.{Area}
use Rattle.dynamic_areas.specs.Areas.{with_areas, with_pages, without_area}
use Rattle.dynamic_areas.specs.Changing.{AreLoose, loose_pages, area_table_after_remove}
use Rattle.dynamic_areas.specs.Ground.{IsGround}
use Rattle.dynamic_areas.proofs.KeptLemmas.{area_heap}
use Rattle.dynamic_areas.proofs.LooseLemmas.{loose_created}
use Rattle.dynamic_areas.proofs.PutLemmas.{areas_removed, without_paged}
use Rattle.dynamic_areas.proofs.RoomLemmas.{found_number, found_room}
use Rattle.dynamic_areas.proofs.areas.Areas.remove.Goals as goal

pub loose_pages-requires-clause-room : goal.loose_pages-requires-clause-room
loose_pages-requires-clause-room c =
    let e = rw c.list.ensures.value at c.in-Some.ensures in
    found_room c.args.number c.args.self.now.areas c.in-Some.area.now c.requires.state.area_store.ground.table.rooms (sym e)

pub loose_pages-requires-clause-state : goal.loose_pages-requires-clause-state
loose_pages-requires-clause-state c = area_heap (store_of c.args.map.now) (free_pages c.args.map.now) c.args.self.now c.requires.state.area_store

pub shrink-requires-clause-state : goal.shrink-requires-clause-state
shrink-requires-clause-state c = record { ground = c.requires.state.area_store.ground; classes = c.requires.state.classes }

pub shrink-requires-clause-loose : goal.shrink-requires-clause-loose
shrink-requires-clause-loose c a found =
    let e = rw c.list.ensures.value at c.in-Some.ensures in
    let both : Some c.in-Some.area.now ≡ Some a = e ∙ found in
    let same : c.in-Some.area.now ≡ a = cc in
    let number : c.in-Some.area.now.number ≡ c.args.number = found_number c.args.number c.args.self.now.areas c.in-Some.area.now (sym e) in
    let fits : c.in-Some.area.now.pages ≤ loose_pages (store_of c.args.map.now) c.in-Some.area.now =
    omega (arith, c.loose_pages.ensures, c.if-loose_pages-pages.false) in
    subst (λ (y : Area). AreLoose (store_of c.args.map.now) y c.in-Some.area.now.pages) same
    (loose_created (store_of c.args.map.now) c.in-Some.area.now c.in-Some.area.now.pages
    (λ is. c.if-number-eq-MODULE_AREA.false (sym number ∙ is)) fits)

pub returns-clause-area_table : goal.returns-clause-area_table
unfolding area_table_after_remove
returns-clause-area_table c =
    let e = rw c.list.ensures.value at c.in-Some.ensures in
    let fits : c.in-Some.area.now.pages ≤ loose_pages (store_of c.args.map.now) c.in-Some.area.now =
    omega (arith, c.loose_pages.ensures, c.if-loose_pages-pages.false) in
    rw (← e, ne_eqb c.args.number 1 c.if-number-eq-MODULE_AREA.false, le-ltb (loose_pages (store_of c.args.map.now) c.in-Some.area.now) c.in-Some.area.now.pages fits)
    (rw (c.drop_area.ensures, c.shrink.ensures.area_table) (ap (λ (xs : List Area). with_areas c.args.self.now xs) (without_paged c.args.number _ c.args.self.now.areas)))

pub returns-clause-kept : goal.returns-clause-kept
returns-clause-kept c =
    let e = rw c.list.ensures.value at c.in-Some.ensures in
    let a = c.in-Some.area.now in
    let after : c.drop_area.new.self ≡ with_areas c.args.self.now (without_area c.args.number c.args.self.now.areas) =
    rw (c.drop_area.ensures, c.shrink.ensures.area_table) (ap (λ (xs : List Area). with_areas c.args.self.now xs) (without_paged c.args.number _ c.args.self.now.areas)) in
    let ground : IsGround (store_of c.shrink.new.map) (free_pages c.shrink.new.map)
    (with_areas c.args.self.now (with_pages c.args.number (a.pages - a.pages) c.args.self.now.areas)) =
    (let g = rw (c.shrink.ensures.area_table, ← e) at c.shrink.ensures.kept.ground in g) in
    let heaps : (store_of c.shrink.new.map).heaps ≡ (store_of c.args.map.now).heaps =
    (let store = rw (← e) at c.shrink.ensures.store in ap (λ (s : Store). s.heaps) store) in
    record {
      area_store = rw after (areas_removed (store_of c.args.map.now) (store_of c.shrink.new.map) (free_pages c.shrink.new.map) c.args.self.now c.args.number a (sym e)
          c.if-number-eq-MODULE_AREA.false ground heaps c.requires.state.area_store.heap);
      classes = c.shrink.ensures.kept.classes;
      regions = c.shrink.ensures.kept.regions;
      stays = c.shrink.ensures.kept.stays;
      sizes = rw after refl;
    }

pub returns-in_default-clause-area_table : goal.returns-in_default-clause-area_table
unfolding area_table_after_remove
returns-in_default-clause-area_table c = search rules

pub returns-then-number-eq-MODULE_AREA-clause-area_table : goal.returns-then-number-eq-MODULE_AREA-clause-area_table
unfolding area_table_after_remove
returns-then-number-eq-MODULE_AREA-clause-area_table c = search rules

pub returns-then-loose_pages-pages-clause-area_table : goal.returns-then-loose_pages-pages-clause-area_table
unfolding area_table_after_remove
returns-then-loose_pages-pages-clause-area_table c = search rules
