use Rattle.std.proofs.Common.{◌≡◌, ◌<◌, ◌-◌, ◌*◌, true, refl, sym, ap, ◌∙◌, arith}
use Rattle.dynamic_areas.specs.Memory.{free_pages, is_mapped}
use Rattle.dynamic_areas.specs.Store.{store_of}
use Rattle.dynamic_areas.specs.Creating.{pages_for}
use Rattle.dynamic_areas.specs.Ground.{AreaStore, area_store_of}
use Rattle.rma.specs.Calls.{area_pages}
use Rattle.rma.proofs.FlexLemmas.{growth_keeps}
use Rattle.rma.proofs.GrowthLemmas.{HasArea, area_there, can_grow, growth_done, grown_not, has_more, mapped_more, others_more, refused_where}
use Rattle.rma.proofs.KeptLemmas.{records_same}
use Rattle.rma.specs.Places.{KeepsPlaces}
use Rattle.rma.proofs.growth.grow_to.Goals as goal

pub returns-then-not-can_grow_to-clause-kept : goal.returns-then-not-can_grow_to-clause-kept
returns-then-not-can_grow_to-clause-kept c = records_same c.args.map.now c.args.areas.now c.requires.state

pub returns-then-end-size-clause-kept : goal.returns-then-end-size-clause-kept
unfolding store_of
returns-then-end-size-clause-kept c =
    let e : AreaStore = area_store_of c.args.map.now c.args.areas.now in
    let h : HasArea e = area_there e c.requires.state.area_store in
    let amount = c.args.end - c.from-size.result in
    let past : 4096 * area_pages e < c.args.end = omega (arith, c.if-end-size.true, c.from-size.ensures, c.area_size.ensures) in
    let can = can_grow e h c.args.end (sym c.can_grow_to.ensures ∙ c.if-not-can_grow_to.false) past in
    let is : amount ≡ c.args.end - 4096 * area_pages e = ap (λ n. c.args.end - n) (c.from-size.ensures ∙ c.area_size.ensures) in
    let room = rw (← is) at can.1 in
    let more = has_more e h (store_of c.change.new.map) (free_pages c.change.new.map) c.change.new.self amount c.change.result c.requires.state.area_store
    c.change.ensures.kept.area_store (omega (arith, can.0)) room c.change.ensures.answer c.change.ensures.area_table c.change.ensures.store in
    let there : KeepsPlaces c.args.map.now c.change.new.map = λ a mapped.
    let is_there : is_mapped c.change.new.map a ≡ true =
    ap (λ (x : AreaStore). x.store.bytes.mapped a) more ∙ mapped_more e h (pages_for amount) a mapped in
    c.change.ensures.kept.stays a mapped is_there in
    record {
      area_store = c.change.ensures.kept.area_store;
      classes = c.change.ensures.kept.classes;
      others = ap (λ (x : AreaStore). x.store.others) more ∙ others_more e h (pages_for amount);
      order = c.change.ensures.kept.order;
      stays = c.change.ensures.kept.stays;
      places = there;
      flex = growth_keeps c.args.map.now c.change.new.map c.args.areas.now c.change.new.self amount c.change.result c.requires.state.area_store
          c.change.ensures.kept.area_store c.change.ensures.answer c.change.ensures.store;
      sizes = c.change.ensures.kept.sizes;
    }

pub returns-else-end-size-clause-kept : goal.returns-else-end-size-clause-kept
returns-else-end-size-clause-kept c = records_same c.args.map.now c.args.areas.now c.requires.state

pub returns-then-not-can_grow_to-clause-grown : goal.returns-then-not-can_grow_to-clause-grown
returns-then-not-can_grow_to-clause-grown c =
    rw (refused_where (area_store_of c.args.map.now c.args.areas.now) c.args.end (sym c.can_grow_to.ensures ∙ c.if-not-can_grow_to.true)) (refl, refl)

pub overflow_cast-end : goal.overflow_cast-end
overflow_cast-end c =
    let e : AreaStore = area_store_of c.args.map.now c.args.areas.now in
    let past : 4096 * area_pages e < c.args.end = omega (arith, c.if-end-size.true, c.from-size.ensures, c.area_size.ensures) in
    let can = can_grow e (area_there e c.requires.state.area_store) c.args.end (sym c.can_grow_to.ensures ∙ c.if-not-can_grow_to.false) past in
    omega (arith, can.0)

pub returns-then-end-size-clause-grown : goal.returns-then-end-size-clause-grown
returns-then-end-size-clause-grown c =
    let e : AreaStore = area_store_of c.args.map.now c.args.areas.now in
    let h : HasArea e = area_there e c.requires.state.area_store in
    let amount = c.args.end - c.from-size.result in
    let past : 4096 * area_pages e < c.args.end = omega (arith, c.if-end-size.true, c.from-size.ensures, c.area_size.ensures) in
    let can = can_grow e h c.args.end (sym c.can_grow_to.ensures ∙ c.if-not-can_grow_to.false) past in
    let is : amount ≡ c.args.end - 4096 * area_pages e = ap (λ n. c.args.end - n) (c.from-size.ensures ∙ c.area_size.ensures) in
    let room = rw (← is) at can.1 in
    rw (growth_done e h c.args.end amount past is room)
    (has_more e h (store_of c.change.new.map) (free_pages c.change.new.map) c.change.new.self amount c.change.result c.requires.state.area_store
    c.change.ensures.kept.area_store (omega (arith, can.0)) room c.change.ensures.answer c.change.ensures.area_table c.change.ensures.store)

pub returns-else-end-size-clause-grown : goal.returns-else-end-size-clause-grown
returns-else-end-size-clause-grown c =
    rw (grown_not (area_store_of c.args.map.now c.args.areas.now) c.args.end (omega (arith, c.if-end-size.false, c.from-size.ensures, c.area_size.ensures))) refl
