use Rattle.std.proofs.Common.{refl, sym, ap, subst}
use Rattle.dynamic_areas.specs.Memory.{free_pages}
use Rattle.dynamic_areas.specs.Kind.TheVariants as kind
use Rattle.dynamic_areas.specs.Region.{Region}
use Rattle.dynamic_areas.proofs.ForgetLemmas.{same_bytes_of}
use Rattle.dynamic_areas.specs.Store.{IsSound, Store, store_of}
use Rattle.dynamic_areas.proofs.Limits.{range_room}
use Rattle.dynamic_areas.proofs.Frame.{classes_same}
use Rattle.dynamic_areas.proofs.Order.{order_added}
use Rattle.dynamic_areas.proofs.Recorded.{store_recorded}
use Rattle.rma.specs.flex_frame.Keeping.{KeepsFlex}
use Rattle.rma.proofs.FlexFrameLemmas.Writes.{recorded_keeps, unanchored_by}
use Rattle.rma.proofs.ImageLemmas.{areas_recorded, same_pool}
use Rattle.rma.proofs.InPlaceLemmas.{may_be, placed, region_placed}
use Rattle.dynamic_areas.specs.AddressMap.{AddressMap}
use Rattle.rma.proofs.area.Rma.record_in_place.Goals as goal

pub returns-clause-kept : goal.returns-clause-kept
returns-clause-kept c =
    let m : AddressMap = c.args.map.now in
    let n : AddressMap = c.own.new.self in
    let s : Store = store_of m in
    let r : Region = record { kind = kind.Image; at = c.args.at; len = c.args.len } in
    let store = store_recorded m n r refl c.own.ensures.regions (same_bytes_of m n c.own.ensures.mapping c.own.ensures.bytes) c.own.ensures.marks in
    let pool = same_pool m n c.own.ensures.mapping in
    let there = placed s c.args.at c.args.len c.requires.sound c.requires.may c.requires.some c.requires.room in
    record {
      sound = subst IsSound (sym store) there.sound;
      area_store = λ l areas. rw (store, pool) (areas_recorded s (free_pages m) l r areas there);
      classes = λ classes. classes_same m n (ap (λ (t : Store). t.heaps) store) c.own.ensures.marks classes;
      mapping = c.own.ensures.mapping;
      flex = subst (λ (t : Store). KeepsFlex s t) (sym store)
          (recorded_keeps s c.args.at c.args.len (unanchored_by s c.args.at c.args.len (may_be s c.args.at c.args.len c.requires.may).anchors));
    }

pub own-requires-clause-region : goal.own-requires-clause-region
own-requires-clause-region c = region_placed c.args.map.now c.args.at c.args.len c.requires.may c.requires.some

pub own-requires-clause-room : goal.own-requires-clause-room
own-requires-clause-room c = λ record_kind. range_room c.args.map.now c.requires.sound c.requires.room

pub returns-clause-placed : goal.returns-clause-placed
returns-clause-placed c l =
    let r : Region = record { kind = kind.Image; at = c.args.at; len = c.args.len } in
    let store = store_recorded c.args.map.now c.own.new.self r refl c.own.ensures.regions
    (same_bytes_of c.args.map.now c.own.new.self c.own.ensures.mapping c.own.ensures.bytes) c.own.ensures.marks in
    let pool = same_pool c.args.map.now c.own.new.self c.own.ensures.mapping in
    λ i. record { store = store i; pool = pool i; area_table = l }

pub returns-clause-order : goal.returns-clause-order
returns-clause-order c =
    let r : Region = record { kind = kind.Image; at = c.args.at; len = c.args.len } in
    order_added c.args.map.now c.own.new.self r c.own.ensures.regions
