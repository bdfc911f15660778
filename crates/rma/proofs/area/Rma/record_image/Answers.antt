use Rattle.dynamic_areas.specs.MemoryMap.{module_area_start}
use Rattle.std.proofs.Common.{◌≡◌, Ok, refl, sym, ap, subst, ◌∙◌, arith}
use Rattle.dynamic_areas.specs.Memory.{free_pages}
use Rattle.dynamic_areas.specs.Kind.TheVariants as kind
use Rattle.dynamic_areas.specs.Region.{Region}
use Rattle.dynamic_areas.proofs.ForgetLemmas.{same_bytes_of}
use Rattle.dynamic_areas.specs.Calls.{block_sized}
use Rattle.dynamic_areas.specs.Store.{IsSound, Store, store_of}
use Rattle.dynamic_areas.proofs.Limits.{range_room}
use Rattle.dynamic_areas.proofs.Frame.{classes_same}
use Rattle.dynamic_areas.proofs.Order.{order_added}
use Rattle.dynamic_areas.proofs.Recorded.{store_recorded}
use Rattle.rma.specs.flex_frame.Keeping.{KeepsFlex}
use Rattle.rma.proofs.FlexFrameLemmas.Keeping.{keeps_same}
use Rattle.rma.proofs.FlexFrameLemmas.Writes.{recorded_keeps}
use Rattle.rma.specs.Images.{image_recorded}
use Rattle.rma.proofs.ExtendLemmas.{lies_below}
use Rattle.rma.proofs.ImageLemmas.{areas_recorded, is_recorded, same_pool}
use Rattle.dynamic_areas.specs.AddressMap.{AddressMap}
use Rattle.rma.proofs.area.Rma.record_image.Goals as goal

pub returns-in-Ok-clause-kept : goal.returns-in-Ok-clause-kept
returns-in-Ok-clause-kept c =
    let m : AddressMap = c.args.map.now in
    let n : AddressMap = c.own.new.self in
    let s : Store = store_of m in
    let sized : block_sized s module_area_start c.args.at ≡ Ok c.in-Ok.len = sym c.block_size.ensures.answer ∙ c.in-Ok.is in
    let r : Region = record { kind = kind.Image; at = c.args.at; len = c.in-Ok.len } in
    let store = store_recorded m n r refl c.own.ensures.regions (same_bytes_of m n c.own.ensures.mapping c.own.ensures.bytes) c.own.ensures.marks in
    let pool = same_pool m n c.own.ensures.mapping in
    let recorded = is_recorded s c.args.at c.in-Ok.len c.requires.sound c.requires.may sized in
    record {
      sound = subst IsSound (sym store) recorded.sound;
      area_store = λ l areas. rw (store, pool) (areas_recorded s (free_pages m) l r areas recorded);
      classes = λ classes. classes_same m n (ap (λ (t : Store). t.heaps) store) c.own.ensures.marks classes;
      mapping = c.own.ensures.mapping;
    }

pub returns-in-Err-clause-kept : goal.returns-in-Err-clause-kept
returns-in-Err-clause-kept c = record { sound = c.requires.sound; area_store = λ l areas. areas; classes = λ classes. classes; mapping = refl }

pub own-requires-clause-region : goal.own-requires-clause-region
own-requires-clause-region c =
    let sized : block_sized (store_of c.args.map.now) module_area_start c.args.at ≡ Ok c.in-Ok.len = sym c.block_size.ensures.answer ∙ c.in-Ok.is in
    let below = lies_below c.args.map.now c.args.at c.in-Ok.len c.requires.sound sized in
    record {
      aligned = (is_recorded (store_of c.args.map.now) c.args.at c.in-Ok.len c.requires.sound c.requires.may sized).aligned;
      end = omega (arith, below.within, below.base);
    }

pub own-requires-clause-room : goal.own-requires-clause-room
own-requires-clause-room c = λ record_kind. range_room c.args.map.now c.requires.sound c.requires.may.room

pub returns-in-Ok-clause-store : goal.returns-in-Ok-clause-store
unfolding image_recorded
returns-in-Ok-clause-store c =
    let sized : block_sized (store_of c.args.map.now) module_area_start c.args.at ≡ Ok c.in-Ok.len = sym c.block_size.ensures.answer ∙ c.in-Ok.is in
    let r : Region = record { kind = kind.Image; at = c.args.at; len = c.in-Ok.len } in
    rw sized (store_recorded c.args.map.now c.own.new.self r refl c.own.ensures.regions
    (same_bytes_of c.args.map.now c.own.new.self c.own.ensures.mapping c.own.ensures.bytes) c.own.ensures.marks)

pub returns-in-Err-clause-store : goal.returns-in-Err-clause-store
unfolding image_recorded
returns-in-Err-clause-store c = rw (sym c.block_size.ensures.answer ∙ c.in-Err.is) refl

pub returns-in-Ok-clause-flex : goal.returns-in-Ok-clause-flex
returns-in-Ok-clause-flex c = λ unanchored.
    let s : Store = store_of c.args.map.now in
    let sized : block_sized s module_area_start c.args.at ≡ Ok c.in-Ok.len = sym c.block_size.ensures.answer ∙ c.in-Ok.is in
    let r : Region = record { kind = kind.Image; at = c.args.at; len = c.in-Ok.len } in
    let store = store_recorded c.args.map.now c.own.new.self r refl c.own.ensures.regions
    (same_bytes_of c.args.map.now c.own.new.self c.own.ensures.mapping c.own.ensures.bytes) c.own.ensures.marks in
    let free = rw sized at unanchored in
    subst (λ (t : Store). KeepsFlex s t) (sym store) (recorded_keeps s c.args.at c.in-Ok.len free)

pub returns-in-Err-clause-flex : goal.returns-in-Err-clause-flex
returns-in-Err-clause-flex c = λ unanchored. keeps_same (store_of c.args.map.now)

pub returns-in-Ok-clause-order : goal.returns-in-Ok-clause-order
returns-in-Ok-clause-order c =
    let sized : block_sized (store_of c.args.map.now) module_area_start c.args.at ≡ Ok c.in-Ok.len = sym c.block_size.ensures.answer ∙ c.in-Ok.is in
    let r : Region = record { kind = kind.Image; at = c.args.at; len = c.in-Ok.len } in
    rw sized (order_added c.args.map.now c.own.new.self r c.own.ensures.regions)

pub returns-in-Err-clause-order : goal.returns-in-Err-clause-order
returns-in-Err-clause-order c = rw (sym c.block_size.ensures.answer ∙ c.in-Err.is) refl
