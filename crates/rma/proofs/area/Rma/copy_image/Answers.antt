use Rattle.std.proofs.Common.{ℕ, ap, ◌∙◌, ◌-◌}
use Rattle.dynamic_areas.specs.OsHeapWordsLists.{total_for}
use Rattle.dynamic_areas.specs.Store.{Store, store_of}
use Rattle.dynamic_areas.specs.Ground.{AreaStore, area_store_of}
use Rattle.rma.proofs.FlexLemmas.{made_keeps, sized_unheaped}
use Rattle.rma.proofs.ImageLemmas.{area_kind}
use Rattle.rma.proofs.NewImageLemmas.{live_whole, made_order, made_others}
use Rattle.rma.proofs.KeptLemmas.{areas_made, areas_same, still_mapped}
use Rattle.dynamic_areas.proofs.AddressMapStores.{layout-mapping}
use Rattle.rma.specs.Calls.{rma_claimed}
use Rattle.rma.specs.Images.{image_recorded}
use Rattle.rma.proofs.AreaStores.{made_given}
use Rattle.dynamic_areas.specs.Calls.{store_after_copy}
use Rattle.rma.specs.NewImages.{image_copied}
use Rattle.rma.proofs.area.Rma.copy_image.Goals as goal

pub fill_from-requires-clause-sound : goal.fill_from-requires-clause-sound
fill_from-requires-clause-sound c = c.claim.ensures.kept.area_store.ground.sound

pub fill_from-requires-clause-source : goal.fill_from-requires-clause-source
fill_from-requires-clause-source c = still_mapped c.args.map.now c.claim.new.map c.args.from c.args.len c.claim.ensures.kept.places c.requires.source

pub record_image-requires-clause-sound : goal.record_image-requires-clause-sound
record_image-requires-clause-sound c = c.fill_from.ensures.kept.sound

pub returns-clause-made : goal.returns-clause-made
unfolding image_copied
returns-clause-made c =
    let e : AreaStore = area_store_of c.args.map.now c.args.areas.now in
    let make : Store → ℕ → Store = λ s b. image_recorded (store_after_copy s c.args.from b c.args.len) b in
    made_given e c.claim.new.map c.record_image.new.map c.claim.new.areas make (rma_claimed e c.args.len) c.in_ok-block.block
    (c.record_image.ensures.kept.mapping ∙ layout-mapping c.claim.new.map c.fill_from.new.map c.fill_from.ensures.kept.layout)
    (c.record_image.ensures.store ∙ ap (λ (s : Store). image_recorded s c.in_ok-block.block) c.fill_from.ensures.store) c.in_ok-block.ensures.claimed

pub returns-clause-kept : goal.returns-clause-kept
returns-clause-kept c =
    areas_made c.args.map.now c.claim.new.map c.fill_from.new.map c.record_image.new.map c.args.areas.now c.claim.new.areas c.in_ok-block.block
    (total_for c.args.len - 4) c.claim.ensures.kept c.fill_from.ensures.kept c.record_image.ensures.kept
    (made_keeps (store_of c.args.map.now) (store_of c.claim.new.map) (store_of c.fill_from.new.map) (store_of c.record_image.new.map) c.in_ok-block.block
    (total_for c.args.len) c.in_ok-block.ensures.live (ap (λ (s : Store). s.heaps) c.fill_from.ensures.store) c.fill_from.ensures.kept.unanchored
    c.claim.ensures.kept.flex c.fill_from.ensures.kept.flex c.record_image.ensures.flex)

pub returns-in_err-block-clause-kept : goal.returns-in_err-block-clause-kept
returns-in_err-block-clause-kept c = areas_same c.args.map.now c.claim.new.map c.args.areas.now c.claim.new.areas c.claim.ensures.kept

pub returns-clause-others : goal.returns-clause-others
returns-clause-others c =
    made_others (store_of c.args.map.now) (store_of c.claim.new.map) (store_of c.fill_from.new.map) (store_of c.record_image.new.map) c.in_ok-block.block
    (total_for c.args.len) c.in_ok-block.ensures.live c.claim.ensures.kept.others (ap (λ (s : Store). s.heaps) c.fill_from.ensures.store)
    (ap (λ (s : Store). s.others) c.fill_from.ensures.store) c.record_image.ensures.store

pub returns-clause-whole : goal.returns-clause-whole
returns-clause-whole c =
    live_whole (store_of c.claim.new.map) c.in_ok-block.block (total_for c.args.len) c.claim.ensures.kept.area_store.ground.sound c.in_ok-block.ensures.live

pub returns-clause-order : goal.returns-clause-order
returns-clause-order c =
    made_order c.args.map.now c.claim.new.map c.fill_from.new.map c.record_image.new.map c.in_ok-block.block
    (total_for c.args.len) c.in_ok-block.ensures.live c.claim.ensures.kept.others (ap (λ (s : Store). s.heaps) c.fill_from.ensures.store)
    (ap (λ (s : Store). s.others) c.fill_from.ensures.store) c.claim.ensures.kept.order c.fill_from.ensures.kept.layout c.record_image.ensures.order

pub record_image-requires-clause-may : goal.record_image-requires-clause-may
record_image-requires-clause-may c = record {
  area = area_kind (area_store_of c.fill_from.new.map c.claim.new.areas) (c.fill_from.ensures.kept.area_store c.claim.new.areas c.claim.ensures.kept.area_store);
  room = rw (ap (λ (s : Store). s.others) c.fill_from.ensures.store ∙ c.claim.ensures.kept.others) c.requires.room;
  empty = sized_unheaped (store_of c.claim.new.map) (store_of c.fill_from.new.map) c.in_ok-block.block (total_for c.args.len) c.in_ok-block.ensures.live
      (ap (λ (s : Store). s.heaps) c.fill_from.ensures.store) c.in_ok-block.ensures.unheaped;
}
