use Rattle.dynamic_areas.specs.MemoryMap.{module_area_start}
use Rattle.std.proofs.Common.{List, ◌≡◌, ◌∙◌, ap, subst}
use Rattle.std.specs.List.{filter}
use Rattle.dynamic_areas.specs.Region.{Region}
use Rattle.dynamic_areas.specs.Calls.{gave_back}
use Rattle.dynamic_areas.specs.Store.{Store, store_of}
use Rattle.dynamic_areas.specs.Order.{stays}
use Rattle.rma.proofs.FlexFrameLemmas.Keeping.{keeps_then}
use Rattle.rma.specs.Images.{image_freed, or_kept, image_dropped}
use Rattle.rma.proofs.AreaStores.{kept_by}
use Rattle.rma.proofs.KeptLemmas.{room_freed}
use Rattle.dynamic_areas.specs.AddressMap.{AddressMap}
use Rattle.rma.proofs.area.Rma.free_image.Goals as goal

pub free-requires : goal.free-requires
free-requires c = record {
  state = record {
    sound = c.drop_image.ensures.kept.sound;
    classes = c.drop_image.ensures.kept.classes c.requires.state.classes;
  };
}

pub returns-clause-kept : goal.returns-clause-kept
unfolding image_dropped
returns-clause-kept c =
    let m : AddressMap = c.args.map.now in
    let n : AddressMap = c.drop_image.new.map in
    let p : AddressMap = c.free.new.map in
    let dropped = c.drop_image.ensures.kept in
    let freed = room_freed n p c.args.at c.free.result.answer dropped.sound c.free.ensures.kept c.free.ensures.store in
    record {
      sound = freed.sound;
      area_store = λ l areas. freed.area_store l (dropped.area_store l areas);
      classes = freed.classes;
      others = freed.others ∙ ap (λ (s : Store). s.others) c.drop_image.ensures.store;
      mapping = freed.mapping ∙ dropped.mapping;
      records = freed.records ∙ ap (λ (rs : List Region). filter (stays (store_of p).heaps) rs) c.drop_image.ensures.regions;
      flex = keeps_then (store_of m) (store_of n) (store_of p) dropped.flex freed.flex;
    }

pub returns-clause-store : goal.returns-clause-store
unfolding image_freed
returns-clause-store c =
    let s : Store = store_of c.drop_image.new.map in
    let after : store_of c.free.new.map ≡ or_kept s (gave_back s module_area_start c.args.at) =
    kept_by s (store_of c.free.new.map) (gave_back s module_area_start c.args.at) c.free.result.answer c.free.ensures.store in
    subst (λ (t : Store). store_of c.free.new.map ≡ or_kept t (gave_back t module_area_start c.args.at)) c.drop_image.ensures.store after
