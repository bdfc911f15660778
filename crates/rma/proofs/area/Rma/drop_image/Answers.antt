use Rattle.std.proofs.Common.{sym, ap, subst}
use Rattle.dynamic_areas.specs.Memory.{free_pages}
use Rattle.dynamic_areas.proofs.ForgetLemmas.{same_bytes_of}
use Rattle.dynamic_areas.specs.Store.{IsSound, Store, store_of}
use Rattle.dynamic_areas.proofs.Frame.{classes_same}
use Rattle.rma.specs.flex_frame.Keeping.{KeepsFlex}
use Rattle.rma.proofs.FlexFrameLemmas.Writes.{dropped_keeps}
use Rattle.rma.specs.Images.{image_dropped}
use Rattle.rma.proofs.ImageLemmas.{areas_less, same_pool, sound_less, store_less}
use Rattle.dynamic_areas.specs.AddressMap.{AddressMap}
use Rattle.rma.proofs.area.Rma.drop_image.Goals as goal

pub returns-clause-kept : goal.returns-clause-kept
returns-clause-kept c =
    let m : AddressMap = c.args.map.now in
    let n : AddressMap = c.disown.new.self in
    let s : Store = store_of m in
    let store = store_less m n c.args.at c.disown.ensures.regions (same_bytes_of m n c.disown.ensures.mapping c.disown.ensures.bytes) c.disown.ensures.marks in
    let pool = same_pool m n c.disown.ensures.mapping in
    record {
      sound = subst IsSound (sym store) (sound_less s c.args.at c.requires);
      area_store = λ l areas. rw (store, pool) (areas_less s (free_pages m) l c.args.at areas);
      classes = λ classes. classes_same m n (ap (λ (t : Store). t.heaps) store) c.disown.ensures.marks classes;
      mapping = c.disown.ensures.mapping;
      flex = subst (λ (t : Store). KeepsFlex s t) (sym store) (dropped_keeps s c.args.at);
    }

pub returns-clause-store : goal.returns-clause-store
unfolding image_dropped
returns-clause-store c =
    store_less c.args.map.now c.disown.new.self c.args.at c.disown.ensures.regions
    (same_bytes_of c.args.map.now c.disown.new.self c.disown.ensures.mapping c.disown.ensures.bytes) c.disown.ensures.marks
