use Rattle.std.proofs.Common.{◌-◌, length, sym, ap, subst, arith, ℕ}
use Rattle.dynamic_areas.specs.OsHeapWordsLists.{total_for}
use Rattle.dynamic_areas.proofs.Frame.{classes_same}
use Rattle.dynamic_areas.specs.Store.{Store, store_of}
use Rattle.dynamic_areas.proofs.HeapCalls.{areas_written}
use Rattle.rma.specs.NewImages.{store_with_image_bytes}
use Rattle.rma.specs.flex_frame.Keeping.{RangeHasNoAnchor, KeepsFlex}
use Rattle.rma.proofs.FlexFrameLemmas.Writes.{unanchored_written}
use Rattle.dynamic_areas.specs.Bytes.{with_bytes}
use Rattle.rma.proofs.FlexLemmas.{filled_keeps}
use Rattle.rma.proofs.NewImageLemmas.{IsFilled, is_filled, payload_mapped}
use Rattle.dynamic_areas.specs.AddressMap.{AddressMap}
use Rattle.rma.proofs.new_images.fill.Goals as goal

pub returns-clause-kept : goal.returns-clause-kept
returns-clause-kept c =
    let m : AddressMap = c.args.map.now in
    let n : AddressMap = c.put_bytes.new.self in
    let s : Store = store_of m in
    let total : ℕ = total_for (length c.args.bytes.now) in
    let is : IsFilled m n (store_with_image_bytes s c.args.block c.args.bytes.now) =
    is_filled m n c.args.block total c.args.bytes.now c.put_bytes.ensures.layout
    c.put_bytes.ensures.marks c.requires.sound c.requires.live c.requires.unheaped (omega arith) c.put_bytes.ensures.bytes in
    record {
      sound = is.kept.sound;
      area_store = λ l areas. areas_written m n l areas is.kept.sound c.put_bytes.ensures.layout;
      classes = λ classes. classes_same m n (ap (λ (t : Store). t.heaps) is.store) (λ a i. c.put_bytes.ensures.marks i a) classes;
      layout = c.put_bytes.ensures.layout;
      flex = subst (λ (t : Store). KeepsFlex s t) (sym is.store)
          (filled_keeps s c.args.block total c.args.bytes.now c.requires.sound c.requires.live c.requires.unanchored (omega arith));
      unanchored = subst (λ (t : Store). RangeHasNoAnchor t c.args.block (total - 4)) (sym is.store)
          (unanchored_written s (with_bytes s.bytes c.args.block c.args.bytes.now) c.args.block (total - 4) c.requires.unanchored);
    }

pub put_bytes-requires : goal.put_bytes-requires
unfolding store_of
put_bytes-requires c =
    payload_mapped (store_of c.args.map.now) c.args.block (total_for (length c.args.bytes.now)) (length c.args.bytes.now) c.requires.sound c.requires.live (omega arith)

pub returns-clause-store : goal.returns-clause-store
returns-clause-store c =
    (is_filled c.args.map.now c.put_bytes.new.self c.args.block (total_for (length c.args.bytes.now)) c.args.bytes.now c.put_bytes.ensures.layout
    c.put_bytes.ensures.marks c.requires.sound c.requires.live c.requires.unheaped (omega arith) c.put_bytes.ensures.bytes).store
