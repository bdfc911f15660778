use Rattle.std.proofs.Common.{◌-◌, sym, ap, subst, arith, ℕ}
use Rattle.dynamic_areas.specs.OsHeapWordsLists.{total_for}
use Rattle.dynamic_areas.proofs.Frame.{classes_same}
use Rattle.dynamic_areas.specs.Calls.{store_after_copy}
use Rattle.dynamic_areas.specs.Store.{Store, store_of}
use Rattle.dynamic_areas.proofs.HeapCalls.{areas_written}
use Rattle.rma.specs.flex_frame.Keeping.{RangeHasNoAnchor, KeepsFlex}
use Rattle.rma.proofs.FlexFrameLemmas.Writes.{unanchored_written}
use Rattle.dynamic_areas.specs.Bytes.{with_moved}
use Rattle.rma.proofs.FlexLemmas.{copied_keeps}
use Rattle.rma.proofs.NewImageLemmas.{IsFilled, is_copied, payload_mapped}
use Rattle.dynamic_areas.specs.AddressMap.{AddressMap}
use Rattle.rma.proofs.new_images.fill_from.Goals as goal

pub returns-clause-kept : goal.returns-clause-kept
returns-clause-kept c =
    let m : AddressMap = c.args.map.now in
    let n : AddressMap = c.move_bytes.new.self in
    let s : Store = store_of m in
    let total : ℕ = total_for c.args.len in
    let is : IsFilled m n (store_after_copy s c.args.from c.args.block c.args.len) =
    is_copied m n c.args.block total c.args.from c.args.len c.move_bytes.ensures.layout
    c.move_bytes.ensures.marks c.requires.sound c.requires.live c.requires.unheaped (omega arith) c.move_bytes.ensures.bytes in
    record {
      sound = is.kept.sound;
      area_store = λ l areas. areas_written m n l areas is.kept.sound c.move_bytes.ensures.layout;
      classes = λ classes. classes_same m n (ap (λ (t : Store). t.heaps) is.store) (λ a i. c.move_bytes.ensures.marks i a) classes;
      layout = c.move_bytes.ensures.layout;
      flex = subst (λ (t : Store). KeepsFlex s t) (sym is.store)
          (copied_keeps s c.args.block total c.args.from c.args.len c.requires.sound c.requires.live c.requires.unanchored (omega arith));
      unanchored = subst (λ (t : Store). RangeHasNoAnchor t c.args.block (total - 4)) (sym is.store)
          (unanchored_written s (with_moved s.bytes c.args.from c.args.block c.args.len) c.args.block (total - 4) c.requires.unanchored);
    }

pub move_bytes-requires-clause-target : goal.move_bytes-requires-clause-target
unfolding store_of
move_bytes-requires-clause-target c =
    payload_mapped (store_of c.args.map.now) c.args.block (total_for c.args.len) c.args.len c.requires.sound c.requires.live (omega arith)

pub returns-clause-store : goal.returns-clause-store
returns-clause-store c =
    (is_copied c.args.map.now c.move_bytes.new.self c.args.block (total_for c.args.len) c.args.from c.args.len c.move_bytes.ensures.layout
    c.move_bytes.ensures.marks c.requires.sound c.requires.live c.requires.unheaped (omega arith) c.move_bytes.ensures.bytes).store
