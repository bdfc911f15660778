use Rattle.std.proofs.Common.{◌+◌, ◌≤◌, length, arith, refl, subst, sym}
use Rattle.std.proofs.lemmas.List.{get_or_default}
use Rattle.address_map.proofs.Stores.{bytes_written, same_layout, layout-place, store_written}
use Rattle.address_map.proofs.Marking.{same_marks}
use Rattle.address_map.specs.Pages.{AreWritten}
use Rattle.address_map.proofs.map.AddressMap.write_span.Goals as goal

pub write-requires : goal.write-requires
write-requires c = omega (arith, c.requires.span.within)

pub invariant_of-self : goal.invariant_of-self
invariant_of-self c =
    let m = c.args.self.now in
    let fits : c.args.span.place + length c.args.bytes.now ≤ length m.store.items = omega (arith, c.requires.span.within) in
    let kept = store_written m c.write.new.self.items c.args.bytes.now c.args.span.place c.write.ensures.bytes fits (λ k d below. rw (get_or_default c.args.bytes.now k d 0 below) (omega (arith, c.type_inv.bytes k))) in
    record {
      bytes_fit = kept.0;
      in_limit = m.in_limit;
      marks_fit = omega (arith, kept.1, c.write.ensures.room, m.marks_fit);
      frames_fit = omega (arith, kept.1, c.write.ensures.room, m.frames_fit);
      table = m.table;
      written = subst (AreWritten m.frames) (sym kept.1) m.written;
      recorded = m.recorded;
    }

pub returns-clause-bytes : goal.returns-clause-bytes
returns-clause-bytes c =
    let m = c.args.self.now in
    let fits : c.args.span.place + length c.args.bytes.now ≤ length m.store.items = omega (arith, c.requires.span.within) in
    bytes_written m _ c.args.span.addr c.args.span.place c.args.bytes.now (layout-place m _ (same_layout m _ refl refl refl)) c.write.ensures.bytes fits
    (λ j below. c.requires.span.places j (omega arith))

pub returns-clause-layout : goal.returns-clause-layout
returns-clause-layout c = same_layout _ _ refl refl refl

pub returns-clause-marks : goal.returns-clause-marks
returns-clause-marks c = same_marks _ _ refl refl
