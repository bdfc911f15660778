use Rattle.std.proofs.Common.{◌+◌, ◌≤◌, length, arith, refl, subst, sym}
use Rattle.address_map.proofs.Spans.{bytes_zeroed}
use Rattle.address_map.proofs.Stores.{same_layout, store_zeroed}
use Rattle.address_map.proofs.Marking.{same_marks}
use Rattle.address_map.specs.Pages.{AreWritten}
use Rattle.address_map.proofs.map.AddressMap.zero_span.Goals as goal

pub zero-requires : goal.zero-requires
zero-requires c = omega (arith, c.requires.span.within)

pub invariant_of-self : goal.invariant_of-self
invariant_of-self c =
    let m = c.args.self.now in
    let fits : c.args.span.place + c.args.len ≤ length m.store.items = omega (arith, c.requires.span.within) in
    let kept = store_zeroed m c.zero.new.self.items c.args.span.place c.args.len c.zero.ensures.bytes fits in
    record {
      bytes_fit = kept.0;
      in_limit = m.in_limit;
      marks_fit = omega (arith, kept.1, c.zero.ensures.room, m.marks_fit);
      frames_fit = omega (arith, kept.1, c.zero.ensures.room, m.frames_fit);
      table = m.table;
      written = subst (AreWritten m.frames) (sym kept.1) m.written;
      recorded = m.recorded;
    }

pub returns-clause-bytes : goal.returns-clause-bytes
returns-clause-bytes c =
    bytes_zeroed c.args.self.now _ c.args.span.addr c.args.span.place c.args.span.len c.args.len c.requires.span c.requires.within (same_layout _ _ refl refl refl) c.zero.ensures.bytes

pub returns-clause-layout : goal.returns-clause-layout
returns-clause-layout c = same_layout _ _ refl refl refl

pub returns-clause-marks : goal.returns-clause-marks
returns-clause-marks c = same_marks _ _ refl refl
