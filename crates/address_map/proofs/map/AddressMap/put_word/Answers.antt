use Rattle.std.proofs.Common.{◌+◌, ◌≤◌, ◌∙◌, length, arith, refl, sym, subst}
use Rattle.raw_store.specs.Region.{word_bytes}
use Rattle.address_map.proofs.Loads.{place_fits_word}
use Rattle.address_map.proofs.Stores.{word_put, same_layout, store_written, All-word_bytes}
use Rattle.address_map.proofs.Marking.{same_marks}
use Rattle.address_map.specs.Pages.{AreWritten}
use Rattle.address_map.proofs.map.AddressMap.put_word.Goals as goal

pub write_word-requires : goal.write_word-requires
write_word-requires c = place_fits_word c.args.self.now c.args.addr _ c.requires.aligned (sym c.translate.ensures ∙ c.unwrap-place.ensures)

pub invariant_of-self : goal.invariant_of-self
invariant_of-self c =
    let m = c.args.self.now in
    let fits : c.unwrap-place.result + 4 ≤ length m.store.items = place_fits_word m c.args.addr _ c.requires.aligned (sym c.translate.ensures ∙ c.unwrap-place.ensures) in
    let kept = store_written m c.write_word.new.self.items (word_bytes c.args.word) c.unwrap-place.result c.write_word.ensures.bytes fits (All-word_bytes c.args.word) in
    record {
      bytes_fit = kept.0;
      in_limit = m.in_limit;
      marks_fit = omega (arith, kept.1, c.write_word.ensures.room, m.marks_fit);
      frames_fit = omega (arith, kept.1, c.write_word.ensures.room, m.frames_fit);
      table = m.table;
      written = subst (AreWritten m.frames) (sym kept.1) m.written;
      recorded = m.recorded;
    }

pub returns-clause-bytes : goal.returns-clause-bytes
returns-clause-bytes c =
    word_put c.args.self.now _ c.args.addr c.unwrap-place.result c.args.word c.requires.aligned (sym c.translate.ensures ∙ c.unwrap-place.ensures) (same_layout _ _ refl refl refl) c.write_word.ensures.bytes

pub returns-clause-layout : goal.returns-clause-layout
returns-clause-layout c = same_layout _ _ refl refl refl

pub returns-clause-marks : goal.returns-clause-marks
returns-clause-marks c = same_marks _ _ refl refl
