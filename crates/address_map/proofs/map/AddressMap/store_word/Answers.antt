use Rattle.std.proofs.Common.{◌+◌, ◌≤◌, length, arith, refl, subst, sym}
use Rattle.std.proofs.lemmas.Result.{err_from_is_err_and}
use Rattle.raw_store.specs.Region.{word_bytes}
use Rattle.address_map.specs.Bytes.{word_start}
use Rattle.address_map.specs.Memory.{bytes_of, is_owned}
use Rattle.address_map.proofs.Loads.{place_fits_word}
use Rattle.address_map.proofs.Stores.{word_put, same_layout, store_written, All-word_bytes}
use Rattle.address_map.proofs.Equations.{stored_word, word_stored-refused, word_stored-done}
use Rattle.address_map.proofs.Marking.{same_marks}
use Rattle.address_map.specs.Pages.{AreWritten}
use Rattle.address_map.proofs.map.AddressMap.store_word.Goals as goal

pub returns-in_err-place-clause-bytes : goal.returns-in_err-place-clause-bytes
returns-in_err-place-clause-bytes c =
    let p = err_from_is_err_and c.from_residual.result c.from_residual.ensures.1 in
    let m = c.args.self.now in
    rw (p.1, p.2, word_stored-refused (is_owned m) (bytes_of m) c.args.addr c.args.word _ c.in_err-place.ensures) (refl, refl)

pub write_word-requires : goal.write_word-requires
write_word-requires c = place_fits_word c.args.self.now (word_start c.args.addr) _ (omega arith) c.in_ok-place.ensures.1

pub invariant_of-self : goal.invariant_of-self
invariant_of-self c =
    let m = c.args.self.now in
    let fits : c.in_ok-place.place + 4 ≤ length m.store.items = place_fits_word c.args.self.now (word_start c.args.addr) _ (omega arith) c.in_ok-place.ensures.1 in
    let kept = store_written m c.write_word.new.self.items (word_bytes c.args.word) c.in_ok-place.place c.write_word.ensures.bytes fits (All-word_bytes c.args.word) in
    record {
      bytes_fit = kept.0;
      in_limit = m.in_limit;
      marks_fit = omega (arith, kept.1, c.write_word.ensures.room, m.marks_fit);
      frames_fit = omega (arith, kept.1, c.write_word.ensures.room, m.frames_fit);
      table = m.table;
      written = subst (AreWritten m.frames) (sym kept.1) m.written;
      recorded = m.recorded;
    }

pub returns-clause-bytes : goal.returns-clause-bytes
returns-clause-bytes c =
    let m = c.args.self.now in
    rw (word_stored-done (is_owned m) (bytes_of m) c.args.addr c.args.word c.in_ok-place.ensures.0)
    (stored_word m _ (word_start c.args.addr) c.args.word (same_layout _ _ refl refl refl)
    (word_put m _ (word_start c.args.addr) c.in_ok-place.place c.args.word (omega arith) c.in_ok-place.ensures.1 (same_layout _ _ refl refl refl) c.write_word.ensures.bytes))

pub returns-clause-layout : goal.returns-clause-layout
returns-clause-layout c = same_layout _ _ refl refl refl

pub returns-clause-marks : goal.returns-clause-marks
returns-clause-marks c = same_marks _ _ refl refl
