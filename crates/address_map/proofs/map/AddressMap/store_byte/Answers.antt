use Rattle.std.proofs.Common.{◌+◌, ◌≤◌, ◌∙◌, length, arith, refl, [], ◌∷◌, subst, sym}
use Rattle.std.proofs.lemmas.Result.{err_from_is_err_and}
use Rattle.address_map.specs.Memory.{bytes_of, is_owned}
use Rattle.address_map.proofs.Loads.{place_fits}
use Rattle.address_map.proofs.Stores.{byte_put, same_layout, store_written, slice_set-written, All-byte}
use Rattle.address_map.proofs.Equations.{stored_byte, byte_stored-refused, byte_stored-done}
use Rattle.address_map.proofs.Marking.{same_marks}
use Rattle.address_map.specs.Pages.{AreWritten}
use Rattle.address_map.proofs.map.AddressMap.store_byte.Goals as goal

pub returns-in_err-place-clause-bytes : goal.returns-in_err-place-clause-bytes
returns-in_err-place-clause-bytes c =
    let p = err_from_is_err_and c.from_residual.result c.from_residual.ensures.1 in
    let m = c.args.self.now in
    rw (p.1, p.2, byte_stored-refused (is_owned m) (bytes_of m) c.args.addr c.args.byte _ c.in_err-place.ensures) (refl, refl)

pub write_byte-requires : goal.write_byte-requires
write_byte-requires c = place_fits c.args.self.now c.args.addr _ c.in_ok-place.ensures.1

pub invariant_of-self : goal.invariant_of-self
invariant_of-self c =
    let m = c.args.self.now in
    let fits : c.in_ok-place.place + 1 ≤ length m.store.items = place_fits c.args.self.now c.args.addr _ c.in_ok-place.ensures.1 in
    let kept = store_written m c.write_byte.new.self.items (c.args.byte ∷ []) c.in_ok-place.place (c.write_byte.ensures.bytes ∙ slice_set-written m.store.items c.in_ok-place.place c.args.byte fits) fits (All-byte c.args.byte (omega arith)) in
    record {
      bytes_fit = kept.0;
      in_limit = m.in_limit;
      marks_fit = omega (arith, kept.1, c.write_byte.ensures.room, m.marks_fit);
      frames_fit = omega (arith, kept.1, c.write_byte.ensures.room, m.frames_fit);
      table = m.table;
      written = subst (AreWritten m.frames) (sym kept.1) m.written;
      recorded = m.recorded;
    }

pub returns-clause-bytes : goal.returns-clause-bytes
returns-clause-bytes c =
    let m = c.args.self.now in
    rw (byte_stored-done (is_owned m) (bytes_of m) c.args.addr c.args.byte c.in_ok-place.ensures.0)
    (stored_byte m _ c.args.addr c.args.byte (same_layout _ _ refl refl refl)
    (byte_put m _ c.args.addr c.in_ok-place.place c.args.byte c.in_ok-place.ensures.1 (same_layout _ _ refl refl refl) c.write_byte.ensures.bytes))

pub returns-clause-layout : goal.returns-clause-layout
returns-clause-layout c = same_layout _ _ refl refl refl

pub returns-clause-marks : goal.returns-clause-marks
returns-clause-marks c = same_marks _ _ refl refl
