use Rattle.std.proofs.Common.{◌≡◌, ◌∙◌, ◌+◌, ◌*◌, ◌/◌, ◌<◌, ◌++◌, ◌∷◌, [], ℕ, List, None, length, arith, ap, subst, refl}
use Rattle.raw_store.specs.Region.{bytes_after_growth}
use Rattle.address_map.specs.Memory.{place, byte_at, free_pages, regions, class_of}
use Rattle.address_map.specs.Pages.{frame_at, IsPageTable}
use Rattle.address_map.proofs.Loads.{unmapped_page}
use Rattle.address_map.proofs.Mapping.{mapped_more, stays_more, bytes_more, bytes_grown}
use Rattle.address_map.proofs.PageTable.{table_given, count_given, unused_frame, fits_frame, length-last, written_more}
use Rattle.address_map.proofs.Stores.{zeros_written, length-grown}
use Rattle.address_map.proofs.Marking.{marks_more}
use Rattle.address_map.proofs.map.AddressMap.map_page.Goals as goal

pub unwrap-frame-requires : goal.unwrap-frame-requires
unfolding free_pages
unwrap-frame-requires c = c.pop.ensures.variant.1 (omega arith)

pub clear-requires : goal.clear-requires
clear-requires c =
    let m = c.args.self.now in
    let f : ℕ = c.unwrap-frame.result in
    let free : List ℕ = c.pop.new.self.items in
    let split : m.free.items ≡ free ++ f ∷ [] = rw c.unwrap-frame.ensures at c.pop.ensures.items in
    let table : IsPageTable m.frames (free ++ f ∷ []) = subst (IsPageTable m.frames) split m.table in
    let below : c.args.addr / 4096 < length m.frames = omega (arith, m.table.size) in
    let none : frame_at m.frames (c.args.addr / 4096) ≡ None = unmapped_page m c.args.addr c.requires.unmapped in
    let inside = fits_frame m.frames free (c.args.addr / 4096) f table below none in
    let long : length m.free.items ≡ length (free ++ f ∷ []) = ap length split in
    omega (arith, m.frames_fit, inside, long, m.marks_fit)

pub invariant_of-self : goal.invariant_of-self
invariant_of-self c =
    let m = c.args.self.now in
    let f : ℕ = c.unwrap-frame.result in
    let free : List ℕ = c.pop.new.self.items in
    let split : m.free.items ≡ free ++ f ∷ [] = rw c.unwrap-frame.ensures at c.pop.ensures.items in
    let table : IsPageTable m.frames (free ++ f ∷ []) = subst (IsPageTable m.frames) split m.table in
    let below : c.args.addr / 4096 < length m.frames = omega (arith, m.table.size) in
    let none : frame_at m.frames (c.args.addr / 4096) ≡ None = unmapped_page m c.args.addr c.requires.unmapped in
    let count = count_given m.frames free (c.args.addr / 4096) f table below none in
    let inside = fits_frame m.frames free (c.args.addr / 4096) f table below none in
    let long : length m.free.items ≡ length (free ++ f ∷ []) = ap length split in
    let kept = zeros_written m.store.items c.write_zeros.new.self.items (4096 * f) 4096 c.write_zeros.ensures.bytes m.bytes_fit in
    let size = length-grown m.store.items (4096 * f + 4096) in
    record {
      bytes_fit = kept.0;
      in_limit = rw (c.set.ensures, c.of.ensures) (omega (arith, m.in_limit, count, long));
      marks_fit = omega (arith, c.write_zeros.ensures.room, m.marks_fit, c.clear.ensures.len);
      frames_fit = rw (c.set.ensures, c.of.ensures) (omega (arith, c.write_zeros.ensures.room, m.frames_fit, count, long));
      table = rw (c.set.ensures, c.of.ensures) (table_given m.frames free (c.args.addr / 4096) f table below none);
      written = rw (c.set.ensures, c.of.ensures) (written_more m.frames (c.args.addr / 4096) f (length c.write_zeros.new.self.items) (length m.store.items) below m.written
          (omega (arith, kept.1, size.1)) (omega (arith, kept.1, size.0)));
      recorded = m.recorded;
    }

pub returns-clause-mapping : goal.returns-clause-mapping
unfolding place
returns-clause-mapping c a =
    let m = c.args.self.now in
    rw (c.set.ensures, c.of.ensures)
    (mapped_more m.frames c.args.addr c.unwrap-frame.result c.requires.aligned (omega (arith, m.table.size)) (unmapped_page m c.args.addr c.requires.unmapped) a)

pub returns-clause-stays : goal.returns-clause-stays
unfolding place
returns-clause-stays c a was is =
    let m = c.args.self.now in
    rw (c.set.ensures, c.of.ensures)
    (stays_more m.frames c.args.addr c.unwrap-frame.result c.requires.aligned (omega (arith, m.table.size)) (unmapped_page m c.args.addr c.requires.unmapped) a was)

pub returns-clause-bytes : goal.returns-clause-bytes
unfolding byte_at place
returns-clause-bytes c a =
    let m = c.args.self.now in
    let f : ℕ = c.unwrap-frame.result in
    let free : List ℕ = c.pop.new.self.items in
    let split : m.free.items ≡ free ++ f ∷ [] = rw c.unwrap-frame.ensures at c.pop.ensures.items in
    let table : IsPageTable m.frames (free ++ f ∷ []) = subst (IsPageTable m.frames) split m.table in
    let below : c.args.addr / 4096 < length m.frames = omega (arith, m.table.size) in
    let none : frame_at m.frames (c.args.addr / 4096) ≡ None = unmapped_page m c.args.addr c.requires.unmapped in
    rw (c.set.ensures, c.of.ensures, c.write_zeros.ensures.bytes)
    (bytes_more m.frames c.args.addr f c.requires.aligned below none (bytes_after_growth m.store.items (4096 * f + 4096)) 4096 refl
    (unused_frame m.frames free (c.args.addr / 4096) f table below none) (length-grown m.store.items (4096 * f + 4096)).0 a
    ∙ bytes_grown m.frames m.store.items (4096 * f + 4096) a m.written)

pub returns-clause-pages : goal.returns-clause-pages
unfolding free_pages
returns-clause-pages c =
    let split : c.args.self.now.free.items ≡ c.pop.new.self.items ++ c.unwrap-frame.result ∷ [] = rw c.unwrap-frame.ensures at c.pop.ensures.items in
    omega (arith, ap length split, length-last c.pop.new.self.items c.unwrap-frame.result)

pub returns-clause-regions : goal.returns-clause-regions
unfolding regions
returns-clause-regions c = refl

pub returns-clause-marks : goal.returns-clause-marks
unfolding class_of place
returns-clause-marks c a =
    let m = c.args.self.now in
    let f : ℕ = c.unwrap-frame.result in
    let free : List ℕ = c.pop.new.self.items in
    let split : m.free.items ≡ free ++ f ∷ [] = rw c.unwrap-frame.ensures at c.pop.ensures.items in
    let table : IsPageTable m.frames (free ++ f ∷ []) = subst (IsPageTable m.frames) split m.table in
    let below : c.args.addr / 4096 < length m.frames = omega (arith, m.table.size) in
    let none : frame_at m.frames (c.args.addr / 4096) ≡ None = unmapped_page m c.args.addr c.requires.unmapped in
    rw (c.set.ensures, c.of.ensures)
    (marks_more m.frames c.args.addr f c.requires.aligned below none
    (unused_frame m.frames free (c.args.addr / 4096) f table below none) m.marks c.clear.new.self c.clear.ensures.classes a)
