use Rattle.std.proofs.Common.{◌∙◌, sym, arith, refl}
use Rattle.address_map.specs.Memory.{place, byte_at, free_pages, regions, class_of}
use Rattle.address_map.proofs.Marking.{marks_room, word_marked}
use Rattle.address_map.proofs.map.AddressMap.mark.Goals as goal

pub set-requires : goal.set-requires
set-requires c = marks_room c.args.self.now c.args.at _ (sym c.translate.ensures ∙ c.unwrap-place.ensures)

pub invariant_of-self : goal.invariant_of-self
invariant_of-self c =
    let m = c.args.self.now in
    record {
      bytes_fit = m.bytes_fit;
      in_limit = m.in_limit;
      marks_fit = omega (arith, c.set.ensures.len, m.marks_fit);
      frames_fit = m.frames_fit;
      table = m.table;
      written = m.written;
      recorded = m.recorded;
    }

pub returns-clause-regions : goal.returns-clause-regions
unfolding regions
returns-clause-regions c = refl

pub returns-clause-mapping : goal.returns-clause-mapping
unfolding place free_pages
returns-clause-mapping c = refl

pub returns-clause-bytes : goal.returns-clause-bytes
unfolding byte_at place
returns-clause-bytes c = refl

pub returns-clause-marks : goal.returns-clause-marks
unfolding class_of place
returns-clause-marks c a =
    word_marked c.args.self.now c.set.new.self c.args.at c.unwrap-place.result c.args.class c.requires.aligned
    (sym c.translate.ensures ∙ c.unwrap-place.ensures) c.set.ensures.classes a
