use Rattle.std.proofs.Common.{◌≡◌, ◌/◌, ℕ, Some, None, ◌∙◌, is_some, Option, true, lit<, arith, length, rules, ap, sym, refl}
use Rattle.std.specs.Option.{IsSome}
use Rattle.std.proofs.lemmas.Bool.{false≢true}
use Rattle.address_map.specs.Memory.{place, byte_at, free_pages, regions, class_of}
use Rattle.address_map.specs.Pages.{frame_at}
use Rattle.address_map.proofs.Loads.{mapped_page, frame_read}
use Rattle.address_map.proofs.Spans.{mapped_below}
use Rattle.address_map.proofs.Mapping.{mapped_less, stays_less, bytes_less}
use Rattle.address_map.proofs.PageTable.{table_left, count_left, room_left, written_less}
use Rattle.address_map.proofs.Marking.{marks_less}
use Rattle.address_map.proofs.map.AddressMap.unmap_page.Goals as goal

there_is : (there : Option ℕ) → is_some there ≡ true → IsSome there
there_is None e = absurd (false≢true e)
there_is (Some frame) e = search rules

pub get-requires : goal.get-requires
get-requires c = omega (arith, mapped_below c.args.self.now c.args.addr c.requires.mapped, c.args.self.now.table.size)

pub unwrap-frame-requires : goal.unwrap-frame-requires
unwrap-frame-requires c =
    let m = c.args.self.now in
    there_is _ (ap is_some (c.frame.ensures ∙ sym (frame_read m c.args.addr c.get.result (omega (arith, mapped_below m c.args.addr c.requires.mapped)) c.get.ensures))
    ∙ mapped_page m c.args.addr c.requires.mapped)

pub set-requires : goal.set-requires
set-requires c = omega (arith, mapped_below c.args.self.now c.args.addr c.requires.mapped, c.args.self.now.table.size)

pub push-requires : goal.push-requires
push-requires c =
    let m = c.args.self.now in
    let is : frame_at m.frames (c.args.addr / 4096) ≡ Some c.unwrap-frame.result =
    frame_read m c.args.addr c.get.result (omega (arith, mapped_below m c.args.addr c.requires.mapped)) c.get.ensures
    ∙ sym c.frame.ensures ∙ c.unwrap-frame.ensures in
    (lit< tt, omega (arith, room_left m.frames m.free.items (c.args.addr / 4096) c.unwrap-frame.result m.table is, m.frames_fit, m.in_limit))

pub invariant_of-self : goal.invariant_of-self
invariant_of-self c =
    let m = c.args.self.now in
    let f : ℕ = c.unwrap-frame.result in
    let page : ℕ = c.args.addr / 4096 in
    let is : frame_at m.frames page ≡ Some f =
    frame_read m c.args.addr c.get.result (omega (arith, mapped_below m c.args.addr c.requires.mapped)) c.get.ensures
    ∙ sym c.frame.ensures ∙ c.unwrap-frame.ensures in
    let count = count_left m.frames m.free.items page f m.table is in
    record {
      bytes_fit = m.bytes_fit;
      in_limit = rw (c.set.ensures, c.none.ensures, c.push.ensures.items) (omega (arith, count, m.in_limit));
      marks_fit = m.marks_fit;
      frames_fit = rw (c.set.ensures, c.none.ensures, c.push.ensures.items) (omega (arith, count, m.frames_fit));
      table = rw (c.set.ensures, c.none.ensures, c.push.ensures.items) (table_left m.frames m.free.items page f m.table is);
      written = rw (c.set.ensures, c.none.ensures) (written_less m.frames page (length m.store.items) (omega (arith, mapped_below m c.args.addr c.requires.mapped, m.table.size)) m.written);
      recorded = m.recorded;
    }

pub returns-clause-mapping : goal.returns-clause-mapping
unfolding place
returns-clause-mapping c a =
    let m = c.args.self.now in
    rw (c.set.ensures, c.none.ensures)
    (mapped_less m.frames c.args.addr c.requires.aligned (omega (arith, mapped_below m c.args.addr c.requires.mapped, m.table.size)) a)

pub returns-clause-stays : goal.returns-clause-stays
unfolding place
returns-clause-stays c a was is =
    let m = c.args.self.now in
    rw (c.set.ensures, c.none.ensures)
    (stays_less m.frames c.args.addr c.requires.aligned (omega (arith, mapped_below m c.args.addr c.requires.mapped, m.table.size)) a (rw (c.set.ensures, c.none.ensures) at is))

pub returns-clause-bytes : goal.returns-clause-bytes
unfolding byte_at place
returns-clause-bytes c a =
    let m = c.args.self.now in
    rw (c.set.ensures, c.none.ensures)
    (bytes_less m.frames c.args.addr c.requires.aligned (omega (arith, mapped_below m c.args.addr c.requires.mapped, m.table.size)) m.store.items a)

pub returns-clause-pages : goal.returns-clause-pages
unfolding free_pages
returns-clause-pages c = omega (arith, c.push.ensures.len)

pub returns-clause-regions : goal.returns-clause-regions
unfolding regions
returns-clause-regions c = refl

pub returns-clause-marks : goal.returns-clause-marks
unfolding class_of place
returns-clause-marks c a =
    let m = c.args.self.now in
    rw (c.set.ensures, c.none.ensures)
    (marks_less m.frames c.args.addr c.requires.aligned (omega (arith, mapped_below m c.args.addr c.requires.mapped, m.table.size)) m.marks a)
