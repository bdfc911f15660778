use Rattle.std.proofs.Common.{◌≡◌, ◌<◌, ◌∙◌, ap, is_some, length, not, replicate, arith, rules}
use Rattle.std.proofs.lemmas.List.Elements.{All-nil}
use Rattle.address_map.specs.Memory.{place, free_pages, page_total, regions, class_of, is_owned, is_plain}
use Rattle.address_map.specs.Marks.{mark_in}
use Rattle.address_map.proofs.PageTable.{no_count, no_place, table_none, written_none}
use Rattle.address_map.proofs.map.AddressMap.new.Goals as goal

pub invariant_of-result : goal.invariant_of-result
invariant_of-result c =
    let none = c.in_ok-frames.ensures.entries_if_clones_equal (search rules) ∙ ap (replicate c.page_count.result) c.none.ensures in
    let size : length c.in_ok-store.store.items ≡ 0 = ap length c.in_ok-store.ensures.bytes in
    let room = c.in_ok-store.ensures.room in
    let free = c.all_frames.ensures in
    let few = no_count c.page_count.result in
    record {
      bytes_fit = rw c.in_ok-store.ensures.bytes (All-nil (λ b. b < 256));
      in_limit = rw none (omega (arith, free.len, few, c.requires));
      marks_fit = omega (arith, size, room, c.in_ok-marks.ensures.count);
      frames_fit = rw none (omega (arith, size, room, free.len, few));
      table = table_none c.page_count.result _ _ none c.page_count.ensures (λ k d less. let fits = free.within k d less in omega (arith, fits, free.len)) free.apart;
      written = written_none c.page_count.result _ _ none;
      recorded = search rules;
    }

pub returns-clause-mapping : goal.returns-clause-mapping
unfolding place
returns-clause-mapping c a = ap is_some (no_place c.page_count.result c.in_ok-frames.frames a
    (c.in_ok-frames.ensures.entries_if_clones_equal (search rules) ∙ ap (replicate c.page_count.result) c.none.ensures))

pub returns-clause-marks : goal.returns-clause-marks
unfolding class_of place
returns-clause-marks c a = ap (mark_in c.in_ok-marks.marks) (no_place c.page_count.result c.in_ok-frames.frames a
    (c.in_ok-frames.ensures.entries_if_clones_equal (search rules) ∙ ap (replicate c.page_count.result) c.none.ensures))

pub returns-clause-pages : goal.returns-clause-pages
unfolding free_pages
returns-clause-pages c = c.all_frames.ensures.len

pub returns-clause-total : goal.returns-clause-total
unfolding page_total
returns-clause-total c =
    rw (c.in_ok-frames.ensures.entries_if_clones_equal (search rules) ∙ ap (replicate c.page_count.result) c.none.ensures) (omega (arith, c.all_frames.ensures.len, no_count c.page_count.result))

pub returns-clause-regions : goal.returns-clause-regions
unfolding regions
returns-clause-regions c = c.new-3.ensures

pub returns-clause-owned : goal.returns-clause-owned
unfolding is_owned
returns-clause-owned c a = ap (λ class. not (is_plain class)) (returns-clause-marks c a)
