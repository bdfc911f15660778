use Rattle.std.proofs.Common.{◌≡◌, ◌<◌, true, false, leb, sym, ◌∙◌, arith}
use Rattle.std.proofs.lemmas.Bool.{le-leb, lt-leb}
use Rattle.os_heap_words.specs.Memory.{bytes_of}
use Rattle.os_heap.specs.Store.{store_of, guest_count}
use Rattle.os_heap.specs.Ranges.{is_heap_region, overlaps}
use Rattle.os_heap.proofs.Added.{begun_bad, begun_full, begun_over, init_looked, init_unlooked}
use Rattle.os_heap.proofs.RangeTests.{can_hold}
use Rattle.os_heap.proofs.Obstructions.{obstructed_over}
use Rattle.os_heap.proofs.init.may_begin.Goals as goal

pub returns-then-not-is_heap_region-clause-answer : goal.returns-then-not-is_heap_region-clause-answer
unfolding store_of
returns-then-not-is_heap_region-clause-answer c =
    let bad : is_heap_region (bytes_of c.args.map.now) c.args.heap c.args.size ≡ false = cc in
    rw c.refused.ensures (begun_bad (store_of c.args.map.now) c.args.heap c.args.size bad)

pub is_obstructed-tested-requires-clause-some : goal.is_obstructed-tested-requires-clause-some
is_obstructed-tested-requires-clause-some c =
    let good : is_heap_region (bytes_of c.args.map.now) c.args.heap c.args.size ≡ true = cc in
    omega (arith, (can_hold (bytes_of c.args.map.now) c.args.heap c.args.size good).low)

pub returns-then-tested-clause-answer : goal.returns-then-tested-clause-answer
unfolding store_of
returns-then-tested-clause-answer c =
    let s = store_of c.args.map.now in
    let good : is_heap_region (bytes_of c.args.map.now) c.args.heap c.args.size ≡ true = cc in
    let some : 0 < c.args.size = omega (arith, (can_hold (bytes_of c.args.map.now) c.args.heap c.args.size good).low) in
    let over : overlaps c.args.heap c.args.size s ≡ true =
    sym (obstructed_over s c.args.heap c.args.size some c.requires.sound) ∙ sym c.is_obstructed-tested.ensures.yes ∙ c.if-tested.true in
    rw c.refused-then-tested.ensures (begun_over s c.args.heap c.args.size good over)

pub returns-then-count_guests-ge-MOST_HEAPS-clause-answer : goal.returns-then-count_guests-ge-MOST_HEAPS-clause-answer
unfolding store_of
returns-then-count_guests-ge-MOST_HEAPS-clause-answer c =
    let s = store_of c.args.map.now in
    let good : is_heap_region (bytes_of c.args.map.now) c.args.heap c.args.size ≡ true = cc in
    let some : 0 < c.args.size = omega (arith, (can_hold (bytes_of c.args.map.now) c.args.heap c.args.size good).low) in
    let clear : overlaps c.args.heap c.args.size s ≡ false =
    sym (obstructed_over s c.args.heap c.args.size some c.requires.sound) ∙ sym c.is_obstructed-tested.ensures.yes ∙ c.if-tested.false in
    let guests = rw c.regions.ensures at (c.count_guests.ensures (bytes_of c.args.map.now)) in
    let full : leb 64 (guest_count s.heaps) ≡ true = le-leb 64 _ (omega (arith, guests)) in
    rw c.refused-then-count_guests-ge-MOST_HEAPS.ensures (begun_full s c.args.heap c.args.size good clear full)

pub returns-clause-answer : goal.returns-clause-answer
unfolding store_of
returns-clause-answer c =
    let s = store_of c.args.map.now in
    let good : is_heap_region (bytes_of c.args.map.now) c.args.heap c.args.size ≡ true = cc in
    let some : 0 < c.args.size = omega (arith, (can_hold (bytes_of c.args.map.now) c.args.heap c.args.size good).low) in
    let guests = rw c.regions.ensures at (c.count_guests.ensures (bytes_of c.args.map.now)) in
    record {
      region = good;
      clear = sym (obstructed_over s c.args.heap c.args.size some c.requires.sound) ∙ sym c.is_obstructed-tested.ensures.yes ∙ c.if-tested.false;
      room = lt-leb 64 (guest_count s.heaps) (omega (arith, guests));
    }

pub returns-then-not-is_heap_region-clause-probes : goal.returns-then-not-is_heap_region-clause-probes
unfolding store_of
returns-then-not-is_heap_region-clause-probes c =
    let bad : is_heap_region (bytes_of c.args.map.now) c.args.heap c.args.size ≡ false = cc in
    rw c.refused.ensures (sym (init_unlooked (store_of c.args.map.now) c.args.heap c.args.size bad))

pub returns-then-tested-clause-probes : goal.returns-then-tested-clause-probes
unfolding store_of
returns-then-tested-clause-probes c =
    let good : is_heap_region (bytes_of c.args.map.now) c.args.heap c.args.size ≡ true = cc in
    rw c.refused-then-tested.ensures (c.is_obstructed-tested.ensures.probes ∙ sym (init_looked (store_of c.args.map.now) c.args.heap c.args.size good))

pub returns-then-count_guests-ge-MOST_HEAPS-clause-probes : goal.returns-then-count_guests-ge-MOST_HEAPS-clause-probes
unfolding store_of
returns-then-count_guests-ge-MOST_HEAPS-clause-probes c =
    let good : is_heap_region (bytes_of c.args.map.now) c.args.heap c.args.size ≡ true = cc in
    rw c.refused-then-count_guests-ge-MOST_HEAPS.ensures
    (c.is_obstructed-tested.ensures.probes ∙ sym (init_looked (store_of c.args.map.now) c.args.heap c.args.size good))

pub returns-clause-probes : goal.returns-clause-probes
unfolding store_of
returns-clause-probes c =
    let good : is_heap_region (bytes_of c.args.map.now) c.args.heap c.args.size ≡ true = cc in
    c.is_obstructed-tested.ensures.probes ∙ sym (init_looked (store_of c.args.map.now) c.args.heap c.args.size good)
