use Rattle.std.proofs.Common.{◌≡◌, ◌+◌, ◌≤◌, true, false, arith, ◌∙◌, sym}
use Rattle.std.proofs.lemmas.Bool.{le-ltb}
use Rattle.os_heap_words.specs.Items.{size_of}
use Rattle.os_heap_words.specs.Memory.{bytes_of}
use Rattle.os_heap_words.specs.Outcomes.{items_at}
use Rattle.os_heap.specs.Store.{store_of, heap_in}
use Rattle.os_heap.specs.Ranges.{is_heap_region, overgrows}
use Rattle.os_heap.proofs.Refusals.{bad_probes, end_bad, end_over, end_short, good_probes}
use Rattle.os_heap_words.proofs.Tally.{heap_below}
use Rattle.os_heap.proofs.change.may_end.Goals as goal

pub returns-then-not-is_heap_region-clause-answer : goal.returns-then-not-is_heap_region-clause-answer
unfolding store_of
returns-then-not-is_heap_region-clause-answer c =
    let bad : is_heap_region (bytes_of c.args.map.now) c.args.region.now.at c.args.end ≡ false = cc in
    rw c.refused.ensures (λ change whole. end_bad (store_of c.args.map.now) (heap_in (bytes_of c.args.map.now) c.args.region.now) change c.args.end whole bad)

pub returns-then-tested-clause-answer : goal.returns-then-tested-clause-answer
unfolding store_of
returns-then-tested-clause-answer c =
    let r = c.args.region.now in
    let good : is_heap_region (bytes_of c.args.map.now) r.at c.args.end ≡ true = cc in
    let over : overgrows (store_of c.args.map.now) (heap_in (bytes_of c.args.map.now) r) c.args.end ≡ true = sym c.overgrows-tested.ensures.yes ∙ c.if-tested.true in
    rw c.refused-then-tested.ensures
    (λ change whole. end_over (store_of c.args.map.now) (heap_in (bytes_of c.args.map.now) r) change c.args.end whole good over)

pub overflow_add-region : goal.overflow_add-region
overflow_add-region c = omega (arith, heap_below c.args.map.now c.args.region.now.at c.args.region.now.len c.requires.heap)

pub word-requires-clause-mapped : goal.word-requires-clause-mapped
word-requires-clause-mapped c = c.requires.heap.mapped (c.args.region.now.at + 8) (omega arith) (omega (arith, c.requires.heap.inside))

pub returns-then-end-word-clause-answer : goal.returns-then-end-word-clause-answer
unfolding store_of
returns-then-end-word-clause-answer c =
    let r = c.args.region.now in
    let good : is_heap_region (bytes_of c.args.map.now) r.at c.args.end ≡ true = cc in
    let clear : overgrows (store_of c.args.map.now) (heap_in (bytes_of c.args.map.now) r) c.args.end ≡ false = sym c.overgrows-tested.ensures.yes ∙ c.if-tested.false in
    rw c.refused-then-end-word.ensures
    (λ change whole. end_short (store_of c.args.map.now) (heap_in (bytes_of c.args.map.now) r) change c.args.end whole good clear
    (omega (arith, c.if-end-word.true, c.word.ensures ∙ c.requires.heap.base)))

pub returns-clause-answer : goal.returns-clause-answer
unfolding store_of
returns-clause-answer c =
    let r = c.args.region.now in
    let base : 16 + size_of (items_at c.args.map.now r.at) ≤ c.args.end = omega (arith, c.if-end-word.false, c.word.ensures ∙ c.requires.heap.base) in
    record {
      region = cc;
      clear = sym c.overgrows-tested.ensures.yes ∙ c.if-tested.false;
      inside = le-ltb c.args.end (16 + size_of (items_at c.args.map.now r.at)) base;
    }

pub returns-then-not-is_heap_region-clause-probes : goal.returns-then-not-is_heap_region-clause-probes
unfolding store_of
returns-then-not-is_heap_region-clause-probes c =
    let bad : is_heap_region (bytes_of c.args.map.now) c.args.region.now.at c.args.end ≡ false = cc in
    rw c.refused.ensures (sym (bad_probes (store_of c.args.map.now) (heap_in (bytes_of c.args.map.now) c.args.region.now) c.args.end bad))

pub returns-then-tested-clause-probes : goal.returns-then-tested-clause-probes
unfolding store_of
returns-then-tested-clause-probes c =
    let good : is_heap_region (bytes_of c.args.map.now) c.args.region.now.at c.args.end ≡ true = cc in
    rw c.refused-then-tested.ensures (c.overgrows-tested.ensures.probes
    ∙ sym (good_probes (store_of c.args.map.now) (heap_in (bytes_of c.args.map.now) c.args.region.now) c.args.end good))

pub returns-then-end-word-clause-probes : goal.returns-then-end-word-clause-probes
unfolding store_of
returns-then-end-word-clause-probes c =
    let good : is_heap_region (bytes_of c.args.map.now) c.args.region.now.at c.args.end ≡ true = cc in
    rw c.refused-then-end-word.ensures (c.overgrows-tested.ensures.probes
    ∙ sym (good_probes (store_of c.args.map.now) (heap_in (bytes_of c.args.map.now) c.args.region.now) c.args.end good))

pub returns-clause-probes : goal.returns-clause-probes
unfolding store_of
returns-clause-probes c =
    let good : is_heap_region (bytes_of c.args.map.now) c.args.region.now.at c.args.end ≡ true = cc in
    c.overgrows-tested.ensures.probes
    ∙ sym (good_probes (store_of c.args.map.now) (heap_in (bytes_of c.args.map.now) c.args.region.now) c.args.end good)
