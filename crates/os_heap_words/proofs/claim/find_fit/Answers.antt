use Rattle.std.proofs.Common.{◌≡◌, ◌+◌, ◌∙◌, arith}
use Rattle.os_heap_words.specs.Outcomes.{end_at}
use Rattle.os_heap_words.proofs.Replace.{heap_below, heap_mapped}
use Rattle.os_heap_words.proofs.ListsLemmas.Search.{search_begun, search_passed, search_fits}
use Rattle.os_heap_words.proofs.Searching.{first_link, first_below, met_facts}
use Rattle.os_heap_words.proofs.claim.find_fit.Goals as goal

pub follow-at-requires-clause-below : goal.follow-at-requires-clause-below
follow-at-requires-clause-below c = omega (arith, heap_below c.args.map.now c.args.heap (end_at c.args.map.now c.args.heap) _ c.requires, c.requires.inside)

pub follow-at-requires-clause-fits : goal.follow-at-requires-clause-fits
follow-at-requires-clause-fits c =
    rw (first_link c.args.map.now c.args.heap (end_at c.args.map.now c.args.heap) _ c.requires) (omega (arith, first_below c.args.map.now c.args.heap (end_at c.args.map.now c.args.heap) _ c.requires))

pub loop-at-init : goal.loop-at-init
loop-at-init c =
    let e = c.follow-at.ensures ∙ first_link c.args.map.now c.args.heap (end_at c.args.map.now c.args.heap) _ c.requires in
    rw e (search_begun c.args.heap _ c.args.needed)

pub overflow_add-at : goal.overflow_add-at
overflow_add-at c =
    let f = met_facts c.args.map.now c.args.heap (end_at c.args.map.now c.args.heap) c.args.needed _ _ _ c.requires c.loop-at.invariant c.loop-at-test.true in
    omega (arith, f.facts.high, f.facts.top, f.facts.size)

pub word-total-requires-clause-aligned : goal.word-total-requires-clause-aligned
word-total-requires-clause-aligned c =
    let f = met_facts c.args.map.now c.args.heap (end_at c.args.map.now c.args.heap) c.args.needed _ _ _ c.requires c.loop-at.invariant c.loop-at-test.true in
    omega (arith, f.facts.whole)

pub word-total-requires-clause-mapped : goal.word-total-requires-clause-mapped
word-total-requires-clause-mapped c =
    let f = met_facts c.args.map.now c.args.heap (end_at c.args.map.now c.args.heap) c.args.needed _ _ _ c.requires c.loop-at.invariant c.loop-at-test.true in
    heap_mapped c.args.map.now c.args.heap (end_at c.args.map.now c.args.heap) (c.loop-at.at + 4) _ c.requires (omega (arith, f.facts.low)) (omega (arith, f.facts.high, f.facts.size))

pub overflow_add-probes : goal.overflow_add-probes
overflow_add-probes c =
    let f = met_facts c.args.map.now c.args.heap (end_at c.args.map.now c.args.heap) c.args.needed _ _ _ c.requires c.loop-at.invariant c.loop-at-test.true in
    omega (arith, f.met.count, f.few, f.some)

pub returns-then-from-needed-clause-fit : goal.returns-then-from-needed-clause-fit
returns-then-from-needed-clause-fit c =
    let f = met_facts c.args.map.now c.args.heap (end_at c.args.map.now c.args.heap) c.args.needed _ _ _ c.requires c.loop-at.invariant c.loop-at-test.true in
    (search_fits c.args.heap _ c.args.needed _ _ _ c.word-total.result f.met (c.word-total.ensures ∙ f.facts.total_word) (omega arith)).0

pub returns-then-from-needed-clause-probes : goal.returns-then-from-needed-clause-probes
returns-then-from-needed-clause-probes c =
    let f = met_facts c.args.map.now c.args.heap (end_at c.args.map.now c.args.heap) c.args.needed _ _ _ c.requires c.loop-at.invariant c.loop-at-test.true in
    (search_fits c.args.heap _ c.args.needed _ _ _ c.word-total.result f.met (c.word-total.ensures ∙ f.facts.total_word) (omega arith)).1

pub follow-at-requires-in-loop-at-clause-below : goal.follow-at-requires-in-loop-at-clause-below
follow-at-requires-in-loop-at-clause-below c =
    let f = met_facts c.args.map.now c.args.heap (end_at c.args.map.now c.args.heap) c.args.needed _ _ _ c.requires c.loop-at.invariant c.loop-at-test.true in
    omega (arith, f.facts.high, f.facts.top, f.facts.size)

pub follow-at-requires-in-loop-at-clause-aligned : goal.follow-at-requires-in-loop-at-clause-aligned
follow-at-requires-in-loop-at-clause-aligned c =
    let f = met_facts c.args.map.now c.args.heap (end_at c.args.map.now c.args.heap) c.args.needed _ _ _ c.requires c.loop-at.invariant c.loop-at-test.true in
    rw f.link f.facts.whole

pub follow-at-requires-in-loop-at-clause-mapped : goal.follow-at-requires-in-loop-at-clause-mapped
follow-at-requires-in-loop-at-clause-mapped c =
    let f = met_facts c.args.map.now c.args.heap (end_at c.args.map.now c.args.heap) c.args.needed _ _ _ c.requires c.loop-at.invariant c.loop-at-test.true in
    rw f.link (heap_mapped c.args.map.now c.args.heap (end_at c.args.map.now c.args.heap) c.loop-at.at _ c.requires (omega (arith, f.facts.low)) (omega (arith, f.facts.high, f.facts.size)))

pub follow-at-requires-in-loop-at-clause-fits : goal.follow-at-requires-in-loop-at-clause-fits
follow-at-requires-in-loop-at-clause-fits c =
    let f = met_facts c.args.map.now c.args.heap (end_at c.args.map.now c.args.heap) c.args.needed _ _ _ c.requires c.loop-at.invariant c.loop-at-test.true in
    rw f.onward (omega (arith, f.facts.next_high))

pub loop-at-preserved : goal.loop-at-preserved
loop-at-preserved c =
    let f = met_facts c.args.map.now c.args.heap (end_at c.args.map.now c.args.heap) c.args.needed _ _ _ c.requires c.loop-at.invariant c.loop-at-test.true in
    let total : c.word-total.result ≡ f.met.total = c.word-total.ensures ∙ f.facts.total_word in
    rw (c.follow-at-in-loop-at.ensures ∙ f.onward)
    (search_passed c.args.heap _ c.args.needed _ _ _ f.met (omega (arith, total)))
