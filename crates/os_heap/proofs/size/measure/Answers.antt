use Rattle.std.proofs.Common.{◌∙◌, sym, arith}
use Rattle.os_heap_words.specs.Memory.{regions}
use Rattle.os_heap_words.specs.Outcomes.{end_at, items_at}
use Rattle.os_heap_words.proofs.Replace.{heap_mapped}
use Rattle.os_heap_words.proofs.Freeing.{block_facts}
use Rattle.os_heap_words.proofs.Refitted.{block_total}
use Rattle.os_heap.proofs.Sized.{unsized, sized_of}
use Rattle.os_heap.proofs.size.measure.Goals as goal

pub word-requires-clause-aligned : goal.word-requires-clause-aligned
word-requires-clause-aligned c =
    let g = rw c.in-Some.is at c.find_guest_block-walk.ensures.block in
    let b = g.here in
    let f = block_facts c.args.map.now c.args.heap (end_at c.args.map.now c.args.heap) c.args.block _ _ _ _ c.requires b in
    f.facts.whole

pub word-requires-clause-mapped : goal.word-requires-clause-mapped
word-requires-clause-mapped c =
    let g = rw c.in-Some.is at c.find_guest_block-walk.ensures.block in
    let b = g.here in
    let f = block_facts c.args.map.now c.args.heap (end_at c.args.map.now c.args.heap) c.args.block _ _ _ _ c.requires b in
    heap_mapped c.args.map.now c.args.heap (end_at c.args.map.now c.args.heap) _ _ c.requires (omega (arith, f.facts.low)) (omega (arith, f.facts.high, f.facts.size))

pub overflow_sub-result : goal.overflow_sub-result
overflow_sub-result c =
    let g = rw c.in-Some.is at c.find_guest_block-walk.ensures.block in
    let b = g.here in
    let f = block_facts c.args.map.now c.args.heap (end_at c.args.map.now c.args.heap) c.args.block _ _ _ _ c.requires b in
    let total = c.word.ensures ∙ f.facts.total_word in
    omega (arith, total, f.facts.size)

pub returns-in-Some-clause-answer : goal.returns-in-Some-clause-answer
returns-in-Some-clause-answer c =
    let g = rw c.in-Some.is at c.find_guest_block-walk.ensures.block in
    let b = g.here in
    let f = block_facts c.args.map.now c.args.heap (end_at c.args.map.now c.args.heap) c.args.block _ _ _ _ c.requires b in
    sized_of (regions c.args.map.now) c.args.heap c.args.block c.word.result _ (items_at c.args.map.now c.args.heap) g.own (block_total c.args.map.now c.args.heap (end_at c.args.map.now c.args.heap) c.args.block _ _ _ _ c.requires b)
    (c.word.ensures ∙ f.facts.total_word)

pub returns-in-None-clause-answer : goal.returns-in-None-clause-answer
returns-in-None-clause-answer c =
    let none = rw c.in-None.is at c.find_guest_block-walk.ensures.block in
    rw c.refused.ensures (sym (unsized (regions c.args.map.now) c.args.heap c.args.block (items_at c.args.map.now c.args.heap) none))
