use Rattle.std.proofs.Common.{◌+◌, ◌∙◌, arith}
use Rattle.os_heap_words.specs.Outcomes.{end_at}
use Rattle.os_heap_words.proofs.Replace.{heap_mapped}
use Rattle.os_heap_words.proofs.Linking.{link_next}
use Rattle.os_heap_words.proofs.by_links.pass_free.Goals as goal

pub overflow_add-free : goal.overflow_add-free
overflow_add-free c =
    let n = link_next c.args.map.now c.args.heap (end_at c.args.map.now c.args.heap) c.args.block _ _ _ _ _ c.requires.heap c.requires.walk c.requires.more c.requires.before in
    omega (arith, n.facts.high, n.facts.top, n.facts.size)

pub word-total-requires-clause-aligned : goal.word-total-requires-clause-aligned
word-total-requires-clause-aligned c =
    let n = link_next c.args.map.now c.args.heap (end_at c.args.map.now c.args.heap) c.args.block _ _ _ _ _ c.requires.heap c.requires.walk c.requires.more c.requires.before in
    omega (arith, n.facts.whole)

pub word-total-requires-clause-mapped : goal.word-total-requires-clause-mapped
word-total-requires-clause-mapped c =
    let n = link_next c.args.map.now c.args.heap (end_at c.args.map.now c.args.heap) c.args.block _ _ _ _ _ c.requires.heap c.requires.walk c.requires.more c.requires.before in
    heap_mapped c.args.map.now c.args.heap (end_at c.args.map.now c.args.heap) (c.args.cursor.now.free + 4) _ c.requires.heap (omega (arith, n.facts.low)) (omega (arith, n.facts.high, n.facts.size))

pub last_link-requires : goal.last_link-requires
last_link-requires c =
    let n = link_next c.args.map.now c.args.heap (end_at c.args.map.now c.args.heap) c.args.block _ _ _ _ _ c.requires.heap c.requires.walk c.requires.more c.requires.before in
    n.room

pub overflow_add-result : goal.overflow_add-result
overflow_add-result c =
    let n = link_next c.args.map.now c.args.heap (end_at c.args.map.now c.args.heap) c.args.block _ _ _ _ _ c.requires.heap c.requires.walk c.requires.more c.requires.before in
    let total = c.word-total.ensures ∙ n.facts.total_word in
    omega (arith, total, n.facts.high, n.facts.top)

pub follow-requires-clause-below : goal.follow-requires-clause-below
follow-requires-clause-below c =
    let n = link_next c.args.map.now c.args.heap (end_at c.args.map.now c.args.heap) c.args.block _ _ _ _ _ c.requires.heap c.requires.walk c.requires.more c.requires.before in
    omega (arith, n.facts.high, n.facts.top, n.facts.size)

pub follow-requires-clause-aligned : goal.follow-requires-clause-aligned
follow-requires-clause-aligned c =
    let n = link_next c.args.map.now c.args.heap (end_at c.args.map.now c.args.heap) c.args.block _ _ _ _ _ c.requires.heap c.requires.walk c.requires.more c.requires.before in
    rw n.link n.facts.whole

pub follow-requires-clause-mapped : goal.follow-requires-clause-mapped
follow-requires-clause-mapped c =
    let n = link_next c.args.map.now c.args.heap (end_at c.args.map.now c.args.heap) c.args.block _ _ _ _ _ c.requires.heap c.requires.walk c.requires.more c.requires.before in
    rw n.link (heap_mapped c.args.map.now c.args.heap (end_at c.args.map.now c.args.heap) c.args.cursor.now.free _ c.requires.heap (omega (arith, n.facts.low)) (omega (arith, n.facts.high, n.facts.size)))

pub follow-requires-clause-fits : goal.follow-requires-clause-fits
follow-requires-clause-fits c =
    let n = link_next c.args.map.now c.args.heap (end_at c.args.map.now c.args.heap) c.args.block _ _ _ _ _ c.requires.heap c.requires.walk c.requires.more c.requires.before in
    rw n.onward (omega (arith, n.facts.next_high))

pub overflow_add-result-2 : goal.overflow_add-result-2
overflow_add-result-2 c =
    let n = link_next c.args.map.now c.args.heap (end_at c.args.map.now c.args.heap) c.args.block _ _ _ _ _ c.requires.heap c.requires.walk c.requires.more c.requires.before in
    omega (arith, n.few)

pub returns-clause-walk : goal.returns-clause-walk
returns-clause-walk c =
    let n = link_next c.args.map.now c.args.heap (end_at c.args.map.now c.args.heap) c.args.block _ _ _ _ _ c.requires.heap c.requires.walk c.requires.more c.requires.before in
    let total = c.word-total.ensures ∙ n.facts.total_word in
    rw (c.last_link.ensures, total, c.follow.ensures ∙ n.onward) n.next

pub returns-clause-grows : goal.returns-clause-grows
returns-clause-grows c =
    let n = link_next c.args.map.now c.args.heap (end_at c.args.map.now c.args.heap) c.args.block _ _ _ _ _ c.requires.heap c.requires.walk c.requires.more c.requires.before in
    let total = c.word-total.ensures ∙ n.facts.total_word in
    omega (arith, total, n.grows, n.facts.size)
