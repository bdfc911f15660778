use Rattle.std.proofs.Common.{◌+◌, ◌∙◌, arith}
use Rattle.os_heap_words.specs.Outcomes.{end_at}
use Rattle.os_heap_words.proofs.Replace.{heap_mapped}
use Rattle.os_heap_words.proofs.Walking.{walk_free, walk_live, free_passed, live_passed}
use Rattle.os_heap_words.proofs.walk.pass.Goals as goal

pub word-total-requires-clause-aligned : goal.word-total-requires-clause-aligned
word-total-requires-clause-aligned c =
    let f = walk_free c.args.map.now c.args.heap (end_at c.args.map.now c.args.heap) c.args.block _ _ _ _ _ c.requires.heap c.requires.walk c.requires.more c.if-at-cursor.true in
    omega (arith, f.facts.whole)

pub word-total-requires-clause-mapped : goal.word-total-requires-clause-mapped
word-total-requires-clause-mapped c =
    let f = walk_free c.args.map.now c.args.heap (end_at c.args.map.now c.args.heap) c.args.block _ _ _ _ _ c.requires.heap c.requires.walk c.requires.more c.if-at-cursor.true in
    heap_mapped c.args.map.now c.args.heap (end_at c.args.map.now c.args.heap) (c.args.cursor.now.at + 4) _ c.requires.heap (omega (arith, f.facts.low)) (omega (arith, f.facts.high, f.facts.size))

pub follow-free-requires-clause-aligned : goal.follow-free-requires-clause-aligned
follow-free-requires-clause-aligned c =
    let f = walk_free c.args.map.now c.args.heap (end_at c.args.map.now c.args.heap) c.args.block _ _ _ _ _ c.requires.heap c.requires.walk c.requires.more c.if-at-cursor.true in
    rw f.link f.facts.whole

pub follow-free-requires-clause-mapped : goal.follow-free-requires-clause-mapped
follow-free-requires-clause-mapped c =
    let f = walk_free c.args.map.now c.args.heap (end_at c.args.map.now c.args.heap) c.args.block _ _ _ _ _ c.requires.heap c.requires.walk c.requires.more c.if-at-cursor.true in
    rw f.link (heap_mapped c.args.map.now c.args.heap (end_at c.args.map.now c.args.heap) c.args.cursor.now.at _ c.requires.heap (omega (arith, f.facts.low)) (omega (arith, f.facts.high, f.facts.size)))

pub follow-free-requires-clause-fits : goal.follow-free-requires-clause-fits
follow-free-requires-clause-fits c =
    let f = walk_free c.args.map.now c.args.heap (end_at c.args.map.now c.args.heap) c.args.block _ _ _ _ _ c.requires.heap c.requires.walk c.requires.more c.if-at-cursor.true in
    rw f.onward (omega (arith, f.facts.next_high))

pub overflow_add-result : goal.overflow_add-result
overflow_add-result c =
    let f = walk_free c.args.map.now c.args.heap (end_at c.args.map.now c.args.heap) c.args.block _ _ _ _ _ c.requires.heap c.requires.walk c.requires.more c.if-at-cursor.true in
    let total = c.word-total.ensures ∙ f.facts.total_word in
    omega (arith, total, f.facts.high, f.facts.top)

pub overflow_add-result-then-at-cursor : goal.overflow_add-result-then-at-cursor
overflow_add-result-then-at-cursor c =
    let f = walk_free c.args.map.now c.args.heap (end_at c.args.map.now c.args.heap) c.args.block _ _ _ _ _ c.requires.heap c.requires.walk c.requires.more c.if-at-cursor.true in
    omega (arith, f.walk.count, f.few)

pub returns-then-at-cursor-clause-walk : goal.returns-then-at-cursor-clause-walk
returns-then-at-cursor-clause-walk c =
    let f = walk_free c.args.map.now c.args.heap (end_at c.args.map.now c.args.heap) c.args.block _ _ _ _ _ c.requires.heap c.requires.walk c.requires.more c.if-at-cursor.true in
    let total = c.word-total.ensures ∙ f.facts.total_word in
    rw (total, c.follow-free.ensures ∙ f.onward) (free_passed c.args.map.now c.args.heap (end_at c.args.map.now c.args.heap) c.args.block _ _ _ _ _ c.requires.heap f (omega (arith, c.requires.before)))

pub returns-then-at-cursor-clause-grows : goal.returns-then-at-cursor-clause-grows
returns-then-at-cursor-clause-grows c =
    let f = walk_free c.args.map.now c.args.heap (end_at c.args.map.now c.args.heap) c.args.block _ _ _ _ _ c.requires.heap c.requires.walk c.requires.more c.if-at-cursor.true in
    let total = c.word-total.ensures ∙ f.facts.total_word in
    omega (arith, total, f.facts.size)

pub word-total-requires-2-clause-aligned : goal.word-total-requires-2-clause-aligned
word-total-requires-2-clause-aligned c =
    let f = walk_live c.args.map.now c.args.heap (end_at c.args.map.now c.args.heap) c.args.block _ _ _ _ _ c.requires.heap c.requires.walk c.requires.more c.if-at-cursor.false in
    f.facts.whole

pub word-total-requires-2-clause-mapped : goal.word-total-requires-2-clause-mapped
word-total-requires-2-clause-mapped c =
    let f = walk_live c.args.map.now c.args.heap (end_at c.args.map.now c.args.heap) c.args.block _ _ _ _ _ c.requires.heap c.requires.walk c.requires.more c.if-at-cursor.false in
    heap_mapped c.args.map.now c.args.heap (end_at c.args.map.now c.args.heap) c.args.cursor.now.at _ c.requires.heap (omega (arith, f.facts.low)) (omega (arith, f.facts.high, f.facts.size))

pub last_link-from-requires : goal.last_link-from-requires
last_link-from-requires c =
    let f = walk_live c.args.map.now c.args.heap (end_at c.args.map.now c.args.heap) c.args.block _ _ _ _ _ c.requires.heap c.requires.walk c.requires.more c.if-at-cursor.false in
    omega (arith, f.room)

pub overflow_add-result-2 : goal.overflow_add-result-2
overflow_add-result-2 c =
    let f = walk_live c.args.map.now c.args.heap (end_at c.args.map.now c.args.heap) c.args.block _ _ _ _ _ c.requires.heap c.requires.walk c.requires.more c.if-at-cursor.false in
    let total = c.word-total-2.ensures ∙ f.facts.total_word in
    omega (arith, total, f.facts.high, f.facts.top)

pub overflow_add-result-3 : goal.overflow_add-result-3
overflow_add-result-3 c =
    let f = walk_live c.args.map.now c.args.heap (end_at c.args.map.now c.args.heap) c.args.block _ _ _ _ _ c.requires.heap c.requires.walk c.requires.more c.if-at-cursor.false in
    omega (arith, f.walk.count, f.few)

pub returns-clause-walk : goal.returns-clause-walk
returns-clause-walk c =
    let f = walk_live c.args.map.now c.args.heap (end_at c.args.map.now c.args.heap) c.args.block _ _ _ _ _ c.requires.heap c.requires.walk c.requires.more c.if-at-cursor.false in
    let total = c.word-total-2.ensures ∙ f.facts.total_word in
    rw (c.last_link-from.ensures, total) (live_passed c.args.map.now c.args.heap (end_at c.args.map.now c.args.heap) c.args.block _ _ _ _ _ f (omega (arith, c.requires.before)))

pub returns-clause-grows : goal.returns-clause-grows
returns-clause-grows c =
    let f = walk_live c.args.map.now c.args.heap (end_at c.args.map.now c.args.heap) c.args.block _ _ _ _ _ c.requires.heap c.requires.walk c.requires.more c.if-at-cursor.false in
    let total = c.word-total-2.ensures ∙ f.facts.total_word in
    omega (arith, total, f.facts.size)
