use Rattle.std.proofs.Common.{arith}
use Rattle.os_heap_words.specs.Outcomes.{end_at}
use Rattle.os_heap_words.proofs.Refitting.{place_facts}
use Rattle.os_heap_words.proofs.Replace.{heap_mapped}
use Rattle.os_heap_words.proofs.neighbour.own_total.Goals as goal

pub word-requires-clause-aligned : goal.word-requires-clause-aligned
word-requires-clause-aligned c =
    let f = place_facts c.args.map.now c.args.heap (end_at c.args.map.now c.args.heap) c.args.block c.args.cursor.now.from c.args.cursor.now.at c.args.cursor.now.free c.args.cursor.now.gap c.requires.heap c.requires.block in
    f.facts.whole

pub word-requires-clause-mapped : goal.word-requires-clause-mapped
word-requires-clause-mapped c =
    let f = place_facts c.args.map.now c.args.heap (end_at c.args.map.now c.args.heap) c.args.block c.args.cursor.now.from c.args.cursor.now.at c.args.cursor.now.free c.args.cursor.now.gap c.requires.heap c.requires.block in
    heap_mapped c.args.map.now c.args.heap (end_at c.args.map.now c.args.heap) _ _ c.requires.heap (omega (arith, f.facts.low)) (omega (arith, f.facts.high, f.facts.size))

pub returns-clause-inside : goal.returns-clause-inside
returns-clause-inside c =
    let f = place_facts c.args.map.now c.args.heap (end_at c.args.map.now c.args.heap) c.args.block c.args.cursor.now.from c.args.cursor.now.at c.args.cursor.now.free c.args.cursor.now.gap c.requires.heap c.requires.block in
    omega (arith, c.word.ensures, f.facts.total_word, f.facts.high)

pub returns-clause-below : goal.returns-clause-below
returns-clause-below c =
    let f = place_facts c.args.map.now c.args.heap (end_at c.args.map.now c.args.heap) c.args.block c.args.cursor.now.from c.args.cursor.now.at c.args.cursor.now.free c.args.cursor.now.gap c.requires.heap c.requires.block in
    omega (arith, c.word.ensures, f.facts.total_word, f.facts.high, f.facts.top)
