use Rattle.std.proofs.Common.{◌∙◌, arith}
use Rattle.os_heap_words.specs.Outcomes.{end_at}
use Rattle.os_heap_words.proofs.Replace.{heap_below}
use Rattle.os_heap_words.proofs.Refitting.{place_facts}
use Rattle.os_heap_words.proofs.Refitted.{refits_same}
use Rattle.os_heap_words.proofs.refit.refit.Goals as goal

pub returns-then-needed-from : goal.returns-then-needed-from
returns-then-needed-from c =
    let f = place_facts c.args.map.now c.args.heap (end_at c.args.map.now c.args.heap) c.args.block c.args.cursor.now.from c.args.cursor.now.at c.args.cursor.now.free c.args.cursor.now.gap c.requires.place.heap c.requires.place.block in
    let own = c.own_total-total.ensures.word ∙ f.facts.total_word in
    refits_same c.args.map.now c.args.heap (end_at c.args.map.now c.args.heap) _ c.args.needed c.args.block c.args.cursor.now.from c.args.cursor.now.at c.args.cursor.now.free c.args.cursor.now.gap c.requires.place.heap c.requires.place.block (omega (arith, c.from.ensures, own))

pub overflow_add-heap-2 : goal.overflow_add-heap-2
overflow_add-heap-2 c =
    omega (arith, heap_below c.args.map.now c.args.heap (end_at c.args.map.now c.args.heap) _ c.requires.place.heap, c.requires.place.heap.inside, c.word.ensures, c.requires.place.heap.base)
