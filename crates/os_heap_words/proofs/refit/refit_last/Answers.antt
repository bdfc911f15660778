use Rattle.std.proofs.Common.{◌≡◌, ◌+◌, ◌∙◌, ap, sym, arith}
use Rattle.address_map.specs.Bytes.{word_at}
use Rattle.address_map.specs.Memory.{byte_at}
use Rattle.os_heap_words.specs.Outcomes.{end_at}
use Rattle.os_heap_words.proofs.Replace.{heap_below}
use Rattle.os_heap_words.proofs.Refitting.{place_facts}
use Rattle.os_heap_words.proofs.Refitted.{refits_last, refits_last-full}
use Rattle.os_heap_words.proofs.refit.refit_last.Goals as goal

pub overflow_add-end : goal.overflow_add-end
overflow_add-end c =
    omega (arith, heap_below c.args.map.now c.args.heap (end_at c.args.map.now c.args.heap) _ c.requires.place.heap, c.word.ensures)

pub put-requires-clause-aligned : goal.put-requires-clause-aligned
put-requires-clause-aligned c =
    let f = place_facts c.args.map.now c.args.heap (end_at c.args.map.now c.args.heap) c.args.block c.args.cursor.now.from c.args.cursor.now.at c.args.cursor.now.free c.args.cursor.now.gap c.requires.place.heap c.requires.place.block in
    f.facts.whole

pub overflow_add-cursor : goal.overflow_add-cursor
overflow_add-cursor c =
    let f = place_facts c.args.map.now c.args.heap (end_at c.args.map.now c.args.heap) c.args.block c.args.cursor.now.from c.args.cursor.now.at c.args.cursor.now.free c.args.cursor.now.gap c.requires.place.heap c.requires.place.block in
    omega (arith, f.facts.top, c.word.ensures)

pub returns-then-from-needed : goal.returns-then-from-needed
returns-then-from-needed c =
    let f = place_facts c.args.map.now c.args.heap (end_at c.args.map.now c.args.heap) c.args.block c.args.cursor.now.from c.args.cursor.now.at c.args.cursor.now.free c.args.cursor.now.gap c.requires.place.heap c.requires.place.block in
    let ends : c.args.cursor.now.at + c.requires.place.block.total ≡ c.args.heap + word_at (byte_at c.args.map.now) (c.args.heap + 8) =
    sym (ap (λ n. c.args.cursor.now.at + n) f.facts.total_word) ∙ c.requires.last in
    refits_last-full c.args.map.now c.args.heap (end_at c.args.map.now c.args.heap) c.args.needed c.args.block c.args.cursor.now.from c.args.cursor.now.at c.args.cursor.now.free c.args.cursor.now.gap c.requires.place.heap c.requires.place.block ends (omega (arith, c.word.ensures))

pub returns : goal.returns
returns c =
    let f = place_facts c.args.map.now c.args.heap (end_at c.args.map.now c.args.heap) c.args.block c.args.cursor.now.from c.args.cursor.now.at c.args.cursor.now.free c.args.cursor.now.gap c.requires.place.heap c.requires.place.block in
    let ends : c.args.cursor.now.at + c.requires.place.block.total ≡ c.args.heap + word_at (byte_at c.args.map.now) (c.args.heap + 8) =
    sym (ap (λ n. c.args.cursor.now.at + n) f.facts.total_word) ∙ c.requires.last in
    refits_last c.args.map.now _ c.args.heap (end_at c.args.map.now c.args.heap) c.args.needed c.args.block c.args.cursor.now.from c.args.cursor.now.at c.args.cursor.now.free c.args.cursor.now.gap _ c.requires.place.heap c.requires.place.block ends
    (c.put-2.ensures.kept.layout ∙ c.put.ensures.kept.layout) c.requires.needed.total (omega (arith, c.word.ensures)) c.put.ensures.word c.put-2.ensures.word (c.put-2.ensures.kept.marks ∙ c.put.ensures.kept.marks)
