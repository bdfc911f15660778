use Rattle.std.proofs.Common.{◌≡◌, ◌+◌, ◌∙◌, ap, sym, arith}
use Rattle.os_heap_words.specs.Outcomes.{end_at}
use Rattle.os_heap_words.proofs.Freeing.{next_free_facts}
use Rattle.os_heap_words.proofs.Refitting.{place_facts}
use Rattle.os_heap_words.proofs.Replace.{heap_mapped}
use Rattle.os_heap_words.proofs.neighbour.free_behind.Goals as goal

pub overflow_add-cursor : goal.overflow_add-cursor
overflow_add-cursor c =
    let f = place_facts c.args.map.now c.args.heap (end_at c.args.map.now c.args.heap) c.args.block c.args.cursor.now.from c.args.cursor.now.at c.args.cursor.now.free c.args.cursor.now.gap c.requires.place.heap c.requires.place.block in
    let here : c.args.cursor.now.at + c.requires.place.block.total ≡ c.args.cursor.now.free =
    sym (ap (λ n. c.args.cursor.now.at + n) f.facts.total_word) ∙ c.requires.here in
    let k = next_free_facts c.args.map.now c.args.heap (end_at c.args.map.now c.args.heap) c.args.block c.args.cursor.now.from c.args.cursor.now.at c.args.cursor.now.free c.args.cursor.now.gap c.requires.place.heap c.requires.place.block here in
    omega (arith, here, k.facts.high, k.facts.top, k.facts.size)

pub word-total-requires-clause-aligned : goal.word-total-requires-clause-aligned
word-total-requires-clause-aligned c =
    let f = place_facts c.args.map.now c.args.heap (end_at c.args.map.now c.args.heap) c.args.block c.args.cursor.now.from c.args.cursor.now.at c.args.cursor.now.free c.args.cursor.now.gap c.requires.place.heap c.requires.place.block in
    let here : c.args.cursor.now.at + c.requires.place.block.total ≡ c.args.cursor.now.free =
    sym (ap (λ n. c.args.cursor.now.at + n) f.facts.total_word) ∙ c.requires.here in
    let k = next_free_facts c.args.map.now c.args.heap (end_at c.args.map.now c.args.heap) c.args.block c.args.cursor.now.from c.args.cursor.now.at c.args.cursor.now.free c.args.cursor.now.gap c.requires.place.heap c.requires.place.block here in
    omega (arith, here, k.facts.whole)

pub word-total-requires-clause-mapped : goal.word-total-requires-clause-mapped
word-total-requires-clause-mapped c =
    let f = place_facts c.args.map.now c.args.heap (end_at c.args.map.now c.args.heap) c.args.block c.args.cursor.now.from c.args.cursor.now.at c.args.cursor.now.free c.args.cursor.now.gap c.requires.place.heap c.requires.place.block in
    let here : c.args.cursor.now.at + c.requires.place.block.total ≡ c.args.cursor.now.free =
    sym (ap (λ n. c.args.cursor.now.at + n) f.facts.total_word) ∙ c.requires.here in
    let k = next_free_facts c.args.map.now c.args.heap (end_at c.args.map.now c.args.heap) c.args.block c.args.cursor.now.from c.args.cursor.now.at c.args.cursor.now.free c.args.cursor.now.gap c.requires.place.heap c.requires.place.block here in
    rw (sym here) (heap_mapped c.args.map.now c.args.heap (end_at c.args.map.now c.args.heap) _ _ c.requires.place.heap (omega (arith, k.facts.low)) (omega (arith, k.facts.high, k.facts.size)))

pub follow-next-requires-clause-below : goal.follow-next-requires-clause-below
follow-next-requires-clause-below c =
    let f = place_facts c.args.map.now c.args.heap (end_at c.args.map.now c.args.heap) c.args.block c.args.cursor.now.from c.args.cursor.now.at c.args.cursor.now.free c.args.cursor.now.gap c.requires.place.heap c.requires.place.block in
    let here : c.args.cursor.now.at + c.requires.place.block.total ≡ c.args.cursor.now.free =
    sym (ap (λ n. c.args.cursor.now.at + n) f.facts.total_word) ∙ c.requires.here in
    let k = next_free_facts c.args.map.now c.args.heap (end_at c.args.map.now c.args.heap) c.args.block c.args.cursor.now.from c.args.cursor.now.at c.args.cursor.now.free c.args.cursor.now.gap c.requires.place.heap c.requires.place.block here in
    omega (arith, here, k.facts.high, k.facts.top, k.facts.size)

pub follow-next-requires-clause-aligned : goal.follow-next-requires-clause-aligned
follow-next-requires-clause-aligned c =
    let f = place_facts c.args.map.now c.args.heap (end_at c.args.map.now c.args.heap) c.args.block c.args.cursor.now.from c.args.cursor.now.at c.args.cursor.now.free c.args.cursor.now.gap c.requires.place.heap c.requires.place.block in
    let here : c.args.cursor.now.at + c.requires.place.block.total ≡ c.args.cursor.now.free =
    sym (ap (λ n. c.args.cursor.now.at + n) f.facts.total_word) ∙ c.requires.here in
    let k = next_free_facts c.args.map.now c.args.heap (end_at c.args.map.now c.args.heap) c.args.block c.args.cursor.now.from c.args.cursor.now.at c.args.cursor.now.free c.args.cursor.now.gap c.requires.place.heap c.requires.place.block here in
    rw (sym here, k.link) k.facts.whole

pub follow-next-requires-clause-mapped : goal.follow-next-requires-clause-mapped
follow-next-requires-clause-mapped c =
    let f = place_facts c.args.map.now c.args.heap (end_at c.args.map.now c.args.heap) c.args.block c.args.cursor.now.from c.args.cursor.now.at c.args.cursor.now.free c.args.cursor.now.gap c.requires.place.heap c.requires.place.block in
    let here : c.args.cursor.now.at + c.requires.place.block.total ≡ c.args.cursor.now.free =
    sym (ap (λ n. c.args.cursor.now.at + n) f.facts.total_word) ∙ c.requires.here in
    let k = next_free_facts c.args.map.now c.args.heap (end_at c.args.map.now c.args.heap) c.args.block c.args.cursor.now.from c.args.cursor.now.at c.args.cursor.now.free c.args.cursor.now.gap c.requires.place.heap c.requires.place.block here in
    rw (sym here, k.link) (heap_mapped c.args.map.now c.args.heap (end_at c.args.map.now c.args.heap) _ _ c.requires.place.heap (omega (arith, k.facts.low)) (omega (arith, k.facts.high, k.facts.size)))

pub follow-next-requires-clause-fits : goal.follow-next-requires-clause-fits
follow-next-requires-clause-fits c =
    let f = place_facts c.args.map.now c.args.heap (end_at c.args.map.now c.args.heap) c.args.block c.args.cursor.now.from c.args.cursor.now.at c.args.cursor.now.free c.args.cursor.now.gap c.requires.place.heap c.requires.place.block in
    let here : c.args.cursor.now.at + c.requires.place.block.total ≡ c.args.cursor.now.free =
    sym (ap (λ n. c.args.cursor.now.at + n) f.facts.total_word) ∙ c.requires.here in
    let k = next_free_facts c.args.map.now c.args.heap (end_at c.args.map.now c.args.heap) c.args.block c.args.cursor.now.from c.args.cursor.now.at c.args.cursor.now.free c.args.cursor.now.gap c.requires.place.heap c.requires.place.block here in
    rw (sym here, k.onward) (omega (arith, k.facts.next_high))

pub returns-clause-inside : goal.returns-clause-inside
returns-clause-inside c =
    let f = place_facts c.args.map.now c.args.heap (end_at c.args.map.now c.args.heap) c.args.block c.args.cursor.now.from c.args.cursor.now.at c.args.cursor.now.free c.args.cursor.now.gap c.requires.place.heap c.requires.place.block in
    let here : c.args.cursor.now.at + c.requires.place.block.total ≡ c.args.cursor.now.free =
    sym (ap (λ n. c.args.cursor.now.at + n) f.facts.total_word) ∙ c.requires.here in
    let k = next_free_facts c.args.map.now c.args.heap (end_at c.args.map.now c.args.heap) c.args.block c.args.cursor.now.from c.args.cursor.now.at c.args.cursor.now.free c.args.cursor.now.gap c.requires.place.heap c.requires.place.block here in
    omega (arith, here, rw (sym here) at c.word-total.ensures, k.facts.total_word, k.facts.high)

pub returns-clause-below : goal.returns-clause-below
returns-clause-below c =
    let f = place_facts c.args.map.now c.args.heap (end_at c.args.map.now c.args.heap) c.args.block c.args.cursor.now.from c.args.cursor.now.at c.args.cursor.now.free c.args.cursor.now.gap c.requires.place.heap c.requires.place.block in
    let here : c.args.cursor.now.at + c.requires.place.block.total ≡ c.args.cursor.now.free =
    sym (ap (λ n. c.args.cursor.now.at + n) f.facts.total_word) ∙ c.requires.here in
    let k = next_free_facts c.args.map.now c.args.heap (end_at c.args.map.now c.args.heap) c.args.block c.args.cursor.now.from c.args.cursor.now.at c.args.cursor.now.free c.args.cursor.now.gap c.requires.place.heap c.requires.place.block here in
    omega (arith, here, rw (sym here) at c.word-total.ensures, k.facts.total_word, k.facts.high, k.facts.top)
