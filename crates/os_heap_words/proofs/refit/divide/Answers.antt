use Rattle.std.proofs.Common.{◌+◌, arith, inl}
use Rattle.os_heap_words.specs.Outcomes.{end_at}
use Rattle.os_heap_words.specs.lists.Walks.{last_link}
use Rattle.os_heap_words.proofs.ListsLemmas.Reading.{total_facts}
use Rattle.os_heap_words.proofs.Replace.{heap_mapped}
use Rattle.os_heap_words.proofs.Refitting.{place_facts}
use Rattle.os_heap_words.proofs.ListsLemmas.Resizes.{divided_words}
use Rattle.os_heap_words.proofs.refit.divide.Goals as goal

pub last_link-from-requires : goal.last_link-from-requires
last_link-from-requires c =
    let f = place_facts c.args.map.now c.args.heap (end_at c.args.map.now c.args.heap) (c.args.cursor.now.at + 4) c.args.cursor.now.from c.args.cursor.now.at c.args.cursor.now.free c.args.cursor.now.gap c.requires.place.heap c.requires.place.block in
    f.gap_low

pub overflow_add-cursor : goal.overflow_add-cursor
overflow_add-cursor c =
    let f = place_facts c.args.map.now c.args.heap (end_at c.args.map.now c.args.heap) (c.args.cursor.now.at + 4) c.args.cursor.now.from c.args.cursor.now.at c.args.cursor.now.free c.args.cursor.now.gap c.requires.place.heap c.requires.place.block in
    omega (arith, f.facts.top, c.requires.room)

pub put_free-requires-clause-below : goal.put_free-requires-clause-below
put_free-requires-clause-below c =
    let f = place_facts c.args.map.now c.args.heap (end_at c.args.map.now c.args.heap) (c.args.cursor.now.at + 4) c.args.cursor.now.from c.args.cursor.now.at c.args.cursor.now.free c.args.cursor.now.gap c.requires.place.heap c.requires.place.block in
    rw c.last_link-from.ensures (omega (arith, f.last.below, f.facts.high, f.facts.top))

pub put_free-requires-clause-link_aligned : goal.put_free-requires-clause-link_aligned
put_free-requires-clause-link_aligned c =
    let f = place_facts c.args.map.now c.args.heap (end_at c.args.map.now c.args.heap) (c.args.cursor.now.at + 4) c.args.cursor.now.from c.args.cursor.now.at c.args.cursor.now.free c.args.cursor.now.gap c.requires.place.heap c.requires.place.block in
    rw c.last_link-from.ensures f.last.aligned

pub put_free-requires-clause-link_mapped : goal.put_free-requires-clause-link_mapped
put_free-requires-clause-link_mapped c =
    let f = place_facts c.args.map.now c.args.heap (end_at c.args.map.now c.args.heap) (c.args.cursor.now.at + 4) c.args.cursor.now.from c.args.cursor.now.at c.args.cursor.now.free c.args.cursor.now.gap c.requires.place.heap c.requires.place.block in
    rw c.last_link-from.ensures (heap_mapped c.args.map.now c.args.heap (end_at c.args.map.now c.args.heap) _ _ c.requires.place.heap (omega (arith, f.last.low)) (omega (arith, f.last.high, f.facts.high)))

pub put_free-requires-clause-aligned : goal.put_free-requires-clause-aligned
put_free-requires-clause-aligned c =
    let f = place_facts c.args.map.now c.args.heap (end_at c.args.map.now c.args.heap) (c.args.cursor.now.at + 4) c.args.cursor.now.from c.args.cursor.now.at c.args.cursor.now.free c.args.cursor.now.gap c.requires.place.heap c.requires.place.block in
    omega (arith, f.facts.whole, (total_facts c.args.total c.requires.total).1)

pub put_free-requires-clause-fits : goal.put_free-requires-clause-fits
put_free-requires-clause-fits c =
    let f = place_facts c.args.map.now c.args.heap (end_at c.args.map.now c.args.heap) (c.args.cursor.now.at + 4) c.args.cursor.now.from c.args.cursor.now.at c.args.cursor.now.free c.args.cursor.now.gap c.requires.place.heap c.requires.place.block in
    omega (arith, f.facts.top, c.requires.room)

pub put_free-requires-clause-apart : goal.put_free-requires-clause-apart
put_free-requires-clause-apart c =
    let f = place_facts c.args.map.now c.args.heap (end_at c.args.map.now c.args.heap) (c.args.cursor.now.at + 4) c.args.cursor.now.from c.args.cursor.now.at c.args.cursor.now.free c.args.cursor.now.gap c.requires.place.heap c.requires.place.block in
    rw c.last_link-from.ensures (inl (omega (arith, f.last.high)))

pub put-requires-clause-aligned : goal.put-requires-clause-aligned
put-requires-clause-aligned c =
    let f = place_facts c.args.map.now c.args.heap (end_at c.args.map.now c.args.heap) (c.args.cursor.now.at + 4) c.args.cursor.now.from c.args.cursor.now.at c.args.cursor.now.free c.args.cursor.now.gap c.requires.place.heap c.requires.place.block in
    f.facts.whole

pub returns-clause-words : goal.returns-clause-words
returns-clause-words c =
    let f = place_facts c.args.map.now c.args.heap (end_at c.args.map.now c.args.heap) (c.args.cursor.now.at + 4) c.args.cursor.now.from c.args.cursor.now.at c.args.cursor.now.free c.args.cursor.now.gap c.requires.place.heap c.requires.place.block in
    let one = rw c.last_link-from.ensures at c.put_free.ensures.words in
    divided_words _ _ _ c.args.heap (last_link c.args.cursor.now.from c.args.cursor.now.at c.args.cursor.now.gap) c.args.cursor.now.at c.args.total c.args.left c.args.next
    (inl f.last.high) one c.put.ensures.word (omega (arith, (total_facts c.args.total c.requires.total).0))
