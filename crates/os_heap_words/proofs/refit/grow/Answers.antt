use Rattle.std.proofs.Common.{[], ◌∷◌, ◌≡◌, ◌≢◌, ◌+◌, ◌-◌, ◌<◌, ◌≤◌, ◌∙◌, ap, sym, arith}
use Rattle.address_map.specs.Bytes.{word_at}
use Rattle.address_map.specs.Memory.{byte_at, class_of}
use Rattle.os_heap_words.specs.Outcomes.{end_at}
use Rattle.os_heap_words.proofs.ListsLemmas.Reading.{total_facts}
use Rattle.address_map.specs.declared.item.Item.TheVariants.{Free, Live}
use Rattle.os_heap_words.proofs.ListsLemmas.Spelling.{total_of-numbers}
use Rattle.os_heap_words.proofs.Marking.{can_stand, still_written, still_divided, remarks_after}
use Rattle.os_heap_words.proofs.Replace.{heap_mapped}
use Rattle.os_heap_words.proofs.Writing.{still_mapped}
use Rattle.os_heap_words.proofs.Freeing.{next_free_facts}
use Rattle.os_heap_words.proofs.Refitting.{place_facts}
use Rattle.os_heap_words.proofs.Refitted.{refits_part, refits_whole, refits_full, refits_blocked}
use Rattle.os_heap_words.proofs.refit.grow.Goals as goal

pub free_behind-item-requires-clause-here : goal.free_behind-item-requires-clause-here
free_behind-item-requires-clause-here c = sym (ap (λ n. c.args.cursor.now.at + n) c.own_total-total.ensures.word) ∙ c.if-behind-cursor.false

pub overflow_add-room : goal.overflow_add-room
overflow_add-room c =
    let f = place_facts c.args.map.now c.args.heap (end_at c.args.map.now c.args.heap) c.args.block c.args.cursor.now.from c.args.cursor.now.at c.args.cursor.now.free c.args.cursor.now.gap c.requires.place.heap c.requires.place.block in
    let own = c.own_total-total.ensures.word ∙ f.facts.total_word in
    let here : c.args.cursor.now.at + c.requires.place.block.total ≡ c.args.cursor.now.free = sym (ap (λ n. c.args.cursor.now.at + n) own) ∙ c.if-behind-cursor.false in
    let k = next_free_facts c.args.map.now c.args.heap (end_at c.args.map.now c.args.heap) c.args.block c.args.cursor.now.from c.args.cursor.now.at c.args.cursor.now.free c.args.cursor.now.gap c.requires.place.heap c.requires.place.block here in
    let other = rw (sym here) at c.free_behind-item.ensures.total in
    let sum = other ∙ k.facts.total_word in
    omega (arith, own, sum, k.facts.high, k.facts.top)

pub returns-then-behind-cursor : goal.returns-then-behind-cursor
returns-then-behind-cursor c =
    let f = place_facts c.args.map.now c.args.heap (end_at c.args.map.now c.args.heap) c.args.block c.args.cursor.now.from c.args.cursor.now.at c.args.cursor.now.free c.args.cursor.now.gap c.requires.place.heap c.requires.place.block in
    let own = c.own_total-total.ensures.word ∙ f.facts.total_word in
    let larger : c.requires.place.block.total < c.args.needed = rw f.facts.total_word at c.requires.larger in
    let inside : c.args.cursor.now.at + c.requires.place.block.total ≢ c.args.heap + word_at (byte_at c.args.map.now) (c.args.heap + 8) =
    λ e. c.requires.inside (ap (λ n. c.args.cursor.now.at + n) f.facts.total_word ∙ e) in
    let other : c.args.cursor.now.at + c.requires.place.block.total ≢ c.args.cursor.now.free = λ e. c.if-behind-cursor.true (ap (λ n. c.args.cursor.now.at + n) own ∙ e) in
    refits_blocked c.args.map.now c.args.heap (end_at c.args.map.now c.args.heap) _ c.args.needed c.args.block c.args.cursor.now.from c.args.cursor.now.at c.args.cursor.now.free c.args.cursor.now.gap c.requires.place.heap c.requires.place.block inside other larger

pub returns-then-needed-from : goal.returns-then-needed-from
returns-then-needed-from c =
    let f = place_facts c.args.map.now c.args.heap (end_at c.args.map.now c.args.heap) c.args.block c.args.cursor.now.from c.args.cursor.now.at c.args.cursor.now.free c.args.cursor.now.gap c.requires.place.heap c.requires.place.block in
    let own = c.own_total-total.ensures.word ∙ f.facts.total_word in
    let here : c.args.cursor.now.at + c.requires.place.block.total ≡ c.args.cursor.now.free = sym (ap (λ n. c.args.cursor.now.at + n) own) ∙ c.if-behind-cursor.false in
    let k = next_free_facts c.args.map.now c.args.heap (end_at c.args.map.now c.args.heap) c.args.block c.args.cursor.now.from c.args.cursor.now.at c.args.cursor.now.free c.args.cursor.now.gap c.requires.place.heap c.requires.place.block here in
    let other = rw (sym here) at c.free_behind-item.ensures.total in
    let sum = other ∙ k.facts.total_word in
    refits_full c.args.map.now c.args.heap (end_at c.args.map.now c.args.heap) _ c.args.needed c.args.block c.args.cursor.now.from c.args.cursor.now.at c.args.cursor.now.free c.args.cursor.now.gap c.requires.place.heap c.requires.place.block k (omega (arith, own, sum))

pub overflow_cast-grown : goal.overflow_cast-grown
overflow_cast-grown c =
    let f = place_facts c.args.map.now c.args.heap (end_at c.args.map.now c.args.heap) c.args.block c.args.cursor.now.from c.args.cursor.now.at c.args.cursor.now.free c.args.cursor.now.gap c.requires.place.heap c.requires.place.block in
    let own = c.own_total-total.ensures.word ∙ f.facts.total_word in
    let here : c.args.cursor.now.at + c.requires.place.block.total ≡ c.args.cursor.now.free = sym (ap (λ n. c.args.cursor.now.at + n) own) ∙ c.if-behind-cursor.false in
    let k = next_free_facts c.args.map.now c.args.heap (end_at c.args.map.now c.args.heap) c.args.block c.args.cursor.now.from c.args.cursor.now.at c.args.cursor.now.free c.args.cursor.now.gap c.requires.place.heap c.requires.place.block here in
    let other = rw (sym here) at c.free_behind-item.ensures.total in
    let sum = other ∙ k.facts.total_word in
    omega (arith, own, sum, k.facts.high, k.facts.top)

pub last_link-from-requires : goal.last_link-from-requires
last_link-from-requires c =
    let f = place_facts c.args.map.now c.args.heap (end_at c.args.map.now c.args.heap) c.args.block c.args.cursor.now.from c.args.cursor.now.at c.args.cursor.now.free c.args.cursor.now.gap c.requires.place.heap c.requires.place.block in
    f.gap_low

pub put_link-requires-clause-below : goal.put_link-requires-clause-below
put_link-requires-clause-below c =
    let f = place_facts c.args.map.now c.args.heap (end_at c.args.map.now c.args.heap) c.args.block c.args.cursor.now.from c.args.cursor.now.at c.args.cursor.now.free c.args.cursor.now.gap c.requires.place.heap c.requires.place.block in
    rw c.last_link-from.ensures (omega (arith, f.last.below, f.facts.high, f.facts.top))

pub put_link-requires-clause-aligned : goal.put_link-requires-clause-aligned
put_link-requires-clause-aligned c =
    let f = place_facts c.args.map.now c.args.heap (end_at c.args.map.now c.args.heap) c.args.block c.args.cursor.now.from c.args.cursor.now.at c.args.cursor.now.free c.args.cursor.now.gap c.requires.place.heap c.requires.place.block in
    rw c.last_link-from.ensures f.last.aligned

pub put_link-requires-clause-mapped : goal.put_link-requires-clause-mapped
put_link-requires-clause-mapped c =
    let f = place_facts c.args.map.now c.args.heap (end_at c.args.map.now c.args.heap) c.args.block c.args.cursor.now.from c.args.cursor.now.at c.args.cursor.now.free c.args.cursor.now.gap c.requires.place.heap c.requires.place.block in
    rw c.last_link-from.ensures (heap_mapped c.args.map.now c.args.heap (end_at c.args.map.now c.args.heap) _ _ c.requires.place.heap (omega (arith, f.last.low)) (omega (arith, f.last.high, f.facts.high)))

pub put-requires-clause-aligned : goal.put-requires-clause-aligned
put-requires-clause-aligned c =
    let f = place_facts c.args.map.now c.args.heap (end_at c.args.map.now c.args.heap) c.args.block c.args.cursor.now.from c.args.cursor.now.at c.args.cursor.now.free c.args.cursor.now.gap c.requires.place.heap c.requires.place.block in
    f.facts.whole

pub put-requires-clause-mapped : goal.put-requires-clause-mapped
put-requires-clause-mapped c =
    let f = place_facts c.args.map.now c.args.heap (end_at c.args.map.now c.args.heap) c.args.block c.args.cursor.now.from c.args.cursor.now.at c.args.cursor.now.free c.args.cursor.now.gap c.requires.place.heap c.requires.place.block in
    still_mapped _ _ _ c.put_link.ensures.kept.layout (heap_mapped c.args.map.now c.args.heap (end_at c.args.map.now c.args.heap) _ _ c.requires.place.heap (omega (arith, f.facts.low)) (omega (arith, f.facts.high, f.facts.size)))

pub remark-requires-clause-olds : goal.remark-requires-clause-olds
remark-requires-clause-olds c =
    let f = place_facts c.args.map.now c.args.heap (end_at c.args.map.now c.args.heap) c.args.block c.args.cursor.now.from c.args.cursor.now.at c.args.cursor.now.free c.args.cursor.now.gap c.requires.place.heap c.requires.place.block in
    let own = c.own_total-total.ensures.word ∙ f.facts.total_word in
    let here : c.args.cursor.now.at + c.requires.place.block.total ≡ c.args.cursor.now.free = sym (ap (λ n. c.args.cursor.now.at + n) own) ∙ c.if-behind-cursor.false in
    let k = next_free_facts c.args.map.now c.args.heap (end_at c.args.map.now c.args.heap) c.args.block c.args.cursor.now.from c.args.cursor.now.at c.args.cursor.now.free c.args.cursor.now.gap c.requires.place.heap c.requires.place.block here in
    let other = rw (sym here) at c.free_behind-item.ensures.total in
    let sum = other ∙ k.facts.total_word in
    can_stand c.args.map.now c.put.new.map c.args.heap (end_at c.args.map.now c.args.heap) c.args.cursor.now.at _ (Live c.own_total-total.result ∷ (Free c.free_behind-item.result.total ∷ [])) c.requires.place.heap (c.put.ensures.kept.layout ∙ c.put_link.ensures.kept.layout) (
      total_of-numbers c.own_total-total.result (omega (arith, own, f.facts.size)) (omega (arith, own, f.facts.eighths)),
      (total_of-numbers c.free_behind-item.result.total (omega (arith, sum, k.facts.size)) (omega (arith, sum, k.facts.eighths)), tt),
    ) f.facts.whole (omega (arith, f.facts.low)) (omega (arith, own, sum, k.facts.high))

pub remark-requires-clause-news : goal.remark-requires-clause-news
remark-requires-clause-news c =
    let f = place_facts c.args.map.now c.args.heap (end_at c.args.map.now c.args.heap) c.args.block c.args.cursor.now.from c.args.cursor.now.at c.args.cursor.now.free c.args.cursor.now.gap c.requires.place.heap c.requires.place.block in
    let own = c.own_total-total.ensures.word ∙ f.facts.total_word in
    let here : c.args.cursor.now.at + c.requires.place.block.total ≡ c.args.cursor.now.free = sym (ap (λ n. c.args.cursor.now.at + n) own) ∙ c.if-behind-cursor.false in
    let k = next_free_facts c.args.map.now c.args.heap (end_at c.args.map.now c.args.heap) c.args.block c.args.cursor.now.from c.args.cursor.now.at c.args.cursor.now.free c.args.cursor.now.gap c.requires.place.heap c.requires.place.block here in
    let other = rw (sym here) at c.free_behind-item.ensures.total in
    let sum = other ∙ k.facts.total_word in
    can_stand c.args.map.now c.put.new.map c.args.heap (end_at c.args.map.now c.args.heap) c.args.cursor.now.at _ (Live c.args.needed ∷ []) c.requires.place.heap (c.put.ensures.kept.layout ∙ c.put_link.ensures.kept.layout)
    (c.requires.total, tt) f.facts.whole (omega (arith, f.facts.low)) (omega (arith, own, sum, k.facts.high, c.if-needed-from.false))

pub remark-requires-2-clause-olds : goal.remark-requires-2-clause-olds
remark-requires-2-clause-olds c =
    let f = place_facts c.args.map.now c.args.heap (end_at c.args.map.now c.args.heap) c.args.block c.args.cursor.now.from c.args.cursor.now.at c.args.cursor.now.free c.args.cursor.now.gap c.requires.place.heap c.requires.place.block in
    let own = c.own_total-total.ensures.word ∙ f.facts.total_word in
    let here : c.args.cursor.now.at + c.requires.place.block.total ≡ c.args.cursor.now.free = sym (ap (λ n. c.args.cursor.now.at + n) own) ∙ c.if-behind-cursor.false in
    let k = next_free_facts c.args.map.now c.args.heap (end_at c.args.map.now c.args.heap) c.args.block c.args.cursor.now.from c.args.cursor.now.at c.args.cursor.now.free c.args.cursor.now.gap c.requires.place.heap c.requires.place.block here in
    let other = rw (sym here) at c.free_behind-item.ensures.total in
    let sum = other ∙ k.facts.total_word in
    can_stand c.args.map.now c.divide.new.map c.args.heap (end_at c.args.map.now c.args.heap) c.args.cursor.now.at _ (Live c.own_total-total.result ∷ (Free c.free_behind-item.result.total ∷ [])) c.requires.place.heap c.divide.ensures.kept.layout (
      total_of-numbers c.own_total-total.result (omega (arith, own, f.facts.size)) (omega (arith, own, f.facts.eighths)),
      (total_of-numbers c.free_behind-item.result.total (omega (arith, sum, k.facts.size)) (omega (arith, sum, k.facts.eighths)), tt),
    ) f.facts.whole (omega (arith, f.facts.low)) (omega (arith, own, sum, k.facts.high))

pub remark-requires-2-clause-news : goal.remark-requires-2-clause-news
remark-requires-2-clause-news c =
    let f = place_facts c.args.map.now c.args.heap (end_at c.args.map.now c.args.heap) c.args.block c.args.cursor.now.from c.args.cursor.now.at c.args.cursor.now.free c.args.cursor.now.gap c.requires.place.heap c.requires.place.block in
    let own = c.own_total-total.ensures.word ∙ f.facts.total_word in
    let here : c.args.cursor.now.at + c.requires.place.block.total ≡ c.args.cursor.now.free = sym (ap (λ n. c.args.cursor.now.at + n) own) ∙ c.if-behind-cursor.false in
    let k = next_free_facts c.args.map.now c.args.heap (end_at c.args.map.now c.args.heap) c.args.block c.args.cursor.now.from c.args.cursor.now.at c.args.cursor.now.free c.args.cursor.now.gap c.requires.place.heap c.requires.place.block here in
    let other = rw (sym here) at c.free_behind-item.ensures.total in
    let sum = other ∙ k.facts.total_word in
    let n = total_facts c.args.needed c.requires.total in
    can_stand c.args.map.now c.divide.new.map c.args.heap (end_at c.args.map.now c.args.heap) c.args.cursor.now.at _ (Live c.args.needed ∷ (Free (c.own_total-total.result + c.free_behind-item.result.total - c.args.needed) ∷ [])) c.requires.place.heap c.divide.ensures.kept.layout (
      c.requires.total,
      (
        total_of-numbers (c.own_total-total.result + c.free_behind-item.result.total - c.args.needed) (omega (arith, own, sum, n.1, f.facts.eighths, k.facts.eighths, c.if-left-eq0.false))
            (omega (arith, own, sum, n.1, f.facts.eighths, k.facts.eighths)),
        tt,
      ),
    ) f.facts.whole (omega (arith, f.facts.low)) (omega (arith, own, sum, k.facts.high))

pub returns-then-left-eq0 : goal.returns-then-left-eq0
returns-then-left-eq0 c =
    let f = place_facts c.args.map.now c.args.heap (end_at c.args.map.now c.args.heap) c.args.block c.args.cursor.now.from c.args.cursor.now.at c.args.cursor.now.free c.args.cursor.now.gap c.requires.place.heap c.requires.place.block in
    let own = c.own_total-total.ensures.word ∙ f.facts.total_word in
    let here : c.args.cursor.now.at + c.requires.place.block.total ≡ c.args.cursor.now.free = sym (ap (λ n. c.args.cursor.now.at + n) own) ∙ c.if-behind-cursor.false in
    let k = next_free_facts c.args.map.now c.args.heap (end_at c.args.map.now c.args.heap) c.args.block c.args.cursor.now.from c.args.cursor.now.at c.args.cursor.now.free c.args.cursor.now.gap c.requires.place.heap c.requires.place.block here in
    let other = rw (sym here) at c.free_behind-item.ensures.total in
    let sum = other ∙ k.facts.total_word in
    let larger : c.requires.place.block.total < c.args.needed = rw f.facts.total_word at c.requires.larger in
    let fits : c.args.needed ≤ c.requires.place.block.total + k.total = omega (arith, own, sum) in
    let next = rw (sym here) at c.free_behind-item.ensures.next in
    let none : c.requires.place.block.total + k.total - c.args.needed ≡ 0 = omega (arith, own, sum) in
    let one = rw c.last_link-from.ensures at c.put_link.ensures.word in
    refits_whole c.args.map.now _ c.args.heap (end_at c.args.map.now c.args.heap) _ c.args.needed c.free_behind-item.result.next c.args.block c.args.cursor.now.from c.args.cursor.now.at c.args.cursor.now.free c.args.cursor.now.gap _ c.requires.place.heap c.requires.place.block k
    (c.remark.ensures.layout ∙ c.put.ensures.kept.layout ∙ c.put_link.ensures.kept.layout) c.requires.total larger fits none (next ∙ k.onward) one
    (still_written _ _ _ _ _ c.remark.ensures.bytes c.put.ensures.word)
    (rw own at (remarks_after (class_of c.args.map.now) (class_of c.put.new.map) (class_of c.remark.new.map) c.args.cursor.now.at (Live c.own_total-total.result ∷ (Free c.free_behind-item.result.total ∷ [])) (Live c.args.needed ∷ [])
    (c.put.ensures.kept.marks ∙ c.put_link.ensures.kept.marks) c.remark.ensures.marks))

pub divide-requires-clause-room : goal.divide-requires-clause-room
divide-requires-clause-room c =
    let f = place_facts c.args.map.now c.args.heap (end_at c.args.map.now c.args.heap) c.args.block c.args.cursor.now.from c.args.cursor.now.at c.args.cursor.now.free c.args.cursor.now.gap c.requires.place.heap c.requires.place.block in
    let own = c.own_total-total.ensures.word ∙ f.facts.total_word in
    let here : c.args.cursor.now.at + c.requires.place.block.total ≡ c.args.cursor.now.free = sym (ap (λ n. c.args.cursor.now.at + n) own) ∙ c.if-behind-cursor.false in
    let k = next_free_facts c.args.map.now c.args.heap (end_at c.args.map.now c.args.heap) c.args.block c.args.cursor.now.from c.args.cursor.now.at c.args.cursor.now.free c.args.cursor.now.gap c.requires.place.heap c.requires.place.block here in
    let other = rw (sym here) at c.free_behind-item.ensures.total in
    let sum = other ∙ k.facts.total_word in
    let n = total_facts c.args.needed c.requires.total in
    omega (arith, own, sum, n.1, f.facts.eighths, k.facts.eighths, k.facts.high)

pub returns : goal.returns
returns c =
    let f = place_facts c.args.map.now c.args.heap (end_at c.args.map.now c.args.heap) c.args.block c.args.cursor.now.from c.args.cursor.now.at c.args.cursor.now.free c.args.cursor.now.gap c.requires.place.heap c.requires.place.block in
    let own = c.own_total-total.ensures.word ∙ f.facts.total_word in
    let here : c.args.cursor.now.at + c.requires.place.block.total ≡ c.args.cursor.now.free = sym (ap (λ n. c.args.cursor.now.at + n) own) ∙ c.if-behind-cursor.false in
    let k = next_free_facts c.args.map.now c.args.heap (end_at c.args.map.now c.args.heap) c.args.block c.args.cursor.now.from c.args.cursor.now.at c.args.cursor.now.free c.args.cursor.now.gap c.requires.place.heap c.requires.place.block here in
    let other = rw (sym here) at c.free_behind-item.ensures.total in
    let sum = other ∙ k.facts.total_word in
    let larger : c.requires.place.block.total < c.args.needed = rw f.facts.total_word at c.requires.larger in
    let fits : c.args.needed ≤ c.requires.place.block.total + k.total = omega (arith, own, sum) in
    let next = rw (sym here) at c.free_behind-item.ensures.next in
    let some : c.requires.place.block.total + k.total - c.args.needed ≢ 0 = λ e. c.if-left-eq0.false (omega (arith, own, sum)) in
    let words = rw (own, sum) at (still_divided _ _ _ _ _ _ _ _ _ c.remark-2.ensures.bytes c.divide.ensures.words) in
    let change = rw own at (remarks_after (class_of c.args.map.now) (class_of c.divide.new.map) (class_of c.remark-2.new.map) c.args.cursor.now.at (Live c.own_total-total.result ∷ (Free c.free_behind-item.result.total ∷ [])) (Live c.args.needed ∷ (Free (c.own_total-total.result + c.free_behind-item.result.total - c.args.needed) ∷ []))
    c.divide.ensures.kept.marks c.remark-2.ensures.marks) in
    refits_part c.args.map.now _ c.args.heap (end_at c.args.map.now c.args.heap) _ c.args.needed c.free_behind-item.result.next c.args.block c.args.cursor.now.from c.args.cursor.now.at c.args.cursor.now.free c.args.cursor.now.gap c.requires.place.heap c.requires.place.block k
    (c.remark-2.ensures.layout ∙ c.divide.ensures.kept.layout) c.requires.total larger fits some (next ∙ k.onward) words change
