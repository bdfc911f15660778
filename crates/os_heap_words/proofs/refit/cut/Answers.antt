use Rattle.std.proofs.Common.{[], ◌∷◌, ◌-◌, ◌≡◌, ◌≢◌, ◌+◌, ◌<◌, ◌∙◌, ap, sym, arith}
use Rattle.address_map.specs.Bytes.{word_at}
use Rattle.address_map.specs.Memory.{byte_at, class_of}
use Rattle.os_heap_words.specs.Outcomes.{end_at}
use Rattle.os_heap_words.proofs.ListsLemmas.Reading.{total_facts}
use Rattle.address_map.specs.declared.item.Item.TheVariants.{Free, Live}
use Rattle.os_heap_words.proofs.ListsLemmas.Spelling.{total_of-numbers}
use Rattle.os_heap_words.proofs.Marking.{can_stand, still_divided, remarks_after}
use Rattle.os_heap_words.proofs.Freeing.{next_free_facts}
use Rattle.os_heap_words.proofs.Refitting.{place_facts}
use Rattle.os_heap_words.proofs.Refitted.{refits_joined, refits_alone}
use Rattle.os_heap_words.proofs.refit.cut.Goals as goal

pub free_behind-item-requires-clause-here : goal.free_behind-item-requires-clause-here
free_behind-item-requires-clause-here c = sym (ap (λ n. c.args.cursor.now.at + n) c.own_total-total.ensures.word) ∙ c.if-behind-cursor.true

pub overflow_add-joined : goal.overflow_add-joined
overflow_add-joined c =
    let f = place_facts c.args.map.now c.args.heap (end_at c.args.map.now c.args.heap) c.args.block c.args.cursor.now.from c.args.cursor.now.at c.args.cursor.now.free c.args.cursor.now.gap c.requires.place.heap c.requires.place.block in
    let own = c.own_total-total.ensures.word ∙ f.facts.total_word in
    let here : c.args.cursor.now.at + c.requires.place.block.total ≡ c.args.cursor.now.free = sym (ap (λ n. c.args.cursor.now.at + n) own) ∙ c.if-behind-cursor.true in
    let k = next_free_facts c.args.map.now c.args.heap (end_at c.args.map.now c.args.heap) c.args.block c.args.cursor.now.from c.args.cursor.now.at c.args.cursor.now.free c.args.cursor.now.gap c.requires.place.heap c.requires.place.block here in
    let other = rw (sym here) at c.free_behind-item.ensures.total in
    let sum = other ∙ k.facts.total_word in
    omega (arith, own, sum, k.facts.high, k.facts.top)

pub remark-requires-clause-olds : goal.remark-requires-clause-olds
remark-requires-clause-olds c =
    let f = place_facts c.args.map.now c.args.heap (end_at c.args.map.now c.args.heap) c.args.block c.args.cursor.now.from c.args.cursor.now.at c.args.cursor.now.free c.args.cursor.now.gap c.requires.place.heap c.requires.place.block in
    let own = c.own_total-total.ensures.word ∙ f.facts.total_word in
    let here : c.args.cursor.now.at + c.requires.place.block.total ≡ c.args.cursor.now.free = sym (ap (λ n. c.args.cursor.now.at + n) own) ∙ c.if-behind-cursor.true in
    let k = next_free_facts c.args.map.now c.args.heap (end_at c.args.map.now c.args.heap) c.args.block c.args.cursor.now.from c.args.cursor.now.at c.args.cursor.now.free c.args.cursor.now.gap c.requires.place.heap c.requires.place.block here in
    let other = rw (sym here) at c.free_behind-item.ensures.total in
    let sum = other ∙ k.facts.total_word in
    can_stand c.args.map.now c.divide.new.map c.args.heap (end_at c.args.map.now c.args.heap) c.args.cursor.now.at _ (Live c.own_total-total.result ∷ (Free c.free_behind-item.result.total ∷ [])) c.requires.place.heap c.divide.ensures.kept.layout (
      total_of-numbers c.own_total-total.result (omega (arith, own, f.facts.size)) (omega (arith, own, f.facts.eighths)),
      (total_of-numbers c.free_behind-item.result.total (omega (arith, sum, k.facts.size)) (omega (arith, sum, k.facts.eighths)), tt),
    ) f.facts.whole (omega (arith, f.facts.low)) (omega (arith, own, sum, k.facts.high))

pub remark-requires-clause-news : goal.remark-requires-clause-news
remark-requires-clause-news c =
    let f = place_facts c.args.map.now c.args.heap (end_at c.args.map.now c.args.heap) c.args.block c.args.cursor.now.from c.args.cursor.now.at c.args.cursor.now.free c.args.cursor.now.gap c.requires.place.heap c.requires.place.block in
    let own = c.own_total-total.ensures.word ∙ f.facts.total_word in
    let here : c.args.cursor.now.at + c.requires.place.block.total ≡ c.args.cursor.now.free = sym (ap (λ n. c.args.cursor.now.at + n) own) ∙ c.if-behind-cursor.true in
    let k = next_free_facts c.args.map.now c.args.heap (end_at c.args.map.now c.args.heap) c.args.block c.args.cursor.now.from c.args.cursor.now.at c.args.cursor.now.free c.args.cursor.now.gap c.requires.place.heap c.requires.place.block here in
    let other = rw (sym here) at c.free_behind-item.ensures.total in
    let sum = other ∙ k.facts.total_word in
    let less : c.args.needed < c.requires.place.block.total = rw f.facts.total_word at c.requires.smaller in
    let n = total_facts c.args.needed c.requires.total in
    can_stand c.args.map.now c.divide.new.map c.args.heap (end_at c.args.map.now c.args.heap) c.args.cursor.now.at _ (Live c.args.needed ∷ (Free (c.own_total-total.result - c.args.needed + c.free_behind-item.result.total) ∷ [])) c.requires.place.heap c.divide.ensures.kept.layout (
      c.requires.total,
      (
        total_of-numbers (c.own_total-total.result - c.args.needed + c.free_behind-item.result.total) (omega (arith, own, sum, k.facts.size))
            (omega (arith, own, sum, n.1, f.facts.eighths, k.facts.eighths)),
        tt,
      ),
    ) f.facts.whole (omega (arith, f.facts.low)) (omega (arith, own, sum, k.facts.high))

pub remark-requires-2-clause-olds : goal.remark-requires-2-clause-olds
remark-requires-2-clause-olds c =
    let f = place_facts c.args.map.now c.args.heap (end_at c.args.map.now c.args.heap) c.args.block c.args.cursor.now.from c.args.cursor.now.at c.args.cursor.now.free c.args.cursor.now.gap c.requires.place.heap c.requires.place.block in
    let own = c.own_total-total.ensures.word ∙ f.facts.total_word in
    can_stand c.args.map.now c.divide-2.new.map c.args.heap (end_at c.args.map.now c.args.heap) c.args.cursor.now.at _ (Live c.own_total-total.result ∷ []) c.requires.place.heap c.divide-2.ensures.kept.layout
    (total_of-numbers c.own_total-total.result (omega (arith, own, f.facts.size)) (omega (arith, own, f.facts.eighths)), tt) f.facts.whole (omega (arith, f.facts.low)) (omega (arith, own, f.facts.high))

pub remark-requires-2-clause-news : goal.remark-requires-2-clause-news
remark-requires-2-clause-news c =
    let f = place_facts c.args.map.now c.args.heap (end_at c.args.map.now c.args.heap) c.args.block c.args.cursor.now.from c.args.cursor.now.at c.args.cursor.now.free c.args.cursor.now.gap c.requires.place.heap c.requires.place.block in
    let own = c.own_total-total.ensures.word ∙ f.facts.total_word in
    let less : c.args.needed < c.requires.place.block.total = rw f.facts.total_word at c.requires.smaller in
    let n = total_facts c.args.needed c.requires.total in
    can_stand c.args.map.now c.divide-2.new.map c.args.heap (end_at c.args.map.now c.args.heap) c.args.cursor.now.at _ (Live c.args.needed ∷ (Free (c.own_total-total.result - c.args.needed) ∷ [])) c.requires.place.heap c.divide-2.ensures.kept.layout (
      c.requires.total,
      (
        total_of-numbers (c.own_total-total.result - c.args.needed) (omega (arith, own, n.1, f.facts.eighths))
            (omega (arith, own, n.1, f.facts.eighths)),
        tt,
      ),
    ) f.facts.whole (omega (arith, f.facts.low)) (omega (arith, own, f.facts.high))

pub divide-requires-clause-room : goal.divide-requires-clause-room
divide-requires-clause-room c =
    let f = place_facts c.args.map.now c.args.heap (end_at c.args.map.now c.args.heap) c.args.block c.args.cursor.now.from c.args.cursor.now.at c.args.cursor.now.free c.args.cursor.now.gap c.requires.place.heap c.requires.place.block in
    let less : c.args.needed < c.requires.place.block.total = rw f.facts.total_word at c.requires.smaller in
    let n = total_facts c.args.needed c.requires.total in
    omega (arith, n.1, f.facts.eighths, f.facts.high)

pub returns-then-behind-cursor : goal.returns-then-behind-cursor
returns-then-behind-cursor c =
    let f = place_facts c.args.map.now c.args.heap (end_at c.args.map.now c.args.heap) c.args.block c.args.cursor.now.from c.args.cursor.now.at c.args.cursor.now.free c.args.cursor.now.gap c.requires.place.heap c.requires.place.block in
    let own = c.own_total-total.ensures.word ∙ f.facts.total_word in
    let here : c.args.cursor.now.at + c.requires.place.block.total ≡ c.args.cursor.now.free = sym (ap (λ n. c.args.cursor.now.at + n) own) ∙ c.if-behind-cursor.true in
    let k = next_free_facts c.args.map.now c.args.heap (end_at c.args.map.now c.args.heap) c.args.block c.args.cursor.now.from c.args.cursor.now.at c.args.cursor.now.free c.args.cursor.now.gap c.requires.place.heap c.requires.place.block here in
    let less : c.args.needed < c.requires.place.block.total = rw f.facts.total_word at c.requires.smaller in
    let other = rw (sym here) at c.free_behind-item.ensures.total in
    let sum = other ∙ k.facts.total_word in
    let next = rw (sym here) at c.free_behind-item.ensures.next in
    let words = rw (own, sum) at (still_divided _ _ _ _ _ _ _ _ _ c.remark.ensures.bytes c.divide.ensures.words) in
    let change = rw own at (remarks_after (class_of c.args.map.now) (class_of c.divide.new.map) (class_of c.remark.new.map) c.args.cursor.now.at (Live c.own_total-total.result ∷ (Free c.free_behind-item.result.total ∷ [])) (Live c.args.needed ∷ (Free (c.own_total-total.result - c.args.needed + c.free_behind-item.result.total) ∷ []))
    c.divide.ensures.kept.marks c.remark.ensures.marks) in
    refits_joined c.args.map.now _ c.args.heap (end_at c.args.map.now c.args.heap) _ c.args.needed c.free_behind-item.result.next c.args.block c.args.cursor.now.from c.args.cursor.now.at c.args.cursor.now.free c.args.cursor.now.gap c.requires.place.heap c.requires.place.block k
    (c.remark.ensures.layout ∙ c.divide.ensures.kept.layout) c.requires.total less (next ∙ k.onward) words change

pub divide-requires-2-clause-room : goal.divide-requires-2-clause-room
divide-requires-2-clause-room c =
    let f = place_facts c.args.map.now c.args.heap (end_at c.args.map.now c.args.heap) c.args.block c.args.cursor.now.from c.args.cursor.now.at c.args.cursor.now.free c.args.cursor.now.gap c.requires.place.heap c.requires.place.block in
    let less : c.args.needed < c.requires.place.block.total = rw f.facts.total_word at c.requires.smaller in
    let n = total_facts c.args.needed c.requires.total in
    omega (arith, n.1, f.facts.eighths, f.facts.high)

pub returns : goal.returns
returns c =
    let f = place_facts c.args.map.now c.args.heap (end_at c.args.map.now c.args.heap) c.args.block c.args.cursor.now.from c.args.cursor.now.at c.args.cursor.now.free c.args.cursor.now.gap c.requires.place.heap c.requires.place.block in
    let own = c.own_total-total.ensures.word ∙ f.facts.total_word in
    let less : c.args.needed < c.requires.place.block.total = rw f.facts.total_word at c.requires.smaller in
    let inside : c.args.cursor.now.at + c.requires.place.block.total ≢ c.args.heap + word_at (byte_at c.args.map.now) (c.args.heap + 8) =
    λ e. c.requires.inside (ap (λ n. c.args.cursor.now.at + n) f.facts.total_word ∙ e) in
    let other : c.args.cursor.now.at + c.requires.place.block.total ≢ c.args.cursor.now.free = λ e. c.if-behind-cursor.false (ap (λ n. c.args.cursor.now.at + n) own ∙ e) in
    let words = rw own at (still_divided _ _ _ _ _ _ _ _ _ c.remark-2.ensures.bytes c.divide-2.ensures.words) in
    let change = remarks_after (class_of c.args.map.now) (class_of c.divide-2.new.map) (class_of c.remark-2.new.map) c.args.cursor.now.at (Live c.own_total-total.result ∷ []) (Live c.args.needed ∷ (Free (c.own_total-total.result - c.args.needed) ∷ []))
    c.divide-2.ensures.kept.marks c.remark-2.ensures.marks in
    refits_alone c.args.map.now _ c.args.heap (end_at c.args.map.now c.args.heap) _ c.args.needed c.args.block c.args.cursor.now.from c.args.cursor.now.at c.args.cursor.now.free c.args.cursor.now.gap c.requires.place.heap c.requires.place.block inside other
    (c.remark-2.ensures.layout ∙ c.divide-2.ensures.kept.layout) c.requires.total less words change
