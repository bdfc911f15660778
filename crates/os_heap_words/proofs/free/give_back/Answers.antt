use Rattle.std.proofs.Common.{◌++◌, [], ◌∷◌, ◌-◌, ◌≡◌, ◌≢◌, ◌+◌, ◌∙◌, arith, sym, ap, inl}
use Rattle.address_map.specs.Bytes.{word_at}
use Rattle.address_map.specs.Memory.{byte_at, class_of}
use Rattle.os_heap_words.specs.Outcomes.{end_at}
use Rattle.address_map.specs.declared.item.Item.TheVariants.{Free, Live}
use Rattle.os_heap_words.specs.lists.Lists.{left_free}
use Rattle.os_heap_words.proofs.ListsLemmas.Spelling.{total_of-numbers}
use Rattle.os_heap_words.proofs.Marking.{can_stand, still_written, still_freed, remarks_after}
use Rattle.os_heap_words.proofs.Replace.{heap_below, heap_mapped}
use Rattle.os_heap_words.proofs.Freeing.{block_facts, next_free_facts, gap_stands, releases_sunk, releases_joined, releases_alone}
use Rattle.os_heap_words.proofs.free.give_back.Goals as goal

pub free_behind-item-requires-clause-here : goal.free_behind-item-requires-clause-here
free_behind-item-requires-clause-here c = sym (ap (λ n. c.args.cursor.now.at + n) c.own_total-own.ensures.word) ∙ c.if-behind-cursor.true

pub overflow_add-base : goal.overflow_add-base
overflow_add-base c =
    omega (arith, heap_below c.args.map.now c.args.heap (end_at c.args.map.now c.args.heap) _ c.requires.heap, c.requires.heap.inside, c.word.ensures, c.requires.heap.base)

pub overflow_sub-at : goal.overflow_sub-at
overflow_sub-at c =
    let f = block_facts c.args.map.now c.args.heap (end_at c.args.map.now c.args.heap) c.args.block c.args.cursor.now.from c.args.cursor.now.at c.args.cursor.now.free c.args.cursor.now.gap c.requires.heap c.requires.block in
    omega (arith, f.low)

pub overflow_add-total : goal.overflow_add-total
overflow_add-total c =
    let f = block_facts c.args.map.now c.args.heap (end_at c.args.map.now c.args.heap) c.args.block c.args.cursor.now.from c.args.cursor.now.at c.args.cursor.now.free c.args.cursor.now.gap c.requires.heap c.requires.block in
    let own = c.own_total-own.ensures.word ∙ f.facts.total_word in
    omega (arith, own, f.low, f.facts.high, f.facts.top)

pub put_link-requires-clause-below : goal.put_link-requires-clause-below
put_link-requires-clause-below c =
    let f = block_facts c.args.map.now c.args.heap (end_at c.args.map.now c.args.heap) c.args.block c.args.cursor.now.from c.args.cursor.now.at c.args.cursor.now.free c.args.cursor.now.gap c.requires.heap c.requires.block in
    omega (arith, f.last.below, f.facts.high, f.facts.top)

pub put_link-requires-clause-aligned : goal.put_link-requires-clause-aligned
put_link-requires-clause-aligned c =
    let f = block_facts c.args.map.now c.args.heap (end_at c.args.map.now c.args.heap) c.args.block c.args.cursor.now.from c.args.cursor.now.at c.args.cursor.now.free c.args.cursor.now.gap c.requires.heap c.requires.block in
    f.last.aligned

pub put_link-requires-clause-mapped : goal.put_link-requires-clause-mapped
put_link-requires-clause-mapped c =
    let f = block_facts c.args.map.now c.args.heap (end_at c.args.map.now c.args.heap) c.args.block c.args.cursor.now.from c.args.cursor.now.at c.args.cursor.now.free c.args.cursor.now.gap c.requires.heap c.requires.block in
    heap_mapped c.args.map.now c.args.heap (end_at c.args.map.now c.args.heap) _ _ c.requires.heap (omega (arith, f.last.low)) (omega (arith, f.last.high, f.facts.high))

pub put_free-requires-clause-below : goal.put_free-requires-clause-below
put_free-requires-clause-below c =
    let f = block_facts c.args.map.now c.args.heap (end_at c.args.map.now c.args.heap) c.args.block c.args.cursor.now.from c.args.cursor.now.at c.args.cursor.now.free c.args.cursor.now.gap c.requires.heap c.requires.block in
    omega (arith, f.last.below, f.facts.high, f.facts.top)

pub put_free-requires-clause-link_aligned : goal.put_free-requires-clause-link_aligned
put_free-requires-clause-link_aligned c =
    let f = block_facts c.args.map.now c.args.heap (end_at c.args.map.now c.args.heap) c.args.block c.args.cursor.now.from c.args.cursor.now.at c.args.cursor.now.free c.args.cursor.now.gap c.requires.heap c.requires.block in
    f.last.aligned

pub put_free-requires-clause-link_mapped : goal.put_free-requires-clause-link_mapped
put_free-requires-clause-link_mapped c =
    let f = block_facts c.args.map.now c.args.heap (end_at c.args.map.now c.args.heap) c.args.block c.args.cursor.now.from c.args.cursor.now.at c.args.cursor.now.free c.args.cursor.now.gap c.requires.heap c.requires.block in
    heap_mapped c.args.map.now c.args.heap (end_at c.args.map.now c.args.heap) _ _ c.requires.heap (omega (arith, f.last.low)) (omega (arith, f.last.high, f.facts.high))

pub put_free-requires-clause-aligned : goal.put_free-requires-clause-aligned
put_free-requires-clause-aligned c =
    let f = block_facts c.args.map.now c.args.heap (end_at c.args.map.now c.args.heap) c.args.block c.args.cursor.now.from c.args.cursor.now.at c.args.cursor.now.free c.args.cursor.now.gap c.requires.heap c.requires.block in
    f.whole

pub put_free-requires-clause-fits : goal.put_free-requires-clause-fits
put_free-requires-clause-fits c =
    let f = block_facts c.args.map.now c.args.heap (end_at c.args.map.now c.args.heap) c.args.block c.args.cursor.now.from c.args.cursor.now.at c.args.cursor.now.free c.args.cursor.now.gap c.requires.heap c.requires.block in
    omega (arith, f.facts.high, f.facts.top, f.facts.size)

pub put_free-requires-clause-mapped : goal.put_free-requires-clause-mapped
put_free-requires-clause-mapped c =
    let f = block_facts c.args.map.now c.args.heap (end_at c.args.map.now c.args.heap) c.args.block c.args.cursor.now.from c.args.cursor.now.at c.args.cursor.now.free c.args.cursor.now.gap c.requires.heap c.requires.block in
    heap_mapped c.args.map.now c.args.heap (end_at c.args.map.now c.args.heap) _ _ c.requires.heap (omega (arith, f.low)) (omega (arith, f.facts.high, f.facts.size))

pub put_free-requires-clause-total_mapped : goal.put_free-requires-clause-total_mapped
put_free-requires-clause-total_mapped c =
    let f = block_facts c.args.map.now c.args.heap (end_at c.args.map.now c.args.heap) c.args.block c.args.cursor.now.from c.args.cursor.now.at c.args.cursor.now.free c.args.cursor.now.gap c.requires.heap c.requires.block in
    heap_mapped c.args.map.now c.args.heap (end_at c.args.map.now c.args.heap) _ _ c.requires.heap (omega (arith, f.low)) (omega (arith, f.facts.high, f.facts.size))

pub put_free-requires-clause-apart : goal.put_free-requires-clause-apart
put_free-requires-clause-apart c =
    let f = block_facts c.args.map.now c.args.heap (end_at c.args.map.now c.args.heap) c.args.block c.args.cursor.now.from c.args.cursor.now.at c.args.cursor.now.free c.args.cursor.now.gap c.requires.heap c.requires.block in
    inl f.last.high

pub put_free-requires-2-clause-below : goal.put_free-requires-2-clause-below
put_free-requires-2-clause-below c =
    let f = block_facts c.args.map.now c.args.heap (end_at c.args.map.now c.args.heap) c.args.block c.args.cursor.now.from c.args.cursor.now.at c.args.cursor.now.free c.args.cursor.now.gap c.requires.heap c.requires.block in
    omega (arith, f.last.below, f.facts.high, f.facts.top)

pub put_free-requires-2-clause-link_aligned : goal.put_free-requires-2-clause-link_aligned
put_free-requires-2-clause-link_aligned c =
    let f = block_facts c.args.map.now c.args.heap (end_at c.args.map.now c.args.heap) c.args.block c.args.cursor.now.from c.args.cursor.now.at c.args.cursor.now.free c.args.cursor.now.gap c.requires.heap c.requires.block in
    f.last.aligned

pub put_free-requires-2-clause-link_mapped : goal.put_free-requires-2-clause-link_mapped
put_free-requires-2-clause-link_mapped c =
    let f = block_facts c.args.map.now c.args.heap (end_at c.args.map.now c.args.heap) c.args.block c.args.cursor.now.from c.args.cursor.now.at c.args.cursor.now.free c.args.cursor.now.gap c.requires.heap c.requires.block in
    heap_mapped c.args.map.now c.args.heap (end_at c.args.map.now c.args.heap) _ _ c.requires.heap (omega (arith, f.last.low)) (omega (arith, f.last.high, f.facts.high))

pub put_free-requires-2-clause-aligned : goal.put_free-requires-2-clause-aligned
put_free-requires-2-clause-aligned c =
    let f = block_facts c.args.map.now c.args.heap (end_at c.args.map.now c.args.heap) c.args.block c.args.cursor.now.from c.args.cursor.now.at c.args.cursor.now.free c.args.cursor.now.gap c.requires.heap c.requires.block in
    f.whole

pub put_free-requires-2-clause-fits : goal.put_free-requires-2-clause-fits
put_free-requires-2-clause-fits c =
    let f = block_facts c.args.map.now c.args.heap (end_at c.args.map.now c.args.heap) c.args.block c.args.cursor.now.from c.args.cursor.now.at c.args.cursor.now.free c.args.cursor.now.gap c.requires.heap c.requires.block in
    omega (arith, f.facts.high, f.facts.top, f.facts.size)

pub put_free-requires-2-clause-mapped : goal.put_free-requires-2-clause-mapped
put_free-requires-2-clause-mapped c =
    let f = block_facts c.args.map.now c.args.heap (end_at c.args.map.now c.args.heap) c.args.block c.args.cursor.now.from c.args.cursor.now.at c.args.cursor.now.free c.args.cursor.now.gap c.requires.heap c.requires.block in
    heap_mapped c.args.map.now c.args.heap (end_at c.args.map.now c.args.heap) _ _ c.requires.heap (omega (arith, f.low)) (omega (arith, f.facts.high, f.facts.size))

pub put_free-requires-2-clause-total_mapped : goal.put_free-requires-2-clause-total_mapped
put_free-requires-2-clause-total_mapped c =
    let f = block_facts c.args.map.now c.args.heap (end_at c.args.map.now c.args.heap) c.args.block c.args.cursor.now.from c.args.cursor.now.at c.args.cursor.now.free c.args.cursor.now.gap c.requires.heap c.requires.block in
    heap_mapped c.args.map.now c.args.heap (end_at c.args.map.now c.args.heap) _ _ c.requires.heap (omega (arith, f.low)) (omega (arith, f.facts.high, f.facts.size))

pub put_free-requires-2-clause-apart : goal.put_free-requires-2-clause-apart
put_free-requires-2-clause-apart c =
    let f = block_facts c.args.map.now c.args.heap (end_at c.args.map.now c.args.heap) c.args.block c.args.cursor.now.from c.args.cursor.now.at c.args.cursor.now.free c.args.cursor.now.gap c.requires.heap c.requires.block in
    inl f.last.high

pub overflow_sub-at-then-behind-base : goal.overflow_sub-at-then-behind-base
overflow_sub-at-then-behind-base c =
    let f = block_facts c.args.map.now c.args.heap (end_at c.args.map.now c.args.heap) c.args.block c.args.cursor.now.from c.args.cursor.now.at c.args.cursor.now.free c.args.cursor.now.gap c.requires.heap c.requires.block in
    omega (arith, f.low)

pub remark_gap-requires-clause-low : goal.remark_gap-requires-clause-low
remark_gap-requires-clause-low c =
    let f = block_facts c.args.map.now c.args.heap (end_at c.args.map.now c.args.heap) c.args.block c.args.cursor.now.from c.args.cursor.now.at c.args.cursor.now.free c.args.cursor.now.gap c.requires.heap c.requires.block in
    omega (arith, f.low)

pub remark_gap-requires-clause-gap : goal.remark_gap-requires-clause-gap
remark_gap-requires-clause-gap c =
    gap_stands c.args.map.now c.put.new.map c.args.heap (end_at c.args.map.now c.args.heap) c.args.block c.args.cursor.now.from c.args.cursor.now.at c.args.cursor.now.free c.args.cursor.now.gap c.requires.heap c.requires.block
    (c.put.ensures.kept.layout ∙ c.put_link.ensures.kept.layout)

pub remark_gap-requires-clause-olds : goal.remark_gap-requires-clause-olds
remark_gap-requires-clause-olds c =
    let f = block_facts c.args.map.now c.args.heap (end_at c.args.map.now c.args.heap) c.args.block c.args.cursor.now.from c.args.cursor.now.at c.args.cursor.now.free c.args.cursor.now.gap c.requires.heap c.requires.block in
    let own = c.own_total-own.ensures.word ∙ f.facts.total_word in
    can_stand c.args.map.now c.put.new.map c.args.heap (end_at c.args.map.now c.args.heap) c.args.cursor.now.at _ (Live c.own_total-own.result ∷ []) c.requires.heap (c.put.ensures.kept.layout ∙ c.put_link.ensures.kept.layout)
    (total_of-numbers c.own_total-own.result (omega (arith, own, f.facts.size)) (omega (arith, own, f.facts.eighths)), tt) f.facts.whole (omega (arith, f.low)) (omega (arith, own, f.facts.high))

pub remark_gap-requires-clause-news : goal.remark_gap-requires-clause-news
remark_gap-requires-clause-news c =
    let f = block_facts c.args.map.now c.args.heap (end_at c.args.map.now c.args.heap) c.args.block c.args.cursor.now.from c.args.cursor.now.at c.args.cursor.now.free c.args.cursor.now.gap c.requires.heap c.requires.block in
    can_stand c.args.map.now c.put.new.map c.args.heap (end_at c.args.map.now c.args.heap) (c.args.cursor.now.at - c.args.cursor.now.gap) _ [] c.requires.heap (c.put.ensures.kept.layout ∙ c.put_link.ensures.kept.layout)
    tt f.whole (omega (arith, f.low)) (omega (arith, f.low, f.facts.high))

pub remark_gap-requires-then-behind-cursor-clause-low : goal.remark_gap-requires-then-behind-cursor-clause-low
remark_gap-requires-then-behind-cursor-clause-low c =
    let f = block_facts c.args.map.now c.args.heap (end_at c.args.map.now c.args.heap) c.args.block c.args.cursor.now.from c.args.cursor.now.at c.args.cursor.now.free c.args.cursor.now.gap c.requires.heap c.requires.block in
    omega (arith, f.low)

pub remark_gap-requires-then-behind-cursor-clause-gap : goal.remark_gap-requires-then-behind-cursor-clause-gap
remark_gap-requires-then-behind-cursor-clause-gap c =
    gap_stands c.args.map.now c.put_free.new.map c.args.heap (end_at c.args.map.now c.args.heap) c.args.block c.args.cursor.now.from c.args.cursor.now.at c.args.cursor.now.free c.args.cursor.now.gap c.requires.heap c.requires.block
    c.put_free.ensures.kept.layout

pub remark_gap-requires-then-behind-cursor-clause-olds : goal.remark_gap-requires-then-behind-cursor-clause-olds
remark_gap-requires-then-behind-cursor-clause-olds c =
    let f = block_facts c.args.map.now c.args.heap (end_at c.args.map.now c.args.heap) c.args.block c.args.cursor.now.from c.args.cursor.now.at c.args.cursor.now.free c.args.cursor.now.gap c.requires.heap c.requires.block in
    let own = c.own_total-own.ensures.word ∙ f.facts.total_word in
    let here : c.args.cursor.now.at + c.requires.block.total ≡ c.args.cursor.now.free = sym (ap (λ n. c.args.cursor.now.at + n) own) ∙ c.if-behind-cursor.true in
    let k = next_free_facts c.args.map.now c.args.heap (end_at c.args.map.now c.args.heap) c.args.block c.args.cursor.now.from c.args.cursor.now.at c.args.cursor.now.free c.args.cursor.now.gap c.requires.heap c.requires.block here in
    let other = rw (sym here) at c.free_behind-item.ensures.total in
    let sum = other ∙ k.facts.total_word in
    can_stand c.args.map.now c.put_free.new.map c.args.heap (end_at c.args.map.now c.args.heap) c.args.cursor.now.at _ (Live c.own_total-own.result ∷ (Free c.free_behind-item.result.total ∷ [])) c.requires.heap c.put_free.ensures.kept.layout (
      total_of-numbers c.own_total-own.result (omega (arith, own, f.facts.size)) (omega (arith, own, f.facts.eighths)),
      (total_of-numbers c.free_behind-item.result.total (omega (arith, sum, k.facts.size)) (omega (arith, sum, k.facts.eighths)), tt),
    ) f.facts.whole (omega (arith, f.low)) (omega (arith, own, sum, k.facts.high))

pub remark_gap-requires-then-behind-cursor-clause-news : goal.remark_gap-requires-then-behind-cursor-clause-news
remark_gap-requires-then-behind-cursor-clause-news c =
    let f = block_facts c.args.map.now c.args.heap (end_at c.args.map.now c.args.heap) c.args.block c.args.cursor.now.from c.args.cursor.now.at c.args.cursor.now.free c.args.cursor.now.gap c.requires.heap c.requires.block in
    let own = c.own_total-own.ensures.word ∙ f.facts.total_word in
    let here : c.args.cursor.now.at + c.requires.block.total ≡ c.args.cursor.now.free = sym (ap (λ n. c.args.cursor.now.at + n) own) ∙ c.if-behind-cursor.true in
    let k = next_free_facts c.args.map.now c.args.heap (end_at c.args.map.now c.args.heap) c.args.block c.args.cursor.now.from c.args.cursor.now.at c.args.cursor.now.free c.args.cursor.now.gap c.requires.heap c.requires.block here in
    let other = rw (sym here) at c.free_behind-item.ensures.total in
    let sum = other ∙ k.facts.total_word in
    can_stand c.args.map.now c.put_free.new.map c.args.heap (end_at c.args.map.now c.args.heap) (c.args.cursor.now.at - c.args.cursor.now.gap) _ (Free (c.args.cursor.now.gap + c.own_total-own.result + c.free_behind-item.result.total) ∷ []) c.requires.heap c.put_free.ensures.kept.layout
    (total_of-numbers (c.args.cursor.now.gap + c.own_total-own.result + c.free_behind-item.result.total) (omega (arith, own, sum, f.facts.size)) (omega (arith, own, sum, f.eighths, f.facts.eighths, k.facts.eighths)), tt) f.whole (omega (arith, f.low)) (omega (arith, own, sum, f.low, k.facts.high))

pub remark_gap-requires-2-clause-low : goal.remark_gap-requires-2-clause-low
remark_gap-requires-2-clause-low c =
    let f = block_facts c.args.map.now c.args.heap (end_at c.args.map.now c.args.heap) c.args.block c.args.cursor.now.from c.args.cursor.now.at c.args.cursor.now.free c.args.cursor.now.gap c.requires.heap c.requires.block in
    omega (arith, f.low)

pub remark_gap-requires-2-clause-gap : goal.remark_gap-requires-2-clause-gap
remark_gap-requires-2-clause-gap c =
    gap_stands c.args.map.now c.put_free-2.new.map c.args.heap (end_at c.args.map.now c.args.heap) c.args.block c.args.cursor.now.from c.args.cursor.now.at c.args.cursor.now.free c.args.cursor.now.gap c.requires.heap c.requires.block
    c.put_free-2.ensures.kept.layout

pub remark_gap-requires-2-clause-olds : goal.remark_gap-requires-2-clause-olds
remark_gap-requires-2-clause-olds c =
    let f = block_facts c.args.map.now c.args.heap (end_at c.args.map.now c.args.heap) c.args.block c.args.cursor.now.from c.args.cursor.now.at c.args.cursor.now.free c.args.cursor.now.gap c.requires.heap c.requires.block in
    let own = c.own_total-own.ensures.word ∙ f.facts.total_word in
    can_stand c.args.map.now c.put_free-2.new.map c.args.heap (end_at c.args.map.now c.args.heap) c.args.cursor.now.at _ (Live c.own_total-own.result ∷ []) c.requires.heap c.put_free-2.ensures.kept.layout
    (total_of-numbers c.own_total-own.result (omega (arith, own, f.facts.size)) (omega (arith, own, f.facts.eighths)), tt) f.facts.whole (omega (arith, f.low)) (omega (arith, own, f.facts.high))

pub remark_gap-requires-2-clause-news : goal.remark_gap-requires-2-clause-news
remark_gap-requires-2-clause-news c =
    let f = block_facts c.args.map.now c.args.heap (end_at c.args.map.now c.args.heap) c.args.block c.args.cursor.now.from c.args.cursor.now.at c.args.cursor.now.free c.args.cursor.now.gap c.requires.heap c.requires.block in
    let own = c.own_total-own.ensures.word ∙ f.facts.total_word in
    can_stand c.args.map.now c.put_free-2.new.map c.args.heap (end_at c.args.map.now c.args.heap) (c.args.cursor.now.at - c.args.cursor.now.gap) _ (Free (c.args.cursor.now.gap + c.own_total-own.result) ∷ []) c.requires.heap c.put_free-2.ensures.kept.layout
    (total_of-numbers (c.args.cursor.now.gap + c.own_total-own.result) (omega (arith, own, f.facts.size)) (omega (arith, own, f.eighths, f.facts.eighths)), tt) f.whole (omega (arith, f.low)) (omega (arith, own, f.low, f.facts.high))

pub returns-then-behind-base : goal.returns-then-behind-base
returns-then-behind-base c =
    let f = block_facts c.args.map.now c.args.heap (end_at c.args.map.now c.args.heap) c.args.block c.args.cursor.now.from c.args.cursor.now.at c.args.cursor.now.free c.args.cursor.now.gap c.requires.heap c.requires.block in
    let own = c.own_total-own.ensures.word ∙ f.facts.total_word in
    let ends : c.args.cursor.now.at + c.requires.block.total ≡ c.args.heap + word_at (byte_at c.args.map.now) (c.args.heap + 8) =
    sym (ap (λ n. c.args.cursor.now.at + n) own) ∙ c.if-behind-base.true ∙ ap (λ n. c.args.heap + n) c.word.ensures in
    releases_sunk c.args.map.now _ c.args.heap (end_at c.args.map.now c.args.heap) c.args.block c.args.cursor.now.from c.args.cursor.now.at c.args.cursor.now.free c.args.cursor.now.gap _ c.requires.heap c.requires.block ends
    (c.remark_gap.ensures.layout ∙ c.put.ensures.kept.layout ∙ c.put_link.ensures.kept.layout) c.put_link.ensures.word
    (still_written _ _ _ _ _ c.remark_gap.ensures.bytes c.put.ensures.word)
    (remarks_after (class_of c.args.map.now) (class_of c.put.new.map) (class_of c.remark_gap.new.map) (c.args.cursor.now.at - c.args.cursor.now.gap) (left_free c.args.cursor.now.gap ++ Live c.requires.block.total ∷ []) []
    (c.put.ensures.kept.marks ∙ c.put_link.ensures.kept.marks) (rw own at c.remark_gap.ensures.marks))

pub overflow_add-joined : goal.overflow_add-joined
overflow_add-joined c =
    let f = block_facts c.args.map.now c.args.heap (end_at c.args.map.now c.args.heap) c.args.block c.args.cursor.now.from c.args.cursor.now.at c.args.cursor.now.free c.args.cursor.now.gap c.requires.heap c.requires.block in
    let own = c.own_total-own.ensures.word ∙ f.facts.total_word in
    let here : c.args.cursor.now.at + c.requires.block.total ≡ c.args.cursor.now.free = sym (ap (λ n. c.args.cursor.now.at + n) own) ∙ c.if-behind-cursor.true in
    let k = next_free_facts c.args.map.now c.args.heap (end_at c.args.map.now c.args.heap) c.args.block c.args.cursor.now.from c.args.cursor.now.at c.args.cursor.now.free c.args.cursor.now.gap c.requires.heap c.requires.block here in
    let other = rw (sym here) at c.free_behind-item.ensures.total in
    let sum = other ∙ k.facts.total_word in
    omega (arith, own, sum, f.low, k.facts.high, k.facts.top)

pub returns-then-behind-cursor : goal.returns-then-behind-cursor
returns-then-behind-cursor c =
    let f = block_facts c.args.map.now c.args.heap (end_at c.args.map.now c.args.heap) c.args.block c.args.cursor.now.from c.args.cursor.now.at c.args.cursor.now.free c.args.cursor.now.gap c.requires.heap c.requires.block in
    let own = c.own_total-own.ensures.word ∙ f.facts.total_word in
    let here : c.args.cursor.now.at + c.requires.block.total ≡ c.args.cursor.now.free = sym (ap (λ n. c.args.cursor.now.at + n) own) ∙ c.if-behind-cursor.true in
    let k = next_free_facts c.args.map.now c.args.heap (end_at c.args.map.now c.args.heap) c.args.block c.args.cursor.now.from c.args.cursor.now.at c.args.cursor.now.free c.args.cursor.now.gap c.requires.heap c.requires.block here in
    let other = rw (sym here) at c.free_behind-item.ensures.total in
    let sum = other ∙ k.facts.total_word in
    let next = rw (sym here) at c.free_behind-item.ensures.next in
    let words = rw (own, sum) at c.put_free.ensures.words in
    let change = rw (own, sum) at c.remark_gap-then-behind-cursor.ensures.marks in
    releases_joined c.args.map.now _ c.args.heap (end_at c.args.map.now c.args.heap) c.args.block c.args.cursor.now.from c.args.cursor.now.at c.args.cursor.now.free c.args.cursor.now.gap c.free_behind-item.result.next c.requires.heap c.requires.block k
    (c.remark_gap-then-behind-cursor.ensures.layout ∙ c.put_free.ensures.kept.layout) (next ∙ k.onward)
    (still_freed _ _ _ _ _ _ _ _ c.remark_gap-then-behind-cursor.ensures.bytes words) (remarks_after (class_of c.args.map.now) (class_of c.put_free.new.map) (class_of c.remark_gap-then-behind-cursor.new.map) (c.args.cursor.now.at - c.args.cursor.now.gap) (left_free c.args.cursor.now.gap ++ Live c.requires.block.total ∷ (Free k.total ∷ [])) (Free (c.args.cursor.now.gap + c.requires.block.total + k.total) ∷ [])
    c.put_free.ensures.kept.marks change)

pub returns : goal.returns
returns c =
    let f = block_facts c.args.map.now c.args.heap (end_at c.args.map.now c.args.heap) c.args.block c.args.cursor.now.from c.args.cursor.now.at c.args.cursor.now.free c.args.cursor.now.gap c.requires.heap c.requires.block in
    let own = c.own_total-own.ensures.word ∙ f.facts.total_word in
    let words = rw own at c.put_free-2.ensures.words in
    let change = rw own at c.remark_gap-2.ensures.marks in
    let inside : c.args.cursor.now.at + c.requires.block.total ≢ c.args.heap + word_at (byte_at c.args.map.now) (c.args.heap + 8) =
    λ e. c.if-behind-base.false (ap (λ n. c.args.cursor.now.at + n) own ∙ e ∙ sym (ap (λ n. c.args.heap + n) c.word.ensures)) in
    let other : c.args.cursor.now.at + c.requires.block.total ≢ c.args.cursor.now.free = λ e. c.if-behind-cursor.false (ap (λ n. c.args.cursor.now.at + n) own ∙ e) in
    releases_alone c.args.map.now _ c.args.heap (end_at c.args.map.now c.args.heap) c.args.block c.args.cursor.now.from c.args.cursor.now.at c.args.cursor.now.free c.args.cursor.now.gap c.requires.heap c.requires.block inside other
    (c.remark_gap-2.ensures.layout ∙ c.put_free-2.ensures.kept.layout)
    (still_freed _ _ _ _ _ _ _ _ c.remark_gap-2.ensures.bytes words) (remarks_after (class_of c.args.map.now) (class_of c.put_free-2.new.map) (class_of c.remark_gap-2.new.map) (c.args.cursor.now.at - c.args.cursor.now.gap) (left_free c.args.cursor.now.gap ++ Live c.requires.block.total ∷ []) (Free (c.args.cursor.now.gap + c.requires.block.total) ∷ [])
    c.put_free-2.ensures.kept.marks change)
