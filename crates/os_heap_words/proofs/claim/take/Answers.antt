use Rattle.std.proofs.Common.{◌≡◌, ◌<◌, ◌-◌, [], ◌∷◌, true, ◌∙◌, arith, inl}
use Rattle.address_map.specs.Items.{is_total}
use Rattle.address_map.specs.declared.item.Item.TheVariants.{Free, Live}
use Rattle.address_map.specs.Memory.{class_of}
use Rattle.os_heap_words.specs.Outcomes.{end_at}
use Rattle.os_heap_words.proofs.Replace.{heap_mapped}
use Rattle.os_heap_words.proofs.Searching.{fit_facts}
use Rattle.os_heap_words.proofs.ListsLemmas.Reading.{total_facts}
use Rattle.os_heap_words.proofs.ListsLemmas.Spelling.{total_of-numbers}
use Rattle.os_heap_words.proofs.Marking.{can_stand, still_written, remarks_after}
use Rattle.os_heap_words.proofs.Writing.{still_mapped}
use Rattle.os_heap_words.proofs.Claiming.{claims_whole, claims_part}
use Rattle.os_heap_words.proofs.claim.take.Goals as goal

pub follow-next-requires-clause-below : goal.follow-next-requires-clause-below
follow-next-requires-clause-below c =
    let f = fit_facts c.args.map.now c.args.heap (end_at c.args.map.now c.args.heap) c.args.needed _ _ _ c.requires.heap c.requires.fit in
    omega (arith, f.facts.high, f.facts.top, f.facts.size)

pub follow-next-requires-clause-aligned : goal.follow-next-requires-clause-aligned
follow-next-requires-clause-aligned c =
    let f = fit_facts c.args.map.now c.args.heap (end_at c.args.map.now c.args.heap) c.args.needed _ _ _ c.requires.heap c.requires.fit in
    rw f.link f.facts.whole

pub follow-next-requires-clause-mapped : goal.follow-next-requires-clause-mapped
follow-next-requires-clause-mapped c =
    let f = fit_facts c.args.map.now c.args.heap (end_at c.args.map.now c.args.heap) c.args.needed _ _ _ c.requires.heap c.requires.fit in
    rw f.link (heap_mapped c.args.map.now c.args.heap (end_at c.args.map.now c.args.heap) c.args.fit.now.at _ c.requires.heap (omega (arith, f.facts.low)) (omega (arith, f.facts.high, f.facts.size)))

pub follow-next-requires-clause-fits : goal.follow-next-requires-clause-fits
follow-next-requires-clause-fits c =
    let f = fit_facts c.args.map.now c.args.heap (end_at c.args.map.now c.args.heap) c.args.needed _ _ _ c.requires.heap c.requires.fit in
    rw f.onward (omega (arith, f.facts.next_high))

pub put_link-requires-clause-below : goal.put_link-requires-clause-below
put_link-requires-clause-below c =
    let f = fit_facts c.args.map.now c.args.heap (end_at c.args.map.now c.args.heap) c.args.needed _ _ _ c.requires.heap c.requires.fit in
    omega (arith, f.last.below, f.facts.high, f.facts.top)

pub put_free-requires-clause-below : goal.put_free-requires-clause-below
put_free-requires-clause-below c =
    let f = fit_facts c.args.map.now c.args.heap (end_at c.args.map.now c.args.heap) c.args.needed _ _ _ c.requires.heap c.requires.fit in
    omega (arith, f.last.below, f.facts.high, f.facts.top)

pub put_link-requires-clause-aligned : goal.put_link-requires-clause-aligned
put_link-requires-clause-aligned c =
    let f = fit_facts c.args.map.now c.args.heap (end_at c.args.map.now c.args.heap) c.args.needed _ _ _ c.requires.heap c.requires.fit in
    f.last.aligned

pub put_free-requires-clause-link_aligned : goal.put_free-requires-clause-link_aligned
put_free-requires-clause-link_aligned c =
    let f = fit_facts c.args.map.now c.args.heap (end_at c.args.map.now c.args.heap) c.args.needed _ _ _ c.requires.heap c.requires.fit in
    f.last.aligned

pub put_link-requires-clause-mapped : goal.put_link-requires-clause-mapped
put_link-requires-clause-mapped c =
    let f = fit_facts c.args.map.now c.args.heap (end_at c.args.map.now c.args.heap) c.args.needed _ _ _ c.requires.heap c.requires.fit in
    heap_mapped c.args.map.now c.args.heap (end_at c.args.map.now c.args.heap) _ _ c.requires.heap (omega (arith, f.last.low)) (omega (arith, f.last.high, f.facts.high))

pub put_free-requires-clause-link_mapped : goal.put_free-requires-clause-link_mapped
put_free-requires-clause-link_mapped c =
    let f = fit_facts c.args.map.now c.args.heap (end_at c.args.map.now c.args.heap) c.args.needed _ _ _ c.requires.heap c.requires.fit in
    heap_mapped c.args.map.now c.args.heap (end_at c.args.map.now c.args.heap) _ _ c.requires.heap (omega (arith, f.last.low)) (omega (arith, f.last.high, f.facts.high))

pub put-requires-clause-aligned : goal.put-requires-clause-aligned
put-requires-clause-aligned c =
    let f = fit_facts c.args.map.now c.args.heap (end_at c.args.map.now c.args.heap) c.args.needed _ _ _ c.requires.heap c.requires.fit in
    f.facts.whole

pub put-requires-2-clause-aligned : goal.put-requires-2-clause-aligned
put-requires-2-clause-aligned c =
    let f = fit_facts c.args.map.now c.args.heap (end_at c.args.map.now c.args.heap) c.args.needed _ _ _ c.requires.heap c.requires.fit in
    f.facts.whole

pub put-requires-clause-mapped : goal.put-requires-clause-mapped
put-requires-clause-mapped c =
    let f = fit_facts c.args.map.now c.args.heap (end_at c.args.map.now c.args.heap) c.args.needed _ _ _ c.requires.heap c.requires.fit in
    still_mapped _ _ _ c.put_link.ensures.kept.layout (heap_mapped c.args.map.now c.args.heap (end_at c.args.map.now c.args.heap) c.args.fit.now.at _ c.requires.heap (omega (arith, f.facts.low)) (omega (arith, f.facts.high, f.facts.size)))

pub put-requires-2-clause-mapped : goal.put-requires-2-clause-mapped
put-requires-2-clause-mapped c =
    let f = fit_facts c.args.map.now c.args.heap (end_at c.args.map.now c.args.heap) c.args.needed _ _ _ c.requires.heap c.requires.fit in
    still_mapped _ _ _ c.put_free.ensures.kept.layout (heap_mapped c.args.map.now c.args.heap (end_at c.args.map.now c.args.heap) c.args.fit.now.at _ c.requires.heap (omega (arith, f.facts.low)) (omega (arith, f.facts.high, f.facts.size)))

pub overflow_add-result : goal.overflow_add-result
overflow_add-result c =
    let f = fit_facts c.args.map.now c.args.heap (end_at c.args.map.now c.args.heap) c.args.needed _ _ _ c.requires.heap c.requires.fit in
    omega (arith, f.facts.high, f.facts.top, f.facts.size)

pub overflow_add-result-2 : goal.overflow_add-result-2
overflow_add-result-2 c =
    let f = fit_facts c.args.map.now c.args.heap (end_at c.args.map.now c.args.heap) c.args.needed _ _ _ c.requires.heap c.requires.fit in
    omega (arith, f.facts.high, f.facts.top, f.facts.size)

pub overflow_add-fit : goal.overflow_add-fit
overflow_add-fit c =
    let f = fit_facts c.args.map.now c.args.heap (end_at c.args.map.now c.args.heap) c.args.needed _ _ _ c.requires.heap c.requires.fit in
    omega (arith, f.facts.high, f.facts.top, c.requires.fit.fits)

pub put_free-requires-clause-aligned : goal.put_free-requires-clause-aligned
put_free-requires-clause-aligned c =
    let f = fit_facts c.args.map.now c.args.heap (end_at c.args.map.now c.args.heap) c.args.needed _ _ _ c.requires.heap c.requires.fit in
    let k = total_facts c.args.needed c.requires.total in
    omega (arith, f.facts.whole, k.1)

pub put_free-requires-clause-fits : goal.put_free-requires-clause-fits
put_free-requires-clause-fits c =
    let f = fit_facts c.args.map.now c.args.heap (end_at c.args.map.now c.args.heap) c.args.needed _ _ _ c.requires.heap c.requires.fit in
    let k = total_facts c.args.needed c.requires.total in
    omega (arith, f.facts.high, f.facts.top, c.requires.fit.fits)

pub put_free-requires-clause-mapped : goal.put_free-requires-clause-mapped
put_free-requires-clause-mapped c =
    let f = fit_facts c.args.map.now c.args.heap (end_at c.args.map.now c.args.heap) c.args.needed _ _ _ c.requires.heap c.requires.fit in
    let k = total_facts c.args.needed c.requires.total in
    let left = f.facts.eighths in
    heap_mapped c.args.map.now c.args.heap (end_at c.args.map.now c.args.heap) _ _ c.requires.heap (omega (arith, f.facts.low)) (omega (arith, f.facts.high, c.requires.fit.fits))

pub put_free-requires-clause-total_mapped : goal.put_free-requires-clause-total_mapped
put_free-requires-clause-total_mapped c =
    let f = fit_facts c.args.map.now c.args.heap (end_at c.args.map.now c.args.heap) c.args.needed _ _ _ c.requires.heap c.requires.fit in
    let k = total_facts c.args.needed c.requires.total in
    let left = f.facts.eighths in
    heap_mapped c.args.map.now c.args.heap (end_at c.args.map.now c.args.heap) _ _ c.requires.heap (omega (arith, f.facts.low)) (omega (arith, f.facts.high, c.requires.fit.fits, k.1))

pub put_free-requires-clause-apart : goal.put_free-requires-clause-apart
put_free-requires-clause-apart c =
    let f = fit_facts c.args.map.now c.args.heap (end_at c.args.map.now c.args.heap) c.args.needed _ _ _ c.requires.heap c.requires.fit in
    inl (omega (arith, f.last.high))

pub remark-requires-clause-olds : goal.remark-requires-clause-olds
remark-requires-clause-olds c =
    let f = fit_facts c.args.map.now c.args.heap (end_at c.args.map.now c.args.heap) c.args.needed _ _ _ c.requires.heap c.requires.fit in
    can_stand c.args.map.now c.put.new.map c.args.heap (end_at c.args.map.now c.args.heap) c.args.fit.now.at _ (Free c.args.fit.now.total ∷ []) c.requires.heap (c.put.ensures.kept.layout ∙ c.put_link.ensures.kept.layout)
    (total_of-numbers c.args.fit.now.total f.facts.size f.facts.eighths, tt) f.facts.whole (omega (arith, f.facts.low)) (omega (arith, f.facts.high))

pub remark-requires-clause-news : goal.remark-requires-clause-news
remark-requires-clause-news c =
    let f = fit_facts c.args.map.now c.args.heap (end_at c.args.map.now c.args.heap) c.args.needed _ _ _ c.requires.heap c.requires.fit in
    can_stand c.args.map.now c.put.new.map c.args.heap (end_at c.args.map.now c.args.heap) c.args.fit.now.at _ (Live c.args.needed ∷ []) c.requires.heap (c.put.ensures.kept.layout ∙ c.put_link.ensures.kept.layout)
    (c.requires.total, tt) f.facts.whole (omega (arith, f.facts.low)) (omega (arith, f.facts.high, c.requires.fit.fits))

pub remark-requires-2-clause-olds : goal.remark-requires-2-clause-olds
remark-requires-2-clause-olds c =
    let f = fit_facts c.args.map.now c.args.heap (end_at c.args.map.now c.args.heap) c.args.needed _ _ _ c.requires.heap c.requires.fit in
    can_stand c.args.map.now c.put-2.new.map c.args.heap (end_at c.args.map.now c.args.heap) c.args.fit.now.at _ (Free c.args.fit.now.total ∷ []) c.requires.heap (c.put-2.ensures.kept.layout ∙ c.put_free.ensures.kept.layout)
    (total_of-numbers c.args.fit.now.total f.facts.size f.facts.eighths, tt) f.facts.whole (omega (arith, f.facts.low)) (omega (arith, f.facts.high))

pub remark-requires-2-clause-news : goal.remark-requires-2-clause-news
remark-requires-2-clause-news c =
    let f = fit_facts c.args.map.now c.args.heap (end_at c.args.map.now c.args.heap) c.args.needed _ _ _ c.requires.heap c.requires.fit in
    let k = total_facts c.args.needed c.requires.total in
    let less : c.args.needed < c.args.fit.now.total = omega (arith, c.requires.fit.fits, c.if-left-eq0.false) in
    let left : is_total (c.args.fit.now.total - c.args.needed) ≡ true =
    total_of-numbers (c.args.fit.now.total - c.args.needed) (omega (arith, f.facts.eighths, k.1)) (omega (arith, f.facts.eighths, k.1)) in
    can_stand c.args.map.now c.put-2.new.map c.args.heap (end_at c.args.map.now c.args.heap) c.args.fit.now.at _ (Live c.args.needed ∷ (Free (c.args.fit.now.total - c.args.needed) ∷ [])) c.requires.heap (c.put-2.ensures.kept.layout ∙ c.put_free.ensures.kept.layout)
    (c.requires.total, (left, tt)) f.facts.whole (omega (arith, f.facts.low)) (omega (arith, f.facts.high, less))

pub returns-then-left-eq0 : goal.returns-then-left-eq0
returns-then-left-eq0 c =
    let f = fit_facts c.args.map.now c.args.heap (end_at c.args.map.now c.args.heap) c.args.needed _ _ _ c.requires.heap c.requires.fit in
    claims_whole c.args.map.now _ c.args.heap (end_at c.args.map.now c.args.heap) c.args.needed _ _ _ c.follow-next.result _ _ c.requires.fit c.requires.heap
    (c.remark.ensures.layout ∙ c.put.ensures.kept.layout ∙ c.put_link.ensures.kept.layout) c.if-left-eq0.true (c.follow-next.ensures ∙ f.onward) c.put_link.ensures.word
    (still_written _ _ _ _ _ c.remark.ensures.bytes c.put.ensures.word)
    (remarks_after (class_of c.args.map.now) (class_of c.put.new.map) (class_of c.remark.new.map) c.args.fit.now.at (Free c.args.fit.now.total ∷ []) (Live c.args.needed ∷ [])
    (c.put.ensures.kept.marks ∙ c.put_link.ensures.kept.marks) c.remark.ensures.marks)

pub returns : goal.returns
returns c =
    let f = fit_facts c.args.map.now c.args.heap (end_at c.args.map.now c.args.heap) c.args.needed _ _ _ c.requires.heap c.requires.fit in
    claims_part c.args.map.now _ c.args.heap (end_at c.args.map.now c.args.heap) c.args.needed _ _ _ c.follow-next.result _ _ c.requires.fit c.requires.heap
    (c.remark-2.ensures.layout ∙ c.put-2.ensures.kept.layout ∙ c.put_free.ensures.kept.layout) c.requires.total c.if-left-eq0.false (c.follow-next.ensures ∙ f.onward) c.put_free.ensures.words
    (still_written _ _ _ _ _ c.remark-2.ensures.bytes c.put-2.ensures.word)
    (remarks_after (class_of c.args.map.now) (class_of c.put-2.new.map) (class_of c.remark-2.new.map) c.args.fit.now.at (Free c.args.fit.now.total ∷ []) (Live c.args.needed ∷ (Free (c.args.fit.now.total - c.args.needed) ∷ []))
    (c.put-2.ensures.kept.marks ∙ c.put_free.ensures.kept.marks) c.remark-2.ensures.marks)
