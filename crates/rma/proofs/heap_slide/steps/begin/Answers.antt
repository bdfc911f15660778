use Rattle.std.proofs.Common.{◌∙◌, arith}
use Rattle.dynamic_areas.proofs.Replace.{heap_below}
use Rattle.dynamic_areas.proofs.Searching.{first_below, first_link}
use Rattle.dynamic_areas.specs.Outcomes.{end_at}
use Rattle.rma.proofs.HeapSlideLemmas.Beginning.{begun}
use Rattle.rma.proofs.heap_slide.steps.begin.Goals as goal

pub follow-free-requires-clause-below : goal.follow-free-requires-clause-below
follow-free-requires-clause-below c =
    omega (arith, heap_below c.args.map.now c.args.heap (end_at c.args.map.now c.args.heap) _ c.requires, c.requires.inside)

pub follow-free-requires-clause-fits : goal.follow-free-requires-clause-fits
follow-free-requires-clause-fits c =
    rw (first_link c.args.map.now c.args.heap (end_at c.args.map.now c.args.heap) _ c.requires)
    (omega (arith, first_below c.args.map.now c.args.heap (end_at c.args.map.now c.args.heap) _ c.requires))

pub overflow_add-first : goal.overflow_add-first
overflow_add-first c =
    omega (arith, heap_below c.args.map.now c.args.heap (end_at c.args.map.now c.args.heap) _ c.requires, c.requires.inside)

pub put_link-requires-clause-below : goal.put_link-requires-clause-below
put_link-requires-clause-below c =
    omega (arith, heap_below c.args.map.now c.args.heap (end_at c.args.map.now c.args.heap) _ c.requires, c.requires.inside)

pub overflow_add-heap : goal.overflow_add-heap
overflow_add-heap c =
    omega (arith, heap_below c.args.map.now c.args.heap (end_at c.args.map.now c.args.heap) _ c.requires, c.requires.inside)

pub returns : goal.returns
returns c = λ movable blocks few.
    begun c.args.map.now c.put_link.new.map c.put.new.map c.args.heap c.follow-free.result movable c.requires
    (c.put.ensures.kept.layout ∙ c.put_link.ensures.kept.layout) (c.put.ensures.kept.marks ∙ c.put_link.ensures.kept.marks)
    (c.follow-free.ensures ∙ first_link c.args.map.now c.args.heap (end_at c.args.map.now c.args.heap) _ c.requires)
    c.put_link.ensures.word c.put.ensures.word blocks few
