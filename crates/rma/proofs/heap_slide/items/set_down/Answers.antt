use Rattle.std.proofs.Common.{◌∙◌, ◌-◌, [], ◌∷◌, refl, inl, arith}
use Rattle.dynamic_areas.specs.Memory.{class_of}
use Rattle.dynamic_areas.specs.Item.TheVariants.{Free, Live}
use Rattle.dynamic_areas.proofs.Marking.{can_stand, remarks_after, still_written}
use Rattle.dynamic_areas.specs.Outcomes.{end_at}
use Rattle.dynamic_areas.proofs.Spelling.{total_of-numbers}
use Rattle.rma.proofs.HeapSlideLemmas.Setting.{room_facts, set_alone, set_behind}
use Rattle.rma.proofs.heap_slide.items.set_down.Goals as goal

pub overflow_add-base : goal.overflow_add-base
overflow_add-base c =
    let f = room_facts _ _ _ _ _ _ _ c.requires in
    omega (arith, f.below, f.fits)

pub overflow_sub-base : goal.overflow_sub-base
overflow_sub-base c =
    let f = room_facts _ _ _ _ _ _ _ c.requires in
    omega (arith, f.above, c.requires.low)

pub put-requires-clause-aligned : goal.put-requires-clause-aligned
put-requires-clause-aligned c = (room_facts _ _ _ _ _ _ _ c.requires).goal

pub make-requires : goal.make-requires
make-requires c =
    let f = room_facts _ _ _ _ _ _ _ c.requires in
    can_stand c.args.map.now c.put-then-to-cursor.new.map c.args.heap (end_at c.args.map.now c.args.heap) c.args.to _ (Live c.args.total ∷ []) c.requires.heap
    (c.put-then-to-cursor.ensures.kept.layout ∙ c.put.ensures.kept.layout) (c.requires.whole, tt) f.goal (omega (arith, f.above, c.requires.low)) (omega (arith, f.below))

pub returns-then-to-cursor : goal.returns-then-to-cursor
returns-then-to-cursor c =
    set_alone c.args.map.now c.make.new.map c.args.heap c.args.cursor.now.from c.args.cursor.now.top c.args.to c.args.total _ _ c.requires refl c.if-to-cursor.true
    (c.make.ensures.kept.layout ∙ c.put-then-to-cursor.ensures.kept.layout ∙ c.put.ensures.kept.layout) c.put.ensures.word
    (still_written _ _ _ _ _ c.make.ensures.kept.bytes c.put-then-to-cursor.ensures.word)
    (remarks_after (class_of c.args.map.now) (class_of c.put-then-to-cursor.new.map) (class_of c.make.new.map) c.args.to [] (Live c.args.total ∷ [])
    (c.put-then-to-cursor.ensures.kept.marks ∙ c.put.ensures.kept.marks) c.make.ensures.marks)

pub put_free-requires-clause-below : goal.put_free-requires-clause-below
put_free-requires-clause-below c =
    let f = room_facts _ _ _ _ _ _ _ c.requires in
    omega (arith, f.link.below, f.below, f.fits, c.requires.low)

pub put_free-requires-clause-link_aligned : goal.put_free-requires-clause-link_aligned
put_free-requires-clause-link_aligned c = (room_facts _ _ _ _ _ _ _ c.requires).link.aligned

pub put_free-requires-clause-link_mapped : goal.put_free-requires-clause-link_mapped
put_free-requires-clause-link_mapped c =
    let f = room_facts _ _ _ _ _ _ _ c.requires in
    f.mapped _ (omega (arith, f.link.low)) (omega (arith, f.link.high, f.below, c.requires.low, f.size))

pub put_free-requires-clause-aligned : goal.put_free-requires-clause-aligned
put_free-requires-clause-aligned c = (room_facts _ _ _ _ _ _ _ c.requires).whole

pub put_free-requires-clause-apart : goal.put_free-requires-clause-apart
put_free-requires-clause-apart c = inl (room_facts _ _ _ _ _ _ _ c.requires).link.high

pub put-requires-2-clause-aligned : goal.put-requires-2-clause-aligned
put-requires-2-clause-aligned c = (room_facts _ _ _ _ _ _ _ c.requires).goal

pub make-requires-2 : goal.make-requires-2
make-requires-2 c =
    let f = room_facts _ _ _ _ _ _ _ c.requires in
    can_stand c.args.map.now c.put-3.new.map c.args.heap (end_at c.args.map.now c.args.heap) c.args.cursor.now.top _ (Free (c.args.to - c.args.cursor.now.top) ∷ (Live c.args.total ∷ [])) c.requires.heap
    (c.put-3.ensures.kept.layout ∙ c.put-2.ensures.kept.layout ∙ c.put_free.ensures.kept.layout)
    (total_of-numbers (c.args.to - c.args.cursor.now.top) (omega (arith, c.requires.low, c.requires.eighths, c.if-to-cursor.false)) c.requires.eighths, (c.requires.whole, tt))
    f.whole (omega (arith, f.above)) (omega (arith, f.below, c.requires.low))

pub returns : goal.returns
returns c =
    set_behind c.args.map.now c.make-2.new.map c.args.heap c.args.cursor.now.from c.args.cursor.now.top c.args.to c.args.total _ _ _ c.requires refl c.if-to-cursor.false
    (c.make-2.ensures.kept.layout ∙ c.put-3.ensures.kept.layout ∙ c.put-2.ensures.kept.layout ∙ c.put_free.ensures.kept.layout) c.put_free.ensures.words c.put-2.ensures.word
    (still_written _ _ _ _ _ c.make-2.ensures.kept.bytes c.put-3.ensures.word)
    (remarks_after (class_of c.args.map.now) (class_of c.put-3.new.map) (class_of c.make-2.new.map) c.args.cursor.now.top [] (Free (c.args.to - c.args.cursor.now.top) ∷ (Live c.args.total ∷ []))
    (c.put-3.ensures.kept.marks ∙ c.put-2.ensures.kept.marks ∙ c.put_free.ensures.kept.marks) c.make-2.ensures.marks)
