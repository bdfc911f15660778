use Rattle.std.proofs.Common.{ℕ, ◌∙◌, ap, arith}
use Rattle.dynamic_areas.specs.Bytes.{with_moved_at}
use Rattle.dynamic_areas.specs.Class.{Class}
use Rattle.rma.proofs.HeapSlideLemmas.Laying.{laid_as, room_moved}
use Rattle.rma.proofs.HeapSlideLemmas.Setting.{room_facts}
use Rattle.rma.proofs.heap_slide.items.lay.Goals as goal

pub set_down-requires : goal.set_down-requires
set_down-requires c =
    room_moved c.args.map.now c.move_bytes.new.self c.args.heap c.args.cursor.now.from c.args.cursor.now.top c.args.cursor.now.at c.args.to c.args.total
    c.requires.room c.requires.high (c.move_bytes.ensures.layout ∙ c.mark_item.ensures.kept.layout)
    (λ a. c.move_bytes.ensures.bytes a ∙ ap (λ (f : ℕ → ℕ). with_moved_at f c.args.cursor.now.at c.args.to c.args.total a) c.mark_item.ensures.kept.bytes)

pub overflow_add-result : goal.overflow_add-result
overflow_add-result c =
    let f = room_facts _ _ _ _ _ _ _ c.requires.room in
    omega (arith, f.below, f.fits, c.requires.high)

pub overflow_add-result-2 : goal.overflow_add-result-2
overflow_add-result-2 c =
    let f = room_facts _ _ _ _ _ _ _ c.requires.room in
    omega (arith, f.below, f.fits)

pub returns-clause-laid : goal.returns-clause-laid
returns-clause-laid c =
    laid_as c.args.map.now c.move_bytes.new.self c.set_down.new.map c.args.heap c.args.cursor.now.from c.args.cursor.now.top c.args.cursor.now.at c.args.to c.args.total
    c.requires.room c.requires.high (c.move_bytes.ensures.layout ∙ c.mark_item.ensures.kept.layout)
    (λ a. c.move_bytes.ensures.bytes a ∙ ap (λ (f : ℕ → ℕ). with_moved_at f c.args.cursor.now.at c.args.to c.args.total a) c.mark_item.ensures.kept.bytes)
    (λ a. ap (λ (f : ℕ → Class). f a) c.move_bytes.ensures.marks ∙ c.mark_item.ensures.marks a) c.set_down.ensures
