use Rattle.std.proofs.Common.{[], ◌∷◌, ◌≡◌, ◌+◌, ◌∙◌, arith}
use Rattle.address_map.specs.Items.{size_of}
use Rattle.os_heap_words.specs.Outcomes.{end_at, items_at}
use Rattle.address_map.specs.Memory.{class_of}
use Rattle.address_map.specs.declared.item.Item.TheVariants.{Live}
use Rattle.os_heap_words.proofs.Marking.{can_stand, still_written, remarks_after}
use Rattle.os_heap_words.proofs.Replace.{heap_below}
use Rattle.os_heap_words.proofs.ListsLemmas.Spelling.{size_of-multiple}
use Rattle.os_heap_words.proofs.Claiming.{claims_base}
use Rattle.os_heap_words.proofs.claim.append.Goals as goal

pub overflow_add-heap : goal.overflow_add-heap
overflow_add-heap c =
    omega (arith, heap_below c.args.map.now c.args.heap (end_at c.args.map.now c.args.heap) _ c.requires.heap, c.requires.heap.inside)

pub overflow_add-heap-2 : goal.overflow_add-heap-2
overflow_add-heap-2 c =
    omega (arith, heap_below c.args.map.now c.args.heap (end_at c.args.map.now c.args.heap) _ c.requires.heap, c.requires.heap.inside)

pub overflow_add-heap-4 : goal.overflow_add-heap-4
overflow_add-heap-4 c =
    omega (arith, heap_below c.args.map.now c.args.heap (end_at c.args.map.now c.args.heap) _ c.requires.heap, c.requires.heap.inside)

pub overflow_add-heap-5 : goal.overflow_add-heap-5
overflow_add-heap-5 c =
    omega (arith, heap_below c.args.map.now c.args.heap (end_at c.args.map.now c.args.heap) _ c.requires.heap, c.requires.heap.inside, c.word-base.ensures, c.requires.heap.base)

pub overflow_add-from : goal.overflow_add-from
overflow_add-from c =
    let top = heap_below c.args.map.now c.args.heap (end_at c.args.map.now c.args.heap) _ c.requires.heap in
    let base : c.word-base.result ≡ 16 + size_of (items_at c.args.map.now c.args.heap) = c.word-base.ensures ∙ c.requires.heap.base in
    omega (arith, top, base, c.requires.heap.inside, c.requires.needed.small)

pub overflow_add-heap-3 : goal.overflow_add-heap-3
overflow_add-heap-3 c =
    let top = heap_below c.args.map.now c.args.heap (end_at c.args.map.now c.args.heap) _ c.requires.heap in
    let base : c.word-base.result ≡ 16 + size_of (items_at c.args.map.now c.args.heap) = c.word-base.ensures ∙ c.requires.heap.base in
    omega (arith, top, base, c.requires.heap.inside, c.word-end.ensures)

pub overflow_add-result : goal.overflow_add-result
overflow_add-result c =
    let top = heap_below c.args.map.now c.args.heap (end_at c.args.map.now c.args.heap) _ c.requires.heap in
    let base : c.word-base.result ≡ 16 + size_of (items_at c.args.map.now c.args.heap) = c.word-base.ensures ∙ c.requires.heap.base in
    omega (arith, top, base, c.requires.heap.inside, c.word-end.ensures)

pub overflow_add-result-2 : goal.overflow_add-result-2
overflow_add-result-2 c =
    let top = heap_below c.args.map.now c.args.heap (end_at c.args.map.now c.args.heap) _ c.requires.heap in
    let base : c.word-base.result ≡ 16 + size_of (items_at c.args.map.now c.args.heap) = c.word-base.ensures ∙ c.requires.heap.base in
    omega (arith, top, base, c.requires.heap.inside, c.word-end.ensures)

pub put-requires-clause-aligned : goal.put-requires-clause-aligned
put-requires-clause-aligned c =
    let top = heap_below c.args.map.now c.args.heap (end_at c.args.map.now c.args.heap) _ c.requires.heap in
    let base : c.word-base.result ≡ 16 + size_of (items_at c.args.map.now c.args.heap) = c.word-base.ensures ∙ c.requires.heap.base in
    omega (arith, base, c.requires.heap.aligned, size_of-multiple (items_at c.args.map.now c.args.heap) c.requires.heap.totals)

pub make-requires : goal.make-requires
make-requires c =
    let base : c.word-base.result ≡ 16 + size_of (items_at c.args.map.now c.args.heap) = c.word-base.ensures ∙ c.requires.heap.base in
    can_stand c.args.map.now c.put-2.new.map c.args.heap (end_at c.args.map.now c.args.heap) (c.args.heap + c.word-base.result) _ (Live c.args.needed ∷ []) c.requires.heap (c.put-2.ensures.kept.layout ∙ c.put.ensures.kept.layout)
    (c.requires.needed.total, tt)
    (omega (arith, base, c.requires.heap.aligned, size_of-multiple (items_at c.args.map.now c.args.heap) c.requires.heap.totals)) (omega arith) (omega (arith, c.word-end.ensures))

pub returns : goal.returns
returns c =
    let base : c.word-base.result ≡ 16 + size_of (items_at c.args.map.now c.args.heap) = c.word-base.ensures ∙ c.requires.heap.base in
    claims_base c.args.map.now _ c.args.heap (end_at c.args.map.now c.args.heap) c.args.needed c.word-base.result _ _ c.requires.heap
    (c.make.ensures.kept.layout ∙ c.put-2.ensures.kept.layout ∙ c.put.ensures.kept.layout) c.requires.needed.total base (omega (arith, c.word-end.ensures)) c.put.ensures.word
    (still_written _ _ _ _ _ c.make.ensures.kept.bytes c.put-2.ensures.word)
    (remarks_after (class_of c.args.map.now) (class_of c.put-2.new.map) (class_of c.make.new.map) (c.args.heap + c.word-base.result) [] (Live c.args.needed ∷ [])
    (c.put-2.ensures.kept.marks ∙ c.put.ensures.kept.marks) c.make.ensures.marks)
