use Rattle.std.proofs.Common.{List, ◌≡◌, ◌+◌, ◌++◌, [], ◌∷◌, ◌∙◌, take, slice_index_or, arith}
use Rattle.std.proofs.lemmas.List.{take_more}
use Rattle.address_map.specs.Items.{size_of, total_of}
use Rattle.address_map.specs.Memory.{class_of}
use Rattle.address_map.specs.declared.item.Item.{Item}
use Rattle.address_map.specs.declared.item.Item.TheVariants.{Live}
use Rattle.os_heap_words.proofs.ListsLemmas.Marks.{one_more}
use Rattle.os_heap_words.proofs.ListsLemmas.Spelling.{size_of-append}
use Rattle.os_heap_words.specs.lists.Marks.{head_class}
use Rattle.os_heap_words.proofs.Marking.{next_item}
use Rattle.os_heap_words.proofs.marks.mark_items.Goals as goal

pub mark_item-requires : goal.mark_item-requires
mark_item-requires c =
    (next_item c.args.map.now c.loop-item.map c.args.at c.loop-item.place c.loop-item.item-index c.args.items.now c.requires
    c.loop-item.invariant.layout c.loop-item-test.true c.loop-item.invariant.place).0

pub overflow_add-place : goal.overflow_add-place
overflow_add-place c =
    let next = next_item c.args.map.now c.loop-item.map c.args.at c.loop-item.place c.loop-item.item-index c.args.items.now c.requires
    c.loop-item.invariant.layout c.loop-item-test.true c.loop-item.invariant.place in
    omega (arith, next.1, c.total-place.ensures)

pub loop-item-preserved : goal.loop-item-preserved
loop-item-preserved c =
    let i = c.loop-item.item-index in
    let items = c.args.items.now in
    let done : List Item = take i items in
    let item : Item = slice_index_or items i (Live 0) in
    let more : take (i + 1) items ≡ done ++ item ∷ [] = take_more items i (Live 0) c.loop-item-test.true in
    let size : size_of (done ++ item ∷ []) ≡ size_of done + (total_of item + 0) = size_of-append done (item ∷ []) in
    record {
      place = rw more (omega (arith, c.loop-item.invariant.place, c.total-place.ensures, size));
      marks = rw more (one_more (class_of c.args.map.now) (class_of c.loop-item.map) (class_of c.mark_item.new.map) c.args.at c.loop-item.place done item
          (head_class c.args.is_head) c.loop-item.invariant.place c.loop-item.invariant.marks c.mark_item.ensures.marks);
      bytes = c.mark_item.ensures.kept.bytes ∙ c.loop-item.invariant.bytes;
      layout = c.mark_item.ensures.kept.layout ∙ c.loop-item.invariant.layout;
    }
