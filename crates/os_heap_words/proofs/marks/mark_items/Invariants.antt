use Rattle.std.proofs.Common.{ℕ, ◌≡◌, ◌+◌, take}
use Rattle.address_map.specs.Items.{size_of}
use Rattle.address_map.specs.Memory.{byte_at, layout, class_of}
use Rattle.os_heap_words.specs.lists.Marks.{head_class, with_items_marked}
use Rattle.os_heap_words.proofs.marks.mark_items.Given as goal

abbrev pub invariant-loop-item : goal.invariant-loop-item
invariant-loop-item l = record {
  place : l.place ≡ l.at + size_of (take l.item-index l.items);
  marks : (a : ℕ) → class_of l.map a ≡ with_items_marked l.at (take l.item-index l.items) (head_class l.is_head) (class_of l.fn.map) a;
  bytes : byte_at l.map ≡ byte_at l.fn.map;
  layout : layout l.map ≡ layout l.fn.map;
}
