-- A heap whose items from some place on are replaced by others.
use Rattle.std.proofs.Common.{subst, sym, ◌-◌, arith, ◌+◌, ◌≤◌, List, ℕ, ◌^◌, ◌≡◌, true, ◌<◌, ◌++◌}
use Rattle.address_map.proofs.Spans.{range_below}
use Rattle.address_map.specs.Items.{size_of}
use Rattle.address_map.specs.Memory.{bytes_of, is_mapped, layout, byte_at, class_of}
use Rattle.address_map.specs.declared.item.Item.{Item}
use Rattle.address_map.specs.declared.map.AddressMap.{AddressMap}
use Rattle.os_heap_words.proofs.ListsLemmas.LastLink.{IsReplaced, outside-back, outside-link, replaced}
use Rattle.os_heap_words.proofs.ListsLemmas.Reading.{items_in-heap}
use Rattle.os_heap_words.proofs.ListsLemmas.Spelling.{totals-front}
use Rattle.os_heap_words.specs.lists.Heap.{IsHeapIn, last_free}
use Rattle.os_heap_words.specs.lists.Marks.{AreMarked, Remarks}
use Rattle.os_heap_words.specs.lists.Words.{IsOutside, link_at, AreApart}
use Rattle.os_heap_words.specs.Outcomes.{Becomes}

-- words of a heap are mapped, and lie in the address space
pub heap_below : (m : AddressMap) (start end : ℕ) (items : List Item) → IsHeapIn (bytes_of m) start end items → start + end ≤ 2 ^ 26
heap_below m start end items heap =
    omega (arith, range_below m start end (end - 1) heap.mapped (omega (arith, heap.inside)), heap.inside)

pub heap_mapped : (m : AddressMap) (start end a : ℕ) (items : List Item) → IsHeapIn (bytes_of m) start end items
    → start ≤ a → a < start + end → is_mapped m a ≡ true
heap_mapped m start end a items heap low high = heap.mapped a low high

-- the heap becomes that of the new list, where no byte changed but of the words written
pub becomes : (m n : AddressMap) (start end : ℕ) (xs old new : List Item) → IsHeapIn (bytes_of m) start end (xs ++ old)
    → IsReplaced (bytes_of m) (bytes_of n) start end xs new → layout n ≡ layout m
    → ((a : ℕ) → AreApart a 1 start 16 → AreApart a 1 (link_at start (last_free start (start + 16) xs)) 4
    → IsOutside (start + 16 + size_of xs) new a → byte_at n a ≡ byte_at m a)
    → (AreMarked (class_of m) (start + 16) (xs ++ old) → Remarks (class_of m) (class_of n) (start + 16) (xs ++ old) (xs ++ new))
    → Becomes m n start end (xs ++ new)
becomes m n start end xs old new heap r same others marks = record {
  heap = replaced (bytes_of m) (bytes_of n) start end xs old new heap r;
  same = same;
  others = λ a head out.
      others a head (outside-link start xs new a (totals-front xs old heap.totals) head out) (outside-back (start + 16) xs new a out);
  marks = subst
      (λ (ys : List Item). AreMarked (class_of m) (start + 16) ys → Remarks (class_of m) (class_of n) (start + 16) ys (xs ++ new))
      (sym (items_in-heap (bytes_of m) start end (xs ++ old) heap)) marks;
}
