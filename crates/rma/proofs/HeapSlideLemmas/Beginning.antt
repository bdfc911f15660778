-- A heap that was made one without items, whose bytes are as they were.
use Rattle.std.proofs.Common.{List, ℕ, [], ◌≡◌, ◌≤◌, ◌+◌, ◌-◌, ◌∙◌, refl, sym, ap, add-zero, inl, inr, arith, length}
use Rattle.dynamic_areas.proofs.Bytes.{is_mapped-layout}
use Rattle.dynamic_areas.specs.Memory.{byte_at, bytes_of, class_of, layout}
use Rattle.dynamic_areas.specs.Class.{Class}
use Rattle.dynamic_areas.specs.AddressMap.{AddressMap}
use Rattle.dynamic_areas.proofs.LastLink.{link_of-heap, replaced}
use Rattle.dynamic_areas.specs.Heap.{IsHeapIn, next_free}
use Rattle.dynamic_areas.specs.Words.{IsWordWritten, link_at}
use Rattle.dynamic_areas.specs.Outcomes.{end_at, HasHeapAt, items_at}
use Rattle.rma.proofs.HeapSlideLemmas.Laying.{IsRead, read}
use Rattle.rma.specs.heap_slide.Slide.{AreBlocks}
use Rattle.rma.specs.heap_slide.Steps.{IsSliding}

pub emptied : (m k n : AddressMap) (start : ℕ) → HasHeapAt m start → layout n ≡ layout m
    → IsWordWritten (byte_at m) (byte_at k) (link_at start start) (0 - start) → IsWordWritten (byte_at k) (byte_at n) (start + 8) 16
    → IsHeapIn (bytes_of n) start (end_at m start) []
emptied m k n start heap same one two =
    let link : link_at start start ≡ start + 4 = link_of-heap start in
    replaced (bytes_of m) (bytes_of n) start (end_at m start) [] (items_at m start) [] heap (record {
      mapped = is_mapped-layout m n same;
      totals = tt;
      spaced = tt;
      inside = omega (arith, heap.inside);
      link = two.apart (link_at start start) (inl (omega (arith, link))) ∙ one.here;
      base = two.here;
      same = λ a low apart base. two.apart a base ∙ one.apart a apart;
      spelled = tt;
    })

pub begun : (m k n : AddressMap) (start free : ℕ) (movable : List ℕ) → HasHeapAt m start → layout n ≡ layout m → class_of n ≡ class_of m
    → free ≡ next_free (start + 16) (items_at m start) 0
    → IsWordWritten (byte_at m) (byte_at k) (link_at start start) (0 - start) → IsWordWritten (byte_at k) (byte_at n) (start + 8) 16
    → AreBlocks (start + 16) (items_at m start) movable → length movable ≤ 128
    → IsSliding m n start movable movable [] start (start + 16) (start + 16) free
begun m k n start free movable heap same marks next one two blocks few =
    let link : link_at start start ≡ start + 4 = link_of-heap start in
    let now : IsHeapIn (bytes_of n) start (end_at m start) [] = emptied m k n start heap same one two in
    let is : IsRead n start (end_at m start) [] = read n start (end_at m start) [] now in
    record {
      passed = [];
      rest = items_at m start;
      bytes = byte_at m;
      split = refl;
      place = sym (add-zero (start + 16));
      next = next;
      heap = rw is.list now;
      end = rw is.list (sym (add-zero (start + 16)));
      low = omega arith;
      last = rw is.list refl;
      same = same;
      list = rw is.list refl;
      copied = refl;
      others = λ a head out. two.other a (elim head [ inl low ↦ inl (omega arith) | inr past ↦ inr (omega arith) ])
          ∙ one.other a (elim head [ inl low ↦ inl (omega (arith, link)) | inr past ↦ inr (omega (arith, link)) ]);
      behind = λ a past. two.other a (inr (omega arith)) ∙ one.other a (inr (omega (arith, link)));
      marks = λ a. rw is.list (ap (λ (f : ℕ → Class). f a) marks);
      moved = refl;
      blocks = blocks;
      listed = λ b low. refl;
      few = omega (arith, few);
    }
