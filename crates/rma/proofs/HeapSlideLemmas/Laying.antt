-- A block that is copied to its new place, and laid there.
use Rattle.std.proofs.Common.{List, ℕ, Bool, ◌≡◌, ◌≤◌, ◌<◌, ◌+◌, ◌-◌, ◌%◌, ◌∙◌, true, false, refl, inl, inr, arith, cond}
use Rattle.std.proofs.lemmas.Bool.{and_parts, le-leb, leb-true, lt-leb, le-ltb, ltb-true, or_cases}
use Rattle.dynamic_areas.proofs.Bytes.{is_mapped-layout}
use Rattle.dynamic_areas.specs.Bytes.{Bytes, in_range, with_moved_at, word_start}
use Rattle.dynamic_areas.specs.Items.{is_head, is_head_of, size_of}
use Rattle.dynamic_areas.specs.Memory.{byte_at, bytes_of, class_of, layout}
use Rattle.dynamic_areas.specs.Class.{Class}
use Rattle.dynamic_areas.specs.Class.TheVariants as class
use Rattle.dynamic_areas.specs.Item.{Item}
use Rattle.dynamic_areas.specs.Item.TheVariants.{Live}
use Rattle.dynamic_areas.specs.AddressMap.{AddressMap}
use Rattle.dynamic_areas.proofs.HeadWords.{head_inside, law_heap_frame}
use Rattle.dynamic_areas.proofs.Reading.{items_in-heap}
use Rattle.dynamic_areas.specs.Heap.{IsHeapIn}
use Rattle.dynamic_areas.specs.Marks.{head_class, class_after_marking, with_item_marked}
use Rattle.dynamic_areas.specs.Outcomes.{end_at, HasHeapAt, items_at}
use Rattle.rma.specs.heap_slide.Steps.{IsLaid, IsRoomForBlock, IsSetDown, items_laid_last}

-- bytes that a copy leaves alone
pub moved_below : (f : ℕ → ℕ) (from to len a : ℕ) → a < to → with_moved_at f from to len a ≡ f a
moved_below f from to len a low = rw (lt-leb to a low) refl

pub moved_past : (f : ℕ → ℕ) (from to len a : ℕ) → to + len ≤ a → with_moved_at f from to len a ≡ f a
moved_past f from to len a past = rw (le-leb to a (omega arith), le-ltb a (to + len) past) refl

-- a heap whose own bytes up to the base are the same
pub low_kept : (b c : Bytes) (start end : ℕ) (items : List Item) → IsHeapIn b start end items → c.mapped ≡ b.mapped
    → ((a : ℕ) → start ≤ a → a < start + 16 + size_of items → c.at a ≡ b.at a) → IsHeapIn c start end items
low_kept b c start end items heap mapped same =
    let aligned : start % 4 ≡ 0 = heap.aligned in
    law_heap_frame b c start end items mapped (λ a is.
    let p : ℕ = word_start a in
    elim (or_cases (in_range start 16 p) (is_head (start + 16) items p) is) [
      | inl here ↦
          let both = and_parts _ _ here in
          let low : start ≤ p = leb-true start p both.0 in
          let high : p < start + 16 = ltb-true p (start + 16) both.1 in
          same a (omega arith) (omega arith)
      | inr later ↦
          let inside : (start + 16 ≤ p) × (p + 4 ≤ start + 16 + size_of items) = head_inside (start + 16) items p heap.totals later in
          same a (omega (arith, inside.0)) (omega (arith, inside.1))
    ]) heap

-- what is read of a heap that memory spells
pub record IsRead (n : AddressMap) (start end : ℕ) (items : List Item) : Type 0 where
  pub list : items_at n start ≡ items
  pub limit : end_at n start ≡ end
  pub heap : HasHeapAt n start

pub read : (n : AddressMap) (start end : ℕ) (items : List Item) → IsHeapIn (bytes_of n) start end items → IsRead n start end items
read n start end items heap =
    let list : items_at n start ≡ items = items_in-heap (bytes_of n) start end items heap in
    record { list = list; limit = heap.limit; heap = rw (list, heap.limit) heap }

-- a heap after the bytes of a block above its base were copied
moved_heap : (m k : AddressMap) (start from top at to total : ℕ) → IsRoomForBlock m start from top to total (at + total) → layout k ≡ layout m
    → ((a : ℕ) → byte_at k a ≡ with_moved_at (byte_at m) at to total a) → IsHeapIn (bytes_of k) start (end_at m start) (items_at m start)
moved_heap m k start from top at to total r same bytes =
    low_kept (bytes_of m) (bytes_of k) start (end_at m start) (items_at m start) r.heap (is_mapped-layout m k same)
    (λ a low high. bytes a ∙ moved_below (byte_at m) at to total a (omega (arith, high, r.place, r.low)))

pub room_moved : (m k : AddressMap) (start from top at to total : ℕ) → IsRoomForBlock m start from top to total (at + total) → to ≤ at → layout k ≡ layout m
    → ((a : ℕ) → byte_at k a ≡ with_moved_at (byte_at m) at to total a) → IsRoomForBlock k start from top to total (to + total)
room_moved m k start from top at to total r high same bytes =
    let is : IsRead k start (end_at m start) (items_at m start) = read k start (end_at m start) (items_at m start) (moved_heap m k start from top at to total r same bytes) in
    record {
      heap = is.heap;
      last = rw is.list r.last;
      place = rw is.list r.place;
      whole = r.whole;
      low = r.low;
      eighths = r.eighths;
      high = omega arith;
      inside = rw is.limit (omega (arith, r.inside));
    }

-- the marks: the block's old one is gone, and then those of its new words are made
relaid : (made given : Bool) (old mid new : Class) → mid ≡ cond given class.Plain old → new ≡ class_after_marking made false mid → new ≡ class_after_marking made given old
relaid true given old mid new one two = two
relaid false true old mid new one two = two ∙ one
relaid false false old mid new one two = two ∙ one

pub laid_as : (m k n : AddressMap) (start from top at to total : ℕ) → IsRoomForBlock m start from top to total (at + total) → to ≤ at → layout k ≡ layout m
    → ((a : ℕ) → byte_at k a ≡ with_moved_at (byte_at m) at to total a)
    → ((a : ℕ) → class_of k a ≡ with_item_marked at (Live total) (head_class false) (class_of m) a)
    → IsSetDown k n start top to total → IsLaid m n start top at to total
laid_as m k n start from top at to total r high same bytes marks down =
    let is : IsRead k start (end_at m start) (items_at m start) = read k start (end_at m start) (items_at m start) (moved_heap m k start from top at to total r same bytes) in
    record {
      heap = rw (← is.list, ← is.limit) down.heap;
      same = down.same ∙ same;
      others = λ a head out. down.others a head (rw is.list out) ∙ bytes a;
      marks = λ a. relaid (is_head top (items_laid_last (to - top) total) (word_start a)) (is_head_of at (Live total) (word_start a)) (class_of m a) (class_of k a) (class_of n a)
          (marks a) (down.marks a);
    }
