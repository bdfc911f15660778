-- Items laid at the end of a heap's list: a block, and a free item before it where there is a gap.
use Rattle.std.proofs.Common.{List, ℕ, [], ◌∷◌, ◌++◌, ◌≡◌, ◌≢◌, ◌≤◌, ◌<◌, ◌+◌, ◌-◌, ◌%◌, ◌^◌, ◌∙◌, true, refl, subst, inl, inr, append-nil, arith}
use Rattle.std.proofs.lemmas.Bool.{eq-eqb, ne_eqb}
use Rattle.dynamic_areas.proofs.Bytes.{is_mapped-layout}
use Rattle.dynamic_areas.specs.Items.{is_total, size_of}
use Rattle.dynamic_areas.specs.Memory.{byte_at, bytes_of, class_of, is_mapped, layout}
use Rattle.dynamic_areas.specs.Item.{Item}
use Rattle.dynamic_areas.specs.Item.TheVariants.{Free, Live}
use Rattle.dynamic_areas.specs.AddressMap.{AddressMap}
use Rattle.dynamic_areas.proofs.LastLink.{LinkFacts, link_facts}
use Rattle.dynamic_areas.proofs.Marks.{remarked}
use Rattle.dynamic_areas.proofs.Reading.{total_facts}
use Rattle.dynamic_areas.proofs.Spelling.{size_of-append, size_of-multiple, spaced-join, total_of-numbers, totals-front}
use Rattle.dynamic_areas.specs.Heap.{AreSpaced, AreTotals, IsHeapIn, last_free}
use Rattle.dynamic_areas.specs.Marks.{Remarks}
use Rattle.dynamic_areas.specs.Words.{IsFreed, IsWordWritten, link_at}
use Rattle.dynamic_areas.proofs.Claiming.{appended}
use Rattle.dynamic_areas.proofs.Replace.{becomes, heap_below}
use Rattle.dynamic_areas.specs.Outcomes.{Becomes, end_at, items_at}
use Rattle.rma.specs.heap_slide.Steps.{IsRoomForBlock, IsSetDown, items_laid_last}

-- what the room for a block says
pub record RoomFacts (m : AddressMap) (start from top to total end : ℕ) : Type 0 where
  pub above : start + 16 ≤ top
  pub aligned : start % 4 ≡ 0
  pub whole : top % 4 ≡ 0
  pub goal : to % 4 ≡ 0
  pub eighths : total % 8 ≡ 0
  pub size : 8 ≤ total
  pub below : end ≤ start + end_at m start
  pub fits : start + end_at m start ≤ 2 ^ 26
  pub link : LinkFacts start from top
  pub mapped : (a : ℕ) → start ≤ a → a < start + end_at m start → is_mapped m a ≡ true

pub room_facts : (m : AddressMap) (start from top to total end : ℕ) → IsRoomForBlock m start from top to total end → RoomFacts m start from top to total end
room_facts m start from top to total end r =
    let sizes = size_of-multiple (items_at m start) r.heap.totals in
    let least = total_facts total r.whole in
    record {
      above = omega (arith, r.place);
      aligned = r.heap.aligned;
      whole = omega (arith, r.place, r.heap.aligned);
      goal = omega (arith, r.place, r.heap.aligned, r.eighths, r.low);
      eighths = least.1;
      size = least.0;
      below = r.inside;
      fits = heap_below m start (end_at m start) (items_at m start) r.heap;
      link = rw (r.last, r.place) (link_facts start (items_at m start) r.heap.aligned r.heap.totals);
      mapped = r.heap.mapped;
    }

-- no gap, or one
pub laid_alone : (gap total : ℕ) → gap ≡ 0 → items_laid_last gap total ≡ Live total ∷ []
laid_alone gap total none = rw (eq-eqb gap 0 none) refl

pub laid_behind : (gap total : ℕ) → gap ≢ 0 → items_laid_last gap total ≡ Free gap ∷ (Live total ∷ [])
laid_behind gap total some = rw (ne_eqb gap 0 some) refl

-- the words of a free item and of a block after it, over the base
gapped : (m n : AddressMap) (start end gap k : ℕ) (items : List Item) (g h : ℕ → ℕ)
    → IsHeapIn (bytes_of m) start end (items ++ []) → layout n ≡ layout m → is_total gap ≡ true → is_total k ≡ true → 16 + size_of items + gap + k ≤ end
    → IsFreed (byte_at m) g start (last_free start (start + 16) items) (start + 16 + size_of items) gap 0
    → IsWordWritten g h (start + 16 + size_of items + gap) k
    → IsWordWritten h (byte_at n) (start + 8) (16 + size_of items + gap + k)
    → Remarks (class_of m) (class_of n) (start + 16 + size_of items) [] (Free gap ∷ (Live k ∷ []))
    → Becomes m n start end (items ++ Free gap ∷ (Live k ∷ []))
gapped m n start end gap k items g h heap same total_gap total room one two three change =
    let front : AreTotals items = totals-front items [] heap.totals in
    let link : LinkFacts start (last_free start (start + 16) items) (start + 16 + size_of items) = link_facts start items heap.aligned front in
    let new_size : size_of (items ++ Free gap ∷ (Live k ∷ [])) ≡ size_of items + (gap + (k + 0)) = size_of-append items (Free gap ∷ (Live k ∷ [])) in
    let spaced : AreSpaced items = subst AreSpaced (append-nil items) heap.spaced in
    let least = total_facts gap total_gap in
    let at : ℕ = start + 16 + size_of items in
    becomes m n start end items [] (Free gap ∷ (Live k ∷ [])) heap (record {
      mapped = is_mapped-layout m n same;
      totals = (total_gap, (total, tt));
      spaced = spaced-join items (Free gap ∷ (Live k ∷ [])) spaced (refl, tt);
      inside = omega arith;
      link = three.apart (link_at start (last_free start (start + 16) items)) (elim link.other [ inl low ↦ inl low | inr high ↦ inr (omega arith) ])
          ∙ two.apart (link_at start (last_free start (start + 16) items)) (inl (omega (arith, link.high))) ∙ one.to_item;
      base = three.here ∙ (let e : 16 + size_of items + gap + k ≡ 16 + size_of (items ++ Free gap ∷ (Live k ∷ [])) = omega arith in e);
      same = λ a low apart base. three.apart a base ∙ two.apart a (inl (omega arith)) ∙ one.apart a apart (inl low);
      spelled = (
        three.apart at (inr (omega arith)) ∙ two.apart at (inl (omega (arith, least.0))) ∙ one.to_next,
        (
          three.apart (at + 4) (inr (omega arith)) ∙ two.apart (at + 4) (inl (omega (arith, least.0))) ∙ one.length,
          (three.apart (at + gap) (inr (omega arith)) ∙ two.here, tt),
        ),
      );
    }) same
    (λ a head apart out. three.other a (elim head [ inl low ↦ inl (omega arith) | inr high ↦ inr (omega arith) ]) ∙ two.other a out.1.0 ∙ one.other a apart out.0)
    (remarked (class_of m) (class_of n) (start + 16) items [] (Free gap ∷ (Live k ∷ [])) [] heap.totals (λ p. refl) change)

set_as : (m n : AddressMap) (start top to total : ℕ) (news : List Item) → items_laid_last (to - top) total ≡ news
    → Becomes m n start (end_at m start) (items_at m start ++ news) → Remarks (class_of m) (class_of n) top [] news → IsSetDown m n start top to total
set_as m n start top to total news e b change = record {
  heap = rw e b.heap;
  same = b.same;
  others = λ a head. rw e (b.others a head);
  marks = rw e change;
}

pub set_alone : (m n : AddressMap) (start from top to total end : ℕ) (g : ℕ → ℕ) → IsRoomForBlock m start from top to total end → end ≡ to + total → to ≡ top
    → layout n ≡ layout m → IsWordWritten (byte_at m) g to total → IsWordWritten g (byte_at n) (start + 8) (to + total - start)
    → Remarks (class_of m) (class_of n) to [] (Live total ∷ []) → IsSetDown m n start top to total
set_alone m n start from top to total end g r last here same one two change =
    let items : List Item = items_at m start in
    let heap : IsHeapIn (bytes_of m) start (end_at m start) (items ++ []) = rw (append-nil items) r.heap in
    let at : to ≡ start + 16 + size_of items = here ∙ r.place in
    let one' = rw at at one in
    let base : to + total - start ≡ 16 + size_of items + total = omega arith in
    let two' = rw base at two in
    set_as m n start top to total (Live total ∷ []) (laid_alone (to - top) total (omega arith))
    (appended m n start (end_at m start) total items g heap same r.whole (omega (arith, r.inside)) one' two' (rw at at change))
    (rw here at change)

freed_at : (f g : ℕ → ℕ) (start from from' top top' gap : ℕ) → from ≡ from' → top ≡ top' → IsFreed f g start from top gap 0 → IsFreed f g start from' top' gap 0
freed_at f g start from from' top top' gap e k one = let one' = rw (e, k) at one in one'

pub set_behind : (m n : AddressMap) (start from top to total end : ℕ) (g h : ℕ → ℕ) → IsRoomForBlock m start from top to total end → end ≡ to + total → to ≢ top
    → layout n ≡ layout m → IsFreed (byte_at m) g start from top (to - top) 0 → IsWordWritten g h to total
    → IsWordWritten h (byte_at n) (start + 8) (to + total - start)
    → Remarks (class_of m) (class_of n) top [] (Free (to - top) ∷ (Live total ∷ [])) → IsSetDown m n start top to total
set_behind m n start from top to total end g h r last other same one two three change =
    let items : List Item = items_at m start in
    let gap : ℕ = to - top in
    let heap : IsHeapIn (bytes_of m) start (end_at m start) (items ++ []) = rw (append-nil items) r.heap in
    let one' = freed_at (byte_at m) g start from _ top _ gap r.last r.place one in
    let at : to ≡ start + 16 + size_of items + gap = omega (arith, r.place, r.low) in
    let two' = rw at at two in
    let base : to + total - start ≡ 16 + size_of items + gap + total = omega arith in
    let three' = rw base at three in
    set_as m n start top to total (Free gap ∷ (Live total ∷ [])) (laid_behind gap total (omega (arith, r.low)))
    (gapped m n start (end_at m start) gap total items g h heap same (total_of-numbers gap (omega (arith, r.low, r.eighths)) r.eighths) r.whole
    (omega (arith, r.inside)) one' two' three'
    (subst (λ (q : ℕ). Remarks (class_of m) (class_of n) q [] (Free gap ∷ (Live total ∷ []))) r.place change))
    change
