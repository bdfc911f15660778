-- What another total of a block leaves of a heap: a free item behind the block, none, or the base elsewhere.
use Rattle.std.proofs.Common.{ap, ◌≡◌, ◌++◌, arith, ℕ, true, ◌∷◌, List, ◌∙◌, inr, ◌-◌, inl, ◌+◌, [], ◌≤◌, subst}
use Rattle.address_map.proofs.Bytes.{is_mapped-layout}
use Rattle.address_map.specs.Bytes.{word_at}
use Rattle.address_map.specs.Items.{size_of, is_total}
use Rattle.address_map.specs.Memory.{bytes_of, byte_at, layout, class_of}
use Rattle.address_map.specs.declared.item.Item.{Item}
use Rattle.address_map.specs.declared.item.Item.TheVariants.{Live, Free}
use Rattle.address_map.specs.declared.map.AddressMap.{AddressMap}
use Rattle.os_heap_words.proofs.ListsLemmas.ItemWalk.{size_of-gap}
use Rattle.os_heap_words.proofs.ListsLemmas.LastLink.{LinkFacts, link_facts, link_word}
use Rattle.os_heap_words.proofs.ListsLemmas.Marks.{remarked_as, still-same, unmarked, last_still}
use Rattle.os_heap_words.proofs.ListsLemmas.Reading.{total_facts}
use Rattle.os_heap_words.proofs.ListsLemmas.Resizes.{spaced-block, gap_link}
use Rattle.os_heap_words.proofs.ListsLemmas.Spelling.{spells-kept, size_of-append, totals-front}
use Rattle.os_heap_words.specs.lists.Heap.{begins_live, AreTotals, Spells, next_free, last_free, AreSpaced, IsHeapIn}
use Rattle.os_heap_words.specs.lists.Lists.{left_free}
use Rattle.os_heap_words.specs.lists.Marks.{Remarks}
use Rattle.os_heap_words.specs.lists.Walks.{last_link, IsBlock}
use Rattle.os_heap_words.specs.lists.Words.{IsDivided, IsWordWritten, link_at}
use Rattle.os_heap_words.proofs.Replace.{becomes}
use Rattle.os_heap_words.proofs.Walking.{LiveFacts, live_facts}
use Rattle.os_heap_words.specs.Outcomes.{Becomes, IsHeapAt, items_at}

-- a free item behind the block
pub divided : (m n : AddressMap) (start end : ℕ) (front old xs gone : List Item) (t k s : ℕ)
    → IsHeapIn (bytes_of m) start end (front ++ Live t ∷ old) → layout n ≡ layout m → is_total k ≡ true → is_total s ≡ true
    → t + size_of old ≡ k + (s + size_of xs) → AreTotals xs → AreSpaced xs → begins_live xs ≡ true
    → Spells (word_at (byte_at m)) (start + 16 + size_of front + k + s) xs 0
    → IsDivided (byte_at m) (byte_at n) start (last_free start (start + 16) front) (start + 16 + size_of front) k s
    (next_free (start + 16 + size_of front + k + s) xs 0)
    → Live t ∷ old ≡ gone ++ xs → Remarks (class_of m) (class_of n) (start + 16 + size_of front) gone (Live k ∷ (Free s ∷ []))
    → Becomes m n start end (front ++ Live k ∷ (Free s ∷ xs))
divided m n start end front old xs gone t k s heap same block total size totals spaced live spelled one split change =
    let before : AreTotals front = totals-front front (Live t ∷ old) heap.totals in
    let least = total_facts s total in
    let least_k = total_facts k block in
    let link : LinkFacts start (last_free start (start + 16) front) (start + 16 + size_of front) = link_facts start front heap.aligned before in
    let old_size : size_of (front ++ Live t ∷ old) ≡ size_of front + (t + size_of old) = size_of-append front (Live t ∷ old) in
    let new_size : size_of (front ++ Live k ∷ (Free s ∷ xs)) ≡ size_of front + (k + (s + size_of xs)) = size_of-append front (Live k ∷ (Free s ∷ xs)) in
    let gone_size : t + size_of old ≡ size_of gone + size_of xs = ap size_of split ∙ size_of-append gone xs in
    let alike : k + (s + 0) ≡ size_of gone = omega arith in
    becomes m n start end front (Live t ∷ old) (Live k ∷ (Free s ∷ xs)) heap (record {
      mapped = is_mapped-layout m n same;
      totals = (block, (total, totals));
      spaced = spaced-block front old (Free s ∷ xs) t k heap.spaced (live, spaced);
      inside = omega (arith, heap.inside);
      link = one.to_item;
      base = one.apart (start + 8) (elim link.other [ inl low ↦ inr low | inr high ↦ inl (omega arith) ]) (inl (omega arith)) (inl (omega arith))
          ∙ heap.base ∙ (let e : 16 + size_of (front ++ Live t ∷ old) ≡ 16 + size_of (front ++ Live k ∷ (Free s ∷ xs)) = omega arith in e);
      same = λ a low apart base. one.apart a apart (inl low) (inl (omega arith));
      spelled = (
        one.block,
        (
          one.to_next,
          (
            one.length,
            spells-kept (word_at (byte_at m)) (word_at (byte_at n)) (start + 16 + size_of front + k + s) xs 0 totals spelled
                (λ a low high. one.apart a (inr (omega (arith, link.high))) (inr (omega (arith, least_k.0))) (inr (omega (arith, least.0)))),
          ),
        ),
      );
    }) same (λ a head apart out. one.other a apart out.0 out.1.0)
    (remarked_as (class_of m) (class_of n) (start + 16) front (Live t ∷ old) gone (Live k ∷ (Free s ∷ [])) xs split heap.totals
    (still-same (start + 16 + size_of front) gone (Live k ∷ (Free s ∷ [])) xs alike) change)

-- no free item behind the block
pub swallowed : (m n : AddressMap) (start end : ℕ) (front old xs gone : List Item) (t k : ℕ) (g : ℕ → ℕ)
    → IsHeapIn (bytes_of m) start end (front ++ Live t ∷ old) → layout n ≡ layout m → is_total k ≡ true
    → t + size_of old ≡ k + size_of xs → AreTotals xs → AreSpaced xs
    → Spells (word_at (byte_at m)) (start + 16 + size_of front + k) xs 0
    → IsWordWritten (byte_at m) g (link_at start (last_free start (start + 16) front))
    (next_free (start + 16 + size_of front + k) xs 0 - last_free start (start + 16) front)
    → IsWordWritten g (byte_at n) (start + 16 + size_of front) k
    → Live t ∷ old ≡ gone ++ xs → Remarks (class_of m) (class_of n) (start + 16 + size_of front) gone (Live k ∷ [])
    → Becomes m n start end (front ++ Live k ∷ xs)
swallowed m n start end front old xs gone t k g heap same block size totals spaced spelled one two split change =
    let before : AreTotals front = totals-front front (Live t ∷ old) heap.totals in
    let least_k = total_facts k block in
    let link : LinkFacts start (last_free start (start + 16) front) (start + 16 + size_of front) = link_facts start front heap.aligned before in
    let old_size : size_of (front ++ Live t ∷ old) ≡ size_of front + (t + size_of old) = size_of-append front (Live t ∷ old) in
    let new_size : size_of (front ++ Live k ∷ xs) ≡ size_of front + (k + size_of xs) = size_of-append front (Live k ∷ xs) in
    let gone_size : t + size_of old ≡ size_of gone + size_of xs = ap size_of split ∙ size_of-append gone xs in
    let alike : k + 0 ≡ size_of gone = omega arith in
    becomes m n start end front (Live t ∷ old) (Live k ∷ xs) heap (record {
      mapped = is_mapped-layout m n same;
      totals = (block, totals);
      spaced = spaced-block front old xs t k heap.spaced spaced;
      inside = omega (arith, heap.inside);
      link = two.apart (link_at start (last_free start (start + 16) front)) (inl link.high) ∙ one.here;
      base = two.apart (start + 8) (inl (omega arith))
          ∙ one.apart (start + 8) (elim link.other [ inl low ↦ inr low | inr high ↦ inl (omega arith) ])
          ∙ heap.base ∙ (let e : 16 + size_of (front ++ Live t ∷ old) ≡ 16 + size_of (front ++ Live k ∷ xs) = omega arith in e);
      same = λ a low apart base. two.apart a (inl low) ∙ one.apart a apart;
      spelled = (
        two.here,
        spells-kept (word_at (byte_at m)) (word_at (byte_at n)) (start + 16 + size_of front + k) xs 0 totals spelled
            (λ a low high. two.apart a (inr (omega (arith, least_k.0))) ∙ one.apart a (inr (omega (arith, link.high)))),
      );
    }) same (λ a head apart out. two.other a out.0 ∙ one.other a apart)
    (remarked_as (class_of m) (class_of n) (start + 16) front (Live t ∷ old) gone (Live k ∷ []) xs split heap.totals
    (still-same (start + 16 + size_of front) gone (Live k ∷ []) xs alike) change)

-- the block is the last, and the base moves with its end
pub rebased : (m n : AddressMap) (start end : ℕ) (front : List Item) (t k : ℕ) (g : ℕ → ℕ)
    → IsHeapIn (bytes_of m) start end (front ++ Live t ∷ []) → layout n ≡ layout m → is_total k ≡ true
    → 16 + size_of front + k ≤ end
    → IsWordWritten (byte_at m) g (start + 16 + size_of front) k
    → IsWordWritten g (byte_at n) (start + 8) (16 + size_of front + k)
    → class_of n ≡ class_of m
    → Becomes m n start end (front ++ Live k ∷ [])
rebased m n start end front t k g heap same block room one two kept =
    let before : AreTotals front = totals-front front (Live t ∷ []) heap.totals in
    let link : LinkFacts start (last_free start (start + 16) front) (start + 16 + size_of front) = link_facts start front heap.aligned before in
    let new_size : size_of (front ++ Live k ∷ []) ≡ size_of front + (k + 0) = size_of-append front (Live k ∷ []) in
    becomes m n start end front (Live t ∷ []) (Live k ∷ []) heap (record {
      mapped = is_mapped-layout m n same;
      totals = (block, tt);
      spaced = spaced-block front [] [] t k heap.spaced tt;
      inside = omega arith;
      link = two.apart (link_at start (last_free start (start + 16) front)) (elim link.other [ inl low ↦ inl low | inr high ↦ inr (omega arith) ])
          ∙ one.apart (link_at start (last_free start (start + 16) front)) (inl link.high)
          ∙ link_word (bytes_of m) start end front (Live t ∷ []) heap;
      base = two.here ∙ (let e : 16 + size_of front + k ≡ 16 + size_of (front ++ Live k ∷ []) = omega arith in e);
      same = λ a low apart base. two.apart a base ∙ one.apart a (inl low);
      spelled = (two.apart (start + 16 + size_of front) (inr (omega arith)) ∙ one.here, tt);
    }) same (λ a head apart out. two.other a (elim head [ inl low ↦ inl (omega arith) | inr high ↦ inr (omega arith) ]) ∙ one.other a out.0)
    (unmarked (class_of m) (class_of n) (start + 16) (front ++ Live t ∷ []) (front ++ Live k ∷ []) (λ a i. kept i a) (last_still (start + 16) k t front))

-- what is known of the block, and of all that stands before it
pub record PlaceFacts (m : AddressMap) (start end from at gap total : ℕ) (front rest : List Item) : Type 0 where
  pub facts : LiveFacts m start end at total rest
  pub gap_low : gap ≤ at
  pub last : LinkFacts start (last_link from at gap) at
  pub link : last_link from at gap ≡ last_free start (start + 16) front
  pub heap : IsHeapIn (bytes_of m) start end (front ++ Live total ∷ rest)

pub place_facts : (m : AddressMap) (start end block from at free gap : ℕ) → IsHeapAt m start end
    → (b : IsBlock start (items_at m start) block from at free gap)
    → PlaceFacts m start end from at gap b.total (b.before ++ left_free gap) b.rest
place_facts m start end block from at free gap heap b =
    let front : List Item = b.before ++ left_free gap in
    let totals : AreTotals (front ++ Live b.total ∷ b.rest) = subst AreTotals b.split heap.totals in
    let size : size_of front ≡ size_of b.before + gap = size_of-gap b.before gap in
    let link : last_link from at gap ≡ last_free start (start + 16) front = gap_link start b.before from at gap b.last b.place in
    record {
      facts = live_facts m start end at (items_at m start) front b.total b.rest heap b.split b.place;
      gap_low = omega (arith, b.place);
      last = rw (link, b.place) (link_facts start front heap.aligned (totals-front front (Live b.total ∷ b.rest) totals));
      link = link;
      heap = subst (λ (ys : List Item). IsHeapIn (bytes_of m) start end ys) b.split heap;
    }
