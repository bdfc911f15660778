-- A search for a free item that fits: what it has passed, and the item that it comes to.
use Rattle.std.proofs.Common.{◌+◌, ◌≡◌, ◌≤◌, ◌⊎◌, List, ℕ, ◌%◌, ◌^◌, ◌++◌, arith, ◌∷◌, ◌∙◌, inr, inl, ap, ◌≢◌}
use Rattle.address_map.specs.Bytes.{word_at}
use Rattle.address_map.specs.Items.{link_target, size_of}
use Rattle.address_map.specs.Memory.{byte_at, bytes_of}
use Rattle.address_map.specs.declared.item.Item.{Item}
use Rattle.address_map.specs.declared.item.Item.TheVariants.{Free}
use Rattle.address_map.specs.declared.map.AddressMap.{AddressMap}
use Rattle.os_heap_words.proofs.ListsLemmas.LastLink.{link_of-heap, LinkFacts, link_facts, link_of-item}
use Rattle.os_heap_words.proofs.ListsLemmas.Reading.{total_facts, linked_to}
use Rattle.os_heap_words.proofs.ListsLemmas.Search.{looked-small, IsMet, search_met, looked_some}
use Rattle.os_heap_words.proofs.ListsLemmas.Spelling.{totals-back, spells-back, next_free-bounds, size_of-multiple, size_of-append, totals-front}
use Rattle.os_heap_words.specs.lists.Counts.{looked_at}
use Rattle.os_heap_words.specs.lists.Heap.{next_free, AreTotals, Spells, IsHeapIn}
use Rattle.os_heap_words.specs.lists.Walks.{IsFit, IsSearched}
use Rattle.os_heap_words.specs.lists.Words.{link_at}
use Rattle.os_heap_words.proofs.Replace.{heap_below}
use Rattle.os_heap_words.specs.Outcomes.{IsHeapAt, items_at}

-- what the words of a free item say
pub record FreeFacts (m : AddressMap) (start end at total : ℕ) (rest : List Item) : Type 0 where
  pub whole : at % 4 ≡ 0
  pub low : start + 16 ≤ at
  pub high : at + total ≤ start + end
  pub top : start + end ≤ 2 ^ 26
  pub size : 8 ≤ total
  pub eighths : total % 8 ≡ 0
  pub total_word : word_at (byte_at m) (at + 4) ≡ total
  pub onward : link_target at (word_at (byte_at m) at) ≡ next_free (at + total) rest 0
  pub next_low : next_free (at + total) rest 0 ≡ 0 ⊎ at + total ≤ next_free (at + total) rest 0
  pub next_high : next_free (at + total) rest 0 ≤ 2 ^ 26

pub free_facts : (m : AddressMap) (start end at : ℕ) (items before : List Item) (total : ℕ) (rest : List Item)
    → IsHeapIn (bytes_of m) start end items → items ≡ before ++ Free total ∷ rest → at ≡ start + 16 + size_of before
    → FreeFacts m start end at total rest
free_facts m start end at items before total rest heap split place =
    let totals : AreTotals (before ++ Free total ∷ rest) = rw split at heap.totals in
    let spelled : Spells (word_at (byte_at m)) (start + 16) (before ++ Free total ∷ rest) 0 = rw split at heap.spelled in
    let back = totals-back before (Free total ∷ rest) totals in
    let words0 = spells-back (word_at (byte_at m)) (start + 16) before (Free total ∷ rest) 0 spelled in
    let words : Spells (word_at (byte_at m)) at (Free total ∷ rest) 0 = rw (← place) at words0 in
    let facts = total_facts total back.0 in
    let front = size_of-multiple before (totals-front before (Free total ∷ rest) totals) in
    let size : size_of items ≡ size_of before + (total + size_of rest) = ap size_of split ∙ size_of-append before (Free total ∷ rest) in
    let top : start + end ≤ 2 ^ 26 = heap_below m start end items heap in
    let bounds = next_free-bounds (at + total) rest 0 back.1 in
    record {
      whole = omega (arith, heap.aligned);
      low = omega arith;
      high = omega (arith, heap.inside);
      top = top;
      size = facts.0;
      eighths = facts.1;
      total_word = words.1.0;
      onward = rw words.0 (linked_to at (at + total) rest (omega (arith, facts.0)));
      next_low = elim bounds [ inl e ↦ inl e | inr b ↦ inr b.0 ];
      next_high = elim bounds [ inl e ↦ omega (arith, e) | inr b ↦ omega (arith, b.1, heap.inside) ];
    }

-- what the descriptor's link says
pub first_link : (m : AddressMap) (start end : ℕ) (items : List Item) → IsHeapIn (bytes_of m) start end items
    → link_target start (word_at (byte_at m) (link_at start start)) ≡ next_free (start + 16) items 0
first_link m start end items heap = rw (link_of-heap start, heap.first) (linked_to start (start + 16) items (omega arith))

pub first_below : (m : AddressMap) (start end : ℕ) (items : List Item) → IsHeapIn (bytes_of m) start end items
    → next_free (start + 16) items 0 ≤ 2 ^ 26
first_below m start end items heap =
    let top : start + end ≤ 2 ^ 26 = heap_below m start end items heap in
    elim (next_free-bounds (start + 16) items 0 heap.totals) [ inl e ↦ omega (arith, e) | inr b ↦ omega (arith, b.1, heap.inside) ]

pub looked-below : (m : AddressMap) (start end n : ℕ) (items : List Item) → IsHeapIn (bytes_of m) start end items → looked_at n items ≤ 2 ^ 26
looked-below m start end n items heap =
    let top : start + end ≤ 2 ^ 26 = heap_below m start end items heap in
    omega (arith, looked-small n items heap.totals, heap.inside)

-- the item that a search found
pub record FitFacts (m : AddressMap) (start end from at total : ℕ) (rest : List Item) : Type 0 where
  pub facts : FreeFacts m start end at total rest
  pub last : LinkFacts start from at
  pub link : link_at start at ≡ at
  pub onward : link_target at (word_at (byte_at m) (link_at start at)) ≡ next_free (at + total) rest 0

pub fit_facts : (m : AddressMap) (start end n from at total : ℕ) → IsHeapAt m start end → (fit : IsFit start (items_at m start) n from at total)
    → FitFacts m start end from at total fit.rest
fit_facts m start end n from at total heap fit =
    let facts : FreeFacts m start end at total fit.rest =
    free_facts m start end at (items_at m start) fit.before total fit.rest heap fit.split fit.place in
    let totals : AreTotals (fit.before ++ Free total ∷ fit.rest) = rw fit.split at heap.totals in
    let link : link_at start at ≡ at = link_of-item start at (omega (arith, facts.low)) in
    record {
      facts = facts;
      last = rw (fit.last, fit.place) (link_facts start fit.before heap.aligned (totals-front fit.before (Free total ∷ fit.rest) totals));
      link = link;
      onward = rw link facts.onward;
    }

-- a search that comes to a free item, and what the words of that say
pub record MetFacts (m : AddressMap) (start end n from at probes : ℕ) : Type 0 where
  pub met : IsMet start (items_at m start) n from at probes
  pub facts : FreeFacts m start end at met.total met.rest
  pub link : link_at start at ≡ at
  pub onward : link_target at (word_at (byte_at m) (link_at start at)) ≡ next_free (at + met.total) met.rest 0
  pub few : looked_at n (items_at m start) ≤ 2 ^ 26
  pub some : 1 ≤ looked_at n (Free met.total ∷ met.rest)

pub met_facts : (m : AddressMap) (start end n from at probes : ℕ) → IsHeapAt m start end → IsSearched start (items_at m start) n from at probes
    → at ≢ 0 → MetFacts m start end n from at probes
met_facts m start end n from at probes heap s some =
    let met : IsMet start (items_at m start) n from at probes = search_met start (items_at m start) n from at probes s some in
    let facts : FreeFacts m start end at met.total met.rest =
    free_facts m start end at (items_at m start) met.before met.total met.rest heap met.split met.place in
    let link : link_at start at ≡ at = link_of-item start at (omega (arith, facts.low)) in
    record {
      met = met;
      facts = facts;
      link = link;
      onward = rw link facts.onward;
      few = looked-below m start end n (items_at m start) heap;
      some = looked_some n met.total met.rest;
    }
