-- A walk from item to item, with the free item that ends where it stands.
use Rattle.std.proofs.Common.{◌+◌, ◌≡◌, ◌≤◌, ◌⊎◌, List, ℕ, ◌%◌, ◌^◌, subst, ◌++◌, arith, ◌∷◌, ◌∙◌, inr, inl, ap, [], ◌<◌, ◌≢◌, sym}
use Rattle.address_map.specs.Bytes.{word_at}
use Rattle.address_map.specs.Items.{size_of, link_target}
use Rattle.address_map.specs.Memory.{byte_at, bytes_of}
use Rattle.address_map.specs.declared.item.Item.{Item}
use Rattle.address_map.specs.declared.item.Item.TheVariants.{Live, Free}
use Rattle.address_map.specs.declared.map.AddressMap.{AddressMap}
use Rattle.os_heap_words.proofs.ListsLemmas.ItemWalk.{begun_small, next_apart, size_of-gap, free_walked, live_walked}
use Rattle.os_heap_words.proofs.ListsLemmas.LastLink.{link_of-item}
use Rattle.os_heap_words.proofs.ListsLemmas.Reading.{total_facts}
use Rattle.os_heap_words.proofs.ListsLemmas.Spelling.{totals-back, spells-back, next_free-bounds, size_of-multiple, size_of-append, spaced-back, totals-front}
use Rattle.os_heap_words.specs.lists.Counts.{begun_below}
use Rattle.os_heap_words.specs.lists.Heap.{next_free, Spells, AreSpaced, AreTotals, IsHeapIn}
use Rattle.os_heap_words.specs.lists.Lists.{left_free}
use Rattle.os_heap_words.specs.lists.Walks.{IsWalkedTo, IsWalked, last_link}
use Rattle.os_heap_words.specs.lists.Words.{link_at}
use Rattle.os_heap_words.proofs.Replace.{heap_below}
use Rattle.os_heap_words.proofs.Searching.{FreeFacts, free_facts}
use Rattle.os_heap_words.specs.Outcomes.{items_at, IsHeapAt}

-- what the words of a block say
pub record LiveFacts (m : AddressMap) (start end at total : ℕ) (rest : List Item) : Type 0 where
  pub whole : at % 4 ≡ 0
  pub low : start + 16 ≤ at
  pub high : at + total ≤ start + end
  pub top : start + end ≤ 2 ^ 26
  pub size : 8 ≤ total
  pub eighths : total % 8 ≡ 0
  pub total_word : word_at (byte_at m) at ≡ total
  pub totals : AreTotals rest
  pub spaced : AreSpaced rest
  pub spelled : Spells (word_at (byte_at m)) (at + total) rest 0
  pub base : start + word_at (byte_at m) (start + 8) ≡ at + total + size_of rest
  pub onward : next_free (at + total) rest 0 ≡ 0 ⊎ at + total ≤ next_free (at + total) rest 0

pub live_facts : (m : AddressMap) (start end at : ℕ) (items front : List Item) (total : ℕ) (rest : List Item)
    → IsHeapIn (bytes_of m) start end items → items ≡ front ++ Live total ∷ rest → at ≡ start + 16 + size_of front
    → LiveFacts m start end at total rest
live_facts m start end at items front total rest heap split place =
    let totals : AreTotals (front ++ Live total ∷ rest) = subst AreTotals split heap.totals in
    let spelled : Spells (word_at (byte_at m)) (start + 16) (front ++ Live total ∷ rest) 0 =
    subst (λ (ys : List Item). Spells (word_at (byte_at m)) (start + 16) ys 0) split heap.spelled in
    let spaced : AreSpaced (front ++ Live total ∷ rest) = subst AreSpaced split heap.spaced in
    let back = totals-back front (Live total ∷ rest) totals in
    let words0 = spells-back (word_at (byte_at m)) (start + 16) front (Live total ∷ rest) 0 spelled in
    let words : Spells (word_at (byte_at m)) at (Live total ∷ rest) 0 = rw (← place) at words0 in
    let facts = total_facts total back.0 in
    let before = size_of-multiple front (totals-front front (Live total ∷ rest) totals) in
    let size : size_of items ≡ size_of front + (total + size_of rest) = ap size_of split ∙ size_of-append front (Live total ∷ rest) in
    record {
      whole = omega (arith, heap.aligned);
      low = omega arith;
      high = omega (arith, heap.inside);
      top = heap_below m start end items heap;
      size = facts.0;
      eighths = facts.1;
      total_word = words.0;
      totals = back.1;
      spaced = spaced-back front (Live total ∷ rest) spaced;
      spelled = words.1;
      base = omega (arith, heap.base);
      onward = elim (next_free-bounds (at + total) rest 0 back.1) [ inl e ↦ inl e | inr b ↦ inr b.0 ];
    }

-- a walk that comes to a free item
pub record AtFree (m : AddressMap) (start end block from at free gap probes : ℕ) : Type 0 where
  pub before : List Item
  pub total : ℕ
  pub rest : List Item
  pub walk : IsWalkedTo start (items_at m start) block before (Free total ∷ rest) from at free gap probes
  pub facts : FreeFacts m start end at total rest
  pub link : link_at start at ≡ at
  pub onward : link_target at (word_at (byte_at m) (link_at start at)) ≡ next_free (at + total) rest 0
  pub few : begun_below block (start + 16) (items_at m start) ≤ 2 ^ 26

-- or to a block
pub record AtLive (m : AddressMap) (start end block from at free gap probes : ℕ) : Type 0 where
  pub before : List Item
  pub total : ℕ
  pub rest : List Item
  pub walk : IsWalkedTo start (items_at m start) block before (Live total ∷ rest) from at free gap probes
  pub facts : LiveFacts m start end at total rest
  pub room : start + 16 + gap ≤ at
  pub few : begun_below block (start + 16) (items_at m start) ≤ 2 ^ 26

pub begun_few : (m : AddressMap) (start end block : ℕ) (items : List Item) → IsHeapIn (bytes_of m) start end items → begun_below block (start + 16) items ≤ 2 ^ 26
begun_few m start end block items heap =
    let top : start + end ≤ 2 ^ 26 = heap_below m start end items heap in
    omega (arith, begun_small block (start + 16) items heap.totals, heap.inside)

pub base_past : (m : AddressMap) (start end at : ℕ) (items front rest : List Item) → IsHeapIn (bytes_of m) start end items → items ≡ front ++ rest
    → at ≡ start + 16 + size_of front → start + word_at (byte_at m) (start + 8) ≡ at + size_of rest
base_past m start end at items front rest heap split place =
    let size : size_of items ≡ size_of front + size_of rest = ap size_of split ∙ size_of-append front rest in
    omega (arith, heap.base)

at_free : (m : AddressMap) (start end block from at free gap probes : ℕ) (before rest : List Item) → IsHeapAt m start end
    → IsWalkedTo start (items_at m start) block before rest from at free gap probes
    → at < start + word_at (byte_at m) (start + 8) → at ≡ free → AtFree m start end block from at free gap probes
at_free m start end block from at free gap probes before [] heap w below here =
    absurd (omega (arith, base_past m start end at (items_at m start) (before ++ left_free gap) [] heap w.split w.place))
at_free m start end block from at free gap probes before (Live t ∷ xs) heap w below here =
    let totals : AreTotals ((before ++ left_free gap) ++ Live t ∷ xs) = subst AreTotals w.split heap.totals in
    absurd (next_apart at t xs (omega (arith, w.place)) (totals-back (before ++ left_free gap) (Live t ∷ xs) totals) (here ∙ w.next))
at_free m start end block from at free gap probes before (Free t ∷ xs) heap w below here =
    let facts : FreeFacts m start end at t xs = free_facts m start end at (items_at m start) (before ++ left_free gap) t xs heap w.split w.place in
    let link : link_at start at ≡ at = link_of-item start at (omega (arith, facts.low)) in
    record {
      before = before;
      total = t;
      rest = xs;
      walk = w;
      facts = facts;
      link = link;
      onward = rw link facts.onward;
      few = begun_few m start end block (items_at m start) heap;
    }

pub walk_free : (m : AddressMap) (start end block from at free gap probes : ℕ) → IsHeapAt m start end
    → IsWalked start (items_at m start) block from at free gap probes
    → at < start + word_at (byte_at m) (start + 8) → at ≡ free → AtFree m start end block from at free gap probes
walk_free m start end block from at free gap probes heap w below here = at_free m start end block from at free gap probes w.before w.rest heap w.walk below here

at_live : (m : AddressMap) (start end block from at free gap probes : ℕ) (before rest : List Item) → IsHeapAt m start end
    → IsWalkedTo start (items_at m start) block before rest from at free gap probes
    → at < start + word_at (byte_at m) (start + 8) → at ≢ free → AtLive m start end block from at free gap probes
at_live m start end block from at free gap probes before [] heap w below other =
    absurd (omega (arith, base_past m start end at (items_at m start) (before ++ left_free gap) [] heap w.split w.place))
at_live m start end block from at free gap probes before (Free t ∷ xs) heap w below other = absurd (other (sym w.next))
at_live m start end block from at free gap probes before (Live t ∷ xs) heap w below other = record {
  before = before;
  total = t;
  rest = xs;
  walk = w;
  facts = live_facts m start end at (items_at m start) (before ++ left_free gap) t xs heap w.split w.place;
  room = omega (arith, w.place, size_of-gap before gap);
  few = begun_few m start end block (items_at m start) heap;
}

pub walk_live : (m : AddressMap) (start end block from at free gap probes : ℕ) → IsHeapAt m start end
    → IsWalked start (items_at m start) block from at free gap probes
    → at < start + word_at (byte_at m) (start + 8) → at ≢ free → AtLive m start end block from at free gap probes
walk_live m start end block from at free gap probes heap w below other = at_live m start end block from at free gap probes w.before w.rest heap w.walk below other

pub free_passed : (m : AddressMap) (start end block from at free gap probes : ℕ) → IsHeapAt m start end
    → (w : AtFree m start end block from at free gap probes) → at + 4 ≤ block
    → IsWalked start (items_at m start) block from (at + w.total) (next_free (at + w.total) w.rest 0) w.total (probes + 1)
free_passed m start end block from at free gap probes heap w low = record {
  before = w.before;
  rest = w.rest;
  walk = free_walked start (items_at m start) block from at free gap probes w.before w.rest w.total heap.spaced w.facts.size w.walk low;
}

pub live_passed : (m : AddressMap) (start end block from at free gap probes : ℕ)
    → (w : AtLive m start end block from at free gap probes) → at + 4 < block
    → IsWalked start (items_at m start) block (last_link from at gap) (at + w.total) free 0 (probes + 1)
live_passed m start end block from at free gap probes w low = record {
  before = (w.before ++ left_free gap) ++ Live w.total ∷ [];
  rest = w.rest;
  walk = live_walked start (items_at m start) block from at free gap probes w.before w.rest w.total w.walk low;
}

-- behind a live item the last free one is the one that it was
pub from_kept : (start block from at before free gap probes : ℕ) (items : List Item) → gap ≡ 0
    → IsWalked start items block (last_link from before gap) at free 0 probes → IsWalked start items block from at free gap probes
from_kept start block from at before free gap probes items none walk =
    rw none (subst (λ (g : ℕ). IsWalked start items block (last_link from before g) at free 0 probes) none walk)
