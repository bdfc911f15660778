-- A walk along the links of free items to a block that is there.
use Rattle.std.proofs.Common.{◌+◌, ◌≡◌, ◌≤◌, List, ℕ, ◌^◌, subst, ◌≢◌, ◌++◌, arith, ◌∙◌, ◌<◌, sym, ap}
use Rattle.address_map.specs.Bytes.{word_at}
use Rattle.address_map.specs.Items.{link_target}
use Rattle.address_map.specs.Memory.{byte_at}
use Rattle.address_map.specs.declared.item.Item.{Item}
use Rattle.address_map.specs.declared.map.AddressMap.{AddressMap}
use Rattle.os_heap_words.proofs.ListsLemmas.ItemWalk.{free_walked, size_of-gap}
use Rattle.os_heap_words.proofs.ListsLemmas.LastLink.{link_of-item}
use Rattle.os_heap_words.proofs.ListsLemmas.LinkWalk.{link_reached, below_few, AtLink, below_more, live_low}
use Rattle.os_heap_words.proofs.ListsLemmas.Spelling.{totals-back}
use Rattle.os_heap_words.specs.lists.Counts.{free_below}
use Rattle.os_heap_words.specs.lists.Heap.{next_free, AreTotals}
use Rattle.os_heap_words.specs.lists.Lists.{left_free}
use Rattle.os_heap_words.specs.lists.Walks.{last_link, IsLinked}
use Rattle.os_heap_words.specs.lists.Words.{link_at}
use Rattle.os_heap_words.proofs.Searching.{FreeFacts, free_facts}
use Rattle.os_heap_words.specs.Outcomes.{items_at, IsHeapAt}

-- where the walk comes to a free item below the block, and what that item's words say
pub record AtNext (m : AddressMap) (start end block from at free gap probes : ℕ) : Type 0 where
  pub total : ℕ
  pub after : List Item
  pub facts : FreeFacts m start end free total after
  pub link : link_at start free ≡ free
  pub onward : link_target free (word_at (byte_at m) (link_at start free)) ≡ next_free (free + total) after 0
  pub few : probes + 1 ≤ 2 ^ 26
  pub grows : at ≤ free
  pub room : gap ≤ at
  pub next : IsLinked start (items_at m start) block (last_link from at gap) (free + total) (next_free (free + total) after 0) total (probes + 1)

pub link_next : (m : AddressMap) (start end block from at free gap probes : ℕ) → IsHeapAt m start end
    → IsLinked start (items_at m start) block from at free gap probes → free ≢ 0 → free < block
    → AtNext m start end block from at free gap probes
link_next m start end block from at free gap probes heap l some low =
    let items : List Item = items_at m start in
    let totals : AreTotals ((l.before ++ left_free gap) ++ l.rest) = subst AreTotals l.walk.split heap.totals in
    let back : AreTotals l.rest = totals-back (l.before ++ left_free gap) l.rest totals in
    let r : AtLink start items block from at free gap l.rest =
    link_reached start items block from at free gap l.passed l.before l.rest heap.spaced back l.walk l.live some low in
    let facts : FreeFacts m start end free r.total r.after = free_facts m start end free items (r.front ++ left_free 0) r.total r.after heap r.walk.split r.walk.place in
    let link : link_at start free ≡ free = link_of-item start free (omega (arith, facts.low)) in
    let onward : link_target free (word_at (byte_at m) (link_at start free)) ≡ next_free (free + r.total) r.after 0 = rw link facts.onward in
    let below : free + r.total + 4 ≤ block = live_low block (free + r.total) r.after r.live in
    let count : probes + (1 + free_below block (free + r.total) r.after) ≡ free_below block (start + 16) items =
    ap (λ (n : ℕ). probes + n) (sym (r.count ∙ below_more block free r.total r.after low)) ∙ l.count in
    record {
      total = r.total;
      after = r.after;
      facts = facts;
      link = link;
      onward = onward;
      few = omega (arith, count, below_few block (start + 16) items heap.totals, heap.inside, facts.top);
      grows = r.grows;
      room = omega (arith, l.walk.place, size_of-gap l.before gap);
      next = record {
        passed = r.passed + 1;
        before = r.front;
        rest = r.after;
        walk = free_walked start items block (last_link from at gap) free free 0 r.passed r.front r.after r.total heap.spaced facts.size r.walk (omega arith);
        live = r.live;
        count = omega (arith, count);
      };
    }
