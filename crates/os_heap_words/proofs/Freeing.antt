-- What giving a block back leaves of a heap: where the walk ends, the joins on both sides, and the base that sinks.
use Rattle.std.proofs.Common.{append-nil, ◌≡◌, None, subst, ◌++◌, arith, [], ◌≤◌, refl, ℕ, ◌∷◌, List, ◌∙◌, ◌-◌, ◌+◌, add-zero, sym, ◌%◌, append_assoc, inr, inl, true, Option, Ok, Some, ap, ◌≢◌}
use Rattle.address_map.proofs.Bytes.{is_mapped-layout}
use Rattle.address_map.specs.Bytes.{word_at}
use Rattle.address_map.specs.Items.{size_of, link_target, is_total}
use Rattle.address_map.specs.Memory.{byte_at, bytes_of, layout, class_of}
use Rattle.address_map.specs.declared.item.Item.{Item}
use Rattle.address_map.specs.declared.item.Item.TheVariants.{Live, Free}
use Rattle.address_map.specs.declared.map.AddressMap.{AddressMap}
use Rattle.os_heap_words.proofs.ListsLemmas.ItemWalk.{begun_more, near, released_past, begun_past, released_free-none, released_here, size_of-gap, next_apart, rest_none, glued_nothing, size_of-old, glued_free, rest_live}
use Rattle.os_heap_words.proofs.ListsLemmas.LastLink.{LinkFacts, link_facts, link_of-item}
use Rattle.os_heap_words.proofs.ListsLemmas.Marks.{remarked_as, still-same, size_of-left}
use Rattle.os_heap_words.proofs.ListsLemmas.Reading.{total_facts}
use Rattle.os_heap_words.proofs.ListsLemmas.Spelling.{totals-back, size_of-multiple, totals-front, size_of-append, spaced-join, spells-kept, total_of-numbers}
use Rattle.os_heap_words.specs.lists.Counts.{begun_below}
use Rattle.os_heap_words.specs.lists.Heap.{AreTotals, IsHeapIn, next_free, last_free, AreSpaced, begins_live, Spells}
use Rattle.os_heap_words.specs.lists.Lists.{items_after_release, left_free, items_after_free, items_with_gap}
use Rattle.os_heap_words.specs.lists.Marks.{AreMarked, Remarks}
use Rattle.os_heap_words.specs.lists.Walks.{IsWalkedTo, IsWalked, IsBlock}
use Rattle.os_heap_words.specs.lists.Words.{link_at, IsWordWritten, IsFreed}
use Rattle.os_heap_words.proofs.Marking.{can_stand}
use Rattle.os_heap_words.proofs.Replace.{becomes}
use Rattle.os_heap_words.proofs.Searching.{FreeFacts, free_facts}
use Rattle.os_heap_words.proofs.Walking.{base_past, AtFree, AtLive, LiveFacts, live_facts}
use Rattle.os_heap_words.specs.Outcomes.{CanStand, IsHeapAt, items_at, Becomes, Releases}

-- the walk ends, and there is no such block
over : (m : AddressMap) (start end block from at free gap probes : ℕ) (before rest : List Item) → IsHeapAt m start end
    → IsWalkedTo start (items_at m start) block before rest from at free gap probes → start + word_at (byte_at m) (start + 8) ≤ at
    → (items_after_release block (start + 16) (items_at m start) ≡ None) × (probes ≡ begun_below block (start + 16) (items_at m start))
over m start end block from at free gap probes before [] heap w past = (w.absent refl, sym (add-zero probes) ∙ w.count)
over m start end block from at free gap probes before (Live t ∷ xs) heap w past =
    let totals : AreTotals ((before ++ left_free gap) ++ Live t ∷ xs) = subst AreTotals w.split heap.totals in
    absurd (omega (
      arith,
      base_past m start end at (items_at m start) (before ++ left_free gap) (Live t ∷ xs) heap w.split w.place,
      total_facts t (totals-back (before ++ left_free gap) (Live t ∷ xs) totals).0,
    ))
over m start end block from at free gap probes before (Free t ∷ xs) heap w past =
    let totals : AreTotals ((before ++ left_free gap) ++ Free t ∷ xs) = subst AreTotals w.split heap.totals in
    absurd (omega (
      arith,
      base_past m start end at (items_at m start) (before ++ left_free gap) (Free t ∷ xs) heap w.split w.place,
      total_facts t (totals-back (before ++ left_free gap) (Free t ∷ xs) totals).0,
    ))

pub walk_over : (m : AddressMap) (start end block from at free gap probes : ℕ) → IsHeapAt m start end
    → IsWalked start (items_at m start) block from at free gap probes → start + word_at (byte_at m) (start + 8) ≤ at
    → (items_after_release block (start + 16) (items_at m start) ≡ None) × (probes ≡ begun_below block (start + 16) (items_at m start))
walk_over m start end block from at free gap probes heap w past = over m start end block from at free gap probes w.before w.rest heap w.walk past

pub free_ends : (m : AddressMap) (start end block from at free gap probes : ℕ) → (w : AtFree m start end block from at free gap probes)
    → at + 4 ≤ block → block ≤ at + 4
    → (items_after_release block (start + 16) (items_at m start) ≡ None) × (probes + 1 ≡ begun_below block (start + 16) (items_at m start))
free_ends m start end block from at free gap probes w low near =
    let past : block ≤ at + w.total = omega (arith, w.facts.size) in (
      w.walk.absent (released_free-none block at w.total w.rest (released_past block (at + w.total) w.rest past)),
      omega (arith, w.walk.count, (begun_more block at w.total w.rest low).1, begun_past block (at + w.total) w.rest (omega (arith, w.facts.size))),
    )

pub block_found : (m : AddressMap) (start end block from at free gap probes : ℕ) → (w : AtLive m start end block from at free gap probes)
    → at + 4 ≡ block
    → IsBlock start (items_at m start) block from at free gap × (probes + 1 ≡ begun_below block (start + 16) (items_at m start))
block_found m start end block from at free gap probes w here =
    let past : block ≤ at + w.total = omega (arith, w.facts.size) in (
      record {
        before = w.before;
        total = w.total;
        rest = w.rest;
        split = w.walk.split;
        place = w.walk.place;
        here = here;
        last = w.walk.last;
        next = w.walk.next;
        closed = w.walk.closed;
        given = w.walk.found (items_after_free w.total w.rest) (released_here block at w.total w.rest here);
      },
      omega (arith, w.walk.count, (begun_more block at w.total w.rest (omega arith)).0, begun_past block (at + w.total) w.rest (omega (arith, w.facts.size))),
    )

-- what the words around the block say
pub record BlockFacts (m : AddressMap) (start end from at free gap total : ℕ) (before rest : List Item) : Type 0 where
  pub facts : LiveFacts m start end at total rest
  pub place : at - gap ≡ start + 16 + size_of before
  pub low : start + 16 + gap ≤ at
  pub whole : (at - gap) % 4 ≡ 0
  pub eighths : gap % 8 ≡ 0
  pub last : LinkFacts start from (at - gap)
  pub heap : IsHeapIn (bytes_of m) start end (before ++ (left_free gap ++ Live total ∷ rest))

pub block_facts : (m : AddressMap) (start end block from at free gap : ℕ) → IsHeapAt m start end
    → (b : IsBlock start (items_at m start) block from at free gap) → BlockFacts m start end from at free gap b.total b.before b.rest
block_facts m start end block from at free gap heap b =
    let front : List Item = b.before ++ left_free gap in
    let totals : AreTotals (front ++ Live b.total ∷ b.rest) = subst AreTotals b.split heap.totals in
    let front_totals : AreTotals front = totals-front front (Live b.total ∷ b.rest) totals in
    let before_totals : AreTotals b.before = totals-front b.before (left_free gap) front_totals in
    let m1 = size_of-multiple front front_totals in
    let m2 = size_of-multiple b.before before_totals in
    let size : size_of front ≡ size_of b.before + gap = size_of-gap b.before gap in
    let place : at - gap ≡ start + 16 + size_of b.before = omega (arith, b.place) in
    record {
      facts = live_facts m start end at (items_at m start) front b.total b.rest heap b.split b.place;
      place = place;
      low = omega (arith, b.place);
      whole = omega (arith, heap.aligned);
      eighths = omega arith;
      last = rw (b.last, place) (link_facts start b.before heap.aligned before_totals);
      heap = subst (λ (ys : List Item). IsHeapIn (bytes_of m) start end ys) (b.split ∙ append_assoc b.before (left_free gap) (Live b.total ∷ b.rest)) heap;
    }

-- where the words of the gap stand
pub gap_stands : (m n : AddressMap) (start end block from at free gap : ℕ) → IsHeapAt m start end → IsBlock start (items_at m start) block from at free gap
    → layout n ≡ layout m → CanStand n (at - gap) (left_free gap)
gap_stands m n start end block from at free gap heap b same =
    let f : BlockFacts m start end from at free gap b.total b.before b.rest = block_facts m start end block from at free gap heap b in
    let old : List Item = left_free gap ++ Live b.total ∷ b.rest in
    can_stand m n start end (at - gap) (b.before ++ old) (left_free gap) f.heap same
    (totals-front (left_free gap) (Live b.total ∷ b.rest) (totals-back b.before old f.heap.totals))
    f.whole (omega (arith, f.low)) (omega (arith, size_of-left gap, f.low, f.facts.high))

-- a free item that touches the block behind
pub record NextFree (m : AddressMap) (start end at : ℕ) (rest : List Item) : Type 0 where
  pub total : ℕ
  pub after : List Item
  pub split : rest ≡ Free total ∷ after
  pub facts : FreeFacts m start end at total after
  pub link : link_at start at ≡ at
  pub onward : link_target at (word_at (byte_at m) (link_at start at)) ≡ next_free (at + total) after 0

free_behind : (m : AddressMap) (start end at total free : ℕ) (front rest : List Item) → IsHeapAt m start end → items_at m start ≡ front ++ Live total ∷ rest
    → at ≡ start + 16 + size_of front → LiveFacts m start end at total rest → free ≡ next_free (at + total) rest 0 → at + total ≡ free
    → NextFree m start end (at + total) rest
free_behind m start end at total free front [] heap split place live next here = absurd (omega (arith, live.low))
free_behind m start end at total free front (Live u ∷ xs) heap split place live next here =
    absurd (next_apart (at + total) u xs (omega (arith, live.low)) live.totals (here ∙ next))
free_behind m start end at total free front (Free u ∷ xs) heap split place live next here =
    let split' : items_at m start ≡ (front ++ Live total ∷ []) ++ Free u ∷ xs = split ∙ sym (append_assoc front (Live total ∷ []) (Free u ∷ xs)) in
    let size : size_of (front ++ Live total ∷ []) ≡ size_of front + (total + 0) = size_of-append front (Live total ∷ []) in
    let facts : FreeFacts m start end (at + total) u xs =
    free_facts m start end (at + total) (items_at m start) (front ++ Live total ∷ []) u xs heap split' (omega arith) in
    let link : link_at start (at + total) ≡ at + total = link_of-item start (at + total) (omega (arith, facts.low)) in
    record { total = u; after = xs; split = refl; facts = facts; link = link; onward = rw link facts.onward }

pub next_free_facts : (m : AddressMap) (start end block from at free gap : ℕ) → IsHeapAt m start end
    → (b : IsBlock start (items_at m start) block from at free gap) → at + b.total ≡ free → NextFree m start end (at + b.total) b.rest
next_free_facts m start end block from at free gap heap b here =
    free_behind m start end at b.total free (b.before ++ left_free gap) b.rest heap b.split b.place
    (live_facts m start end at (items_at m start) (b.before ++ left_free gap) b.total b.rest heap b.split b.place) b.next here

-- the base sinks
sunk : (m n : AddressMap) (start end : ℕ) (before old : List Item) (g : ℕ → ℕ)
    → IsHeapIn (bytes_of m) start end (before ++ old) → layout n ≡ layout m → AreSpaced before
    → IsWordWritten (byte_at m) g (link_at start (last_free start (start + 16) before)) (0 - last_free start (start + 16) before)
    → IsWordWritten g (byte_at n) (start + 8) (16 + size_of before)
    → (AreMarked (class_of m) (start + 16) (before ++ old) → Remarks (class_of m) (class_of n) (start + 16) (before ++ old) (before ++ []))
    → Becomes m n start end (before ++ [])
sunk m n start end before old g heap same closed one two marks =
    let front : AreTotals before = totals-front before old heap.totals in
    let link : LinkFacts start (last_free start (start + 16) before) (start + 16 + size_of before) = link_facts start before heap.aligned front in
    let old_size : size_of (before ++ old) ≡ size_of before + size_of old = size_of-append before old in
    let new_size : size_of (before ++ []) ≡ size_of before + 0 = size_of-append before [] in
    becomes m n start end before old [] heap (record {
      mapped = is_mapped-layout m n same;
      totals = tt;
      spaced = spaced-join before [] closed tt;
      inside = omega (arith, heap.inside);
      link = two.apart (link_at start (last_free start (start + 16) before)) (elim link.other [ inl low ↦ inl low | inr high ↦ inr (omega arith) ]) ∙ one.here;
      base = two.here ∙ (let e : 16 + size_of before ≡ 16 + size_of (before ++ []) = omega arith in e);
      same = λ a low apart base. two.apart a base ∙ one.apart a apart;
      spelled = tt;
    }) same (λ a head apart out. two.other a (elim head [ inl low ↦ inl (omega arith) | inr high ↦ inr (omega arith) ]) ∙ one.other a apart)
    marks

-- a free item in place of what was there
loosed : (m n : AddressMap) (start end : ℕ) (before old xs : List Item) (s : ℕ)
    → IsHeapIn (bytes_of m) start end (before ++ old) → layout n ≡ layout m → AreSpaced before → is_total s ≡ true
    → size_of old ≡ s + size_of xs → AreTotals xs → AreSpaced xs → begins_live xs ≡ true
    → Spells (word_at (byte_at m)) (start + 16 + size_of before + s) xs 0
    → IsFreed (byte_at m) (byte_at n) start (last_free start (start + 16) before) (start + 16 + size_of before) s
    (next_free (start + 16 + size_of before + s) xs 0)
    → (AreMarked (class_of m) (start + 16) (before ++ old) → Remarks (class_of m) (class_of n) (start + 16) (before ++ old) (before ++ Free s ∷ xs))
    → Becomes m n start end (before ++ Free s ∷ xs)
loosed m n start end before old xs s heap same closed total size totals spaced live spelled one marks =
    let front : AreTotals before = totals-front before old heap.totals in
    let least = total_facts s total in
    let link : LinkFacts start (last_free start (start + 16) before) (start + 16 + size_of before) = link_facts start before heap.aligned front in
    let old_size : size_of (before ++ old) ≡ size_of before + size_of old = size_of-append before old in
    let new_size : size_of (before ++ Free s ∷ xs) ≡ size_of before + (s + size_of xs) = size_of-append before (Free s ∷ xs) in
    becomes m n start end before old (Free s ∷ xs) heap (record {
      mapped = is_mapped-layout m n same;
      totals = (total, totals);
      spaced = spaced-join before (Free s ∷ xs) closed (live, spaced);
      inside = omega (arith, heap.inside);
      link = one.to_item;
      base = one.apart (start + 8) (elim link.other [ inl low ↦ inr low | inr high ↦ inl (omega arith) ]) (inl (omega arith))
          ∙ heap.base ∙ (let e : 16 + size_of (before ++ old) ≡ 16 + size_of (before ++ Free s ∷ xs) = omega arith in e);
      same = λ a low apart base. one.apart a apart (inl low);
      spelled = (
        one.to_next,
        (
          one.length,
          spells-kept (word_at (byte_at m)) (word_at (byte_at n)) (start + 16 + size_of before + s) xs 0 totals spelled
              (λ a low high. one.apart a (inr (omega (arith, link.high))) (inr (omega (arith, least.0)))),
        ),
      );
    }) same (λ a head apart out. one.other a apart out.0)
    marks

given : (m n : AddressMap) (start end : ℕ) (items : Option (List Item)) (ys zs : List Item) → items ≡ Some ys → ys ≡ zs → Becomes m n start end zs
    → Releases m n start end (Ok tt) items
given m n start end items ys zs some e b = rw (some, e) (refl, b)

pub releases_sunk : (m n : AddressMap) (start end block from at free gap : ℕ) (g : ℕ → ℕ) → IsHeapAt m start end
    → (b : IsBlock start (items_at m start) block from at free gap)
    → at + b.total ≡ start + word_at (byte_at m) (start + 8) → layout n ≡ layout m
    → IsWordWritten (byte_at m) g (link_at start from) (0 - from) → IsWordWritten g (byte_at n) (start + 8) (at - gap - start)
    → Remarks (class_of m) (class_of n) (at - gap) (left_free gap ++ Live b.total ∷ []) []
    → Releases m n start end (Ok tt) (items_after_release block (start + 16) (items_at m start))
releases_sunk m n start end block from at free gap g heap b ends same one two change =
    let f : BlockFacts m start end from at free gap b.total b.before b.rest = block_facts m start end block from at free gap heap b in
    let none : b.rest ≡ [] = rest_none start at b.total (start + word_at (byte_at m) (start + 8)) b.rest f.facts.totals f.facts.base ends in
    let one' = rw b.last at one in
    let base : at - gap - start ≡ 16 + size_of b.before = omega (arith, f.place) in
    let two' = rw base at two in
    let old : List Item = left_free gap ++ Live b.total ∷ b.rest in
    let gone : List Item = left_free gap ++ Live b.total ∷ [] in
    let split : old ≡ gone ++ [] = ap (λ (ys : List Item). left_free gap ++ Live b.total ∷ ys) none ∙ sym (append-nil gone) in
    given m n start end _ _ (b.before ++ []) b.given
    (ap (λ (ys : List Item). b.before ++ items_with_gap gap (items_after_free b.total ys)) none ∙ ap (λ (ys : List Item). b.before ++ ys) (glued_nothing gap))
    (sunk m n start end b.before old g f.heap same b.closed one' two'
    (remarked_as (class_of m) (class_of n) (start + 16) b.before old gone [] [] split f.heap.totals (λ p. refl) (rw f.place at change)))

-- a free item behind joins
pub releases_joined : (m n : AddressMap) (start end block from at free gap next : ℕ) → IsHeapAt m start end
    → (b : IsBlock start (items_at m start) block from at free gap) → (k : NextFree m start end (at + b.total) b.rest) → layout n ≡ layout m
    → next ≡ next_free (at + b.total + k.total) k.after 0
    → IsFreed (byte_at m) (byte_at n) start from (at - gap) (gap + b.total + k.total) next
    → Remarks (class_of m) (class_of n) (at - gap) (left_free gap ++ Live b.total ∷ (Free k.total ∷ [])) (Free (gap + b.total + k.total) ∷ [])
    → Releases m n start end (Ok tt) (items_after_release block (start + 16) (items_at m start))
releases_joined m n start end block from at free gap next heap b k same onward one change =
    let f : BlockFacts m start end from at free gap b.total b.before b.rest = block_facts m start end block from at free gap heap b in
    let s : ℕ = gap + b.total + k.total in
    let place : start + 16 + size_of b.before + s ≡ at + b.total + k.total = omega (arith, f.place, f.low) in
    let totals : AreTotals (Free k.total ∷ k.after) = subst AreTotals k.split f.facts.totals in
    let spaced : AreSpaced (Free k.total ∷ k.after) = subst AreSpaced k.split f.facts.spaced in
    let spelled : Spells (word_at (byte_at m)) (at + b.total) (Free k.total ∷ k.after) 0 =
    subst (λ (ys : List Item). Spells (word_at (byte_at m)) (at + b.total) ys 0) k.split f.facts.spelled in
    let size : size_of (left_free gap ++ Live b.total ∷ b.rest) ≡ s + size_of k.after =
    size_of-old gap b.total b.rest ∙ (let e : size_of b.rest ≡ k.total + size_of k.after = ap size_of k.split in omega arith) in
    let one' = rw (b.last, f.place, onward ∙ ap (λ (p : ℕ). next_free p k.after 0) (sym place)) at one in
    let sum : gap + (b.total + k.total) ≡ s = omega arith in
    let old : List Item = left_free gap ++ Live b.total ∷ b.rest in
    let gone : List Item = left_free gap ++ Live b.total ∷ (Free k.total ∷ []) in
    let split : old ≡ gone ++ k.after =
    ap (λ (ys : List Item). left_free gap ++ Live b.total ∷ ys) k.split ∙ sym (append_assoc (left_free gap) (Live b.total ∷ (Free k.total ∷ [])) k.after) in
    let alike : s + 0 ≡ size_of gone = omega (arith, size_of-old gap b.total (Free k.total ∷ [])) in
    given m n start end _ _ (b.before ++ Free s ∷ k.after) b.given
    (ap (λ (ys : List Item). b.before ++ items_with_gap gap (items_after_free b.total ys)) k.split
    ∙ ap (λ (ys : List Item). b.before ++ ys) (glued_free gap (b.total + k.total) k.after)
    ∙ ap (λ (t : ℕ). b.before ++ Free t ∷ k.after) sum)
    (loosed m n start end b.before (left_free gap ++ Live b.total ∷ b.rest) k.after s f.heap same b.closed
    (total_of-numbers s (omega (arith, f.facts.size)) (omega (arith, f.eighths, f.facts.eighths, k.facts.eighths)))
    size totals.1 spaced.1 spaced.0 (rw place spelled.1.1) one'
    (remarked_as (class_of m) (class_of n) (start + 16) b.before old gone (Free s ∷ []) k.after split f.heap.totals
    (still-same (start + 16 + size_of b.before) gone (Free s ∷ []) k.after alike) (rw f.place at change)))

pub releases_alone : (m n : AddressMap) (start end block from at free gap : ℕ) → IsHeapAt m start end
    → (b : IsBlock start (items_at m start) block from at free gap)
    → at + b.total ≢ start + word_at (byte_at m) (start + 8) → at + b.total ≢ free → layout n ≡ layout m
    → IsFreed (byte_at m) (byte_at n) start from (at - gap) (gap + b.total) free
    → Remarks (class_of m) (class_of n) (at - gap) (left_free gap ++ Live b.total ∷ []) (Free (gap + b.total) ∷ [])
    → Releases m n start end (Ok tt) (items_after_release block (start + 16) (items_at m start))
releases_alone m n start end block from at free gap heap b inside other same one change =
    let f : BlockFacts m start end from at free gap b.total b.before b.rest = block_facts m start end block from at free gap heap b in
    let s : ℕ = gap + b.total in
    let live = rest_live at b.total (start + word_at (byte_at m) (start + 8)) free b.rest b.next other inside f.facts.base in
    let place : start + 16 + size_of b.before + s ≡ at + b.total = omega (arith, f.place, f.low) in
    let size : size_of (left_free gap ++ Live b.total ∷ b.rest) ≡ s + size_of b.rest = size_of-old gap b.total b.rest ∙ (omega arith) in
    let one' = rw (b.last, f.place, b.next ∙ ap (λ (p : ℕ). next_free p b.rest 0) (sym place)) at one in
    let old : List Item = left_free gap ++ Live b.total ∷ b.rest in
    let gone : List Item = left_free gap ++ Live b.total ∷ [] in
    let split : old ≡ gone ++ b.rest = sym (append_assoc (left_free gap) (Live b.total ∷ []) b.rest) in
    let alike : s + 0 ≡ size_of gone = omega (arith, size_of-old gap b.total []) in
    given m n start end _ _ (b.before ++ Free s ∷ b.rest) b.given
    (ap (λ (ys : List Item). b.before ++ items_with_gap gap ys) (live.1 b.total) ∙ ap (λ (ys : List Item). b.before ++ ys) (glued_free gap b.total b.rest))
    (loosed m n start end b.before (left_free gap ++ Live b.total ∷ b.rest) b.rest s f.heap same b.closed
    (total_of-numbers s (omega (arith, f.facts.size)) (omega (arith, f.eighths, f.facts.eighths)))
    size f.facts.totals f.facts.spaced live.0 (rw place f.facts.spelled) one'
    (remarked_as (class_of m) (class_of n) (start + 16) b.before old gone (Free s ∷ []) b.rest split f.heap.totals
    (still-same (start + 16 + size_of b.before) gone (Free s ∷ []) b.rest alike) (rw f.place at change)))
