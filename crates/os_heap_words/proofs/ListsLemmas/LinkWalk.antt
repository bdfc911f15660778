-- A walk along the links to a block that is there.
use Rattle.std.proofs.Common.{◌==◌, ◌-◌, arith, inl, ◌≡◌, ◌+◌, ◌≤◌, [], List, ◌≢◌, ℕ, true, inr, ◌∷◌, is_some, refl, ◌<◌, ◌⊎◌, ◌∙◌, subst, sym, zero-add, add-zero, ◌++◌}
use Rattle.std.proofs.lemmas.Bool.{false≢true, cases_Bool, eqb-true, ne_eqb, cases_lt, lt-ltb, le-ltb, eq-eqb, both_ways}
use Rattle.address_map.specs.Items.{size_of}
use Rattle.address_map.specs.declared.item.Item.{Item}
use Rattle.address_map.specs.declared.item.Item.TheVariants.{Free, Live}
use Rattle.os_heap_words.proofs.ListsLemmas.ItemWalk.{live_walked, gap_shut, released_here, size_of-gap}
use Rattle.os_heap_words.proofs.ListsLemmas.Reading.{total_facts}
use Rattle.os_heap_words.proofs.ListsLemmas.Spelling.{next_free-bounds, totals-back}
use Rattle.os_heap_words.specs.lists.Counts.{free_below, begun_below}
use Rattle.os_heap_words.specs.lists.Heap.{AreTotals, next_free, AreSpaced}
use Rattle.os_heap_words.specs.lists.Lists.{live_total, items_after_free, left_free}
use Rattle.os_heap_words.specs.lists.Walks.{IsWalkedTo, last_link, IsLinked, IsBlock}

-- a block lies after where it is looked for
pub live_low : (block at : ℕ) (xs : List Item) → is_some (live_total block at xs) ≡ true → at + 4 ≤ block
live_low block at [] live = absurd (false≢true live)
live_low block at (Live t ∷ xs) live = elim (cases_Bool (at + 4 == block)) [
  | inl here ↦ let e : at + 4 ≡ block = eqb-true (at + 4) block here in omega arith
  | inr other ↦ omega (arith, live_low block (at + t) xs (rw other at live))
]
live_low block at (Free t ∷ xs) live = omega (arith, live_low block (at + t) xs live)

pub live_next : (block at t : ℕ) (xs : List Item) → at + 4 ≢ block → live_total block at (Live t ∷ xs) ≡ live_total block (at + t) xs
live_next block at t xs other = rw (ne_eqb (at + 4) block other) refl

pub below_few : (block at : ℕ) (xs : List Item) → AreTotals xs → free_below block at xs ≤ size_of xs
below_few block at [] totals = omega arith
below_few block at (Live t ∷ xs) totals = omega (arith, below_few block (at + t) xs totals.1)
below_few block at (Free t ∷ xs) totals = elim (cases_lt at block) [
  | inl low ↦ rw (lt-ltb at block low) (omega (arith, below_few block (at + t) xs totals.1, total_facts t totals.0))
  | inr high ↦ rw (le-ltb at block high) (omega arith)
]

pub below_more : (block at t : ℕ) (xs : List Item) → at < block → free_below block at (Free t ∷ xs) ≡ 1 + free_below block (at + t) xs
below_more block at t xs low = rw (lt-ltb at block low) refl

-- where the next free item isn't below the block, none is
abbrev pub IsNotBelow : ℕ → ℕ → Type 0
IsNotBelow block free = (free ≡ 0) ⊎ (block ≤ free)

pub below_none : (block at : ℕ) (xs : List Item) → 0 < at → IsNotBelow block (next_free at xs 0) → free_below block at xs ≡ 0
below_none block at [] above far = refl
below_none block at (Live t ∷ xs) above far = below_none block (at + t) xs (omega arith) far
below_none block at (Free t ∷ xs) above (inl none) = absurd (omega arith)
below_none block at (Free t ∷ xs) above (inr past) = rw (le-ltb at block past) refl

-- the walk carried on to the next free item, over what is live before that
pub record AtLink (start : ℕ) (items : List Item) (block from at free gap : ℕ) (rest : List Item) : Type 0 where
  pub passed : ℕ
  pub front : List Item
  pub total : ℕ
  pub after : List Item
  pub walk : IsWalkedTo start items block front (Free total ∷ after) (last_link from at gap) free free 0 passed
  pub live : is_some (live_total block (free + total) after) ≡ true
  pub count : free_below block at rest ≡ free_below block free (Free total ∷ after)
  pub grows : at ≤ free

link_here : (start : ℕ) (items : List Item) (block from at passed : ℕ) (before : List Item) (t : ℕ) (xs : List Item)
    → IsWalkedTo start items block before (Free t ∷ xs) from at at 0 passed → is_some (live_total block (at + t) xs) ≡ true
    → AtLink start items block from at at 0 (Free t ∷ xs)
link_here start items block from at passed before t xs w live = record {
  passed = passed;
  front = before;
  total = t;
  after = xs;
  walk = w;
  live = live;
  count = refl;
  grows = omega arith;
}

-- a free item that begins below the block lies before it
live_before_link : (block at t free : ℕ) (xs : List Item) → AreTotals (Live t ∷ xs) → free ≡ next_free (at + t) xs 0 → free ≢ 0 → free < block
    → at + 4 ≢ block
live_before_link block at t free xs totals next some low here =
    elim (next_free-bounds (at + t) xs 0 totals.1) [
      | inl none ↦ some (next ∙ none)
      | inr b ↦ omega (arith, b.0, total_facts t totals.0)
    ]

pub link_reached : (start : ℕ) (items : List Item) (block from at free gap passed : ℕ) (before rest : List Item) → AreSpaced items → AreTotals rest
    → IsWalkedTo start items block before rest from at free gap passed → is_some (live_total block at rest) ≡ true
    → free ≢ 0 → free < block → AtLink start items block from at free gap rest
link_reached start items block from at free gap passed before [] spaced totals w live some low = absurd (false≢true live)
link_reached start items block from at free gap passed before (Live t ∷ xs) spaced totals w live some low =
    let other : at + 4 ≢ block = live_before_link block at t free xs totals w.next some low in
    let live' : is_some (live_total block (at + t) xs) ≡ true = rw (live_next block at t xs other) at live in
    let low' : at + t + 4 ≤ block = live_low block (at + t) xs live' in
    let least = total_facts t totals.0 in
    let next : AtLink start items block (last_link from at gap) (at + t) free 0 xs =
    link_reached start items block (last_link from at gap) (at + t) free 0 (passed + 1) _ xs spaced totals.1
    (live_walked start items block from at free gap passed before xs t w (omega arith)) live' some low in
    record {
      passed = next.passed;
      front = next.front;
      total = next.total;
      after = next.after;
      walk = next.walk;
      live = next.live;
      count = next.count;
      grows = omega (arith, next.grows);
    }
link_reached start items block from at free gap passed before (Free t ∷ xs) spaced totals w live some low =
    let none : gap ≡ 0 = gap_shut before gap t xs (subst AreSpaced w.split spaced) in
    let here : free ≡ at = w.next in
    let w0 : IsWalkedTo start items block before (Free t ∷ xs) from at at gap passed =
    subst (λ (f : ℕ). IsWalkedTo start items block before (Free t ∷ xs) from at f gap passed) here w in
    let w1 : IsWalkedTo start items block before (Free t ∷ xs) from at at 0 passed =
    subst (λ (g : ℕ). IsWalkedTo start items block before (Free t ∷ xs) from at at g passed) none w0 in
    let a0 : AtLink start items block from at at gap (Free t ∷ xs) =
    subst (λ (g : ℕ). AtLink start items block from at at g (Free t ∷ xs)) (sym none) (link_here start items block from at passed before t xs w1 live) in
    subst (λ (f : ℕ). AtLink start items block from at f gap (Free t ∷ xs)) (sym here) a0

-- the walk before the first item
pub linked_begun : (start : ℕ) (items : List Item) (block : ℕ) → is_some (live_total block (start + 16) items) ≡ true
    → IsLinked start items block start (start + 16) (next_free (start + 16) items 0) 0 0
linked_begun start items block live = record {
  passed = 0;
  before = [];
  rest = items;
  walk = record {
    split = refl;
    place = sym (add-zero (start + 16));
    last = refl;
    next = refl;
    closed = tt;
    absent = λ h. h;
    found = λ ys h. h;
    count = zero-add (begun_below block (start + 16) items);
  };
  live = live;
  count = zero-add (free_below block (start + 16) items);
}

-- the walk carried on to the block, over what is live before that
block_here : (start : ℕ) (items : List Item) (block from at free gap passed : ℕ) (before rest : List Item) → AreTotals rest
    → IsWalkedTo start items block before rest from at free gap passed → is_some (live_total block at rest) ≡ true → at + 4 ≡ block
    → IsBlock start items block from at free gap
block_here start items block from at free gap passed before [] totals w live here = absurd (false≢true live)
block_here start items block from at free gap passed before (Live t ∷ xs) totals w live here = record {
  before = before;
  total = t;
  rest = xs;
  split = w.split;
  place = w.place;
  here = here;
  last = w.last;
  next = w.next;
  closed = w.closed;
  given = w.found (items_after_free t xs) (released_here block at t xs here);
}
block_here start items block from at free gap passed before (Free t ∷ xs) totals w live here =
    absurd (omega (arith, live_low block (at + t) xs live, total_facts t totals.0))

block_ahead : (start : ℕ) (items : List Item) (block from at free gap passed : ℕ) (before rest : List Item) → AreTotals rest
    → IsWalkedTo start items block before rest from at free gap passed → is_some (live_total block at rest) ≡ true → IsNotBelow block free
    → at + 4 ≢ block → IsBlock start items block (last_link from at gap) (block - 4) free 0
block_ahead start items block from at free gap passed before [] totals w live far other = absurd (false≢true live)
block_ahead start items block from at free gap passed before (Live t ∷ xs) totals w live far other =
    let live' : is_some (live_total block (at + t) xs) ≡ true = rw (live_next block at t xs other) at live in
    let low : at + t + 4 ≤ block = live_low block (at + t) xs live' in
    let least = total_facts t totals.0 in
    let front : List Item = (before ++ left_free gap) ++ Live t ∷ [] in
    let w' : IsWalkedTo start items block front xs (last_link from at gap) (at + t) free 0 (passed + 1) =
    live_walked start items block from at free gap passed before xs t w (omega arith) in
    elim (cases_Bool (at + t + 4 == block)) [
      | inl is ↦
          let here : at + t + 4 ≡ block = eqb-true (at + t + 4) block is in
          let b : IsBlock start items block (last_link from at gap) (at + t) free 0 =
          block_here start items block (last_link from at gap) (at + t) free 0 (passed + 1) front xs totals.1 w' live' here in
          let e : at + t ≡ block - 4 = omega arith in
          subst (λ (p : ℕ). IsBlock start items block (last_link from at gap) p free 0) e b
      | inr isnt ↦
          block_ahead start items block (last_link from at gap) (at + t) free 0 (passed + 1) front xs totals.1 w' live' far
          (λ (e : at + t + 4 ≡ block). both_ways (at + t + 4 == block) isnt (eq-eqb (at + t + 4) block e))
    ]
block_ahead start items block from at free gap passed before (Free t ∷ xs) totals w live far other =
    let low : at + t + 4 ≤ block = live_low block (at + t) xs live in
    elim far [ inl none ↦ absurd (omega (arith, w.place, w.next)) | inr past ↦ absurd (omega (arith, w.next)) ]

-- where no free item below the block is left
pub record AtBlock (start : ℕ) (items : List Item) (block from at free gap probes : ℕ) : Type 0 where
  pub low : 4 ≤ block
  pub room : gap ≤ at
  pub here : at ≡ block - 4 → IsBlock start items block from at free gap
  pub ahead : at ≢ block - 4 → IsBlock start items block (last_link from at gap) (block - 4) free 0
  pub count : probes ≡ free_below block (start + 16) items

pub linked_ends : (start : ℕ) (items : List Item) (block from at free gap probes : ℕ) → AreTotals items
    → IsLinked start items block from at free gap probes → IsNotBelow block free → AtBlock start items block from at free gap probes
linked_ends start items block from at free gap probes totals l far =
    let all : AreTotals ((l.before ++ left_free gap) ++ l.rest) = subst AreTotals l.walk.split totals in
    let back : AreTotals l.rest = totals-back (l.before ++ left_free gap) l.rest all in
    let low : at + 4 ≤ block = live_low block at l.rest l.live in
    let far' : IsNotBelow block (next_free at l.rest 0) = subst (IsNotBelow block) l.walk.next far in
    record {
      low = omega arith;
      room = omega (arith, l.walk.place, size_of-gap l.before gap);
      here = λ e. block_here start items block from at free gap l.passed l.before l.rest back l.walk l.live (omega arith);
      ahead = λ o. block_ahead start items block from at free gap l.passed l.before l.rest back l.walk l.live far (λ e. o (omega arith));
      count = omega (arith, l.count, below_none block at l.rest (omega (arith, l.walk.place)) far');
    }
