-- A walk from item to item to a block.
use Rattle.std.proofs.Common.{◌-◌, ◌+◌, ◌≡◌, List, ◌++◌, ℕ, append-nil, [], refl, ◌≢◌, ◌∷◌, ◌==◌, inl, ◌∙◌, add-zero, sym, inr, ap, arith, ◌≤◌, ◌<◌, zero-add, subst, append_assoc, option_map, Some, None, true}
use Rattle.std.proofs.lemmas.Bool.{eq-eqb, ne_eqb, eqb-true, cases_Bool, le-leb, lt-leb, cases_lt, false≢true}
use Rattle.address_map.specs.Items.{size_of}
use Rattle.address_map.specs.declared.item.Item.{Item}
use Rattle.address_map.specs.declared.item.Item.TheVariants.{Free, Live}
use Rattle.os_heap_words.proofs.ListsLemmas.Reading.{total_facts}
use Rattle.os_heap_words.proofs.ListsLemmas.Spelling.{size_of-append, next_free-bounds, spaced-back, spaced-join, last_free-append}
use Rattle.os_heap_words.specs.lists.Counts.{begun_below}
use Rattle.os_heap_words.specs.lists.Heap.{AreTotals, next_free, AreSpaced, last_free, begins_live}
use Rattle.os_heap_words.specs.lists.Lists.{left_free, items_with_gap, items_after_free, items_after_release}
use Rattle.os_heap_words.specs.lists.Walks.{IsWalked, IsWalkedTo, last_link}

-- no gap, or a gap: what that makes of lists
pub gap_none : (gap : ℕ) (before : List Item) → gap ≡ 0 → before ++ left_free gap ≡ before
gap_none gap before none = rw (eq-eqb gap 0 none) (append-nil before)

pub gap_some : (gap : ℕ) → gap ≢ 0 → left_free gap ≡ Free gap ∷ []
gap_some gap some = rw (ne_eqb gap 0 some) refl

pub glued_none : (gap : ℕ) (ys : List Item) → gap ≡ 0 → items_with_gap gap ys ≡ ys
glued_none gap ys none = rw (eq-eqb gap 0 none) refl

pub glued_some : (gap : ℕ) (ys : List Item) → gap ≢ 0 → items_with_gap gap ys ≡ items_after_free gap ys
glued_some gap ys some = rw (ne_eqb gap 0 some) refl

pub size_of-gap : (before : List Item) (gap : ℕ) → size_of (before ++ left_free gap) ≡ size_of before + gap
size_of-gap before gap = elim (cases_Bool (gap == 0)) [
  | inl none ↦ rw none (let e : gap ≡ 0 = eqb-true gap 0 none in size_of-append before [] ∙ ap (λ (n : ℕ). size_of before + n) (sym e))
  | inr some ↦ rw some (size_of-append before (Free gap ∷ []) ∙ ap (λ (n : ℕ). size_of before + n) (add-zero gap))
]

pub begun_small : (block at : ℕ) (xs : List Item) → AreTotals xs → begun_below block at xs ≤ size_of xs
begun_small block at [] totals = omega arith
begun_small block at (Live t ∷ xs) totals =
    elim (cases_lt block (at + 4)) [
      | inl high ↦ rw (lt-leb (at + 4) block high) (omega arith)
      | inr low ↦ rw (le-leb (at + 4) block low) (omega (arith, begun_small block (at + t) xs totals.1, total_facts t totals.0))
    ]
begun_small block at (Free t ∷ xs) totals =
    elim (cases_lt block (at + 4)) [
      | inl high ↦ rw (lt-leb (at + 4) block high) (omega arith)
      | inr low ↦ rw (le-leb (at + 4) block low) (omega (arith, begun_small block (at + t) xs totals.1, total_facts t totals.0))
    ]

-- the walk comes to a free item just where the next free one is
pub next_apart : (at t : ℕ) (xs : List Item) → 0 < at → AreTotals (Live t ∷ xs) → at ≢ next_free at (Live t ∷ xs) 0
next_apart at t xs above totals e =
    elim (next_free-bounds (at + t) xs 0 totals.1) [ inl none ↦ omega arith | inr b ↦ omega (arith, b.0, total_facts t totals.0) ]

-- the walk before the first item
pub walk_begun : (start : ℕ) (items : List Item) (block : ℕ) → IsWalked start items block start (start + 16) (next_free (start + 16) items 0) 0 0
walk_begun start items block = record {
  before = [];
  rest = items;
  walk = record {
    split = refl;
    place = sym (add-zero (start + 16));
    last = refl;
    next = refl;
    closed = tt;
    absent = λ h. h;
    found = λ ys h. h;
    count = zero-add (begun_below block (start + 16) items);
  };
}

-- two free items are not side by side
pub gap_shut : (before : List Item) (gap t : ℕ) (xs : List Item) → AreSpaced ((before ++ left_free gap) ++ Free t ∷ xs) → gap ≡ 0
gap_shut before gap t xs spaced = elim (cases_Bool (gap == 0)) [
  | inl none ↦ eqb-true gap 0 none
  | inr some ↦
      let spaced' = rw some at spaced in
      let s : AreSpaced (before ++ Free gap ∷ (Free t ∷ xs)) = subst AreSpaced (append_assoc before (Free gap ∷ []) (Free t ∷ xs)) spaced' in
      absurd (false≢true (spaced-back before (Free gap ∷ (Free t ∷ xs)) s).0)
]

released_free : (block at t : ℕ) (xs ys : List Item) → items_after_release block (at + t) xs ≡ Some ys → items_after_release block at (Free t ∷ xs) ≡ Some (items_after_free t ys)
released_free block at t xs ys h = ap (option_map (λ zs. items_after_free t zs)) h

pub released_free-none : (block at t : ℕ) (xs : List Item) → items_after_release block (at + t) xs ≡ None → items_after_release block at (Free t ∷ xs) ≡ None
released_free-none block at t xs h = ap (option_map (λ zs. items_after_free t zs)) h

released_live : (block at t : ℕ) (xs ys : List Item) → at + 4 ≢ block → items_after_release block (at + t) xs ≡ Some ys
    → items_after_release block at (Live t ∷ xs) ≡ Some (Live t ∷ ys)
released_live block at t xs ys other h = rw (ne_eqb (at + 4) block other) (ap (option_map (λ zs. Live t ∷ zs)) h)

pub released_live-none : (block at t : ℕ) (xs : List Item) → at + 4 ≢ block → items_after_release block (at + t) xs ≡ None → items_after_release block at (Live t ∷ xs) ≡ None
released_live-none block at t xs other h = rw (ne_eqb (at + 4) block other) (ap (option_map (λ zs. Live t ∷ zs)) h)

pub released_here : (block at t : ℕ) (xs : List Item) → at + 4 ≡ block → items_after_release block at (Live t ∷ xs) ≡ Some (items_after_free t xs)
released_here block at t xs here = rw (eq-eqb (at + 4) block here) refl

pub begun_more : (block at t : ℕ) (xs : List Item) → at + 4 ≤ block → (begun_below block at (Live t ∷ xs) ≡ 1 + begun_below block (at + t) xs)
    × (begun_below block at (Free t ∷ xs) ≡ 1 + begun_below block (at + t) xs)
begun_more block at t xs low = rw (le-leb (at + 4) block low) (refl, refl)

pub released_past : (block at : ℕ) (xs : List Item) → block ≤ at → items_after_release block at xs ≡ None
released_past block at [] past = refl
released_past block at (Live t ∷ xs) past =
    released_live-none block at t xs (λ (e : at + 4 ≡ block). omega arith) (released_past block (at + t) xs (omega arith))
released_past block at (Free t ∷ xs) past = released_free-none block at t xs (released_past block (at + t) xs (omega arith))

-- a block's bytes begin after its length word
pub released_before : (block at : ℕ) (xs : List Item) → block < at + 4 → items_after_release block at xs ≡ None
released_before block at [] past = refl
released_before block at (Live t ∷ xs) past =
    released_live-none block at t xs (λ (e : at + 4 ≡ block). omega arith) (released_before block (at + t) xs (omega arith))
released_before block at (Free t ∷ xs) past = released_free-none block at t xs (released_before block (at + t) xs (omega arith))

pub begun_past : (block at : ℕ) (xs : List Item) → block < at + 4 → begun_below block at xs ≡ 0
begun_past block at [] past = refl
begun_past block at (Live t ∷ xs) past = rw (lt-leb (at + 4) block past) refl
begun_past block at (Free t ∷ xs) past = rw (lt-leb (at + 4) block past) refl

-- a free item is passed
pub free_walked : (start : ℕ) (items : List Item) (block from at free gap probes : ℕ) (before rest : List Item) (t : ℕ) → AreSpaced items → 8 ≤ t
    → IsWalkedTo start items block before (Free t ∷ rest) from at free gap probes → at + 4 ≤ block
    → IsWalkedTo start items block before rest from (at + t) (next_free (at + t) rest 0) t (probes + 1)
free_walked start items block from at free gap probes before rest t spaced size w low =
    let none : gap ≡ 0 = gap_shut before gap t rest (subst AreSpaced w.split spaced) in
    let some : t ≢ 0 = λ (e : t ≡ 0). omega arith in
    let front : before ++ left_free gap ≡ before = gap_none gap before none in
    let joined : (before ++ left_free gap) ++ Free t ∷ rest ≡ (before ++ left_free t) ++ rest =
    ap (λ (ys : List Item). ys ++ Free t ∷ rest) front ∙ sym (append_assoc before (Free t ∷ []) rest)
    ∙ ap (λ (ys : List Item). (before ++ ys) ++ rest) (sym (gap_some t some)) in
    record {
      split = w.split ∙ joined;
      place = omega (arith, w.place, size_of-gap before gap, size_of-gap before t);
      last = w.last;
      next = refl;
      closed = w.closed;
      absent = λ h. w.absent (released_free-none block at t rest h);
      found = λ ys h. w.found (items_after_free t ys) (released_free block at t rest ys h)
          ∙ ap (λ (zs : List Item). Some (before ++ zs)) (glued_none gap (items_after_free t ys) none ∙ sym (glued_some t ys some));
      count = omega (arith, w.count, (begun_more block at t rest low).1);
    }

-- a block is passed
gap_closed : (before : List Item) (gap t : ℕ) → AreSpaced before → AreSpaced ((before ++ left_free gap) ++ Live t ∷ [])
gap_closed before gap t closed = elim (cases_Bool (gap == 0)) [
  | inl none ↦ rw (none, append-nil before) (spaced-join before (Live t ∷ []) closed tt)
  | inr some ↦ rw (some, append_assoc before (Free gap ∷ []) (Live t ∷ [])) (spaced-join before (Free gap ∷ (Live t ∷ [])) closed (refl, tt))
]

gap_last : (start : ℕ) (before : List Item) (from at gap t : ℕ) → from ≡ last_free start (start + 16) before
    → at ≡ start + 16 + size_of (before ++ left_free gap)
    → last_link from at gap ≡ last_free start (start + 16) ((before ++ left_free gap) ++ Live t ∷ [])
gap_last start before from at gap t last place = elim (cases_Bool (gap == 0)) [
  | inl none ↦ rw (none, append-nil before) (last ∙ sym (last_free-append start (start + 16) before (Live t ∷ [])))
  | inr some ↦
      let size : size_of (before ++ left_free gap) ≡ size_of before + gap = size_of-gap before gap in
      let e : at - gap ≡ start + 16 + size_of before = omega arith in
      rw (some, append_assoc before (Free gap ∷ []) (Live t ∷ []), e) (sym (last_free-append start (start + 16) before (Free gap ∷ (Live t ∷ []))))
]

gap_glued : (before : List Item) (gap t : ℕ) (ys : List Item) → before ++ items_with_gap gap (Live t ∷ ys) ≡ ((before ++ left_free gap) ++ Live t ∷ []) ++ ys
gap_glued before gap t ys = elim (cases_Bool (gap == 0)) [
  | inl none ↦ rw (none, append-nil before) (sym (append_assoc before (Live t ∷ []) ys))
  | inr some ↦ rw (some, append_assoc before (Free gap ∷ []) (Live t ∷ [])) (sym (append_assoc before (Free gap ∷ (Live t ∷ [])) ys))
]

pub live_walked : (start : ℕ) (items : List Item) (block from at free gap probes : ℕ) (before rest : List Item) (t : ℕ)
    → IsWalkedTo start items block before (Live t ∷ rest) from at free gap probes → at + 4 < block
    → IsWalkedTo start items block ((before ++ left_free gap) ++ Live t ∷ []) rest (last_link from at gap) (at + t) free 0 (probes + 1)
live_walked start items block from at free gap probes before rest t w low =
    let other : at + 4 ≢ block = λ (e : at + 4 ≡ block). omega arith in
    let front : List Item = (before ++ left_free gap) ++ Live t ∷ [] in
    let size : size_of front ≡ size_of (before ++ left_free gap) + (t + 0) = size_of-append (before ++ left_free gap) (Live t ∷ []) in
    let none : front ++ [] ≡ front = append-nil front in
    let place : at + t ≡ start + 16 + size_of front = omega (arith, w.place) in
    record {
      split = w.split ∙ sym (append_assoc (before ++ left_free gap) (Live t ∷ []) rest) ∙ ap (λ (ys : List Item). ys ++ rest) (sym none);
      place = place ∙ ap (λ (ys : List Item). start + 16 + size_of ys) (sym none);
      last = gap_last start before from at gap t w.last w.place;
      next = w.next;
      closed = gap_closed before gap t w.closed;
      absent = λ h. w.absent (released_live-none block at t rest other h);
      found = λ ys h. w.found (Live t ∷ ys) (released_live block at t rest ys other h) ∙ ap (λ (zs : List Item). Some zs) (gap_glued before gap t ys);
      count = omega (arith, w.count, (begun_more block at t rest (omega arith)).0);
    }

pub walk_past : (start : ℕ) (items : List Item) (block from at free gap probes : ℕ) → IsWalked start items block from at free gap probes → block < at + 4
    → (items_after_release block (start + 16) items ≡ None) × (probes ≡ begun_below block (start + 16) items)
walk_past start items block from at free gap probes w past =
    (w.walk.absent (released_before block at w.rest past), omega (arith, w.walk.count, begun_past block at w.rest past))

pub near : (block at base : ℕ) → (at + 4 < block → base ≤ at) → at < base → block ≤ at + 4
near block at base far below = elim (cases_lt (at + 4) block) [ inl less ↦ absurd (let past = far less in omega arith) | inr more ↦ more ]

pub glued_free : (gap t : ℕ) (xs : List Item) → items_with_gap gap (Free t ∷ xs) ≡ Free (gap + t) ∷ xs
glued_free gap t xs = elim (cases_Bool (gap == 0)) [
  | inl none ↦
      let e : gap ≡ 0 = eqb-true gap 0 none in
      let k : t ≡ gap + t = omega arith in
      rw none (ap (λ (n : ℕ). Free n ∷ xs) k)
  | inr some ↦ rw some refl
]

pub glued_nothing : (gap : ℕ) → items_with_gap gap [] ≡ []
glued_nothing gap = elim (cases_Bool (gap == 0)) [ inl none ↦ rw none refl | inr some ↦ rw some refl ]

pub size_of-old : (gap total : ℕ) (rest : List Item) → size_of (left_free gap ++ Live total ∷ rest) ≡ gap + (total + size_of rest)
size_of-old gap total rest = elim (cases_Bool (gap == 0)) [
  | inl none ↦ let e : gap ≡ 0 = eqb-true gap 0 none in rw none (omega arith)
  | inr some ↦ rw some refl
]

-- the block ends at the base
pub rest_none : (start at total base : ℕ) (rest : List Item) → AreTotals rest → base ≡ at + total + size_of rest → at + total ≡ base → rest ≡ []
rest_none start at total base [] totals end here = refl
rest_none start at total base (Live t ∷ xs) totals end here = absurd (omega (arith, total_facts t totals.0))
rest_none start at total base (Free t ∷ xs) totals end here = absurd (omega (arith, total_facts t totals.0))

-- a later block stays
pub rest_live : (at total base free : ℕ) (rest : List Item) → free ≡ next_free (at + total) rest 0 → at + total ≢ free → at + total ≢ base
    → base ≡ at + total + size_of rest → (begins_live rest ≡ true) × ((n : ℕ) → items_after_free n rest ≡ Free n ∷ rest)
rest_live at total base free [] next other inside end = absurd (inside (omega arith))
rest_live at total base free (Live t ∷ xs) next other inside end = (refl, λ n. refl)
rest_live at total base free (Free t ∷ xs) next other inside end = absurd (other (sym next))
