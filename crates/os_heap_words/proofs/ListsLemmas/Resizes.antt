-- The total of a block, and what a change of it in place makes of a list.
use Rattle.std.proofs.Common.{◌≡◌, None, Option, refl, List, option_map, Some, ◌==◌, ◌+◌, inl, [], ℕ, inr, ◌∷◌, ◌-◌, arith, ◌≢◌, ◌++◌, ◌∙◌, sym, ap, true, ◌≤◌, append-nil, ◌<◌}
use Rattle.std.proofs.lemmas.Bool.{cases_Bool, ne_eqb, eq-eqb, le-leb, lt-leb, cases_lt}
use Rattle.address_map.specs.Items.{size_of}
use Rattle.address_map.specs.declared.item.Item.{Item}
use Rattle.address_map.specs.declared.item.Item.TheVariants.{Free, Live}
use Rattle.os_heap_words.proofs.ListsLemmas.ItemWalk.{size_of-gap, glued_nothing}
use Rattle.os_heap_words.proofs.ListsLemmas.Reading.{total_facts}
use Rattle.os_heap_words.proofs.ListsLemmas.Spelling.{last_free-append}
use Rattle.os_heap_words.specs.lists.Heap.{AreTotals, begins_live, AreSpaced, last_free, next_free}
use Rattle.os_heap_words.specs.lists.Lists.{items_after_release, items_after_free, live_total, resized_in_place, items_after_refit, left_free, items_with_gap, items_after_growth}
use Rattle.os_heap_words.specs.lists.Walks.{last_link}
use Rattle.os_heap_words.specs.lists.Words.{IsWordWritten, IsFreed, link_at, IsDivided, AreApart}

-- nothing comes of nothing alone
pub map_none : (f : List Item → List Item) (x : Option (List Item)) → option_map f x ≡ None → x ≡ None
map_none f None h = refl
map_none f (Some xs) h = absurd (let some : Some (f xs) ≡ None = h in cc)

map_same : (x : Option (List Item)) → option_map (λ ys. ys) x ≡ x
map_same None = refl
map_same (Some xs) = refl

map_twice : (f g : List Item → List Item) (x : Option (List Item)) → option_map f (option_map g x) ≡ option_map (λ ys. f (g ys)) x
map_twice f g None = refl
map_twice f g (Some xs) = refl

-- a place where no block is given back has no block
pub unreleased : (block at : ℕ) (xs : List Item) → items_after_release block at xs ≡ None → live_total block at xs ≡ None
unreleased block at [] none = refl
unreleased block at (Live t ∷ xs) none = elim (cases_Bool (at + 4 == block)) [
  | inl here ↦ absurd (let some : Some (items_after_free t xs) ≡ None = rw here at none in cc)
  | inr other ↦ rw other (unreleased block (at + t) xs (map_none (λ ys. Live t ∷ ys) (items_after_release block (at + t) xs) (rw other at none)))
]
unreleased block at (Free t ∷ xs) none = unreleased block (at + t) xs (map_none (λ ys. items_after_free t ys) (items_after_release block (at + t) xs) none)

-- the total of a block after some items
pub live_total-at : (block at place t : ℕ) (front rest : List Item) → AreTotals front → place ≡ at + size_of front → place + 4 ≡ block
    → live_total block at (front ++ Live t ∷ rest) ≡ Some t
live_total-at block at place t [] rest totals there here = rw (eq-eqb (at + 4) block (omega arith)) refl
live_total-at block at place t (Live u ∷ front) rest totals there here =
    let other : at + 4 ≢ block = λ (e : at + 4 ≡ block). omega (arith, total_facts u totals.0) in
    rw (ne_eqb (at + 4) block other) (live_total-at block (at + u) place t front rest totals.1 (omega arith) here)
live_total-at block at place t (Free u ∷ front) rest totals there here =
    live_total-at block (at + u) place t front rest totals.1 (omega arith) here

-- what a change of it makes of the list
pub in_place-at : (block end new at place t : ℕ) (front rest : List Item) → AreTotals front → place ≡ at + size_of front → place + 4 ≡ block
    → resized_in_place block end new at (front ++ Live t ∷ rest) ≡ option_map (λ ys. front ++ ys) (items_after_refit (end - place) new t rest)
in_place-at block end new at place t [] rest totals there here =
    let same : at ≡ place = omega arith in
    rw (eq-eqb (at + 4) block (omega arith))
    (ap (λ (p : ℕ). items_after_refit (end - p) new t rest) same ∙ sym (map_same (items_after_refit (end - place) new t rest)))
in_place-at block end new at place t (Live u ∷ front) rest totals there here =
    let other : at + 4 ≢ block = λ (e : at + 4 ≡ block). omega (arith, total_facts u totals.0) in
    rw (ne_eqb (at + 4) block other)
    (ap (option_map (λ ys. Live u ∷ ys)) (in_place-at block end new (at + u) place t front rest totals.1 (omega arith) here)
    ∙ map_twice (λ ys. Live u ∷ ys) (λ ys. front ++ ys) (items_after_refit (end - place) new t rest))
in_place-at block end new at place t (Free u ∷ front) rest totals there here =
    ap (option_map (λ ys. Free u ∷ ys)) (in_place-at block end new (at + u) place t front rest totals.1 (omega arith) here)
    ∙ map_twice (λ ys. Free u ∷ ys) (λ ys. front ++ ys) (items_after_refit (end - place) new t rest)

-- a block in the place of another keeps free items apart
begins-block : (front xs ys : List Item) (t u : ℕ) → begins_live (front ++ Live t ∷ xs) ≡ true → begins_live (front ++ Live u ∷ ys) ≡ true
begins-block [] xs ys t u h = refl
begins-block (Live v ∷ front) xs ys t u h = refl
begins-block (Free v ∷ front) xs ys t u h = h

pub spaced-block : (front xs ys : List Item) (t u : ℕ) → AreSpaced (front ++ Live t ∷ xs) → AreSpaced ys → AreSpaced (front ++ Live u ∷ ys)
spaced-block [] xs ys t u h g = g
spaced-block (Live v ∷ front) xs ys t u h g = spaced-block front xs ys t u h g
spaced-block (Free v ∷ front) xs ys t u h g = (begins-block front xs ys t u h.0, spaced-block front xs ys t u h.1 g)

-- three words, one after another
pub divided_words : (f g h : ℕ → ℕ) (start from at total left next : ℕ) → AreApart (link_at start from) 4 at 4
    → IsFreed f g start from (at + total) left next → IsWordWritten g h at total → 4 ≤ total → IsDivided f h start from at total left next
divided_words f g h start from at total left next apart one two least = record {
  block = two.here;
  to_item = two.apart (link_at start from) apart ∙ one.to_item;
  to_next = two.apart (at + total) (inr (omega arith)) ∙ one.to_next;
  length = two.apart (at + total + 4) (inr (omega arith)) ∙ one.length;
  apart = λ a a1 a2 a3. two.apart a a2 ∙ one.apart a a1 a3;
  other = λ a a1 a2 a3. two.other a a2 ∙ one.other a a1 a3;
}

pub gap_link : (start : ℕ) (before : List Item) (from at gap : ℕ) → from ≡ last_free start (start + 16) before
    → at ≡ start + 16 + size_of (before ++ left_free gap)
    → last_link from at gap ≡ last_free start (start + 16) (before ++ left_free gap)
gap_link start before from at gap last place = elim (cases_Bool (gap == 0)) [
  | inl none ↦ rw (none, append-nil before) last
  | inr some ↦
      let size : size_of (before ++ left_free gap) ≡ size_of before + gap = size_of-gap before gap in
      let e : at - gap ≡ start + 16 + size_of before = omega arith in
      rw (some, e) (sym (last_free-append start (start + 16) before (Free gap ∷ [])))
]

-- what the list becomes
pub fewer : (room new old : ℕ) (xs : List Item) → new ≤ old → items_after_refit room new old xs ≡ Some (Live new ∷ items_with_gap (old - new) xs)
fewer room new old xs less = rw (le-leb new old less) refl

more : (room new old : ℕ) (xs : List Item) → old < new → items_after_refit room new old xs ≡ items_after_growth room new old xs
more room new old xs larger = rw (lt-leb new old larger) refl

pub last_some : (room new old : ℕ) → new ≤ room → items_after_refit room new old [] ≡ Some (Live new ∷ [])
last_some room new old fits = elim (cases_lt old new) [
  | inl larger ↦ more room new old [] larger ∙ (rw (le-leb new room fits) refl)
  | inr less ↦ fewer room new old [] less ∙ ap (λ (ys : List Item). Some (Live new ∷ ys)) (glued_nothing (old - new))
]

pub last_none : (room new old : ℕ) → room < new → old < new → items_after_refit room new old [] ≡ None
last_none room new old full larger = more room new old [] larger ∙ (rw (lt-leb new room full) refl)

pub grown_some : (room new old t : ℕ) (xs : List Item) → old < new → new ≤ old + t
    → items_after_refit room new old (Free t ∷ xs) ≡ Some (Live new ∷ (left_free (old + t - new) ++ xs))
grown_some room new old t xs larger fits = more room new old (Free t ∷ xs) larger ∙ (rw (le-leb new (old + t) fits) refl)

pub grown_none : (room new old t : ℕ) (xs : List Item) → old + t < new → items_after_refit room new old (Free t ∷ xs) ≡ None
grown_none room new old t xs full = more room new old (Free t ∷ xs) (omega arith) ∙ (rw (lt-leb new (old + t) full) refl)

pub left_none : (n : ℕ) (xs : List Item) → n ≡ 0 → left_free n ++ xs ≡ xs
left_none n xs none = rw (eq-eqb n 0 none) refl

pub left_some : (n : ℕ) (xs : List Item) → n ≢ 0 → left_free n ++ xs ≡ Free n ∷ xs
left_some n xs some = rw (ne_eqb n 0 some) refl

-- after a block that is not the last, and that no free item touches, stands a block
pub grown_blocked : (room new at total base free : ℕ) (rest : List Item) → free ≡ next_free (at + total) rest 0 → at + total ≢ free → at + total ≢ base
    → base ≡ at + total + size_of rest → total < new → items_after_refit room new total rest ≡ None
grown_blocked room new at total base free [] next other inside end larger = absurd (inside (omega arith))
grown_blocked room new at total base free (Live t ∷ xs) next other inside end larger = more room new total (Live t ∷ xs) larger
grown_blocked room new at total base free (Free t ∷ xs) next other inside end larger = absurd (other (sym next))
