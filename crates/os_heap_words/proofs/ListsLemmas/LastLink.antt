-- A list whose back part is replaced: only the last link before it changes.
use Rattle.std.proofs.Common.{◌≡◌, ℕ, ◌+◌, refl, ◌-◌, arith, ◌<◌, [], List, ◌%◌, ◌∷◌, ◌≤◌, inl, ◌⊎◌, inr, ◌++◌, ◌∙◌, sym, ap, Bool, add_assoc, add-zero}
use Rattle.std.proofs.lemmas.Bool.{eq-eqb, ne_eqb}
use Rattle.address_map.specs.Bytes.{word_at, Bytes}
use Rattle.address_map.specs.Items.{size_of}
use Rattle.address_map.specs.declared.item.Item.{Item}
use Rattle.address_map.specs.declared.item.Item.TheVariants.{Free, Live}
use Rattle.os_heap_words.proofs.ListsLemmas.Reading.{total_facts}
use Rattle.os_heap_words.proofs.ListsLemmas.Spelling.{last_free-cases, next_free-append, NoneFree, OneFree, spells-relinked, totals-join, spells-join, spells-front, totals-front, spells-last}
use Rattle.os_heap_words.specs.lists.Heap.{last_free, AreTotals, next_free, Spells, AreSpaced, IsHeapIn}
use Rattle.os_heap_words.specs.lists.Words.{link_at, AreApart, IsOutside}

pub link_of-heap : (start : ℕ) → link_at start start ≡ start + 4
link_of-heap start = rw (eq-eqb start start refl) refl

pub link_of-item : (start from : ℕ) → start < from → link_at start from ≡ from
link_of-item start from above = rw (ne_eqb from start (λ (e : from ≡ start). omega arith)) refl

last_free-multiple : (from at : ℕ) (xs : List Item) → AreTotals xs → from % 4 ≡ 0 → at % 4 ≡ 0 → last_free from at xs % 4 ≡ 0
last_free-multiple from at [] totals f a = f
last_free-multiple from at (Live t ∷ xs) totals f a = last_free-multiple from (at + t) xs totals.1 f (omega (arith, total_facts t totals.0))
last_free-multiple from at (Free t ∷ xs) totals f a = last_free-multiple at (at + t) xs totals.1 a (omega (arith, total_facts t totals.0))

-- where the link stands that leads to the next free item after some items
pub record LinkFacts (start from end : ℕ) : Type 0 where
  pub aligned : link_at start from % 4 ≡ 0
  pub low : start + 4 ≤ link_at start from
  pub high : link_at start from + 4 ≤ end
  pub other : AreApart (link_at start from) 4 (start + 8) 8
  pub above : start ≤ from
  pub below : from + 4 ≤ end
  pub whole : from % 4 ≡ 0

link_facts-of : (start from end : ℕ) → start % 4 ≡ 0 → from % 4 ≡ 0 → (from ≡ start) ⊎ (start + 16 ≤ from) → from + 8 ≤ end → LinkFacts start from end
link_facts-of start from end aligned whole (inl here) high =
    let e : link_at start from ≡ start + 4 = rw here (link_of-heap start) in
    record { aligned = rw e (omega arith); low = omega (arith, e); high = omega (arith, e); other = inl (omega (arith, e)); above = omega arith; below = omega arith; whole = whole }
link_facts-of start from end aligned whole (inr later) high =
    let e : link_at start from ≡ from = link_of-item start from (omega arith) in
    record { aligned = rw e whole; low = omega (arith, e); high = omega (arith, e); other = inr (omega (arith, e)); above = omega arith; below = omega arith; whole = whole }

pub link_facts : (start : ℕ) (xs : List Item) → start % 4 ≡ 0 → AreTotals xs
    → LinkFacts start (last_free start (start + 16) xs) (start + 16 + size_of xs)
link_facts start xs aligned totals =
    link_facts-of start (last_free start (start + 16) xs) (start + 16 + size_of xs) aligned
    (last_free-multiple start (start + 16) xs totals aligned (omega arith))
    (elim (last_free-cases start (start + 16) xs totals) [ inl n ↦ inl n.last | inr o ↦ inr o.low ])
    (elim (last_free-cases start (start + 16) xs totals) [ inl n ↦ omega (arith, n.last) | inr o ↦ omega (arith, o.high) ])

first_word : (f g : ℕ → ℕ) (start : ℕ) (xs old new : List Item) → AreTotals xs
    → NoneFree start (start + 16) xs ⊎ OneFree start (start + 16) xs
    → word_at f (start + 4) ≡ next_free (start + 16) (xs ++ old) 0 - start
    → word_at g (link_at start (last_free start (start + 16) xs)) ≡ next_free (start + 16 + size_of xs) new 0 - last_free start (start + 16) xs
    → (AreApart (start + 4) 4 (link_at start (last_free start (start + 16) xs)) 4 → word_at g (start + 4) ≡ word_at f (start + 4))
    → word_at g (start + 4) ≡ next_free (start + 16) (xs ++ new) 0 - start
first_word f g start xs old new totals (inl n) first link same =
    let e : last_free start (start + 16) xs ≡ start = n.last in
    let l : link_at start start ≡ start + 4 = link_of-heap start in
    let k : word_at g (link_at start start) ≡ next_free (start + 16 + size_of xs) new 0 - start = rw e at link in
    let k' : word_at g (start + 4) ≡ next_free (start + 16 + size_of xs) new 0 - start = rw l at k in
    k' ∙ ap (λ (p : ℕ). p - start) (sym (next_free-append (start + 16) xs new 0 ∙ n.next (next_free (start + 16 + size_of xs) new 0)))
first_word f g start xs old new totals (inr o) first link same =
    let l : link_at start (last_free start (start + 16) xs) ≡ last_free start (start + 16) xs = link_of-item start _ (omega (arith, o.low)) in
    same (inl (omega (arith, l, o.low))) ∙ first
    ∙ ap (λ (p : ℕ). p - start) (next_free-append (start + 16) xs old 0
    ∙ o.next (next_free (start + 16 + size_of xs) old 0) (next_free (start + 16 + size_of xs) new 0)
    ∙ sym (next_free-append (start + 16) xs new 0))

-- what the words of a heap must be for its items from some place on to be others
pub record IsReplaced (b c : Bytes) (start end : ℕ) (xs new : List Item) : Type 0 where
  pub mapped : c.mapped ≡ b.mapped
  pub totals : AreTotals new
  pub spaced : AreSpaced (xs ++ new)
  pub inside : 16 + size_of (xs ++ new) ≤ end
  pub link : word_at c.at (link_at start (last_free start (start + 16) xs)) ≡ next_free (start + 16 + size_of xs) new 0 - last_free start (start + 16) xs
  pub base : word_at c.at (start + 8) ≡ 16 + size_of (xs ++ new)
  pub same : (a : ℕ) → a + 4 ≤ start + 16 + size_of xs → AreApart a 4 (link_at start (last_free start (start + 16) xs)) 4
      → AreApart a 4 (start + 8) 4 → word_at c.at a ≡ word_at b.at a
  pub spelled : Spells (word_at c.at) (start + 16 + size_of xs) new 0

pub replaced : (b c : Bytes) (start end : ℕ) (xs old new : List Item) → IsHeapIn b start end (xs ++ old) → IsReplaced b c start end xs new
    → IsHeapIn c start end (xs ++ new)
replaced b c start end xs old new heap r =
    let totals : AreTotals xs = totals-front xs old heap.totals in
    let facts : LinkFacts start (last_free start (start + 16) xs) (start + 16 + size_of xs) = link_facts start xs heap.aligned totals in
    let front : Spells (word_at b.at) (start + 16) xs (next_free (start + 16 + size_of xs) old 0) = spells-front (word_at b.at) (start + 16) xs old 0 heap.spelled in
    let front' : Spells (word_at c.at) (start + 16) xs (next_free (start + 16 + size_of xs) new 0) =
    spells-relinked (word_at b.at) (word_at c.at) start (start + 16) xs (next_free (start + 16 + size_of xs) old 0) (next_free (start + 16 + size_of xs) new 0)
    (omega arith) totals front
    (λ low. let l : link_at start (last_free start (start + 16) xs) ≡ last_free start (start + 16) xs = link_of-item start _ (omega arith) in rw l at r.link)
    (λ a low high apart. r.same a high
    (elim (last_free-cases start (start + 16) xs totals) [
      | inl n ↦
          let e : last_free start (start + 16) xs ≡ start = n.last in
          let l : link_at start (last_free start (start + 16) xs) ≡ start + 4 = rw e (link_of-heap start) in
          inr (omega (arith, l))
      | inr o ↦
          let l : link_at start (last_free start (start + 16) xs) ≡ last_free start (start + 16) xs = link_of-item start _ (omega (arith, o.low)) in
          rw l apart
    ])
    (inr (omega arith))) in
    record {
      aligned = heap.aligned;
      whole = heap.whole;
      mapped = λ a low high. ap (λ (f : ℕ → Bool). f a) r.mapped ∙ heap.mapped a low high;
      name = r.same start (omega arith) (inl (omega (arith, facts.low))) (inl (omega arith)) ∙ heap.name;
      first = first_word b.at c.at start xs old new totals (last_free-cases start (start + 16) xs totals) heap.first r.link
          (λ apart. r.same (start + 4) (omega arith) apart (inl (omega arith)));
      base = r.base;
      limit = r.same (start + 12) (omega arith)
          (elim facts.other [ inl low ↦ inr (omega arith) | inr high ↦ inl (omega arith) ]) (inr (omega arith)) ∙ heap.limit;
      spelled = spells-join (word_at c.at) (start + 16) xs new 0 front' r.spelled;
      totals = totals-join xs new totals r.totals;
      spaced = r.spaced;
      inside = r.inside;
    }

-- the word at the last link of some items leads to the next free item after them
pub link_word : (b : Bytes) (start end : ℕ) (xs old : List Item) → IsHeapIn b start end (xs ++ old)
    → word_at b.at (link_at start (last_free start (start + 16) xs)) ≡ next_free (start + 16 + size_of xs) old 0 - last_free start (start + 16) xs
link_word b start end xs old heap =
    let totals : AreTotals xs = totals-front xs old heap.totals in
    let front : Spells (word_at b.at) (start + 16) xs (next_free (start + 16 + size_of xs) old 0) = spells-front (word_at b.at) (start + 16) xs old 0 heap.spelled in
    elim (last_free-cases start (start + 16) xs totals) [
      | inl n ↦ rw (n.last, link_of-heap start) (heap.first
          ∙ ap (λ (p : ℕ). p - start) (next_free-append (start + 16) xs old 0 ∙ n.next (next_free (start + 16 + size_of xs) old 0)))
      | inr o ↦
          let l : link_at start (last_free start (start + 16) xs) ≡ last_free start (start + 16) xs = link_of-item start _ (omega (arith, o.low)) in
          rw l (spells-last (word_at b.at) start (start + 16) xs (next_free (start + 16 + size_of xs) old 0) (omega arith) totals front o.low)
    ]

pub outside-back : (at : ℕ) (xs ys : List Item) (a : ℕ) → IsOutside at (xs ++ ys) a → IsOutside (at + size_of xs) ys a
outside-back at [] ys a h = rw add-zero h
outside-back at (Live t ∷ xs) ys a h = rw (← add_assoc at t (size_of xs)) (outside-back (at + t) xs ys a h.1)
outside-back at (Free t ∷ xs) ys a h = rw (← add_assoc at t (size_of xs)) (outside-back (at + t) xs ys a h.1)

outside-last : (from at : ℕ) (xs ys : List Item) (a : ℕ) → AreTotals xs → at ≤ last_free from at xs → from < at → IsOutside at (xs ++ ys) a
    → AreApart a 1 (last_free from at xs) 4
outside-last from at [] ys a totals low below h = absurd (omega arith)
outside-last from at (Live t ∷ xs) ys a totals low below h =
    elim (last_free-cases from (at + t) xs totals.1) [
      | inl n ↦ absurd (omega (arith, n.last))
      | inr o ↦ outside-last from (at + t) xs ys a totals.1 o.low (omega arith) h.1
    ]
outside-last from at (Free t ∷ xs) ys a totals low below h =
    elim (last_free-cases at (at + t) xs totals.1) [
      | inl n ↦ rw n.last (elim h.0 [ inl left ↦ inl left | inr right ↦ inr (omega arith) ])
      | inr o ↦ outside-last at (at + t) xs ys a totals.1 o.low (omega (arith, total_facts t totals.0)) h.1
    ]

pub outside-link : (start : ℕ) (xs ys : List Item) (a : ℕ) → AreTotals xs → AreApart a 1 start 16 → IsOutside (start + 16) (xs ++ ys) a
    → AreApart a 1 (link_at start (last_free start (start + 16) xs)) 4
outside-link start xs ys a totals head h =
    elim (last_free-cases start (start + 16) xs totals) [
      | inl n ↦ rw (n.last, link_of-heap start) (elim head [ inl left ↦ inl (omega arith) | inr right ↦ inr (omega arith) ])
      | inr o ↦
          let l : link_at start (last_free start (start + 16) xs) ≡ last_free start (start + 16) xs = link_of-item start _ (omega (arith, o.low)) in
          rw l (outside-last start (start + 16) xs ys a totals o.low (omega arith) h)
    ]
