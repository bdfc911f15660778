-- A search along the links for a free item that fits.
use Rattle.std.proofs.Common.{◌+◌, ◌≡◌, None, List, ◌++◌, ℕ, Some, Option, ap, arith, [], add_assoc, refl, ◌∷◌, ◌∙◌, ◌-◌, add-zero, sym, zero-add, ◌≢◌, ◌<◌, ◌≤◌, append_assoc, inl, inr}
use Rattle.std.proofs.lemmas.Bool.{lt-leb, le-leb, cases_lt}
use Rattle.address_map.specs.Items.{size_of}
use Rattle.address_map.specs.declared.item.Item.{Item}
use Rattle.address_map.specs.declared.item.Item.TheVariants.{Live, Free}
use Rattle.os_heap_words.proofs.ListsLemmas.Reading.{total_facts}
use Rattle.os_heap_words.proofs.ListsLemmas.Spelling.{size_of-append, last_free-append}
use Rattle.os_heap_words.specs.lists.Counts.{looked_at}
use Rattle.os_heap_words.specs.lists.Heap.{next_free, last_free, AreTotals}
use Rattle.os_heap_words.specs.lists.Lists.{Claim, first_fit, claim_behind, left_free}
use Rattle.os_heap_words.specs.lists.Walks.{BeginsFree, IsSearched, IsFit}

-- the blocks that a list begins with are passed without a look
record Advance (n other at : ℕ) (xs : List Item) : Type 0 where
  lives : List Item
  rest : List Item
  split : xs ≡ lives ++ rest
  begins : BeginsFree (at + size_of lives) rest (next_free at xs 0)
  last : last_free other at lives ≡ other
  absent : first_fit n rest ≡ None → first_fit n xs ≡ None
  found : (c : Claim) → first_fit n rest ≡ Some c → first_fit n xs ≡ Some (record { offset = size_of lives + c.offset; items = lives ++ c.items })
  count : looked_at n rest ≡ looked_at n xs

abbrev claim_of : ℕ → List Item → Option Claim
claim_of offset items = Some (record { offset = offset; items = items })

moved : (a b : ℕ) (items : List Item) → a ≡ b → claim_of a items ≡ claim_of b items
moved a b items e = ap (λ (o : ℕ). claim_of o items) e

advance : (n other at : ℕ) (xs : List Item) → Advance n other at xs
advance n other at [] = record {
  lives = [];
  rest = [];
  split = refl;
  begins = refl;
  last = refl;
  absent = λ h. h;
  found = λ c h. absurd (let none : None ≡ Some c = h in cc);
  count = refl;
}
advance n other at (Live t ∷ xs) =
    let a : Advance n other (at + t) xs = advance n other (at + t) xs in
    record {
      lives = Live t ∷ a.lives;
      rest = a.rest;
      split = ap (λ (ys : List Item). Live t ∷ ys) a.split;
      begins = rw (← add_assoc at t (size_of a.lives)) a.begins;
      last = a.last;
      absent = λ h. ap (claim_behind (Live t)) (a.absent h);
      found = λ c h. ap (claim_behind (Live t)) (a.found c h) ∙ moved _ _ (Live t ∷ (a.lives ++ c.items)) (omega arith);
      count = a.count;
    }
advance n other at (Free t ∷ xs) = record {
  lives = [];
  rest = Free t ∷ xs;
  split = refl;
  begins = sym (add-zero at);
  last = refl;
  absent = λ h. h;
  found = λ c h. h ∙ moved c.offset (0 + c.offset) c.items (omega arith);
  count = refl;
}

pub search_begun : (start : ℕ) (items : List Item) (n : ℕ) → IsSearched start items n start (next_free (start + 16) items 0) 0
search_begun start items n =
    let a : Advance n start (start + 16) items = advance n start (start + 16) items in
    record {
      before = a.lives;
      rest = a.rest;
      split = a.split;
      begins = a.begins;
      last = sym a.last;
      absent = a.absent;
      found = a.found;
      count = zero-add (looked_at n a.rest) ∙ a.count;
    }

-- a search that comes to a free item
pub record IsMet (start : ℕ) (items : List Item) (n from at probes : ℕ) : Type 0 where
  pub before : List Item
  pub total : ℕ
  pub rest : List Item
  pub split : items ≡ before ++ Free total ∷ rest
  pub place : at ≡ start + 16 + size_of before
  pub last : from ≡ last_free start (start + 16) before
  pub absent : first_fit n (Free total ∷ rest) ≡ None → first_fit n items ≡ None
  pub found : (c : Claim) → first_fit n (Free total ∷ rest) ≡ Some c
      → first_fit n items ≡ Some (record { offset = size_of before + c.offset; items = before ++ c.items })
  pub count : probes + looked_at n (Free total ∷ rest) ≡ looked_at n items

meet : (start : ℕ) (items : List Item) (n from at probes : ℕ) (before rest : List Item) → items ≡ before ++ rest
    → BeginsFree (start + 16 + size_of before) rest at → from ≡ last_free start (start + 16) before
    → (first_fit n rest ≡ None → first_fit n items ≡ None)
    → ((c : Claim) → first_fit n rest ≡ Some c → first_fit n items ≡ Some (record { offset = size_of before + c.offset; items = before ++ c.items }))
    → probes + looked_at n rest ≡ looked_at n items
    → at ≢ 0 → IsMet start items n from at probes
meet start items n from at probes before [] split begins last absent found count some = absurd (some begins)
meet start items n from at probes before (Live t ∷ rest) split begins last absent found count some = absurd begins
meet start items n from at probes before (Free t ∷ rest) split begins last absent found count some = record {
  before = before;
  total = t;
  rest = rest;
  split = split;
  place = begins;
  last = last;
  absent = absent;
  found = found;
  count = count;
}

pub search_met : (start : ℕ) (items : List Item) (n from at probes : ℕ) → IsSearched start items n from at probes → at ≢ 0
    → IsMet start items n from at probes
search_met start items n from at probes s some =
    meet start items n from at probes s.before s.rest s.split s.begins s.last s.absent s.found s.count some

ended : (start : ℕ) (items : List Item) (n at probes : ℕ) (p : ℕ) (rest : List Item) → 0 < p → BeginsFree p rest at → at ≡ 0
    → (first_fit n rest ≡ None → first_fit n items ≡ None) → probes + looked_at n rest ≡ looked_at n items
    → (first_fit n items ≡ None) × (probes ≡ looked_at n items)
ended start items n at probes p [] above begins none absent count = (absent refl, sym (add-zero probes) ∙ count)
ended start items n at probes p (Live t ∷ rest) above begins none absent count = absurd begins
ended start items n at probes p (Free t ∷ rest) above begins none absent count = absurd (omega arith)

pub search_ended : (start : ℕ) (items : List Item) (n from at probes : ℕ) → IsSearched start items n from at probes → at ≡ 0
    → (first_fit n items ≡ None) × (probes ≡ looked_at n items)
search_ended start items n from at probes s none =
    ended start items n at probes (start + 16 + size_of s.before) s.rest (omega arith) s.begins none s.absent s.count

fit_none : (n t : ℕ) (xs : List Item) → t < n → first_fit n xs ≡ None → first_fit n (Free t ∷ xs) ≡ None
fit_none n t xs less h = rw (lt-leb n t less, h) refl

fit_later : (n t : ℕ) (xs : List Item) (c : Claim) → t < n → first_fit n xs ≡ Some c
    → first_fit n (Free t ∷ xs) ≡ Some (record { offset = t + c.offset; items = Free t ∷ c.items })
fit_later n t xs c less h = rw (lt-leb n t less, h) (moved _ _ (Free t ∷ c.items) (omega arith))

fit_here : (n t : ℕ) (xs : List Item) → n ≤ t
    → first_fit n (Free t ∷ xs) ≡ Some (record { offset = 0; items = Live n ∷ (left_free (t - n) ++ xs) })
fit_here n t xs more = rw (le-leb n t more) refl

looked_later : (n t : ℕ) (xs : List Item) → t < n → looked_at n (Free t ∷ xs) ≡ 1 + looked_at n xs
looked_later n t xs less = rw (lt-leb n t less) refl

looked_here : (n t : ℕ) (xs : List Item) → n ≤ t → looked_at n (Free t ∷ xs) ≡ 1
looked_here n t xs more = rw (le-leb n t more) refl

-- the item is too small: the search goes on
pub search_passed : (start : ℕ) (items : List Item) (n from at probes : ℕ) (s : IsMet start items n from at probes) → s.total < n
    → IsSearched start items n at (next_free (at + s.total) s.rest 0) (probes + 1)
search_passed start items n from at probes s less =
    let a : Advance n at (at + s.total) s.rest = advance n at (at + s.total) s.rest in
    let size : size_of (s.before ++ Free s.total ∷ a.lives) ≡ size_of s.before + (s.total + size_of a.lives) =
    size_of-append s.before (Free s.total ∷ a.lives) in
    let place : at + s.total + size_of a.lives ≡ start + 16 + size_of (s.before ++ Free s.total ∷ a.lives) = omega (arith, s.place) in
    record {
      before = s.before ++ Free s.total ∷ a.lives;
      rest = a.rest;
      split = s.split ∙ ap (λ (ys : List Item). s.before ++ Free s.total ∷ ys) a.split ∙ sym (append_assoc s.before (Free s.total ∷ a.lives) a.rest);
      begins = rw place at a.begins;
      last = sym (last_free-append start (start + 16) s.before (Free s.total ∷ a.lives)
          ∙ ap (λ (p : ℕ). last_free p (p + s.total) a.lives) (sym s.place) ∙ a.last);
      absent = λ h. s.absent (fit_none n s.total s.rest less (a.absent h));
      found = λ c h.
          s.found (record { offset = s.total + (size_of a.lives + c.offset); items = Free s.total ∷ (a.lives ++ c.items) })
          (fit_later n s.total s.rest (record { offset = size_of a.lives + c.offset; items = a.lives ++ c.items }) less (a.found c h))
          ∙ ap (λ (ys : List Item). let k : Claim = record { offset = size_of s.before + (s.total + (size_of a.lives + c.offset)); items = ys } in Some k)
          (sym (append_assoc s.before (Free s.total ∷ a.lives) c.items))
          ∙ moved _ _ ((s.before ++ Free s.total ∷ a.lives) ++ c.items) (omega (arith, size));
      count = omega (arith, s.count, looked_later n s.total s.rest less, a.count);
    }

-- the item fits
pub search_fits : (start : ℕ) (items : List Item) (n from at probes total : ℕ) (s : IsMet start items n from at probes) → total ≡ s.total → n ≤ total
    → IsFit start items n from at total × (probes + 1 ≡ looked_at n items)
search_fits start items n from at probes total s is more =
    let more' : n ≤ s.total = omega (arith, is) in (
      record {
        before = s.before;
        rest = s.rest;
        split = rw is s.split;
        place = s.place;
        last = s.last;
        fits = more;
        first = rw is (s.found (record { offset = 0; items = Live n ∷ (left_free (s.total - n) ++ s.rest) }) (fit_here n s.total s.rest more')
            ∙ moved _ _ (s.before ++ Live n ∷ (left_free (s.total - n) ++ s.rest)) (omega arith));
      },
      omega (arith, s.count, looked_here n s.total s.rest more'),
    )

-- no more free items are looked at than the items have bytes
pub looked-small : (n : ℕ) (xs : List Item) → AreTotals xs → looked_at n xs ≤ size_of xs
looked-small n [] totals = omega arith
looked-small n (Live t ∷ xs) totals = omega (arith, looked-small n xs totals.1)
looked-small n (Free t ∷ xs) totals =
    elim (cases_lt t n) [
      | inl less ↦ omega (arith, looked_later n t xs less, looked-small n xs totals.1, total_facts t totals.0)
      | inr more ↦ omega (arith, looked_here n t xs more, total_facts t totals.0)
    ]

pub looked_some : (n t : ℕ) (xs : List Item) → 1 ≤ looked_at n (Free t ∷ xs)
looked_some n t xs = elim (cases_lt t n) [ inl less ↦ omega (arith, looked_later n t xs less) | inr more ↦ omega (arith, looked_here n t xs more) ]
