-- The free items passed along the links: how many, their bytes, and the largest.
use Rattle.std.proofs.Common.{◌-◌, ◌+◌, ◌≡◌, ◌≤◌, List, ℕ, true, ◌%◌, arith, [], refl, ◌∷◌, ◌*◌, inl, inr, ◌<◌, ◌∙◌, sym, ap, max}
use Rattle.std.proofs.lemmas.Bool.{le-leb, lt-leb, cases_lt}
use Rattle.std.proofs.lemmas.Bool.Decides.{nat_tests}
use Rattle.address_map.specs.Items.{is_total, size_of, link_target}
use Rattle.address_map.specs.declared.item.Item.{Item}
use Rattle.address_map.specs.declared.item.Item.TheVariants.{Live, Free}
use Rattle.os_heap_words.proofs.ListsLemmas.Reading.{total_facts, linked_to}
use Rattle.os_heap_words.proofs.ListsLemmas.Spelling.{next_free-bounds}
use Rattle.os_heap_words.specs.lists.Counts.{larger, largest_free, free_total, free_count}
use Rattle.os_heap_words.specs.lists.Heap.{next_free, Spells, AreTotals}
use Rattle.os_heap_words.specs.lists.Walks.{IsTallied}

-- the first free item of a list, at `at`
record IsNextFree (w : ℕ → ℕ) (place at : ℕ) (rest : List Item) : Type 0 where
  total : ℕ
  after : List Item
  length : w (at + 4) ≡ total
  whole : is_total total ≡ true
  link : w at ≡ next_free (at + total) after 0 - at
  spelled : Spells w (at + total) after 0
  totals : AreTotals after
  aligned : at % 4 ≡ 0
  low : place ≤ at
  high : at + total + size_of after ≡ place + size_of rest
  counted : free_count rest ≡ 1 + free_count after
  summed : free_total rest ≡ total + free_total after
  most : largest_free rest ≡ larger total (largest_free after)

next_of : (w : ℕ → ℕ) (place at : ℕ) (rest : List Item) → at ≡ next_free place rest 0 → (at ≡ 0 → ⊥) → Spells w place rest 0 → AreTotals rest
    → place % 4 ≡ 0 → IsNextFree w place at rest
next_of w place at [] here some spelled totals aligned = absurd (some here)
next_of w place at (Live t ∷ xs) here some spelled totals aligned =
    let total : (8 ≤ t) × (t % 8 ≡ 0) = total_facts t totals.0 in
    let n : IsNextFree w (place + t) at xs = next_of w (place + t) at xs here some spelled.1 totals.1 (omega arith) in
    record {
      total = n.total;
      after = n.after;
      length = n.length;
      whole = n.whole;
      link = n.link;
      spelled = n.spelled;
      totals = n.totals;
      aligned = n.aligned;
      low = omega (arith, n.low);
      high = omega (arith, n.high);
      counted = n.counted;
      summed = n.summed;
      most = n.most;
    }
next_of w place at (Free t ∷ xs) here some spelled totals aligned =
    record {
      total = t;
      after = xs;
      length = rw here spelled.1.0;
      whole = totals.0;
      link = rw here spelled.0;
      spelled = rw here spelled.1.1;
      totals = totals.1;
      aligned = rw here aligned;
      low = omega arith;
      high = omega arith;
      counted = refl;
      summed = refl;
      most = refl;
    }

larger_next : (a b c : ℕ) → larger (larger a b) c ≡ larger a (larger b c)
larger_next a b c = grind (arith, nat_tests)

pub free_count-bound : (xs : List Item) → AreTotals xs → 8 * free_count xs ≤ size_of xs
free_count-bound [] totals = omega arith
free_count-bound (Live t ∷ xs) totals = omega (arith, free_count-bound xs totals.1)
free_count-bound (Free t ∷ xs) totals = omega (arith, total_facts t totals.0, free_count-bound xs totals.1)

pub free_total-bound : (xs : List Item) → free_total xs ≤ size_of xs
free_total-bound [] = omega arith
free_total-bound (Live t ∷ xs) = omega (arith, free_total-bound xs)
free_total-bound (Free t ∷ xs) = omega (arith, free_total-bound xs)

pub link_below : (at : ℕ) (xs : List Item) (end : ℕ) → AreTotals xs → at + size_of xs ≤ end → next_free at xs 0 ≤ end
link_below at xs end totals high = elim (next_free-bounds at xs 0 totals) [ inl none ↦ omega arith | inr some ↦ omega arith ]

-- a walk that is not at its end
pub record IsAtItem (w : ℕ → ℕ) (start end : ℕ) (items : List Item) (at count total largest : ℕ) : Type 0 where
  pub aligned : at % 4 ≡ 0
  pub low : start + 16 ≤ at
  pub high : at + w (at + 4) ≤ end
  pub some : 8 ≤ w (at + 4)
  pub link : link_target at (w at) ≤ end
  pub counted : count < free_count items
  pub summed : total + w (at + 4) ≤ free_total items
  pub next : IsTallied w start end items (link_target at (w at)) (count + 1) (total + w (at + 4)) (larger largest (w (at + 4)))

pub tally_next : (w : ℕ → ℕ) (start end : ℕ) (items : List Item) (at count total largest : ℕ)
    → IsTallied w start end items at count total largest → (at ≡ 0 → ⊥) → IsAtItem w start end items at count total largest
tally_next w start end items at count total largest tally some =
    let n : IsNextFree w tally.place at tally.rest = next_of w tally.place at tally.rest tally.next some tally.spelled tally.totals tally.aligned in
    let facts : (8 ≤ n.total) × (n.total % 8 ≡ 0) = total_facts n.total n.whole in
    let aligned : at % 4 ≡ 0 = n.aligned in
    let low : tally.place ≤ at = n.low in
    let bottom : start + 16 ≤ tally.place = tally.low in
    let high : at + n.total + size_of n.after ≡ tally.place + size_of tally.rest = n.high in
    let top : tally.place + size_of tally.rest ≤ end = tally.high in
    let length : w (at + 4) ≡ n.total = n.length in
    let counted : free_count tally.rest ≡ 1 + free_count n.after = n.counted in
    let summed : free_total tally.rest ≡ n.total + free_total n.after = n.summed in
    let before : count + free_count tally.rest ≡ free_count items = tally.counted in
    let passed : total + free_total tally.rest ≡ free_total items = tally.summed in
    let link : link_target at (w at) ≡ next_free (at + n.total) n.after 0 = ap (link_target at) n.link ∙ linked_to at (at + n.total) n.after (omega arith) in
    record {
      aligned = aligned;
      low = omega arith;
      high = omega arith;
      some = omega arith;
      link = omega (arith, link, link_below (at + n.total) n.after end n.totals (omega arith));
      counted = omega arith;
      summed = omega arith;
      next = record {
        place = at + n.total;
        rest = n.after;
        next = link;
        spelled = n.spelled;
        totals = n.totals;
        aligned = omega arith;
        low = omega arith;
        high = omega arith;
        counted = omega arith;
        summed = omega arith;
        most = ap (λ t. larger (larger largest t) (largest_free n.after)) length ∙ larger_next largest n.total (largest_free n.after)
            ∙ ap (larger largest) (sym n.most) ∙ tally.most;
      };
    }

-- no free item is left
record AreNoneFree (xs : List Item) : Type 0 where
  counted : free_count xs ≡ 0
  summed : free_total xs ≡ 0
  most : largest_free xs ≡ 0

none_left : (place : ℕ) (xs : List Item) → 0 < place → 0 ≡ next_free place xs 0 → AreNoneFree xs
none_left place [] above end = record { counted = refl; summed = refl; most = refl }
none_left place (Live t ∷ xs) above end =
    let rest : AreNoneFree xs = none_left (place + t) xs (omega arith) end in
    record { counted = rest.counted; summed = rest.summed; most = rest.most }
none_left place (Free t ∷ xs) above end = absurd (omega arith)

pub larger_max : (a b : ℕ) → max a b ≡ larger a b
larger_max a b = elim (cases_lt b a) [ inl less ↦ rw (lt-leb a b less) (omega arith) | inr more ↦ rw (le-leb a b more) (omega arith) ]

larger_none : (a : ℕ) → a ≡ larger a 0
larger_none a = grind (arith, nat_tests)

-- the walk at its end
pub tally_end : (w : ℕ → ℕ) (start end : ℕ) (items : List Item) (at count total largest : ℕ) → IsTallied w start end items at count total largest
    → at ≡ 0 → (count ≡ free_count items) × ((total ≡ free_total items) × (largest ≡ largest_free items))
tally_end w start end items at count total largest tally gone =
    let low : start + 16 ≤ tally.place = tally.low in
    let none : AreNoneFree tally.rest = none_left tally.place tally.rest (omega arith) (sym gone ∙ tally.next) in
    let before : count + free_count tally.rest ≡ free_count items = tally.counted in
    let passed : total + free_total tally.rest ≡ free_total items = tally.summed in
    (omega (arith, none.counted), (omega (arith, none.summed), larger_none largest ∙ ap (larger largest) (sym none.most) ∙ tally.most))
