-- A walk over a heap's items by address.
use Rattle.std.proofs.Common.{◌-◌, arith, ◌+◌, ◌≡◌, ◌∙◌, ℕ, ap, ◌≤◌, [], refl, List, ◌∷◌, sym, ◌%◌, ◌<◌, inr, inl}
use Rattle.address_map.specs.Bytes.{Bytes, word_at, AreMapped}
use Rattle.address_map.specs.Items.{size_of, items_from, link_target}
use Rattle.address_map.specs.declared.item.Item.{Item}
use Rattle.address_map.specs.declared.item.Item.TheVariants.{Free, Live}
use Rattle.os_heap_words.proofs.ListsLemmas.Reading.{items_from-spelled, total_facts, next_free-cases, linked_to}
use Rattle.os_heap_words.proofs.ListsLemmas.Tally.{link_below}
use Rattle.os_heap_words.specs.lists.Heap.{AreTotals, next_free}
use Rattle.os_heap_words.specs.lists.Walks.{rest_from, IsRestOfHeap}

pub rest_items : (b : Bytes) (at free base : ℕ) (r : IsRestOfHeap b at free base) → rest_from b at free base ≡ r.items
rest_items b at free base r =
    let end : at + size_of r.items ≡ base = r.end in
    ap (λ f. items_from (base - at) (word_at b.at) at f base) r.next
    ∙ items_from-spelled (word_at b.at) (base - at) at base r.items r.above end (omega arith) r.totals r.spelled

-- nothing is left at the base
nothing : (at base : ℕ) (xs : List Item) → AreTotals xs → at + size_of xs ≡ base → base ≤ at → xs ≡ []
nothing at base [] totals end past = refl
nothing at base (Live t ∷ xs) totals end past = absurd (omega (arith, total_facts t totals.0))
nothing at base (Free t ∷ xs) totals end past = absurd (omega (arith, total_facts t totals.0))

pub rest_none : (b : Bytes) (at free base : ℕ) → IsRestOfHeap b at free base → base ≤ at → rest_from b at free base ≡ []
rest_none b at free base r past = rest_items b at free base r ∙ nothing at base r.items r.totals r.end past

-- one item is passed
pub record IsPassed (b : Bytes) (at free base : ℕ) (item : Item) (after new_free : ℕ) : Type 0 where
  pub some : at + 8 ≤ after
  pub within : after ≤ base
  pub next : IsRestOfHeap b after new_free base
  pub list : rest_from b at free base ≡ item ∷ rest_from b after new_free base

passed : (b : Bytes) (at free base total : ℕ) (item : Item) (after new_free : ℕ) (r : IsRestOfHeap b at free base) (next : IsRestOfHeap b after new_free base)
    → at + 8 ≤ after → r.items ≡ item ∷ next.items → IsPassed b at free base item after new_free
passed b at free base total item after new_free r next some list =
    let end : after + size_of next.items ≡ base = next.end in
    record {
      some = some;
      within = omega arith;
      next = next;
      list = rest_items b at free base r ∙ list ∙ ap (λ xs. item ∷ xs) (sym (rest_items b after new_free base next));
    }

-- the words of the first item, a live one or a free one
pub record IsLiveFirst (b : Bytes) (at free base : ℕ) : Type 0 where
  pub passed : IsPassed b at free base (Live (word_at b.at at)) (at + word_at b.at at) free

pub record IsFreeFirst (b : Bytes) (at free base : ℕ) : Type 0 where
  pub passed : IsPassed b at free base (Free (word_at b.at (at + 4))) (at + word_at b.at (at + 4)) (link_target at (word_at b.at at))
  pub link : link_target at (word_at b.at at) ≤ base

after_mapped : (b : Bytes) (at after base : ℕ) → at ≤ after → AreMapped b.mapped at (base - at) → AreMapped b.mapped after (base - after)
after_mapped b at after base more mapped a low high = mapped a (omega arith) (omega arith)

pub live_first : (b : Bytes) (at free base : ℕ) → IsRestOfHeap b at free base → at < base → (at ≡ free → ⊥) → IsLiveFirst b at free base
live_first b at free base r below apart = first r.items refl where
  first : (xs : List Item) → r.items ≡ xs → IsLiveFirst b at free base
  first [] is = absurd (let end : at + size_of r.items ≡ base = r.end in let end' = rw is at end in omega (arith, end'))
  first (Free t ∷ xs) is = absurd (apart (sym (r.next ∙ ap (λ ys. next_free at ys 0) is)))
  first (Live t ∷ xs) is =
      let totals = rw is at r.totals in
      let spelled = rw is at r.spelled in
      let end = rw is at r.end in
      let total : (8 ≤ t) × (t % 8 ≡ 0) = total_facts t totals.0 in
      let word : word_at b.at at ≡ t = spelled.0 in
      let aligned : at % 4 ≡ 0 = r.aligned in
      let next : IsRestOfHeap b (at + t) free base = record {
        items = xs;
        next = r.next ∙ ap (λ ys. next_free at ys 0) is;
        spelled = spelled.1;
        totals = totals.1;
        end = omega (arith, end);
        aligned = omega arith;
        above = omega arith;
        mapped = after_mapped b at (at + t) base (omega arith) r.mapped;
      } in
      record { passed = rw word (passed b at free base t (Live t) (at + t) free r next (omega arith) is) }

pub free_first : (b : Bytes) (at free base : ℕ) → IsRestOfHeap b at free base → at < base → at ≡ free → IsFreeFirst b at free base
free_first b at free base r below here = first r.items refl where
  first : (xs : List Item) → r.items ≡ xs → IsFreeFirst b at free base
  first [] is = absurd (let end : at + size_of r.items ≡ base = r.end in let end' = rw is at end in omega (arith, end'))
  first (Live t ∷ xs) is =
      let totals = rw is at r.totals in
      let above : 0 < at = r.above in
      let total : (8 ≤ t) × (t % 8 ≡ 0) = total_facts t totals.0 in
      let next : free ≡ next_free (at + t) xs 0 = r.next ∙ ap (λ ys. next_free at ys 0) is in
      absurd (elim (next_free-cases (at + t) xs 0) [ inl none ↦ omega arith | inr some ↦ omega arith ])
  first (Free t ∷ xs) is =
      let totals = rw is at r.totals in
      let spelled = rw is at r.spelled in
      let end = rw is at r.end in
      let total : (8 ≤ t) × (t % 8 ≡ 0) = total_facts t totals.0 in
      let word : word_at b.at (at + 4) ≡ t = spelled.1.0 in
      let aligned : at % 4 ≡ 0 = r.aligned in
      let link : link_target at (word_at b.at at) ≡ next_free (at + t) xs 0 = ap (link_target at) spelled.0 ∙ linked_to at (at + t) xs (omega arith) in
      let next : IsRestOfHeap b (at + t) (link_target at (word_at b.at at)) base = record {
        items = xs;
        next = link;
        spelled = spelled.1.1;
        totals = totals.1;
        end = omega (arith, end);
        aligned = omega arith;
        above = omega arith;
        mapped = after_mapped b at (at + t) base (omega arith) r.mapped;
      } in
      record {
        passed = rw word (passed b at free base t (Free t) (at + t) (link_target at (word_at b.at at)) r next (omega arith) is);
        link = omega (arith, link, link_below (at + t) xs base totals.1 (omega (arith, end)));
      }
