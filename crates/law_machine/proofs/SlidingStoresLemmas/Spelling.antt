-- The words of a heap that were written over memory spell it.
use Rattle.profile.specs.MemoryMap.{heap_name}
use Rattle.std.proofs.Common.{ℕ, ◌≡◌, ◌≤◌, ◌<◌, ◌+◌, ◌-◌, ◌^◌, ◌∙◌, List, [], ◌∷◌, refl, inl, inr, arith}
use Rattle.address_map.specs.Bytes.{Bytes, with_word_at, word_at}
use Rattle.address_map.specs.Items.{size_of}
use Rattle.address_map.specs.declared.item.Item.{Item}
use Rattle.address_map.specs.declared.item.Item.TheVariants.{Free, Live}
use Rattle.os_heap_words.proofs.ListsLemmas.Reading.{total_facts}
use Rattle.os_heap_words.proofs.ListsLemmas.Words.{written}
use Rattle.os_heap_words.specs.lists.Heap.{AreSpaced, AreTotals, IsHeapIn, Spells, next_free, with_heads, with_heap}
use Rattle.os_heap_words.specs.lists.Words.{IsWordWritten}

-- words that stay spell the same
spells_kept : (v w : ℕ → ℕ) (at : ℕ) (xs : List Item) (other : ℕ) → ((q : ℕ) → at ≤ q → w q ≡ v q) → Spells v at xs other → Spells w at xs other
spells_kept v w at [] other same spelled = tt
spells_kept v w at (Live t ∷ xs) other same spelled =
    (same at (omega arith) ∙ spelled.0, spells_kept v w (at + t) xs other (λ q low. same q (omega (arith, low))) spelled.1)
spells_kept v w at (Free t ∷ xs) other same spelled = (
  same at (omega arith) ∙ spelled.0,
  (same (at + 4) (omega arith) ∙ spelled.1.0, spells_kept v w (at + t) xs other (λ q low. same q (omega (arith, low))) spelled.1.1),
)

free_low : (at : ℕ) (xs : List Item) (other top : ℕ) → at + size_of xs ≤ top → other ≤ top → next_free at xs other ≤ top
free_low at [] other top fits low = low
free_low at (Live t ∷ xs) other top fits low = free_low (at + t) xs other top (omega (arith, fits)) low
free_low at (Free t ∷ xs) other top fits low = omega (arith, fits)

wrote : (f : ℕ → ℕ) (at v : ℕ) → v < 2 ^ 32 → IsWordWritten f (with_word_at f at v) at v
wrote f at v fits = written f (with_word_at f at v) at v fits (λ a. refl)

heads_spell : (f : ℕ → ℕ) (at : ℕ) (xs : List Item) (other : ℕ) → AreTotals xs → at + size_of xs ≤ 2 ^ 26 → other ≤ 2 ^ 26
    → Spells (word_at (with_heads f at xs other)) at xs other
heads_spell f at [] other totals fits low = tt
heads_spell f at (Live t ∷ xs) other totals fits low =
    let least = total_facts t totals.0 in
    let rest : ℕ → ℕ = with_heads f (at + t) xs other in
    let w : IsWordWritten rest (with_word_at rest at t) at t = wrote rest at t (omega (arith, fits)) in (
      w.here,
      spells_kept (word_at rest) (word_at (with_word_at rest at t)) (at + t) xs other (λ q above. w.apart q (inr (omega (arith, above, least.0))))
          (heads_spell f (at + t) xs other totals.1 (omega (arith, fits)) low),
    )
heads_spell f at (Free t ∷ xs) other totals fits low =
    let least = total_facts t totals.0 in
    let link : ℕ = next_free (at + t) xs other - at in
    let high : next_free (at + t) xs other ≤ 2 ^ 26 = free_low (at + t) xs other (2 ^ 26) (omega (arith, fits)) low in
    let rest : ℕ → ℕ = with_heads f (at + t) xs other in
    let one : ℕ → ℕ = with_word_at rest (at + 4) t in
    let u : IsWordWritten rest one (at + 4) t = wrote rest (at + 4) t (omega (arith, fits)) in
    let w : IsWordWritten one (with_word_at one at link) at link = wrote one at link (omega (arith, high)) in (
      w.here,
      (
        w.apart (at + 4) (inr (omega arith)) ∙ u.here,
        spells_kept (word_at rest) (word_at (with_word_at one at link)) (at + t) xs other
            (λ q above. w.apart q (inr (omega (arith, above, least.0))) ∙ u.apart q (inr (omega (arith, above, least.0))))
            (heads_spell f (at + t) xs other totals.1 (omega (arith, fits)) low),
      ),
    )

pub heap_spelled : (b : Bytes) (f : ℕ → ℕ) (start end : ℕ) (old items : List Item) → IsHeapIn b start end old → AreTotals items → AreSpaced items
    → 16 + size_of items ≤ end → start + end ≤ 2 ^ 26
    → (let c : Bytes = record { mapped = b.mapped; at = with_heap f start end items } in IsHeapIn c start end items)
heap_spelled b f start end old items heap totals spaced inside low =
    let link : ℕ = next_free (start + 16) items 0 - start in
    let high : next_free (start + 16) items 0 ≤ 2 ^ 26 = free_low (start + 16) items 0 (2 ^ 26) (omega (arith, inside, low)) (omega arith) in
    let h0 : ℕ → ℕ = with_heads f (start + 16) items 0 in
    let h1 : ℕ → ℕ = with_word_at h0 start heap_name in
    let h2 : ℕ → ℕ = with_word_at h1 (start + 4) link in
    let h3 : ℕ → ℕ = with_word_at h2 (start + 8) (16 + size_of items) in
    let w1 : IsWordWritten h0 h1 start heap_name = wrote h0 start heap_name (omega arith) in
    let w2 : IsWordWritten h1 h2 (start + 4) link = wrote h1 (start + 4) link (omega (arith, high)) in
    let w3 : IsWordWritten h2 h3 (start + 8) (16 + size_of items) = wrote h2 (start + 8) (16 + size_of items) (omega (arith, inside, low)) in
    let w4 : IsWordWritten h3 (with_word_at h3 (start + 12) end) (start + 12) end = wrote h3 (start + 12) end (omega (arith, low)) in
    record {
      aligned = heap.aligned;
      whole = heap.whole;
      mapped = heap.mapped;
      name = w4.apart start (inl (omega arith)) ∙ (w3.apart start (inl (omega arith)) ∙ (w2.apart start (inl (omega arith)) ∙ w1.here));
      first = w4.apart (start + 4) (inl (omega arith)) ∙ (w3.apart (start + 4) (inl (omega arith)) ∙ w2.here);
      base = w4.apart (start + 8) (inl (omega arith)) ∙ w3.here;
      limit = w4.here;
      spelled = spells_kept (word_at h0) (word_at (with_word_at h3 (start + 12) end)) (start + 16) items 0
          (λ q above. w4.apart q (inr (omega (arith, above))) ∙ (w3.apart q (inr (omega (arith, above)))
          ∙ (w2.apart q (inr (omega (arith, above))) ∙ w1.apart q (inr (omega (arith, above))))))
          (heads_spell f (start + 16) items 0 totals (omega (arith, inside, low)) (omega arith));
      totals = totals;
      spaced = spaced;
      inside = inside;
    }
