-- The bytes of a live block are none of the words that its heap spells: they stay as they are where
-- these are written.
use Rattle.address_map.specs.MemoryMap.{heap_name}
use Rattle.std.proofs.Common.{List, ℕ, [], ◌∷◌, ◌≡◌, ◌==◌, ◌||◌, ◌+◌, ◌-◌, ◌%◌, ◌≤◌, ◌<◌, Some, true, false, refl, sym, ◌∙◌, inl, inr, arith}
use Rattle.std.proofs.lemmas.Bool.{eqb-false, ne_eqb, or_parts, or_from, or_cases, and_parts, and_right, leb-true, ltb-true, le-leb, lt-ltb, le-ltb}
use Rattle.address_map.proofs.Stores.{in_range-cases}
use Rattle.address_map.specs.Bytes.{in_range, with_word_at, word_start}
use Rattle.address_map.specs.Items.{is_head, is_heap_word, size_of}
use Rattle.address_map.specs.declared.item.Item.{Item}
use Rattle.address_map.specs.declared.item.Item.TheVariants.{Free, Live}
use Rattle.os_heap_words.proofs.ListsLemmas.HeadWords.{head_inside}
use Rattle.os_heap_words.proofs.ListsLemmas.LiveBlocks.{LiveBytes, law_live_bytes, live_unspelled}
use Rattle.os_heap_words.proofs.ListsLemmas.Reading.{total_facts}
use Rattle.os_heap_words.specs.lists.Heap.{AreTotals, next_free, with_heads, with_heap}
use Rattle.os_heap_words.specs.lists.Lists.{live_total}

-- a word that holds another byte
word_beside : (f : ℕ → ℕ) (at v a : ℕ) → at % 4 ≡ 0 → (word_start a ≡ at → ⊥) → with_word_at f at v a ≡ f a
word_beside f at v a aligned other =
    let e0 : (a == at) ≡ false = ne_eqb a at (λ (e : a ≡ at). other (omega arith)) in
    let e1 : (a == at + 1) ≡ false = ne_eqb a (at + 1) (λ (e : a ≡ at + 1). other (omega arith)) in
    let e2 : (a == at + 2) ≡ false = ne_eqb a (at + 2) (λ (e : a ≡ at + 2). other (omega arith)) in
    let e3 : (a == at + 3) ≡ false = ne_eqb a (at + 3) (λ (e : a ≡ at + 3). other (omega arith)) in
    rw (e0, e1, e2, e3) refl

heads_beside : (f : ℕ → ℕ) (at : ℕ) (xs : List Item) (other a : ℕ) → at % 4 ≡ 0 → AreTotals xs → is_head at xs (word_start a) ≡ false
    → with_heads f at xs other a ≡ f a
heads_beside f at [] other a aligned totals none = refl
heads_beside f at (Live t ∷ xs) other a aligned totals none =
    let total = total_facts t totals.0 in
    let parts = or_parts (word_start a == at) (is_head (at + t) xs (word_start a)) none in
    word_beside (with_heads f (at + t) xs other) at t a aligned (eqb-false (word_start a) at parts.0)
    ∙ heads_beside f (at + t) xs other a (omega arith) totals.1 parts.1
heads_beside f at (Free t ∷ xs) other a aligned totals none =
    let total = total_facts t totals.0 in
    let parts = or_parts (word_start a == at || word_start a == at + 4) (is_head (at + t) xs (word_start a)) none in
    let own = or_parts (word_start a == at) (word_start a == at + 4) parts.0 in
    let rest : ℕ → ℕ = with_heads f (at + t) xs other in
    word_beside (with_word_at rest (at + 4) t) at (next_free (at + t) xs other - at) a aligned (eqb-false (word_start a) at own.0)
    ∙ word_beside rest (at + 4) t a (omega arith) (eqb-false (word_start a) (at + 4) own.1)
    ∙ heads_beside f (at + t) xs other a (omega arith) totals.1 parts.1

-- the words of a heap are written, and a byte is in none of them
pub heap_beside : (f : ℕ → ℕ) (start end : ℕ) (items : List Item) (a : ℕ) → start % 4 ≡ 0 → AreTotals items
    → is_heap_word start items (word_start a) ≡ false → with_heap f start end items a ≡ f a
heap_beside f start end items a aligned totals none =
    let parts = or_parts (in_range start 16 (word_start a)) (is_head (start + 16) items (word_start a)) none in
    let h0 : ℕ → ℕ = with_heads f (start + 16) items 0 in
    let h1 : ℕ → ℕ = with_word_at h0 start heap_name in
    let h2 : ℕ → ℕ = with_word_at h1 (start + 4) (next_free (start + 16) items 0 - start) in
    let h3 : ℕ → ℕ = with_word_at h2 (start + 8) (16 + size_of items) in
    let out : (k : ℕ) → k < 16 → word_start a ≡ start + k → ⊥ = λ k below e.
    elim (in_range-cases start 16 (word_start a)) [
      | inl r ↦ let no : true ≡ false = sym r.0 ∙ parts.0 in absurd (cc)
      | inr r ↦ elim r.1 [ inl low ↦ omega arith | inr past ↦ omega arith ]
    ] in
    word_beside h3 (start + 12) end a (omega arith) (out 12 (omega arith))
    ∙ word_beside h2 (start + 8) (16 + size_of items) a (omega arith) (out 8 (omega arith))
    ∙ word_beside h1 (start + 4) (next_free (start + 16) items 0 - start) a (omega arith) (out 4 (omega arith))
    ∙ word_beside h0 start heap_name a aligned (λ (e : word_start a ≡ start). out 0 (omega arith) (omega arith))
    ∙ heads_beside f (start + 16) items 0 a (omega arith) totals parts.1

-- the bytes of a live block
pub payload_unspelled : (start : ℕ) (items : List Item) (block total a : ℕ) → start % 4 ≡ 0 → AreTotals items
    → live_total block (start + 16) items ≡ Some total → block ≤ a → a < block + (total - 4) → is_heap_word start items (word_start a) ≡ false
payload_unspelled start items block total a aligned totals live low high =
    let place : LiveBytes block total (start + 16) (start + 16 + size_of items) = law_live_bytes block total (start + 16) items totals live in
    let whole : block % 4 ≡ 0 = place.whole (omega arith) in
    or_from (in_range start 16 (word_start a)) (is_head (start + 16) items (word_start a))
    (and_right _ _ (le-ltb (word_start a) (start + 16) (omega (arith, place.low))))
    (live_unspelled block total (start + 16) items (word_start a) totals live (omega arith) (omega arith))

-- the words of a heap lie in its range
pub spelled_inside : (start end : ℕ) (items : List Item) (a : ℕ) → start % 4 ≡ 0 → AreTotals items → 16 + size_of items ≤ end
    → is_heap_word start items (word_start a) ≡ true → in_range start end a ≡ true
spelled_inside start end items a aligned totals fits is =
    elim (or_cases (in_range start 16 (word_start a)) (is_head (start + 16) items (word_start a)) is) [
      | inl here ↦
          let both = and_parts _ _ here in
          let low : start ≤ word_start a = leb-true start (word_start a) both.0 in
          let high : word_start a < start + 16 = ltb-true (word_start a) (start + 16) both.1 in
          rw (le-leb start a (omega arith), lt-ltb a (start + end) (omega arith)) refl
      | inr later ↦
          let rest : (start + 16 ≤ word_start a) × (word_start a + 4 ≤ start + 16 + size_of items) = head_inside (start + 16) items (word_start a) totals later in
          rw (le-leb start a (omega (arith, rest.0)), lt-ltb a (start + end) (omega (arith, rest.1))) refl
    ]
