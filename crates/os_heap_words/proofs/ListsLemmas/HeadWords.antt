-- The words that a heap spells lie in the heap; where these stay, memory spells the same list.
use Rattle.std.proofs.Common.{Bool, List, ℕ, arith, ◌≡◌, ◌+◌, true, ◌%◌, ◌==◌, [], refl, ◌||◌, ◌∙◌, ◌∷◌, ◌≤◌, ◌<◌, ap, false, inl, inr}
use Rattle.std.proofs.lemmas.Bool.{or_left, or_right, eq-eqb, le-leb, lt-ltb, both_ways, or_cases, eqb-true, and_parts, leb-true, ltb-true}
use Rattle.std.specs.List.{list_any}
use Rattle.address_map.specs.Bytes.{word_start, word_at, in_range, Bytes}
use Rattle.address_map.specs.Items.{is_heap_word, is_head, size_of}
use Rattle.address_map.specs.declared.item.Item.{Item}
use Rattle.address_map.specs.declared.item.Item.TheVariants.{Free, Live}
use Rattle.os_heap_words.proofs.ListsLemmas.Reading.{total_facts}
use Rattle.os_heap_words.specs.lists.Heap.{HeapList, Spells, AreTotals, IsHeapIn}

-- the bytes that some heaps spell
abbrev pub are_owned : List HeapList → ℕ → Bool
are_owned hs a = list_any (λ h. is_heap_word h.start h.items (word_start a)) hs

word_kept : (f g : ℕ → ℕ) (owned : ℕ → Bool) → ((a : ℕ) → owned (word_start a) ≡ true → g a ≡ f a)
    → (p : ℕ) → p % 4 ≡ 0 → owned p ≡ true → word_at g p ≡ word_at f p
word_kept f g owned kept p aligned is =
    let at0 : word_start p ≡ p = omega arith in
    let at1 : word_start (p + 1) ≡ p = omega arith in
    let at2 : word_start (p + 2) ≡ p = omega arith in
    let at3 : word_start (p + 3) ≡ p = omega arith in
    let b0 : g p ≡ f p = kept p (rw at0 is) in
    let b1 : g (p + 1) ≡ f (p + 1) = kept (p + 1) (rw at1 is) in
    let b2 : g (p + 2) ≡ f (p + 2) = kept (p + 2) (rw at2 is) in
    let b3 : g (p + 3) ≡ f (p + 3) = kept (p + 3) (rw at3 is) in
    cc

pub spells-kept : (v w : ℕ → ℕ) (at : ℕ) (xs : List Item) (other : ℕ) → at % 4 ≡ 0 → AreTotals xs
    → ((p : ℕ) → p % 4 ≡ 0 → is_head at xs p ≡ true → w p ≡ v p) → Spells v at xs other → Spells w at xs other
spells-kept v w at [] other aligned totals kept spelled = tt
spells-kept v w at (Live t ∷ xs) other aligned totals kept spelled =
    let total = total_facts t totals.0 in
    let here : w at ≡ v at = kept at aligned (or_left (at == at) (is_head (at + t) xs at) (eq-eqb at at refl)) in
    (here ∙ spelled.0, spells-kept v w (at + t) xs other (omega arith) totals.1 (λ p al h. kept p al (or_right (p == at) (is_head (at + t) xs p) h)) spelled.1)
spells-kept v w at (Free t ∷ xs) other aligned totals kept spelled =
    let total = total_facts t totals.0 in
    let first : (at == at || at == at + 4) ≡ true = or_left (at == at) (at == at + 4) (eq-eqb at at refl) in
    let second : (at + 4 == at || at + 4 == at + 4) ≡ true = or_right (at + 4 == at) (at + 4 == at + 4) (eq-eqb (at + 4) (at + 4) refl) in
    let here : w at ≡ v at = kept at aligned (or_left (at == at || at == at + 4) (is_head (at + t) xs at) first) in
    let next : w (at + 4) ≡ v (at + 4) = kept (at + 4) (omega arith) (or_left (at + 4 == at || at + 4 == at + 4) (is_head (at + t) xs (at + 4)) second) in (
      here ∙ spelled.0,
      (
        next ∙ spelled.1.0,
        spells-kept v w (at + t) xs other (omega arith) totals.1
            (λ p al h. kept p al (or_right (p == at || p == at + 4) (is_head (at + t) xs p) h)) spelled.1.1,
      ),
    )

-- the words of the descriptor
descriptor_word : (start : ℕ) (items : List Item) (p : ℕ) → start ≤ p → p < start + 16 → is_heap_word start items p ≡ true
descriptor_word start items p low high = or_left (in_range start 16 p) (is_head (start + 16) items p) (rw (le-leb start p low, lt-ltb p (start + 16) high) refl)

-- a heap is kept where its own words are
pub law_heap_frame : (b c : Bytes) (start end : ℕ) (items : List Item) → c.mapped ≡ b.mapped
    → ((a : ℕ) → is_heap_word start items (word_start a) ≡ true → c.at a ≡ b.at a)
    → IsHeapIn b start end items → IsHeapIn c start end items
law_heap_frame b c start end items mapping kept heap =
    let aligned = heap.aligned in
    let word : (p : ℕ) → p % 4 ≡ 0 → is_heap_word start items p ≡ true → word_at c.at p ≡ word_at b.at p =
    word_kept b.at c.at (is_heap_word start items) kept in
    record {
      aligned = heap.aligned;
      whole = heap.whole;
      mapped = λ a low high. ap (λ (f : ℕ → Bool). f a) mapping ∙ heap.mapped a low high;
      name = word start heap.aligned (descriptor_word start items start (omega arith) (omega arith)) ∙ heap.name;
      first = word (start + 4) (omega arith) (descriptor_word start items (start + 4) (omega arith) (omega arith)) ∙ heap.first;
      base = word (start + 8) (omega arith) (descriptor_word start items (start + 8) (omega arith) (omega arith)) ∙ heap.base;
      limit = word (start + 12) (omega arith) (descriptor_word start items (start + 12) (omega arith) (omega arith)) ∙ heap.limit;
      spelled = spells-kept (word_at b.at) (word_at c.at) (start + 16) items 0 (omega arith) heap.totals
          (λ p al h. word p al (or_right (in_range start 16 p) (is_head (start + 16) items p) h)) heap.spelled;
      totals = heap.totals;
      spaced = heap.spaced;
      inside = heap.inside;
    }

-- the words of items lie in the items
pub head_inside : (at : ℕ) (xs : List Item) (p : ℕ) → AreTotals xs → is_head at xs p ≡ true → (at ≤ p) × (p + 4 ≤ at + size_of xs)
head_inside at [] p totals is = absurd (both_ways false refl is)
head_inside at (Live t ∷ xs) p totals is =
    let total = total_facts t totals.0 in
    elim (or_cases (p == at) (is_head (at + t) xs p) is) [
      | inl here ↦ let e : p ≡ at = eqb-true p at here in (omega arith, omega arith)
      | inr later ↦ let rest : (at + t ≤ p) × (p + 4 ≤ at + t + size_of xs) = head_inside (at + t) xs p totals.1 later in (omega arith, omega arith)
    ]
head_inside at (Free t ∷ xs) p totals is =
    let total = total_facts t totals.0 in
    elim (or_cases (p == at || p == at + 4) (is_head (at + t) xs p) is) [
      | inl here ↦ elim (or_cases (p == at) (p == at + 4) here) [
        | inl first ↦ let e : p ≡ at = eqb-true p at first in (omega arith, omega arith)
        | inr second ↦ let e : p ≡ at + 4 = eqb-true p (at + 4) second in (omega arith, omega arith)
      ]
      | inr later ↦ let rest : (at + t ≤ p) × (p + 4 ≤ at + t + size_of xs) = head_inside (at + t) xs p totals.1 later in (omega arith, omega arith)
    ]

-- the words of a heap lie in the heap
pub word_inside : (b : Bytes) (start end : ℕ) (items : List Item) (p : ℕ) → IsHeapIn b start end items → p % 4 ≡ 0
    → is_heap_word start items p ≡ true → (start ≤ p) × (p + 4 ≤ start + end)
word_inside b start end items p heap aligned is =
    let multiple : start % 4 ≡ 0 = heap.aligned in
    let fits : 16 + size_of items ≤ end = heap.inside in
    elim (or_cases (in_range start 16 p) (is_head (start + 16) items p) is) [
      | inl here ↦
          let both = and_parts _ _ here in
          let low : start ≤ p = leb-true start p both.0 in
          let high : p < start + 16 = ltb-true p (start + 16) both.1 in
          (low, omega arith)
      | inr later ↦
          let rest : (start + 16 ≤ p) × (p + 4 ≤ start + 16 + size_of items) = head_inside (start + 16) items p heap.totals later in
          (omega arith, omega arith)
    ]

pub byte_inside : (b : Bytes) (start end : ℕ) (items : List Item) (a : ℕ) → IsHeapIn b start end items
    → is_heap_word start items (word_start a) ≡ true → in_range start end a ≡ true
byte_inside b start end items a heap is =
    let word : (start ≤ word_start a) × (word_start a + 4 ≤ start + end) = word_inside b start end items (word_start a) heap (omega arith) is in
    rw (le-leb start a (omega arith), lt-ltb a (start + end) (omega arith)) refl
