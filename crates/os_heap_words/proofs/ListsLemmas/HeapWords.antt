-- The words of a heap written over other bytes.
use Rattle.address_map.specs.MemoryMap.{heap_name}
use Rattle.std.proofs.Common.{arith, ◌/◌, ◌+◌, ◌≡◌, ℕ, ◌%◌, ◌<◌, ◌-◌, inl, ◌∙◌, sym, inr, ◌∷◌, [], List, ◌≤◌, refl, Bool, ap}
use Rattle.std.proofs.lemmas.Bool.{cases_lt}
use Rattle.std.proofs.lemmas.Bool.Decides.{nat_tests}
use Rattle.address_map.specs.Bytes.{with_word_at, word_at, Bytes}
use Rattle.address_map.specs.Items.{size_of}
use Rattle.address_map.specs.declared.item.Item.{Item}
use Rattle.address_map.specs.declared.item.Item.TheVariants.{Free, Live}
use Rattle.os_heap_words.proofs.ListsLemmas.Reading.{total_facts}
use Rattle.os_heap_words.proofs.ListsLemmas.Spelling.{spells-kept}
use Rattle.os_heap_words.specs.lists.Heap.{next_free, Spells, with_heads, with_heap, IsHeapIn, AreTotals, HeapList}
use Rattle.os_heap_words.specs.lists.Words.{AreApart, IsOutside}

-- a word that is there, byte by byte
word_byte : (f g : ℕ → ℕ) (at v k : ℕ) → ((a : ℕ) → g a < 256) → word_at g at ≡ v → k < 4 → g (at + k) ≡ with_word_at f at v (at + k)
word_byte f g at v k small word below =
    let s0 = small at in let s1 = small (at + 1) in let s2 = small (at + 2) in let s3 = small (at + 3) in
    let b0 : g at ≡ v % 256 = omega arith in
    let b1 : g (at + 1) ≡ v / 256 % 256 = omega arith in
    let b2 : g (at + 2) ≡ v / 65536 % 256 = omega arith in
    let b3 : g (at + 3) ≡ v / 16777216 % 256 = omega arith in
    grind (arith, nat_tests)

read_back : (f g : ℕ → ℕ) (at v : ℕ) → ((a : ℕ) → g a < 256) → word_at g at ≡ v → (a : ℕ) → (AreApart a 1 at 4 → g a ≡ f a)
    → g a ≡ with_word_at f at v a
read_back f g at v small word a same =
    elim (cases_lt a at) [
      | inl low ↦ same (inl (omega arith)) ∙ sym (beside f at v a (inl (omega arith)))
      | inr high ↦ elim (cases_lt a (at + 4)) [
        | inl inside ↦
            let e : at + (a - at) ≡ a = omega arith in
            rw e at (word_byte f g at v (a - at) small word (omega arith))
        | inr past ↦ same (inr (omega arith)) ∙ sym (beside f at v a (inr (omega arith)))
      ]
    ] where
      beside : (f : ℕ → ℕ) (at v a : ℕ) → AreApart a 1 at 4 → with_word_at f at v a ≡ f a
      beside f at v a apart = grind (arith, nat_tests)

beside_both : (a at : ℕ) → AreApart a 1 at 4 → AreApart a 1 (at + 4) 4 → AreApart a 1 at 8
beside_both a at (inl low) other = inl low
beside_both a at (inr high) (inl low) = absurd (omega arith)
beside_both a at (inr high) (inr past) = inr (omega arith)

heads_back : (f g : ℕ → ℕ) (at : ℕ) (xs : List Item) (z : ℕ) → ((a : ℕ) → g a < 256) → Spells (word_at g) at xs z
    → (a : ℕ) → (IsOutside at xs a → g a ≡ f a) → g a ≡ with_heads f at xs z a
heads_back f g at [] z small h a same = same tt
heads_back f g at (Live t ∷ xs) z small h a same =
    read_back (with_heads f (at + t) xs z) g at t small h.0 a
    (λ apart. heads_back f g (at + t) xs z small h.1 a (λ out. same (apart, out)))
heads_back f g at (Free t ∷ xs) z small h a same =
    read_back (with_word_at (with_heads f (at + t) xs z) (at + 4) t) g at (next_free (at + t) xs z - at) small h.0 a
    (λ apart. read_back (with_heads f (at + t) xs z) g (at + 4) t small h.1.0 a
    (λ apart'. heads_back f g (at + t) xs z small h.1.1 a (λ out. same (beside_both a at apart apart', out))))

beside_head : (a start : ℕ) → AreApart a 1 start 4 → AreApart a 1 (start + 4) 4 → AreApart a 1 (start + 8) 4 → AreApart a 1 (start + 12) 4 → AreApart a 1 start 16
beside_head a start (inl low) a1 a2 a3 = inl low
beside_head a start (inr high) a1 a2 a3 = elim a3 [
  | inl low ↦ elim a2 [ inl lower ↦ elim a1 [ inl lowest ↦ absurd (omega arith) | inr past ↦ absurd (omega arith) ] | inr past ↦ absurd (omega arith) ]
  | inr past ↦ inr (omega arith)
]

-- the new words over the old bytes
pub part_back : (f : ℕ → ℕ) (c : Bytes) (start end : ℕ) (items : List Item) → IsHeapIn c start end items → ((a : ℕ) → c.at a < 256)
    → (a : ℕ) → (AreApart a 1 start 16 → IsOutside (start + 16) items a → c.at a ≡ f a)
    → c.at a ≡ with_heap f start end items a
part_back f c start end items heap small a same =
    let h0 : ℕ → ℕ = with_heads f (start + 16) items 0 in
    let h1 : ℕ → ℕ = with_word_at h0 start heap_name in
    let h2 : ℕ → ℕ = with_word_at h1 (start + 4) (next_free (start + 16) items 0 - start) in
    let h3 : ℕ → ℕ = with_word_at h2 (start + 8) (16 + size_of items) in
    read_back h3 c.at (start + 12) end small heap.limit a
    (λ a3. read_back h2 c.at (start + 8) (16 + size_of items) small heap.base a
    (λ a2. read_back h1 c.at (start + 4) (next_free (start + 16) items 0 - start) small heap.first a
    (λ a1. read_back h0 c.at start heap_name small heap.name a
    (λ a0. heads_back f c.at (start + 16) items 0 small heap.spelled a
    (λ out. same (beside_head a start a0 a1 a2 a3) out)))))

-- a heap none of whose bytes changed
same_word : (f g : ℕ → ℕ) (start end a : ℕ) → ((b : ℕ) → start ≤ b → b < start + end → g b ≡ f b) → start ≤ a → a + 4 ≤ start + end
    → word_at g a ≡ word_at f a
same_word f g start end a same low high =
    let b0 = same a low (omega arith) in
    let b1 = same (a + 1) (omega arith) (omega arith) in
    let b2 = same (a + 2) (omega arith) (omega arith) in
    let b3 = same (a + 3) (omega arith) (omega arith) in
    rw (b0, b1, b2, b3) refl

pub heap_kept : (b c : Bytes) (start end : ℕ) (items : List Item) → IsHeapIn b start end items → c.mapped ≡ b.mapped
    → ((a : ℕ) → start ≤ a → a < start + end → c.at a ≡ b.at a) → IsHeapIn c start end items
heap_kept b c start end items heap mapped same =
    let word : (a : ℕ) → start ≤ a → a + 4 ≤ start + end → word_at c.at a ≡ word_at b.at a = λ a low high. same_word b.at c.at start end a same low high in
    let inside : 16 + size_of items ≤ end = heap.inside in
    record {
      aligned = heap.aligned;
      whole = heap.whole;
      mapped = λ a low high. ap (λ (f : ℕ → Bool). f a) mapped ∙ heap.mapped a low high;
      name = word start (omega arith) (omega arith) ∙ heap.name;
      first = word (start + 4) (omega arith) (omega arith) ∙ heap.first;
      base = word (start + 8) (omega arith) (omega arith) ∙ heap.base;
      limit = word (start + 12) (omega arith) (omega arith) ∙ heap.limit;
      spelled = spells-kept (word_at b.at) (word_at c.at) (start + 16) items 0 heap.totals heap.spelled (λ a low high. word a (omega arith) (omega arith));
      totals = heap.totals;
      spaced = heap.spaced;
      inside = heap.inside;
    }

-- no byte of the items' words is past their end
pub outside_past : (at : ℕ) (xs : List Item) (a end : ℕ) → at + size_of xs ≤ end → end ≤ a → AreTotals xs → IsOutside at xs a
outside_past at [] a end fits past totals = tt
outside_past at (Live t ∷ xs) a end fits past totals =
    (inr (omega (arith, total_facts t totals.0)), outside_past (at + t) xs a end (omega arith) past totals.1)
outside_past at (Free t ∷ xs) a end fits past totals =
    (inr (omega (arith, total_facts t totals.0)), outside_past (at + t) xs a end (omega arith) past totals.1)

pub outside_before : (at : ℕ) (xs : List Item) (a : ℕ) → a < at → IsOutside at xs a
outside_before at [] a low = tt
outside_before at (Live t ∷ xs) a low = (inl (omega arith), outside_before (at + t) xs a (omega arith))
outside_before at (Free t ∷ xs) a low = (inl (omega arith), outside_before (at + t) xs a (omega arith))

-- reading the words gives these lists
pub cons_part : (g k : HeapList) (gs ks : List HeapList) → g ≡ k → gs ≡ ks → g ∷ gs ≡ k ∷ ks
cons_part g k gs ks e f = λ i. e i ∷ f i
