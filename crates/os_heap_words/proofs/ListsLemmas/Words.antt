-- Words that were written: what is where they stand, and what is kept beside them.
use Rattle.std.proofs.Common.{arith, ◌≡◌, ℕ, ◌^◌, ◌<◌, ◌+◌, inl, refl, ◌∙◌, inr, ◌-◌}
use Rattle.std.proofs.lemmas.Bool.Decides.{nat_tests}
use Rattle.address_map.specs.Bytes.{with_word_at, word_at}
use Rattle.os_heap_words.specs.lists.Words.{AreApart, IsWordWritten, IsFreed, link_at}

written_here : (f : ℕ → ℕ) (at v : ℕ) → v < 2 ^ 32 → word_at (with_word_at f at v) at ≡ v
written_here f at v fits = grind (arith, nat_tests)

written_other : (f : ℕ → ℕ) (at v a : ℕ) → AreApart a 1 at 4 → with_word_at f at v a ≡ f a
written_other f at v a apart = grind (arith, nat_tests)

pub written : (f g : ℕ → ℕ) (at v : ℕ) → v < 2 ^ 32 → ((a : ℕ) → g a ≡ with_word_at f at v a) → IsWordWritten f g at v
written f g at v fits h =
    let other : (a : ℕ) → AreApart a 1 at 4 → g a ≡ f a = λ a apart. h a ∙ written_other f at v a apart in
    record {
      here =
          let b0 = h at in let b1 = h (at + 1) in let b2 = h (at + 2) in let b3 = h (at + 3) in
          rw (b0, b1, b2, b3) (written_here f at v fits);
      apart = λ a apart.
          let b0 : g a ≡ f a = other a (elim apart [ inl low ↦ inl (omega arith) | inr high ↦ inr (omega arith) ]) in
          let b1 : g (a + 1) ≡ f (a + 1) = other (a + 1) (elim apart [ inl low ↦ inl (omega arith) | inr high ↦ inr (omega arith) ]) in
          let b2 : g (a + 2) ≡ f (a + 2) = other (a + 2) (elim apart [ inl low ↦ inl (omega arith) | inr high ↦ inr (omega arith) ]) in
          let b3 : g (a + 3) ≡ f (a + 3) = other (a + 3) (elim apart [ inl low ↦ inl (omega arith) | inr high ↦ inr (omega arith) ]) in
          rw (b0, b1, b2, b3) refl;
      other = other;
    }

-- three words, one after another
pub freed_words : (f g h k : ℕ → ℕ) (start from at total next : ℕ) → AreApart (link_at start from) 4 at 8
    → IsWordWritten f g (link_at start from) (at - from) → IsWordWritten g h at (next - at) → IsWordWritten h k (at + 4) total
    → IsFreed f k start from at total next
freed_words f g h k start from at total next apart one two three = record {
  to_item = three.apart (link_at start from) (elim apart [ inl low ↦ inl (omega arith) | inr high ↦ inr (omega arith) ])
      ∙ two.apart (link_at start from) (elim apart [ inl low ↦ inl (omega arith) | inr high ↦ inr (omega arith) ]) ∙ one.here;
  to_next = three.apart at (inl (omega arith)) ∙ two.here;
  length = three.here;
  apart = λ a a1 a2. three.apart a (elim a2 [ inl low ↦ inl (omega arith) | inr high ↦ inr (omega arith) ])
      ∙ two.apart a (elim a2 [ inl low ↦ inl (omega arith) | inr high ↦ inr (omega arith) ]) ∙ one.apart a a1;
  other = λ a a1 a2. three.other a (elim a2 [ inl low ↦ inl (omega arith) | inr high ↦ inr (omega arith) ])
      ∙ two.other a (elim a2 [ inl low ↦ inl (omega arith) | inr high ↦ inr (omega arith) ]) ∙ one.other a a1;
}
