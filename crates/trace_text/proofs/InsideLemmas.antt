-- No word lies beyond all pages, and of a call on a heap none that differs lies beyond the pages of the heap, but those of an error.
use Rattle.std.proofs.Common.{◌≡◌, ◌∙◌, ◌⊎◌, ℕ, ◌+◌, ◌-◌, ◌*◌, ◌/◌, ◌%◌, ◌<◌, ◌≤◌, ◌==◌, ◌&&◌, Bool, true, false, not, nat_lt, List, [], Option, Some, None, refl, sym, ap, subst, arith, inl, inr, if◌then◌else◌}
use Rattle.std.proofs.Math.Bool.{and-false}
use Rattle.std.proofs.lemmas.Bool.{cases_Bool, cases_lt, eq-eqb, false≢true}
use Rattle.std.proofs.lemmas.Bool.Decides.{nat_tests}
use Rattle.trace_effects.specs.Bytes.{Bytes, word_at, word_start}
use Rattle.trace_store_text.specs.Copies.{KeptStore}
use Rattle.trace_store_text.specs.Words.{all_pages, has_word_changed, is_shown_elsewhere, word_change_at}
use Rattle.trace_store_text.specs.declared.heaps.limits.HeapLimits.{HeapLimits}
use Rattle.trace_store_text.specs.heaps.Limits.{Pages, end_shown, heap_pages, limits_in, pages_between}
use Rattle.trace_text.specs.Below.{AreListedInside}

inside_all : (has : Bool) (k : Option KeptStore) (k' : KeptStore) → AreListedInside has k k' all_pages
inside_all has None k' = tt
inside_all has (Some k) k' = λ n inside beyond.
    absurd (elim beyond [ inl low ↦ omega (arith, low) | inr high ↦ omega (arith, high, inside) ])

pub all_inside : (has : Bool) (k : Option KeptStore) (k' : KeptStore) (pages : Pages) → pages ≡ all_pages → AreListedInside has k k' pages
all_inside has k k' pages all = subst (AreListedInside has k k') (sym all) (inside_all has k k')

-- a byte of a word that lies in a heap, as it is after a call
pub record IsInHeap (k' : KeptStore) (start a : ℕ) : Type 0 where
  pub limits : HeapLimits
  pub there : limits_in k'.store start ≡ Some limits
  pub low : start ≤ word_start a
  pub high : word_start a + 4 ≤ start + limits.end

-- what may be of a byte after it: it is as it was, its word is shown elsewhere, or it lies in the heap
abbrev pub MayDiffer : Bool → KeptStore → KeptStore → ℕ → ℕ → Type 0
MayDiffer has k k' start a = (k'.store.bytes.at a ≡ k.store.bytes.at a)
    ⊎ ((is_shown_elsewhere has (word_start a) ≡ true) ⊎ IsInHeap k' start a)

longest : (old new : ℕ) → new ≤ (if nat_lt old new then new else old)
longest old new = elim (cases_lt old new) [
  | inl less ↦ let is : nat_lt old new ≡ true = grind (arith, nat_tests, less) in rw is (omega arith)
  | inr most ↦ let is : nat_lt old new ≡ false = grind (arith, nat_tests, most) in rw is (omega (arith, most))
]

-- a word of the heap isn't beyond its pages
outside : (start old new end n : ℕ) → new ≡ end → start ≤ 4 * n → 4 * n + 4 ≤ start + end
    → (n < 1024 * (pages_between start old new).first) ⊎ (1024 * (pages_between start old new).end ≤ n) → ⊥
outside start old new end n is low high beyond =
    let most = longest old new in
    elim beyond [
      | inl before ↦ omega (arith, before, low)
      | inr behind ↦ omega (arith, behind, high, most, is)
    ]

byte_same : (has : Bool) (k k' : KeptStore) (start n j : ℕ) → j < 4 → is_shown_elsewhere has (4 * n) ≡ false → MayDiffer has k k' start (4 * n + j)
    → (n < 1024 * (heap_pages k.store k'.store start).first) ⊎ (1024 * (heap_pages k.store k'.store start).end ≤ n)
    → k'.store.bytes.at (4 * n + j) ≡ k.store.bytes.at (4 * n + j)
unfolding heap_pages
byte_same has k k' start n j few hidden may beyond =
    let word : word_start (4 * n + j) ≡ 4 * n = omega (arith, few) in
    elim may [
      | inl same ↦ same
      | inr other ↦ elim other [
        | inl shown ↦ absurd (false≢true (sym hidden ∙ (ap (is_shown_elsewhere has) (sym word) ∙ shown)))
        | inr within ↦
            let low = within.low in
            let high = within.high in
            absurd (outside start (end_shown (limits_in k.store start)) (end_shown (limits_in k'.store start)) within.limits.end n
            (ap end_shown within.there) (omega (arith, low, word)) (omega (arith, high, word)) beyond)
      ]
    ]

pub inside_by_bytes : (has : Bool) (k k' : KeptStore) (start : ℕ) → ((a : ℕ) → MayDiffer has k k' start a)
    → AreListedInside has (Some k) k' (heap_pages k.store k'.store start)
inside_by_bytes has k k' start may n inside beyond = elim (cases_Bool (is_shown_elsewhere has (4 * n))) [
  | inl shown ↦ rw (shown, and-false (has_word_changed k.store.bytes k'.store.bytes (4 * n))) refl
  | inr hidden ↦
      let byte = λ (j : ℕ) (few : j < 4). byte_same has k k' start n j few hidden (may (4 * n + j)) beyond in
      let none : 4 * n + 0 ≡ 4 * n = omega arith in
      let first : k'.store.bytes.at (4 * n) ≡ k.store.bytes.at (4 * n) =
      subst (λ (a : ℕ). k'.store.bytes.at a ≡ k.store.bytes.at a) none (byte 0 (omega arith)) in
      let same : word_at k.store.bytes.at (4 * n) ≡ word_at k'.store.bytes.at (4 * n) =
      sym (rw (first, byte 1 (omega arith), byte 2 (omega arith), byte 3 (omega arith)) refl) in
      let kept : has_word_changed k.store.bytes k'.store.bytes (4 * n) ≡ false =
      rw (eq-eqb (word_at k.store.bytes.at (4 * n)) (word_at k'.store.bytes.at (4 * n)) same) (and-false (k'.store.bytes.mapped (4 * n))) in
      rw kept refl
]
