-- Bytes that memory holds: of lists end to end, of words, after a copy, and after a write.
use Rattle.std.proofs.Common.{◌≡◌, ℕ, ◌+◌, ◌-◌, ◌/◌, ◌%◌, ◌^◌, ◌<◌, ◌≤◌, List, ◌++◌, length, replicate, arith, refl, sym, ◌∙◌, ap, zero, suc, inl, inr, ◌⊎◌}
use Rattle.std.proofs.lemmas.Bool.{cases_lt}
use Rattle.std.proofs.lemmas.Bool.Decides.{nat_tests}
use Rattle.std.proofs.lemmas.List.{get_or_append_left, get_or-append-add, get_or-append_right, get_or-replicate, length-replicate}
use Rattle.std.proofs.Math.ListN.{length-append}
use Rattle.os_heap_words.specs.RawStoreRegion.{word_bytes}
use Rattle.os_heap.specs.Bytes.{word_at, with_word_at, with_bytes_at}
use Rattle.flex_store.specs.Memory.{Holds}

pub holds_kept : (f g : ℕ → ℕ) (at : ℕ) (xs : List ℕ) → ((a : ℕ) → at ≤ a → a < at + length xs → g a ≡ f a) → Holds f at xs → Holds g at xs
holds_kept f g at xs same h k below = same (at + k) (omega arith) (omega arith) ∙ h k below

pub holds_moved : (f g : ℕ → ℕ) (from to : ℕ) (xs : List ℕ) → ((k : ℕ) → k < length xs → g (to + k) ≡ f (from + k)) → Holds f from xs → Holds g to xs
holds_moved f g from to xs same h k below = same k below ∙ h k below

pub holds_left : (f : ℕ → ℕ) (at : ℕ) (xs ys : List ℕ) → Holds f at (xs ++ ys) → Holds f at xs
holds_left f at xs ys h k below = h k (omega (arith, length-append xs ys)) ∙ get_or_append_left xs ys 0 k below

pub holds_right : (f : ℕ → ℕ) (at : ℕ) (xs ys : List ℕ) → Holds f at (xs ++ ys) → Holds f (at + length xs) ys
holds_right f at xs ys h k below =
    let e : at + length xs + k ≡ at + (length xs + k) = omega arith in
    ap f e ∙ h (length xs + k) (omega (arith, length-append xs ys)) ∙ get_or-append-add xs ys k 0

pub holds_append : (f : ℕ → ℕ) (at : ℕ) (xs ys : List ℕ) → Holds f at xs → Holds f (at + length xs) ys → Holds f at (xs ++ ys)
holds_append f at xs ys h i k below = elim (cases_lt k (length xs)) [
  | inl low ↦ h k low ∙ sym (get_or_append_left xs ys 0 k low)
  | inr high ↦
      let e : at + k ≡ at + length xs + (k - length xs) = omega arith in
      ap f e ∙ i (k - length xs) (omega (arith, length-append xs ys)) ∙ sym (get_or-append_right xs ys (length xs) k 0 refl high)
]

pub holds_zeros : (f : ℕ → ℕ) (at n : ℕ) → ((a : ℕ) → at ≤ a → a < at + n → f a ≡ 0) → Holds f at (replicate {A = ℕ} n 0)
holds_zeros f at n zeros k below =
    let low : k < n = omega (arith, length-replicate {A = ℕ} n 0) in
    zeros (at + k) (omega arith) (omega arith) ∙ sym (get_or-replicate n k 0 0 low)

-- a word
pub holds_word : (f : ℕ → ℕ) (at w : ℕ) → Holds (with_word_at f at w) at (word_bytes w)
holds_word f at w zero below = grind (arith, nat_tests)
holds_word f at w (suc zero) below = grind (arith, nat_tests)
holds_word f at w (suc (suc zero)) below = grind (arith, nat_tests)
holds_word f at w (suc (suc (suc zero))) below = grind (arith, nat_tests)
holds_word f at w (suc (suc (suc (suc k)))) below = absurd (omega arith)

record IsWord (f : ℕ → ℕ) (at w : ℕ) : Type 0 where
  first : f at ≡ w % 256
  second : f (at + 1) ≡ w / 256 % 256
  third : f (at + 2) ≡ w / 65536 % 256
  last : f (at + 3) ≡ w / 16777216 % 256

word_parts : (f : ℕ → ℕ) (at w : ℕ) → Holds f at (word_bytes w) → IsWord f at w
word_parts f at w h =
    let e : at ≡ at + 0 = omega arith in
    record { first = ap f e ∙ h 0 (omega arith); second = h 1 (omega arith); third = h 2 (omega arith); last = h 3 (omega arith) }

word_from : (f : ℕ → ℕ) (at w : ℕ) → w < 2 ^ 32 → IsWord f at w → word_at f at ≡ w
word_from f at w fits is = rw (is.first, is.second, is.third, is.last) (omega arith)

pub word_read : (f : ℕ → ℕ) (at w : ℕ) → w < 2 ^ 32 → Holds f at (word_bytes w) → word_at f at ≡ w
word_read f at w fits h = word_from f at w fits (word_parts f at w h)

-- a word that is written where it stands already changes nothing
same_word : (f : ℕ → ℕ) (at w a : ℕ) → IsWord f at w → with_word_at f at w a ≡ f a
same_word f at w a is = grind (arith, nat_tests)

pub word_again : (f : ℕ → ℕ) (at w a : ℕ) → Holds f at (word_bytes w) → with_word_at f at w a ≡ f a
word_again f at w a h = same_word f at w a (word_parts f at w h)

pub word_beside : (f : ℕ → ℕ) (at w a : ℕ) → (a < at) ⊎ (at + 4 ≤ a) → with_word_at f at w a ≡ f a
word_beside f at w a beside = grind (arith, nat_tests)

-- what is written is held, and what was held and is framed is what is written
pub bytes_held : (f : ℕ → ℕ) (at : ℕ) (xs : List ℕ) → Holds (with_bytes_at f at xs) at xs
bytes_held f at xs k below = grind (arith, nat_tests)

pub bytes_beside : (f : ℕ → ℕ) (at : ℕ) (xs : List ℕ) (a : ℕ) → (a < at) ⊎ (at + length xs ≤ a) → with_bytes_at f at xs a ≡ f a
bytes_beside f at xs a beside = grind (arith, nat_tests)

pub bytes_written : (f g : ℕ → ℕ) (at : ℕ) (xs : List ℕ) → Holds g at xs → ((a : ℕ) → (a < at) ⊎ (at + length xs ≤ a) → g a ≡ f a)
    → (a : ℕ) → g a ≡ with_bytes_at f at xs a
bytes_written f g at xs h frame a = elim (cases_lt a at) [
  | inl low ↦ frame a (inl low) ∙ sym (bytes_beside f at xs a (inl low))
  | inr up ↦ elim (cases_lt a (at + length xs)) [
    | inl inside ↦
        let e : at + (a - at) ≡ a = omega arith in
        ap g (sym e) ∙ h (a - at) (omega arith) ∙ sym (bytes_held f at xs (a - at) (omega arith)) ∙ ap (with_bytes_at f at xs) e
    | inr high ↦ frame a (inr high) ∙ sym (bytes_beside f at xs a (inr high))
  ]
]
