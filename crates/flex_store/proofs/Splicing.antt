-- A block's bytes after some of them went, or zeros came: what a copy of its tail and two rows of
-- zeros leave.
use Rattle.std.proofs.Common.{◌≡◌, ℕ, ◌+◌, ◌-◌, ◌<◌, ◌≤◌, List, ◌++◌, length, take, drop, replicate, arith, refl, sym, ◌∙◌, ap, inl, inr, ◌⊎◌, length-drop}
use Rattle.std.proofs.lemmas.Bool.Decides.{nat_tests}
use Rattle.std.proofs.lemmas.List.{length-replicate, get_or-take, get_or-drop, length-take}
use Rattle.std.proofs.lemmas.List.FromFn.{get_or-map-range_with_len, length-map-range_with_len}
use Rattle.std.proofs.Math.ListN.{length-append}
use Rattle.os_heap_words.proofs.Moving.{moved_in}
use Rattle.os_heap_words.proofs.Viewing.{bytes_counted}
use Rattle.os_heap.specs.Bytes.{bytes_between, with_bytes_at, with_moved_at, with_zeros_at}
use Rattle.flex_store.specs.Blocks.{whole_words_of_bytes, bytes_after_splice, whole_words}
use Rattle.flex_store.specs.Memory.{Holds}
use Rattle.flex_store.proofs.Holding.{bytes_written, holds_append, holds_zeros}

pub moved_out : (f : ℕ → ℕ) (from to len a : ℕ) → (a < to) ⊎ (to + len ≤ a) → with_moved_at f from to len a ≡ f a
moved_out f from to len a out = grind (arith, nat_tests)

pub zeros_in : (f : ℕ → ℕ) (at len a : ℕ) → at ≤ a → a < at + len → with_zeros_at f at len a ≡ 0
zeros_in f at len a low high = grind (arith, nat_tests)

pub zeros_out : (f : ℕ → ℕ) (at len a : ℕ) → (a < at) ⊎ (at + len ≤ a) → with_zeros_at f at len a ≡ f a
zeros_out f at len a out = grind (arith, nat_tests)

-- what memory holds between two addresses
pub between_held : (f : ℕ → ℕ) (at n : ℕ) → Holds f at (bytes_between f at n)
between_held f at n k below =
    let low : k < n = omega (arith, length-map-range_with_len f at n) in
    sym (get_or-map-range_with_len f at n k (at + k) 0 low refl)

-- a part of a list is held
held_front : (f g : ℕ → ℕ) (at n : ℕ) (xs : List ℕ) → n ≤ length xs → ((j : ℕ) → j < n → g (at + j) ≡ f (at + j)) → Holds f at xs → Holds g at (take n xs)
held_front f g at n xs fits same h k below =
    let low : k < n = omega (arith, length-take n xs) in
    same k low ∙ h k (omega arith) ∙ sym (get_or-take n xs k 0 low)

held_back : (f g : ℕ → ℕ) (at to n : ℕ) (xs : List ℕ) → ((j : ℕ) → n + j < length xs → g (to + j) ≡ f (at + (n + j))) → Holds f at xs → Holds g to (drop n xs)
held_back f g at to n xs same h k below =
    let low : n + k < length xs = omega (arith, length-drop n xs) in
    same k low ∙ h (n + k) low ∙ sym (get_or-drop n xs k 0)

pub spliced_length : (bytes : List ℕ) (at cut more : ℕ) → at ≤ length bytes → length (bytes_after_splice bytes at cut more) ≡ at - cut + more + (length bytes - at)
spliced_length bytes at cut more fits =
    omega (
      arith,
      length-append (take (at - cut) bytes) (replicate {A = ℕ} more 0 ++ drop at bytes),
      length-append (replicate {A = ℕ} more 0) (drop at bytes),
      length-take (at - cut) bytes,
      length-replicate {A = ℕ} more 0,
      length-drop at bytes,
    )

pub filled_length : (bytes : List ℕ) → length (whole_words_of_bytes bytes) ≡ whole_words (length bytes)
filled_length bytes =
    omega (arith, length-append bytes (replicate {A = ℕ} (whole_words (length bytes) - length bytes) 0), length-replicate {A = ℕ} (whole_words (length bytes) - length bytes) 0)

-- the bytes of three writes, where a tail is copied, and zeros come before and after it
abbrev pub after_splice : (ℕ → ℕ) → ℕ → ℕ → ℕ → ℕ → ℕ → ℕ → ℕ
after_splice f c size at cut more =
    with_zeros_at (with_zeros_at (with_moved_at f (c + at) (c + (at - cut + more)) (size - at)) (c + (at - cut)) more)
    (c + (at - cut + more + (size - at))) (whole_words (at - cut + more + (size - at)) - (at - cut + more + (size - at)))

splice_front : (f : ℕ → ℕ) (c size at cut more j : ℕ) → j < at - cut → after_splice f c size at cut more (c + j) ≡ f (c + j)
splice_front f c size at cut more j low =
    zeros_out (with_zeros_at (with_moved_at f (c + at) (c + (at - cut + more)) (size - at)) (c + (at - cut)) more) (c + (at - cut + more + (size - at)))
    (whole_words (at - cut + more + (size - at)) - (at - cut + more + (size - at))) (c + j) (inl (omega arith))
    ∙ zeros_out (with_moved_at f (c + at) (c + (at - cut + more)) (size - at)) (c + (at - cut)) more (c + j) (inl (omega arith))
    ∙ moved_out f (c + at) (c + (at - cut + more)) (size - at) (c + j) (inl (omega arith))

splice_gap : (f : ℕ → ℕ) (c size at cut more a : ℕ) → c + (at - cut) ≤ a → a < c + (at - cut) + more → after_splice f c size at cut more a ≡ 0
splice_gap f c size at cut more a low high =
    zeros_out (with_zeros_at (with_moved_at f (c + at) (c + (at - cut + more)) (size - at)) (c + (at - cut)) more) (c + (at - cut + more + (size - at)))
    (whole_words (at - cut + more + (size - at)) - (at - cut + more + (size - at))) a (inl (omega arith))
    ∙ zeros_in (with_moved_at f (c + at) (c + (at - cut + more)) (size - at)) (c + (at - cut)) more a low high

splice_tail : (f : ℕ → ℕ) (c size at cut more j : ℕ) → j < size - at → after_splice f c size at cut more (c + (at - cut + more) + j) ≡ f (c + at + j)
splice_tail f c size at cut more j low =
    zeros_out (with_zeros_at (with_moved_at f (c + at) (c + (at - cut + more)) (size - at)) (c + (at - cut)) more) (c + (at - cut + more + (size - at)))
    (whole_words (at - cut + more + (size - at)) - (at - cut + more + (size - at))) (c + (at - cut + more) + j) (inl (omega arith))
    ∙ zeros_out (with_moved_at f (c + at) (c + (at - cut + more)) (size - at)) (c + (at - cut)) more (c + (at - cut + more) + j) (inr (omega arith))
    ∙ moved_in f (c + at) (c + (at - cut + more)) (size - at) j low

splice_out : (f : ℕ → ℕ) (c size at cut more a : ℕ) → (a < c) ⊎ (c + whole_words (at - cut + more + (size - at)) ≤ a) → after_splice f c size at cut more a ≡ f a
splice_out f c size at cut more a out =
    zeros_out (with_zeros_at (with_moved_at f (c + at) (c + (at - cut + more)) (size - at)) (c + (at - cut)) more) (c + (at - cut + more + (size - at)))
    (whole_words (at - cut + more + (size - at)) - (at - cut + more + (size - at))) a (elim out [ inl low ↦ inl (omega arith) | inr high ↦ inr (omega arith) ])
    ∙ zeros_out (with_moved_at f (c + at) (c + (at - cut + more)) (size - at)) (c + (at - cut)) more a (elim out [ inl low ↦ inl (omega arith) | inr high ↦ inr (omega arith) ])
    ∙ moved_out f (c + at) (c + (at - cut + more)) (size - at) a (elim out [ inl low ↦ inl (omega arith) | inr high ↦ inr (omega arith) ])

splice_held : (f : ℕ → ℕ) (c size at cut more : ℕ) (xs : List ℕ) → at ≤ size → length xs ≡ size → Holds f c xs
    → Holds (after_splice f c size at cut more) c (bytes_after_splice xs at cut more)
splice_held f c size at cut more xs fits len h =
    let g : ℕ → ℕ = after_splice f c size at cut more in
    let front : Holds g c (take (at - cut) xs) = held_front f g c (at - cut) xs (omega arith) (λ j low. splice_front f c size at cut more j low) h in
    let gap : Holds g (c + (at - cut)) (replicate {A = ℕ} more 0) = holds_zeros g (c + (at - cut)) more (λ a low high. splice_gap f c size at cut more a low high) in
    let tail : Holds g (c + (at - cut) + more) (drop at xs) = held_back f g c (c + (at - cut) + more) at xs (λ j low.
    let e : c + (at - cut) + more + j ≡ c + (at - cut + more) + j = omega arith in
    let e' : c + at + j ≡ c + (at + j) = omega arith in
    ap g e ∙ splice_tail f c size at cut more j (omega arith) ∙ ap f e') h in
    let e1 : c + length (take (at - cut) xs) ≡ c + (at - cut) = omega (arith, length-take (at - cut) xs) in
    let e2 : c + (at - cut) + length (replicate {A = ℕ} more 0) ≡ c + (at - cut) + more = omega (arith, length-replicate {A = ℕ} more 0) in
    holds_append g c (take (at - cut) xs) (replicate more 0 ++ drop at xs) front
    (rw e1 (holds_append g (c + (at - cut)) (replicate more 0) (drop at xs) gap (rw e2 tail)))

pub splice_done : (f : ℕ → ℕ) (c size at cut more : ℕ) → at ≤ size
    → (a : ℕ) → after_splice f c size at cut more a ≡ with_bytes_at f c (whole_words_of_bytes (bytes_after_splice (bytes_between f c size) at cut more)) a
splice_done f c size at cut more fits =
    let g : ℕ → ℕ = after_splice f c size at cut more in
    let xs : List ℕ = bytes_between f c size in
    let len : length xs ≡ size = bytes_counted f c size in
    let new : length (bytes_after_splice xs at cut more) ≡ at - cut + more + (size - at) = rw len at (spliced_length xs at cut more (omega arith)) in
    let pad : ℕ = whole_words (length (bytes_after_splice xs at cut more)) - length (bytes_after_splice xs at cut more) in
    bytes_written f g c (whole_words_of_bytes (bytes_after_splice xs at cut more))
    (holds_append g c (bytes_after_splice xs at cut more) (replicate pad 0) (splice_held f c size at cut more xs fits len (between_held f c size))
    (holds_zeros g (c + length (bytes_after_splice xs at cut more)) pad (λ a low high.
    zeros_in (with_zeros_at (with_moved_at f (c + at) (c + (at - cut + more)) (size - at)) (c + (at - cut)) more) (c + (at - cut + more + (size - at)))
    (whole_words (at - cut + more + (size - at)) - (at - cut + more + (size - at))) a (omega arith) (omega arith))))
    (λ a out. splice_out f c size at cut more a (elim out [ inl low ↦ inl low | inr high ↦ inr (omega (arith, filled_length (bytes_after_splice xs at cut more))) ]))

pub three_writes : (f f1 f2 g : ℕ → ℕ) (c size at cut more pad : ℕ) → at ≤ size
    → pad ≡ whole_words (at - cut + more + (size - at)) - (at - cut + more + (size - at))
    → ((a : ℕ) → f1 a ≡ with_moved_at f (c + at) (c + (at - cut + more)) (size - at) a)
    → ((a : ℕ) → f2 a ≡ with_zeros_at f1 (c + (at - cut)) more a)
    → ((a : ℕ) → g a ≡ with_zeros_at f2 (c + (at - cut + more + (size - at))) pad a)
    → (a : ℕ) → g a ≡ with_bytes_at f c (whole_words_of_bytes (bytes_after_splice (bytes_between f c size) at cut more)) a
three_writes f f1 f2 g c size at cut more pad inside pad_is h1 h2 h3 a =
    let new : ℕ = at - cut + more + (size - at) in
    h3 a
    ∙ (ap (λ (n : ℕ). with_zeros_at f2 (c + new) n a) pad_is
    ∙ (ap (λ (h : ℕ → ℕ). with_zeros_at h (c + new) (whole_words new - new) a) (λ i x. h2 x i)
    ∙ (ap (λ (h : ℕ → ℕ). with_zeros_at (with_zeros_at h (c + (at - cut)) more) (c + new) (whole_words new - new) a) (λ i x. h1 x i)
    ∙ splice_done f c size at cut more inside a)))
