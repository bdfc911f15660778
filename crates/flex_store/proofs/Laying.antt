-- Texts that were laid out: the bytes of one block that were changed, with those after it; a block
-- that went; a block that came.
use Rattle.std.proofs.Common.{◌≡◌, ℕ, ◌+◌, ◌-◌, ◌≤◌, List, [], ◌++◌, length, take, replicate, arith, sym, ◌∙◌, ap, inl, inr}
use Rattle.std.proofs.lemmas.List.{length-replicate}
use Rattle.std.proofs.lemmas.List.FromFn.{take-map-range_with_len}
use Rattle.std.proofs.Math.ListN.{length-append}
use Rattle.os_heap_words.proofs.Moving.{moved_in}
use Rattle.os_heap_words.proofs.Viewing.{bytes_counted}
use Rattle.os_heap_words.specs.RawStoreRegion.{word_bytes}
use Rattle.os_heap.specs.Bytes.{bytes_between, with_bytes_at, with_moved_at, with_word_at, with_zeros_at}
use Rattle.flex_store.specs.Blocks.{Block, whole_words_of_bytes, bytes_after_splice, whole_words}
use Rattle.flex_store.specs.Memory.{Holds}
use Rattle.flex_store.proofs.Holding.{bytes_beside, bytes_held, bytes_written, holds_append, holds_kept, holds_moved, holds_word, holds_zeros, word_beside}
use Rattle.flex_store.proofs.Reading.{bytes_read}
use Rattle.flex_store.proofs.Splicing.{between_held, filled_length, moved_out, spliced_length, zeros_in, zeros_out}

-- the bytes after a block move up before its own change, or down after it
pub respaced_up : (f g : ℕ → ℕ) (c size w w' r at cut more : ℕ) → at ≤ size → size ≤ w → w ≤ w' → w' ≡ whole_words (at - cut + more + (size - at))
    → ((a : ℕ) → g a ≡ with_bytes_at (with_moved_at f (c + w) (c + w') r) c (whole_words_of_bytes (bytes_after_splice (bytes_between (with_moved_at f (c + w) (c + w') r) c size) at cut more)) a)
    → (a : ℕ) → g a ≡ with_bytes_at f c (whole_words_of_bytes (bytes_after_splice (bytes_between f c size) at cut more) ++ bytes_between f (c + w) r) a
respaced_up f g c size w w' r at cut more inside fits up new h =
    let f1 : ℕ → ℕ = with_moved_at f (c + w) (c + w') r in
    let same : bytes_between f1 c size ≡ bytes_between f c size = bytes_read f1 c size (bytes_between f c size) (bytes_counted f c size)
    (holds_kept f f1 c (bytes_between f c size) (λ a low high. moved_out f (c + w) (c + w') r a (inl (omega (arith, bytes_counted f c size)))) (between_held f c size)) in
    let l : List ℕ = whole_words_of_bytes (bytes_after_splice (bytes_between f c size) at cut more) in
    let rest : List ℕ = bytes_between f (c + w) r in
    let h' : (a : ℕ) → g a ≡ with_bytes_at f1 c l a = λ a. h a ∙ ap (λ (xs : List ℕ). with_bytes_at f1 c (whole_words_of_bytes (bytes_after_splice xs at cut more)) a) same in
    let size_is : length l ≡ w' = filled_length (bytes_after_splice (bytes_between f c size) at cut more)
    ∙ ap whole_words (spliced_length (bytes_between f c size) at cut more (omega (arith, bytes_counted f c size)) ∙ ap (λ (n : ℕ). at - cut + more + (n - at)) (bytes_counted f c size)) ∙ sym new in
    let e : c + length l ≡ c + w' = omega arith in
    bytes_written f g c (l ++ rest)
    (holds_append g c l rest
    (λ k below. h' (c + k) ∙ bytes_held f1 c l k below)
    (rw e (holds_moved f g (c + w) (c + w') rest
    (λ k below. h' (c + w' + k) ∙ (bytes_beside f1 c l (c + w' + k) (inr (omega arith)) ∙ moved_in f (c + w) (c + w') r k (omega (arith, bytes_counted f (c + w) r))))
    (between_held f (c + w) r))))
    (λ a out. h' a ∙ (bytes_beside f1 c l a (elim out [ inl low ↦ inl low | inr high ↦ inr (omega (arith, length-append l rest)) ])
    ∙ moved_out f (c + w) (c + w') r a (elim out [ inl low ↦ inl (omega arith) | inr high ↦ inr (omega (arith, length-append l rest, bytes_counted f (c + w) r)) ])))

pub respaced_down : (f g : ℕ → ℕ) (c size w w' r at cut more : ℕ) → at ≤ size → w' ≤ w → w' ≡ whole_words (at - cut + more + (size - at))
    → ((a : ℕ) → g a ≡ with_moved_at (with_bytes_at f c (whole_words_of_bytes (bytes_after_splice (bytes_between f c size) at cut more))) (c + w) (c + w') r a)
    → (a : ℕ) → g a ≡ with_bytes_at f c (whole_words_of_bytes (bytes_after_splice (bytes_between f c size) at cut more) ++ bytes_between f (c + w) r) a
respaced_down f g c size w w' r at cut more inside down new h =
    let l : List ℕ = whole_words_of_bytes (bytes_after_splice (bytes_between f c size) at cut more) in
    let rest : List ℕ = bytes_between f (c + w) r in
    let f1 : ℕ → ℕ = with_bytes_at f c l in
    let size_is : length l ≡ w' = filled_length (bytes_after_splice (bytes_between f c size) at cut more)
    ∙ ap whole_words (spliced_length (bytes_between f c size) at cut more (omega (arith, bytes_counted f c size)) ∙ ap (λ (n : ℕ). at - cut + more + (n - at)) (bytes_counted f c size)) ∙ sym new in
    let e : c + length l ≡ c + w' = omega arith in
    bytes_written f g c (l ++ rest)
    (holds_append g c l rest
    (λ k below. h (c + k) ∙ (moved_out f1 (c + w) (c + w') r (c + k) (inl (omega arith)) ∙ bytes_held f c l k below))
    (rw e (holds_moved f g (c + w) (c + w') rest
    (λ k below. h (c + w' + k) ∙ (moved_in f1 (c + w) (c + w') r k (omega (arith, bytes_counted f (c + w) r)) ∙ bytes_beside f c l (c + w + k) (inr (omega arith))))
    (between_held f (c + w) r))))
    (λ a out. h a ∙ (moved_out f1 (c + w) (c + w') r a (elim out [ inl low ↦ inl (omega arith) | inr high ↦ inr (omega (arith, length-append l rest, bytes_counted f (c + w) r)) ])
    ∙ bytes_beside f c l a (elim out [ inl low ↦ inl low | inr high ↦ inr (omega (arith, length-append l rest)) ])))

-- the bytes of a block that are its guest's own, as memory holds them
pub contents_between : (f : ℕ → ℕ) (at size : ℕ) → take size (bytes_between f at (whole_words size)) ≡ bytes_between f at size
contents_between f at size = take-map-range_with_len f at (whole_words size) size (omega arith)

-- a block that holds other bytes, and those after it
pub replaced : (f f2 g : ℕ → ℕ) (h : ℕ) (b : Block) (xs rest : List ℕ) → Holds f h (word_bytes b.anchor)
    → ((a : ℕ) → f2 a ≡ with_bytes_at f (h + 8) (whole_words_of_bytes xs ++ rest) a)
    → ((a : ℕ) → g a ≡ with_word_at f2 (h + 4) (length xs) a)
    → (a : ℕ) → g a ≡ with_bytes_at f h (word_bytes b.anchor ++ (word_bytes (length xs) ++ (whole_words_of_bytes xs ++ rest))) a
replaced f f2 g h b xs rest anchor h2 h3 =
    let e : h + 4 + 4 ≡ h + 8 = omega arith in
    bytes_written f g h (word_bytes b.anchor ++ (word_bytes (length xs) ++ (whole_words_of_bytes xs ++ rest)))
    (holds_append g h (word_bytes b.anchor) (word_bytes (length xs) ++ (whole_words_of_bytes xs ++ rest))
    (holds_kept f g h (word_bytes b.anchor) (λ a low high. h3 a ∙ (word_beside f2 (h + 4) (length xs) a (inl (omega arith))
    ∙ (h2 a ∙ bytes_beside f (h + 8) (whole_words_of_bytes xs ++ rest) a (inl (omega arith))))) anchor)
    (holds_append g (h + 4) (word_bytes (length xs)) (whole_words_of_bytes xs ++ rest)
    (λ k below. h3 (h + 4 + k) ∙ holds_word f2 (h + 4) (length xs) k below)
    (rw e (λ k below. h3 (h + 8 + k) ∙ (word_beside f2 (h + 4) (length xs) (h + 8 + k) (inr (omega arith))
    ∙ (h2 (h + 8 + k) ∙ bytes_held f (h + 8) (whole_words_of_bytes xs ++ rest) k below))))))
    (λ a out. h3 a ∙ (word_beside f2 (h + 4) (length xs) a (elim out [ inl low ↦ inl (omega arith) | inr high ↦ inr (omega arith) ])
    ∙ (h2 a ∙ bytes_beside f (h + 8) (whole_words_of_bytes xs ++ rest) a (elim out [ inl low ↦ inl (omega arith) | inr high ↦ inr (omega arith) ]))))

-- the text after a block in its place
pub closed : (f g : ℕ → ℕ) (h next len : ℕ) (text : List ℕ) → length text ≡ len → Holds f next text
    → ((a : ℕ) → g a ≡ with_moved_at f next h len a) → (a : ℕ) → g a ≡ with_bytes_at f h text a
closed f g h next len text size held moved =
    bytes_written f g h text
    (holds_moved f g next h text (λ k below. moved (h + k) ∙ moved_in f next h len k (omega arith)) held)
    (λ a out. moved a ∙ moved_out f next h len a (elim out [ inl low ↦ inl low | inr high ↦ inr (omega arith) ]))

-- a block of zeros
pub appended : (f f1 f2 g : ℕ → ℕ) (h anchor size w : ℕ) → ((a : ℕ) → f1 a ≡ with_word_at f h anchor a) → ((a : ℕ) → f2 a ≡ with_word_at f1 (h + 4) size a)
    → ((a : ℕ) → g a ≡ with_zeros_at f2 (h + 8) w a)
    → (a : ℕ) → g a ≡ with_bytes_at f h (word_bytes anchor ++ (word_bytes size ++ (replicate w 0 ++ []))) a
appended f f1 f2 g h anchor size w h1 h2 h3 =
    let e : h + 4 + 4 ≡ h + 8 = omega arith in
    let zeros : List ℕ = replicate w 0 in
    let size_is : length (zeros ++ []) ≡ w = omega (arith, length-append zeros [], length-replicate {A = ℕ} w 0) in
    bytes_written f g h (word_bytes anchor ++ (word_bytes size ++ (zeros ++ [])))
    (holds_append g h (word_bytes anchor) (word_bytes size ++ (zeros ++ []))
    (λ k below. h3 (h + k) ∙ (zeros_out f2 (h + 8) w (h + k) (inl (omega arith)) ∙ (h2 (h + k)
    ∙ (word_beside f1 (h + 4) size (h + k) (inl (omega arith)) ∙ (h1 (h + k) ∙ holds_word f h anchor k below)))))
    (holds_append g (h + 4) (word_bytes size) (zeros ++ [])
    (λ k below. h3 (h + 4 + k) ∙ (zeros_out f2 (h + 8) w (h + 4 + k) (inl (omega arith)) ∙ (h2 (h + 4 + k) ∙ holds_word f1 (h + 4) size k below)))
    (rw e (holds_append g (h + 8) zeros []
    (holds_zeros g (h + 8) w (λ a low high. h3 a ∙ zeros_in f2 (h + 8) w a low high))
    (λ k below. absurd (omega arith))))))
    (λ a out. h3 a ∙ (zeros_out f2 (h + 8) w a (elim out [ inl low ↦ inl (omega arith) | inr high ↦ inr (omega arith) ])
    ∙ (h2 a ∙ (word_beside f1 (h + 4) size a (elim out [ inl low ↦ inl (omega arith) | inr high ↦ inr (omega arith) ])
    ∙ (h1 a ∙ word_beside f h anchor a (elim out [ inl low ↦ inl low | inr high ↦ inr (omega arith) ]))))))
