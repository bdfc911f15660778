-- The words of a tail, counted byte by byte.
use Rattle.std.proofs.Common.{◌≡◌, ℕ, zero, suc, ◌+◌, ◌-◌, ◌%◌, ◌<◌, ◌≤◌, Bool, true, false, cond, List, [], ◌∷◌, length, take, drop, get_or, refl, sym, ap, ◌∙◌, arith}
use Rattle.std.specs.Prelude.{not, ◌==◌, ◌&&◌, ◌||◌, if◌then◌else◌, slice_index}
use Rattle.std.specs.List.{count_by, range_with_len}
use Rattle.std.proofs.lemmas.List.Sums.{count_by_more_no, count_by_more_yes, sum_by-append}
use Rattle.debug_listing.proofs.TextLemmas.{words_next, words_past}
use Rattle.debug_listing.specs.Tails.{parts_words, quotes_behind, tail_words, words_begun}
use Rattle.debug_modules.specs.Laws.{TailWordsAreWords, begins_at, blank_parts_at, quotes_before}

-- whether a place is within a word, and between quotes
abbrev in_word_at : List ℕ → ℕ → Bool
in_word_at tail k = not (k == 0 || blank_parts_at tail (k - 1))

abbrev in_quotes_at : List ℕ → ℕ → Bool
in_quotes_at tail k = not (quotes_before tail k % 2 == 0)

parts_so : (space even : Bool) → (space && not (not even)) ≡ (space && even)
parts_so true true = refl
parts_so true false = refl
parts_so false even = refl

begun_so : (outside parts : Bool) → (let zero_or_one : ℕ = (if not outside || parts then 0 else 1) in zero_or_one ≡ cond (not parts && outside) 1 0)
begun_so true true = refl
begun_so true false = refl
begun_so false true = refl
begun_so false false = refl

in_word_behind : (tail : List ℕ) (k : ℕ) → in_word_at tail (k + 1) ≡ not (blank_parts_at tail k)
in_word_behind tail k =
    let same : k + 1 - 1 ≡ k = omega arith in
    let some : (k + 1 == 0) ≡ false = grind arith in
    ap (λ (b : Bool). not (b || blank_parts_at tail (k + 1 - 1))) some ∙ ap (λ (n : ℕ). not (blank_parts_at tail n)) same

flips : (n : ℕ) → ((n + 1) % 2 == 0) ≡ not (n % 2 == 0)
flips n = grind arith

quotes_by : (tail : List ℕ) (k : ℕ) (is : Bool) → k < length tail → (get_or tail k 0 == 34) ≡ is
    → in_quotes_at tail (k + 1) ≡ (if is then not (in_quotes_at tail k) else in_quotes_at tail k)
quotes_by tail k true below is =
    ap (λ (n : ℕ). not (n % 2 == 0)) (count_by_more_yes (λ b. b == 34) tail k 0 below is)
    ∙ ap not (flips (quotes_before tail k))
quotes_by tail k false below is =
    ap (λ (n : ℕ). not (n % 2 == 0)) (count_by_more_no (λ b. b == 34) tail k 0 below is)

quotes_at : (tail : List ℕ) (k : ℕ) → k < length tail
    → in_quotes_at tail (k + 1) ≡ quotes_behind (in_quotes_at tail k) (get_or tail k 0)
quotes_at tail k below = quotes_by tail k (get_or tail k 0 == 34) below refl

counted_more : (p : ℕ → Bool) (k : ℕ) (xs : List ℕ) → cond (p k) 1 0 + count_by p xs ≡ count_by p (k ∷ xs)
counted_more p k xs = let split = sum_by-append (λ (x : ℕ). cond (p x) 1 0) (k ∷ []) xs in omega (arith, split)

words_from : (tail : List ℕ) (k n : ℕ) → k + n ≡ length tail
    → tail_words (in_word_at tail k) (in_quotes_at tail k) (drop k tail) ≡ count_by (begins_at tail) (range_with_len k n)
words_from tail k zero ends =
    let past : length tail ≤ k = omega (arith, ends) in words_past (in_word_at tail k) (in_quotes_at tail k) tail k past
words_from tail k (suc n) ends =
    let below : k < length tail = omega (arith, ends) in
    let on : k + 1 + n ≡ length tail = omega (arith, ends) in
    let byte = get_or tail k 0 in
    let quoted = in_quotes_at tail k in
    let parts : parts_words quoted byte ≡ blank_parts_at tail k = parts_so (byte == 32) (quotes_before tail k % 2 == 0) in
    let begun : ℕ = (if in_word_at tail k || blank_parts_at tail k then 0 else 1) in
    words_next (in_word_at tail k) quoted tail k below
    ∙ ap (λ (p : Bool). (if in_word_at tail k || p then 0 else 1) + tail_words (not p) (quotes_behind quoted byte) (drop (k + 1) tail)) parts
    ∙ ap (λ (q : Bool). begun + tail_words (not (blank_parts_at tail k)) q (drop (k + 1) tail)) (sym (quotes_at tail k below))
    ∙ ap (λ (w : Bool). begun + tail_words w (in_quotes_at tail (k + 1)) (drop (k + 1) tail)) (sym (in_word_behind tail k))
    ∙ ap (λ (m : ℕ). m + tail_words (in_word_at tail (k + 1)) (in_quotes_at tail (k + 1)) (drop (k + 1) tail))
    (begun_so (k == 0 || blank_parts_at tail (k - 1)) (blank_parts_at tail k))
    ∙ ap (λ (m : ℕ). cond (begins_at tail k) 1 0 + m) (words_from tail (k + 1) n on)
    ∙ counted_more (begins_at tail) k (range_with_len (k + 1) n)

pub tail_words_are_words : TailWordsAreWords
tail_words_are_words tail = words_from tail 0 (length tail) (omega arith)
