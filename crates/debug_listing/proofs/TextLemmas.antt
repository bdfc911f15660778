-- How the bytes of a text go on.
use Rattle.std.proofs.Common.{◌≡◌, ℕ, ◌+◌, ◌<◌, ◌≤◌, Bool, List, [], ◌∷◌, ◌++◌, length, drop, get_or, refl, ap, ◌∙◌, sym, append_assoc, map}
use Rattle.std.specs.Prelude.{not}
use Rattle.std.proofs.lemmas.List.{drop_more, drop_all}
use Rattle.debug_listing.specs.Tails.{parts_words, quotes_behind, words_begun, tail_words}

words_cons : (in_word in_quotes : Bool) (byte : ℕ) (rest : List ℕ) → tail_words in_word in_quotes (byte ∷ rest)
    ≡ words_begun in_word in_quotes byte + tail_words (not (parts_words in_quotes byte)) (quotes_behind in_quotes byte) rest
unfolding tail_words
words_cons in_word in_quotes byte rest = refl

no_words : (in_word in_quotes : Bool) → tail_words in_word in_quotes [] ≡ 0
unfolding tail_words
no_words in_word in_quotes = refl

-- from a byte on
pub words_next : (in_word in_quotes : Bool) (tail : List ℕ) (i : ℕ) → i < length tail → tail_words in_word in_quotes (drop i tail)
    ≡ words_begun in_word in_quotes (get_or tail i 0)
    + tail_words (not (parts_words in_quotes (get_or tail i 0))) (quotes_behind in_quotes (get_or tail i 0)) (drop (i + 1) tail)
words_next in_word in_quotes tail i below =
    ap (λ (xs : List ℕ). tail_words in_word in_quotes xs) (drop_more tail i 0 below)
    ∙ words_cons in_word in_quotes (get_or tail i 0) (drop (i + 1) tail)

pub words_past : (in_word in_quotes : Bool) (tail : List ℕ) (i : ℕ) → length tail ≤ i → tail_words in_word in_quotes (drop i tail) ≡ 0
words_past in_word in_quotes tail i all =
    ap (λ (xs : List ℕ). tail_words in_word in_quotes xs) (drop_all i tail all) ∙ no_words in_word in_quotes

pub ruleset word_steps = (words_next, words_past)

-- a text that is shown byte by byte
pub shown_next : (f : ℕ → ℕ) (line all : List ℕ) (text : List ℕ) (i : ℕ) → i < length text
    → line ++ map f (drop i text) ≡ all → (line ++ f (get_or text i 0) ∷ []) ++ map f (drop (i + 1) text) ≡ all
shown_next f line all text i below before =
    append_assoc line (f (get_or text i 0) ∷ []) (map f (drop (i + 1) text))
    ∙ sym (ap (λ (xs : List ℕ). line ++ map f xs) (drop_more text i 0 below)) ∙ before

pub shown_whole : (f : ℕ → ℕ) (line all : List ℕ) (text : List ℕ) (i : ℕ) → length text ≤ i
    → line ++ map f (drop i text) ≡ all → line ++ [] ≡ all
shown_whole f line all text i past before =
    sym (ap (λ (xs : List ℕ). line ++ map f xs) (drop_all i text past)) ∙ before
