-- How the spelling of a line goes on, by its first bytes.
use Rattle.std.proofs.Common.{◌≡◌, ℕ, false, List, [], ◌∷◌, ◌++◌, length, Option, Some, None, sym, ap, ◌∙◌, append_assoc, arith, refl}
use Rattle.std.specs.Io.KnownBytes.{prepend_known}
use Rattle.std.specs.Prelude.{◌==◌, ◌≢◌}
use Rattle.std.proofs.lemmas.Bool.Decides.{nat_tests}
use Rattle.std.proofs.lemmas.List.{append-nil}
use Rattle.command_shell_lines.specs.HexPairs.{pair_value, onto_bytes, bytes_of_hex_pairs, with_spelled}

not_space : (c : ℕ) → c ≢ 32 → (c == 32) ≡ false
not_space c ne = grind (arith, nat_tests)

spelled-end : bytes_of_hex_pairs [] ≡ Some []
unfolding bytes_of_hex_pairs
spelled-end = refl

spelled-space : (c : ℕ) (rest : List ℕ) → c ≡ 32 → bytes_of_hex_pairs (c ∷ rest) ≡ bytes_of_hex_pairs rest
unfolding bytes_of_hex_pairs
spelled-space c [] e = rw e refl
spelled-space c (d ∷ rest) e = rw e refl

spelled-lone : (c : ℕ) → c ≢ 32 → bytes_of_hex_pairs (c ∷ []) ≡ None
unfolding bytes_of_hex_pairs
spelled-lone c ne = rw (not_space c ne) refl

spelled-pair : (c d : ℕ) (more : List ℕ) → c ≢ 32 → bytes_of_hex_pairs (c ∷ d ∷ more) ≡ onto_bytes (pair_value c d) (bytes_of_hex_pairs more)
unfolding bytes_of_hex_pairs
spelled-pair c d more ne = rw (not_space c ne) refl

onto-some : (bytes : List ℕ) (byte : ℕ) (rest : Option (List ℕ))
    → prepend_known bytes (onto_bytes (Some byte) rest) ≡ prepend_known (bytes ++ byte ∷ []) rest
onto-some bytes byte None = refl
onto-some bytes byte (Some more) = ap Some (sym (append_assoc bytes (byte ∷ []) more))

-- no byte is left
pub spells_nothing : (bytes rest : List ℕ) → length rest ≡ 0 → with_spelled bytes rest ≡ Some bytes
unfolding with_spelled
spells_nothing bytes [] none = ap (prepend_known bytes) spelled-end ∙ ap Some (append-nil bytes)
spells_nothing bytes (c ∷ rest) none = absurd (omega (arith, none))

-- a space at the front
pub skips_space : (bytes rest others : List ℕ) (c : ℕ) → rest ≡ c ∷ others → c ≡ 32
    → with_spelled bytes rest ≡ with_spelled bytes others
unfolding with_spelled
skips_space bytes rest others c e is =
    ap (λ (xs : List ℕ). prepend_known bytes (bytes_of_hex_pairs xs)) e ∙ ap (prepend_known bytes) (spelled-space c others is)

lone : (bytes others : List ℕ) (c : ℕ) → c ≢ 32 → length others ≡ 0 → with_spelled bytes (c ∷ others) ≡ None
unfolding with_spelled
lone bytes [] c ne none = ap (prepend_known bytes) (spelled-lone c ne)
lone bytes (d ∷ others) c ne none = absurd (omega (arith, none))

-- a digit alone
pub lone_digit : (bytes rest others : List ℕ) (c : ℕ) → rest ≡ c ∷ others → c ≢ 32 → length others ≡ 0
    → with_spelled bytes rest ≡ None
lone_digit bytes rest others c e ne none = ap (with_spelled bytes) e ∙ lone bytes others c ne none

-- bytes, then a pair, then what the rest spells
pub with_pair : List ℕ → Option ℕ → List ℕ → Option (List ℕ)
with_pair bytes pair rest = prepend_known bytes (onto_bytes pair (bytes_of_hex_pairs rest))

two : (bytes more : List ℕ) (c d : ℕ) → c ≢ 32
    → with_spelled bytes (c ∷ d ∷ more) ≡ with_pair bytes (pair_value c d) more
unfolding with_spelled with_pair
two bytes more c d ne = ap (prepend_known bytes) (spelled-pair c d more ne)

-- two digits at the front
pub takes_two : (bytes rest others more : List ℕ) (c d : ℕ) → rest ≡ c ∷ others → c ≢ 32 → others ≡ d ∷ more
    → with_spelled bytes rest ≡ with_pair bytes (pair_value c d) more
takes_two bytes rest others more c d e ne e' =
    ap (with_spelled bytes) (e ∙ ap (λ (xs : List ℕ). c ∷ xs) e') ∙ two bytes more c d ne

pub no_pair : (bytes more : List ℕ) → with_pair bytes None more ≡ None
unfolding with_pair
no_pair bytes more = refl

pub takes_pair : (bytes more : List ℕ) (byte : ℕ)
    → with_pair bytes (Some byte) more ≡ with_spelled (bytes ++ byte ∷ []) more
unfolding with_spelled with_pair
takes_pair bytes more byte = onto-some bytes byte (bytes_of_hex_pairs more)

pub ruleset hex_steps = (spells_nothing, skips_space, lone_digit, takes_two, no_pair, takes_pair)
