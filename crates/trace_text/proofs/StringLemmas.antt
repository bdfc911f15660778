-- How the characters of a text go on, and where they end.
use Rattle.std.proofs.Common.{◌≡◌, ℕ, zero, suc, ◌+◌, ◌-◌, ◌<◌, ◌≤◌, List, [], ◌∷◌, ◌++◌, ap, ◌∙◌, sym, arith, refl, append_assoc, Option, Some, None}
use Rattle.std.proofs.lemmas.List.{append-nil}
use Rattle.trace_effects.specs.Bytes.{Bytes, byte_loaded}
use Rattle.profile.specs.Sums.{address_further}
use Rattle.trace_text.specs.Strings.{character_loaded, character_then, characters_at}

none_asked : (b : Bytes) (at : ℕ) → characters_at b at 0 ≡ []
unfolding characters_at
none_asked b at = refl

one_asked : (b : Bytes) (at more : ℕ) → characters_at b at (suc more)
    ≡ character_then (character_loaded (byte_loaded b at)) (characters_at b (address_further at 1) more)
unfolding characters_at
one_asked b at more = refl

asked : (b : Bytes) (at count i : ℕ) → i < count → characters_at b at (count - i)
    ≡ character_then (character_loaded (byte_loaded b at)) (characters_at b (address_further at 1) (count - (i + 1)))
asked b at count i some =
    let split : count - i ≡ suc (count - (i + 1)) = omega arith in
    ap (characters_at b at) split ∙ one_asked b at (count - (i + 1))

-- some characters that are there and those that are left, with one more there
pub character_more : (b : Bytes) (at next count i byte : ℕ) (there all : List ℕ) → i < count → character_loaded (byte_loaded b at) ≡ Some byte
    → next ≡ address_further at 1 → there ++ characters_at b at (count - i) ≡ all
    → (there ++ byte ∷ []) ++ characters_at b next (count - (i + 1)) ≡ all
character_more b at next count i byte there all some loaded e known =
    rw e
    (append_assoc there (byte ∷ []) (characters_at b (address_further at 1) (count - (i + 1)))
    ∙ (ap (λ more. there ++ more) (sym (asked b at count i some
    ∙ ap (λ (o : Option ℕ). character_then o (characters_at b (address_further at 1) (count - (i + 1)))) loaded)) ∙ known))

-- nothing is left where no character is
pub character_ends : (b : Bytes) (at count i : ℕ) (there all : List ℕ) → i < count → character_loaded (byte_loaded b at) ≡ None
    → there ++ characters_at b at (count - i) ≡ all → there ≡ all
character_ends b at count i there all some loaded known =
    sym (append-nil there)
    ∙ (ap (λ more. there ++ more) (sym (asked b at count i some
    ∙ ap (λ (o : Option ℕ). character_then o (characters_at b (address_further at 1) (count - (i + 1)))) loaded)) ∙ known)

pub characters_done : (b : Bytes) (at count i : ℕ) (there all : List ℕ) → count ≤ i → there ++ characters_at b at (count - i) ≡ all → there ≡ all
characters_done b at count i there all out known =
    let none : count - i ≡ 0 = omega arith in
    sym (append-nil there) ∙ (ap (λ more. there ++ more) (sym (ap (characters_at b at) none ∙ none_asked b at)) ∙ known)
