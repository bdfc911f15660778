-- What a reader has given so far, and what it has left.
use Rattle.std.proofs.Common.{◌≡◌, ◌<◌, ℕ, List, [], ◌++◌, length, Option, Some, None, sym, ap, ◌∙◌, append_assoc, arith, length-append}
use Rattle.std.proofs.lemmas.List.{append-nil}
use Rattle.std.specs.Prelude.{IfSome}
use Rattle.std.specs.Io.KnownBytes.{Consumes, IsAtEnd}
use Rattle.command_shell_lines.proofs.PullLemmas.{pulls_none, pulls_more, pulls_within}

-- a reader that showed `from` has given these bytes, and shows `now`
pub record HasGiven (from now : Option (List ℕ)) (given : List ℕ) : Type 0 where
  pub consumes : Consumes from now given

pub gives_nothing : (from : Option (List ℕ)) (given : List ℕ) → given ≡ [] → HasGiven from from given
gives_nothing None given e = record { consumes = tt }
gives_nothing (Some reported) given e = record { consumes = ap (λ (xs : List ℕ). xs ++ reported) (sym e) }

consumes_more : (a b c : Option (List ℕ)) (xs ys : List ℕ) → Consumes a b xs → Consumes b c ys → Consumes a c (xs ++ ys)
consumes_more None b c xs ys h k = tt
consumes_more (Some reported) None c xs ys h k = absurd h
consumes_more (Some reported) (Some rest) None xs ys h k = absurd k
consumes_more (Some reported) (Some rest) (Some left) xs ys h k =
    h ∙ ap (λ (zs : List ℕ). xs ++ zs) k ∙ sym (append_assoc xs ys left)

pub gives_more : (a b c : Option (List ℕ)) (xs ys zs : List ℕ) → HasGiven a b xs → Consumes b c ys → zs ≡ xs ++ ys
    → HasGiven a c zs
gives_more a b c xs ys zs given here e = record { consumes = rw e (consumes_more a b c xs ys given.consumes here) }

ends_here : (a b : Option (List ℕ)) (xs : List ℕ) → Consumes a b xs → IsAtEnd b → IfSome a (λ reported. xs ≡ reported)
ends_here None b xs h end = tt
ends_here (Some reported) None xs h end = absurd h
ends_here (Some reported) (Some rest) xs h end = sym (h ∙ ap (λ (zs : List ℕ). xs ++ zs) end ∙ append-nil xs)

pub gives_all : (a b : Option (List ℕ)) (xs : List ℕ) → HasGiven a b xs → IsAtEnd b → IfSome a (λ reported. xs ≡ reported)
gives_all a b xs given end = ends_here a b xs given.consumes end

is_longer : (a b : Option (List ℕ)) (xs : List ℕ) → Consumes a b xs → 1048576 < length xs
    → IfSome a (λ reported. 1048576 < length reported)
is_longer None b xs h long = tt
is_longer (Some reported) None xs h long = absurd h
is_longer (Some reported) (Some rest) xs h long = omega (arith, length-append xs rest, ap length h)

pub gives_too_many : (a b : Option (List ℕ)) (xs : List ℕ) → HasGiven a b xs → 1048576 < length xs
    → IfSome a (λ reported. 1048576 < length reported)
gives_too_many a b xs given long = is_longer a b xs given.consumes long

pub ruleset read_steps = (
  gives_nothing,
  gives_more,
  gives_all,
  gives_too_many,
  pulls_none,
  pulls_more,
  pulls_within,
)
