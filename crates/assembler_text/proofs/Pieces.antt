-- A text that is written in pieces.
use Rattle.std.proofs.Common.{◌≡◌, ℕ, List, ◌++◌, Option, sym, subst}
use Rattle.std.specs.Io.KnownBytes.{Appends}
use Rattle.arm_decode.proofs.OutputLemmas.{Appends-join, Appends-nothing}

pub joined : (a b c : Option (List ℕ)) (xs ys all : List ℕ) → Appends a b xs → Appends b c ys → all ≡ xs ++ ys → Appends a c all
joined a b c xs ys all h k e = subst (Appends a c) (sym e) (Appends-join a b c xs ys h k)

pub ruleset pieces = (joined, Appends-nothing)
