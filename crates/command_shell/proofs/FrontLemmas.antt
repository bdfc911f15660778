-- Fronts of a script's answers, written one after another, and of the images that it adds.
use Rattle.std.proofs.Common.{◌≡◌, ◌∙◌, ℕ, List, [], ◌++◌, Option, sym, ap, append_assoc, subst}
use Rattle.std.proofs.lemmas.List.{append-nil}
use Rattle.profile.proofs.OutputLemmas.{AddsAllBut-start}
use Rattle.profile.specs.Output.{AddsAllBut, AddsFront}
use Rattle.profile.specs.images.Entries.{Entry}
use Rattle.command_shell.specs.Fronts.{IsFront}

pub AddsFront-from_all_but : (a b : Option (List ℕ)) (rest all : List ℕ) → AddsAllBut a b rest all
    → AddsFront a b all
AddsFront-from_all_but a b rest all done = record { rest = rest; front = done }

pub AddsFront-start : (a : Option (List ℕ)) (all : List ℕ) → AddsFront a a all
AddsFront-start a all = record { rest = all; front = AddsAllBut-start a all }

pub IsFront-same : (xs : List Entry) → IsFront xs xs
IsFront-same xs = record { rest = []; whole = sym (append-nil xs) }

pub IsFront-is : (xs ys : List Entry) → ys ≡ xs → IsFront xs ys
IsFront-is xs ys e = subst (λ (zs : List Entry). IsFront xs zs) (sym e) (IsFront-same xs)

pub IsFront-then : {xs ys zs : List Entry} → IsFront xs ys → IsFront ys zs → IsFront xs zs
IsFront-then {xs = xs} {ys = ys} {zs = zs} first next = record {
  rest = first.rest ++ next.rest;
  whole = next.whole ∙ ap (λ (l : List Entry). l ++ next.rest) first.whole ∙ append_assoc xs first.rest next.rest;
}
