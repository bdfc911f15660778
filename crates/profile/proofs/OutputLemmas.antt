-- How a writer's loop goes on and ends.
use Rattle.std.proofs.Common.{◌≡◌, ◌<◌, ℕ, List, [], ◌++◌, Option, Some, None, sym, ◌∙◌, ap, append_assoc, refl, subst, suc, length, length-append, get_or, drop, drop-cons, arith}
use Rattle.std.specs.List.{flat_map}
use Rattle.std.proofs.lemmas.List.{append-nil}
use Rattle.std.specs.Io.KnownBytes.{Appends, Keeps}
use Rattle.profile.specs.Output.{AddsAllBut, AddsPart}

-- two pieces written one after the other
pub Appends-join : (a b c : Option (List ℕ)) (xs ys : List ℕ) → Appends a b xs → Appends b c ys → Appends a c (xs ++ ys)
Appends-join None b c xs ys h k = tt
Appends-join (Some a) None c xs ys h k = absurd h
Appends-join (Some a) (Some b) None xs ys h k = absurd k
Appends-join (Some a) (Some b) (Some c) xs ys h k = k ∙ ap (λ z. z ++ ys) h ∙ append_assoc a xs ys

pub Appends-nothing : (a : Option (List ℕ)) → Appends a a []
Appends-nothing None = tt
Appends-nothing (Some a) = sym (append-nil a)

pub AddsAllBut-start : (a : Option (List ℕ)) (all : List ℕ) → AddsAllBut a a all all
AddsAllBut-start None all = record { adds = tt }
AddsAllBut-start (Some a) all = record { adds = record { part = []; holds = ap (λ (xs : List ℕ). Some xs) (sym (append-nil a)); whole = refl } }

pub AddsAllBut-more : (a b c : Option (List ℕ)) (rest piece more all : List ℕ)
    → AddsAllBut a b rest all → Appends b c piece → rest ≡ piece ++ more → AddsAllBut a c more all
AddsAllBut-more None b c rest piece more all done here split = record { adds = tt }
AddsAllBut-more (Some a) None c rest piece more all done here split = absurd (grind (arith, done.adds.holds))
AddsAllBut-more (Some a) (Some b) None rest piece more all done here split = absurd here
AddsAllBut-more (Some a) (Some b) (Some c) rest piece more all done here split =
    let front = done.adds in
    let held : b ≡ a ++ front.part = (let e : Some b ≡ Some (a ++ front.part) = front.holds in cc) in
    let now : c ≡ a ++ (front.part ++ piece) = here ∙ ap (λ (xs : List ℕ). xs ++ piece) held ∙ append_assoc a front.part piece in
    record {
      adds = record {
        part = front.part ++ piece;
        holds = ap (λ (xs : List ℕ). Some xs) now;
        whole = append_assoc front.part piece more ∙ ap (λ (r : List ℕ). front.part ++ r) (sym split) ∙ front.whole;
      };
    }

pub AddsAllBut-same : (a b : Option (List ℕ)) (rest more all : List ℕ) → AddsAllBut a b rest all → rest ≡ more → AddsAllBut a b more all
AddsAllBut-same a b rest more all done e = subst (λ (r : List ℕ). AddsAllBut a b r all) e done

pub Appends-from_all_but : (a b : Option (List ℕ)) (rest all : List ℕ) → AddsAllBut a b rest all → rest ≡ [] → Appends a b all
Appends-from_all_but None b rest all done e = tt
Appends-from_all_but (Some a) None rest all done e = absurd (grind (arith, done.adds.holds))
Appends-from_all_but (Some a) (Some b) rest all done e =
    let front = done.adds in
    let held : b ≡ a ++ front.part = (let e : Some b ≡ Some (a ++ front.part) = front.holds in cc) in
    let whole : front.part ≡ all = sym (append-nil front.part) ∙ ap (λ (r : List ℕ). front.part ++ r) (sym e) ∙ front.whole in
    held ∙ ap (λ (xs : List ℕ). a ++ xs) whole

-- a part of the rest was appended too
AddsAllBut-then : (a b c : Option (List ℕ)) (rest piece more left all : List ℕ) → AddsAllBut a b rest all → rest ≡ piece ++ more
    → AddsAllBut b c left piece → AddsAllBut a c (left ++ more) all
AddsAllBut-then None b c rest piece more left all done split here = record { adds = tt }
AddsAllBut-then (Some a) None c rest piece more left all done split here = absurd (grind (arith, done.adds.holds))
AddsAllBut-then (Some a) (Some b) c rest piece more left all done split here =
    let written : List ℕ = here.adds.part in
    let whole : rest ≡ written ++ (left ++ more) =
    split ∙ ap (λ (r : List ℕ). r ++ more) (sym here.adds.whole) ∙ append_assoc written left more in
    let added : Appends (Some b) c written = subst (λ (o : Option (List ℕ)). Appends (Some b) o written) (sym here.adds.holds) refl in
    AddsAllBut-more (Some a) (Some b) c rest written (left ++ more) all done added whole

-- the writing failed within part i
pub AddsPart-from_parts : {X : Type 0} (f : X → List ℕ) (a b c : Option (List ℕ)) (parts : List X) (i : ℕ) (d : X) (all : List ℕ)
    → i < length parts → AddsAllBut a b (flat_map f (drop i parts)) all → AddsPart b c (f (get_or parts i d)) → AddsPart a c all
AddsPart-from_parts f a b c parts i d all in_parts done here =
    let piece : List ℕ = f (get_or parts i d) in
    let more : List ℕ = flat_map f (drop (suc i) parts) in
    let split : flat_map f (drop i parts) ≡ piece ++ more = ap (flat_map f) (drop-cons parts i d in_parts) in
    record {
      missing = here.missing ++ more;
      some_missing = omega (arith, here.some_missing, length-append here.missing more);
      front = AddsAllBut-then a b c (flat_map f (drop i parts)) piece more here.missing all done split here.front;
    }

-- a call that wrote nothing more
AddsAllBut-kept : (a b c : Option (List ℕ)) (rest all : List ℕ) → AddsAllBut a b rest all → Keeps b c → AddsAllBut a c rest all
AddsAllBut-kept None b c rest all done kept = record { adds = tt }
AddsAllBut-kept (Some a) None c rest all done kept = absurd (grind (arith, done.adds.holds))
AddsAllBut-kept (Some a) (Some b) None rest all done kept = absurd kept
AddsAllBut-kept (Some a) (Some b) (Some c) rest all done kept =
    let front = done.adds in
    record {
      adds = record { part = front.part; holds = ap (λ (xs : List ℕ). Some xs) kept ∙ front.holds; whole = front.whole };
    }

pub AddsPart-from_kept : (a b c : Option (List ℕ)) (rest all : List ℕ) → AddsAllBut a b rest all → Keeps b c → 0 < length rest → AddsPart a c all
AddsPart-from_kept a b c rest all done kept some =
    record { missing = rest; some_missing = some; front = AddsAllBut-kept a b c rest all done kept }

pub ruleset output_steps = (AddsAllBut-start, AddsAllBut-more, AddsAllBut-same, Appends-from_all_but, AddsPart-from_kept)
