-- How lists that are shown item by item, by their numbers, go on.
use Rattle.std.proofs.Common.{◌≡◌, ℕ, ◌+◌, ◌<◌, ◌≤◌, List, [], ◌∷◌, ◌++◌, length, drop, Option, Some, None, refl, ◌∙◌, arith}
use Rattle.std.specs.Prelude.{slice_get, option_map}
use Rattle.std.specs.List.{flat_map}
use Rattle.std.proofs.lemmas.List.{drop_more, drop_all}
use Rattle.std.proofs.lemmas.Option.{slice_get-get_or}
use Rattle.swi_dispatch_guest.proofs.OutputLemmas.{AddsAllBut-start, AddsAllBut-more, AddsAllBut-same, Appends-from_all_but}
use Rattle.swi_dispatch_guest.specs.Bytes.{Bytes}
use Rattle.swi_dispatch_guest.specs.Lookup.{shown_of_instance, shown_of_place, instance_count}
use Rattle.swi_dispatch_guest.specs.Modules.{Instance, Module}
use Rattle.debugger.specs.Modules.{one_text, instance_line, instances_text}

pub next_shown : {X : Type 0} (text : X → List ℕ) (xs : List X) (n : ℕ) → n < length xs
    → flat_map text (drop n xs) ≡ one_text text (slice_get xs n) ++ flat_map text (drop (n + 1) xs)
next_shown text [] n below = absurd (omega arith)
next_shown text (x ∷ rest) n below = rw (slice_get-get_or (x ∷ rest) n x below, drop_more (x ∷ rest) n x below) refl

pub all_shown : {X : Type 0} (text : X → List ℕ) (xs : List X) (n : ℕ) → length xs ≤ n → flat_map text (drop n xs) ≡ []
all_shown text xs n past = rw (drop_all n xs past) refl

-- the instances of a module that are left
abbrev pub instances_from : Bytes → ℕ → Option Module → List ℕ
instances_from b n None = []
instances_from b n (Some m) = flat_map (λ (i : Instance). instance_line b (shown_of_instance m i)) (drop n m.instances)

shown_line : (b : Bytes) (m : Module) (found : Option Instance)
    → one_text (instance_line b) (option_map (shown_of_instance m) found) ≡ one_text (λ (i : Instance). instance_line b (shown_of_instance m i)) found
shown_line b m None = refl
shown_line b m (Some i) = refl

pub next_instance : (b : Bytes) (o : Option Module) (n : ℕ) → n < instance_count o
    → instances_from b n o ≡ one_text (instance_line b) (shown_of_place n o) ++ instances_from b (n + 1) o
next_instance b None n below = absurd (omega arith)
next_instance b (Some m) n below =
    next_shown (λ (i : Instance). instance_line b (shown_of_instance m i)) m.instances n below
    ∙ rw (shown_line b m (slice_get m.instances n)) refl

pub no_instance_more : (b : Bytes) (o : Option Module) (n : ℕ) → instance_count o ≤ n → instances_from b n o ≡ []
no_instance_more b None n past = refl
no_instance_more b (Some m) n past = all_shown (λ (i : Instance). instance_line b (shown_of_instance m i)) m.instances n past

pub first_instance : (b : Bytes) (o : Option Module) → one_text (instances_text b) o ≡ instances_from b 0 o
first_instance b None = refl
first_instance b (Some m) = refl

pub ruleset module_steps = (AddsAllBut-start, AddsAllBut-more, AddsAllBut-same, Appends-from_all_but, next_shown, all_shown)

pub ruleset instance_steps = (AddsAllBut-start, AddsAllBut-more, AddsAllBut-same, Appends-from_all_but, next_instance, no_instance_more, first_instance)
