-- How lists that are walked item by item go on.
use Rattle.std.proofs.Common.{◌≡◌, ℕ, ◌+◌, ◌-◌, ◌<◌, ◌≤◌, List, [], ◌∷◌, ◌++◌, length, drop, take, get_or, Option, Some, None, refl, sym, ap, ◌∙◌, arith}
use Rattle.std.specs.Prelude.{Bool, true, Result, Ok, Err, OnErr, OnOk, slice_get, option_and_then}
use Rattle.std.specs.List.{flat_map}
use Rattle.std.specs.Option.{option_or}
use Rattle.std.proofs.lemmas.List.{drop_more, drop_all, map-append, take_more}
use Rattle.std.proofs.lemmas.Option.{get_or_from_slice_get, slice_get-get_or, slice_get_within}
use Rattle.std.specs.Io.KnownBytes.{Appends}
use Rattle.profile.specs.Firsts.{first_of}
use Rattle.profile.specs.Output.{Writes}
use Rattle.profile.proofs.FirstLemmas.{first_past}
use Rattle.profile.proofs.OutputLemmas.{Appends-join}
use Rattle.assembler_text.specs.naming.Labels.{Entries}
use Rattle.debug_labels.specs.Labels.{labels_behind}

pub first_next : {X Y : Type 0} (f : X → Option Y) (xs : List X) (n : ℕ) → n < length xs
    → first_of f (drop n xs) ≡ option_or (option_and_then f (slice_get xs n)) (first_of f (drop (n + 1) xs))
first_next f [] n below = absurd (omega arith)
first_next f (x ∷ rest) n below = rw (slice_get-get_or (x ∷ rest) n x below, drop_more (x ∷ rest) n x below) refl

-- a text of each item, one after another
pub next_shown : {X : Type 0} (text : X → List ℕ) (xs : List X) (n : ℕ) (x : X) → n < length xs → x ≡ get_or xs n x
    → flat_map text (drop n xs) ≡ text x ++ flat_map text (drop (n + 1) xs)
next_shown {X} text xs n x below is =
    ap (flat_map text) (drop_more xs n x below) ∙ ap (λ (y : X). text y ++ flat_map text (drop (n + 1) xs)) (sym is)

pub or_none : {X : Type 0} (o : Option X) → option_or o None ≡ o
or_none (Some x) = refl
or_none None = refl

pub or_assoc : {X : Type 0} (a b c : Option X) → option_or (option_or a b) c ≡ option_or a (option_or b c)
or_assoc (Some x) b c = refl
or_assoc None b c = refl

-- one label more
behind_more : (origin : ℕ) (labels : Entries) (place : ℕ) (label : List ℕ × ℕ) → slice_get labels place ≡ Some label
    → labels_behind origin (take (place + 1) labels) ≡ labels_behind origin (take place labels) ++ (label.0, label.1 - origin) ∷ []
behind_more origin labels place label is =
    ap (labels_behind origin) (take_more labels place label (slice_get_within labels place label is)
    ∙ ap (λ (last : List ℕ × ℕ). take place labels ++ last ∷ []) (get_or_from_slice_get labels place label label is))
    ∙ map-append (λ (one : List ℕ × ℕ). (one.0, one.1 - origin)) (take place labels) (label ∷ [])

-- a copy of it is put behind the copies of those before it
pub behind_pushed : (origin place : ℕ) (labels copies pushed : Entries) (name copy : List ℕ) (address offset : ℕ)
    → copies ≡ labels_behind origin (take place labels) → Some (name, address) ≡ slice_get labels place
    → copy ≡ name → offset ≡ address - origin → pushed ≡ copies ++ (copy, offset) ∷ []
    → pushed ≡ labels_behind origin (take (place + 1) labels)
behind_pushed origin place labels copies pushed name copy address offset before there same further more =
    more ∙ ap (λ (all : Entries). all ++ (copy, offset) ∷ []) before
    ∙ ap (λ (text : List ℕ). labels_behind origin (take place labels) ++ (text, offset) ∷ []) same
    ∙ ap (λ (n : ℕ). labels_behind origin (take place labels) ++ (name, n) ∷ []) further
    ∙ sym (behind_more origin labels place (name, address) (sym there))

-- a text behind what stands written
pub writes_behind : {S A E : Type 0} (contents : S → Option (List ℕ)) (has_failed : S → Bool) (old between new : S)
    (result : Result A E) (front more : List ℕ) → Appends (contents old) (contents between) front
    → has_failed between ≡ has_failed old → OnOk result (Appends (contents between) (contents new) more)
    → OnErr result (has_failed new ≡ true) → OnOk result (has_failed new ≡ has_failed between)
    → Writes contents has_failed old new result (front ++ more)
writes_behind contents has_failed old between new (Ok a) front more done kept text flag same = record {
  text = Appends-join (contents old) (contents between) (contents new) front more done text;
  flag = tt;
  same_flag = same ∙ kept;
}
writes_behind contents has_failed old between new (Err e) front more done kept text flag same =
    record { text = tt; flag = flag; same_flag = tt }

pub ruleset first_steps = (first_next, first_past)

pub ruleset last_steps = (or_none, or_assoc)
