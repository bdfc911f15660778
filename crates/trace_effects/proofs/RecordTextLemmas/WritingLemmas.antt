-- Nothing written, and one text behind another.
use Rattle.std.proofs.Common.{ℕ, List, [], ◌++◌, Option, Some, None, refl, sym, ap, ◌∙◌, append_assoc}
use Rattle.std.proofs.lemmas.List.{append-nil}
use Rattle.std.proofs.lemmas.List.Folds.{list_all-append}
use Rattle.std.specs.Io.KnownBytes.{Appends}
use Rattle.profile.specs.text_sink.Safe.{AddsSafe, is_safe}

pub nothing_adds : (o : Option (List ℕ)) → Appends o o []
nothing_adds None = tt
nothing_adds (Some xs) = sym (append-nil xs)

pub then_adds : (a b c : Option (List ℕ)) (s t : List ℕ) → Appends a b s → Appends b c t → Appends a c (s ++ t)
then_adds None b c s t h k = tt
then_adds (Some xs) None c s t h k = absurd h
then_adds (Some xs) (Some ys) None s t h k = absurd k
then_adds (Some xs) (Some ys) (Some zs) s t h k = k ∙ (ap (λ (w : List ℕ). w ++ t) h ∙ append_assoc xs s t)

pub none_added : (o : Option (List ℕ)) → AddsSafe o o
none_added o = record { text = []; adds = nothing_adds o; safe = refl }

pub then_added : (a b c : Option (List ℕ)) → AddsSafe a b → AddsSafe b c → AddsSafe a c
then_added a b c h k = record {
  text = h.text ++ k.text;
  adds = then_adds a b c h.text k.text h.adds k.adds;
  safe = list_all-append is_safe h.text k.text ∙ rw (h.safe, k.safe) refl;
}

pub ruleset adding = (none_added, then_added)
