-- Texts that are written one behind another.
use Rattle.std.proofs.Common.{◌≡◌, ℕ, ◌++◌, Bool, List, Option, Result, Ok, Err, ◌∙◌}
use Rattle.std.specs.Prelude.{OnOk}
use Rattle.std.specs.Io.KnownBytes.{Appends}
use Rattle.profile.proofs.OutputLemmas.{Appends-join}

-- one text written behind another
pub two_texts : {U E : Type 0} (r : Result U E) (a b c : Option (List ℕ)) (xs ys : List ℕ) → Appends a b xs → OnOk r (Appends b c ys)
    → OnOk r (Appends a c (xs ++ ys))
two_texts (Ok u) a b c xs ys first second = Appends-join a b c xs ys first second
two_texts (Err e) a b c xs ys first second = tt

pub two_flags : {U E : Type 0} (r : Result U E) (x y z : Bool) → y ≡ x → OnOk r (z ≡ y) → OnOk r (z ≡ x)
two_flags (Ok u) x y z first second = second ∙ first
two_flags (Err e) x y z first second = tt
