-- Bytes that were read.
use Rattle.std.proofs.Common.{◌≡◌, ◌⊎◌, inl, inr, ℕ, List, Option, Some, None, IfSome, subst, ◌∙◌}

-- what holds of bytes holds of those that were read
pub of_read : (P : List ℕ → Type 0) (script : Option (List ℕ)) (read bytes : List ℕ) → bytes ≡ read
    → IfSome script (λ reported. read ≡ reported) → P bytes → IfSome script P
of_read P None read bytes same is holds = tt
of_read P (Some reported) read bytes same is holds = subst P (same ∙ is) holds

-- the same, where something else may hold in its place
pub of_read_or : (P : List ℕ → Type 0) (Q : Type 0) (script : Option (List ℕ)) (read bytes : List ℕ) → bytes ≡ read
    → IfSome script (λ reported. read ≡ reported) → Q ⊎ P bytes → Q ⊎ IfSome script P
of_read_or P Q script read bytes same is (inl other) = inl other
of_read_or P Q script read bytes same is (inr holds) = inr (of_read P script read bytes same is holds)
