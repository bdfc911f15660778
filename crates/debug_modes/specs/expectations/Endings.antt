-- What a guest printed in a line that takes steps: of the line's answer, what stands before its
-- ending, which says how the steps ended. The answer is what was printed, and then its ending.
use Rattle.std.specs.Prelude.{ℕ, ◌==◌, ◌||◌, Bool, true, false, List, [], ◌∷◌, codes, drop, length, Option, Some, None, unwrap_or}
use Rattle.std.specs.List.{starts_with}

-- whether a text begins as an ending does: with a stop, where the machine stands, or how a call came
-- back
abbrev pub begins_ending : List ℕ → Bool
begins_ending text =
    starts_with (λ a b. a == b) text (codes "stop ") || (
    starts_with (λ a b. a == b) text (codes "at &") || (
    starts_with (λ a b. a == b) text (codes "error ") ||
    starts_with (λ a b. a == b) text (codes "ok\n")))

-- a byte, and what stands before the last ending of the rest; else whether an ending begins with the
-- byte
abbrev pub output_with : ℕ → Bool → Option (List ℕ) → Option (List ℕ)
output_with b begins (Some front) = Some (b ∷ front)
output_with b true None = Some []
output_with b false None = None

-- what stands before the last place at which an ending begins, if there is one
unfoldable pub output_before_ending : List ℕ → Option (List ℕ)
output_before_ending [] = None
output_before_ending (b ∷ rest) =
    output_with b (begins_ending (b ∷ rest)) (output_before_ending rest)

abbrev pub output_of : List ℕ → List ℕ
output_of answer = unwrap_or (output_before_ending answer) answer

-- what follows on what was printed
abbrev pub ending_of : List ℕ → List ℕ
ending_of answer = drop (length (output_of answer)) answer
