-- What a line that is none of the language is answered: what a script answers, and behind it the reason.
use Rattle.std.specs.Prelude.{◌≡◌, ℕ, List, ◌++◌, codes}
use Rattle.std.specs.Fmt.{decimal}
use Rattle.debug_tables.specs.Answers.{unknown_text}

-- an answer, and what stands behind it
pub record GoesOnBehind (answer reported : List ℕ) : Type 0 where
  pub more : List ℕ
  pub debugging : reported ≡ answer ++ more

-- what is answered begins as a script's answer, and behind that stands the reason
pub record BeginsAsInScript (number : ℕ) (reported : List ℕ) : Type 0 where
  pub reason : List ℕ
  pub script : unknown_text number ≡ (codes "? line " ++ decimal number) ++ codes "\n"
  pub debugging : reported ≡ (codes "? line " ++ decimal number) ++ (codes ": " ++ (reason ++ codes "\n"))
