-- The answers of lines that are no script's.
use Rattle.std.specs.Prelude.{ℕ, Bool, true, false, List, ◌++◌, codes}
use Rattle.std.specs.Fmt.{decimal}
use Rattle.profile.specs.Digits.{hex_number}

-- FORGET: `forget count`, by whether there was an image of that name
abbrev pub forget_text : Bool → List ℕ → List ℕ
forget_text true name = codes "forget " ++ name ++ codes "\n"
forget_text false name = codes "refused NoImage\n"

-- `put count at &9000`
abbrev pub put_text : List ℕ → ℕ → List ℕ
put_text name address = codes "put " ++ (name ++ (codes " at &" ++ (hex_number address ++ codes "\n")))

-- `? line 7: STEP stands alone, or with a number, as STEP 4`
abbrev pub reasoned_text : ℕ → List ℕ → List ℕ
reasoned_text number reason =
    codes "? line " ++ (decimal number ++ (codes ": " ++ (reason ++ codes "\n")))
