-- Fields of an object and entries of a list, one behind another with commas between them (RFC 8259, "The
-- JavaScript Object Notation Data Interchange Format").
use Rattle.std.specs.Prelude.{◌≡◌, ℕ, Bool, true, false, List, [], ◌∷◌, ◌++◌, codes}
use Rattle.trace_effects.specs.declared.record_text.text.RecordText.{RecordText}
use Rattle.trace_effects.specs.record_text.Spelling.{comma_before, name_text}

abbrev pub entries : Bool → List (List ℕ) → List ℕ
entries follows [] = []
entries follows (t ∷ ts) = comma_before follows ++ (t ++ entries true ts)

-- whether a value stands before the next one behind them
abbrev pub follows_behind : Bool → List (List ℕ) → Bool
follows_behind follows [] = follows
follows_behind follows (t ∷ ts) = true

-- a name and its value
abbrev pub field_text : List ℕ → List ℕ → List ℕ
field_text name value = name_text name ++ value

abbrev pub object_text : List (List ℕ) → List ℕ
object_text fields = codes "{" ++ (entries false fields ++ codes "}")

abbrev pub list_text : List (List ℕ) → List ℕ
list_text values = codes "[" ++ (entries false values ++ codes "]")

-- nothing in place of a field whose value would be empty
abbrev pub unless_empty : List (List ℕ) → List ℕ → List (List ℕ)
unless_empty [] field = []
unless_empty (t ∷ ts) field = field ∷ []

-- whether there are some fields
abbrev pub IsWhether : Bool → List (List ℕ) → Type 0
IsWhether there [] = there ≡ false
IsWhether there (t ∷ ts) = there ≡ true

-- These were written behind what a text had.
pub record HasMore (old new : RecordText) (fields : List (List ℕ)) : Type 0 where
  pub text : new.bytes.items ≡ old.bytes.items ++ entries old.follows fields
  pub follows : new.follows ≡ follows_behind old.follows fields
