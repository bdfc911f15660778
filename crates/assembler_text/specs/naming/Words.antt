-- The pieces of a line of assembler text. A reader takes a text from the front: it answers what it
-- read and what follows, or `None` where the text isn't what it reads (ARM2 data sheet, "Assembler
-- syntax"; spaces, comments and the letters of a word are this project's own).
use Rattle.std.specs.Prelude.{ℕ, Bool, true, ◌==◌, ◌||◌, List, [], ◌∷◌, take, drop, Option, Some, None, option_and_then, is_some, option_map, unwrap_or, if◌then◌else◌}
use Rattle.std.specs.Borrow.{Bor}
use Rattle.std.specs.Char.{is_ascii_alphanumeric}
use Rattle.std.specs.List.{prefix_len}
use Rattle.std.specs.Option.{option_or}
use Rattle.std.specs.Str.{str_eq_ignore_ascii_case}

-- what a reader has answered: what it read, and what follows as it stands now
abbrev pub read_of : {A : Type 0} → Option (A × Bor (List ℕ)) → Option (A × List ℕ)
read_of result = option_map (λ r. (r.0, r.1.now)) result

infixl 10 ◌>>=◌
abbrev pub ◌>>=◌ : {A B : Type 0} → Option A → (A → Option B) → Option B
o >>= f = option_and_then f o

-- the first of two that is one
infixl 5 ◌or◌
abbrev pub ◌or◌ : {A : Type 0} → Option A → Option A → Option A
first or second = option_or first second

-- a letter, a digit or `_` (95)
abbrev pub is_word_byte : ℕ → Bool
is_word_byte c = is_ascii_alphanumeric c || c == 95

abbrev pub is_space : ℕ → Bool
is_space c = c == 32

-- the longest run of letters, digits and `_` at the front, which may be none: of `R0,R1` it is `R0`
unfoldable pub word : List ℕ → List ℕ
word text = take (prefix_len is_word_byte text) text

unfoldable pub after_word : List ℕ → List ℕ
after_word text = drop (prefix_len is_word_byte text) text

unfoldable pub after_spaces : List ℕ → List ℕ
after_spaces text = drop (prefix_len is_space text) text

-- what follows this byte
unfoldable pub byte : ℕ → List ℕ → Option (List ℕ)
byte c [] = None
byte c (x ∷ rest) = if x == c then Some rest else None

-- whether this byte stands here, and what follows it or where it would stand: of `!,{R0}` at `!`,
-- yes and `,{R0}`
abbrev pub is_marked : ℕ → List ℕ → Bool
is_marked c text = is_some (byte c text)

abbrev pub after_mark : ℕ → List ℕ → List ℕ
after_mark c text = unwrap_or (byte c text) text

-- one space or more
unfoldable pub spaces : List ℕ → Option (List ℕ)
spaces text = do
  rest ← byte 32 text
  Some (after_spaces rest)

-- a comma, with any number of spaces on both sides
unfoldable pub comma : List ℕ → Option (List ℕ)
comma text = do
  rest ← byte 44 (after_spaces text)
  Some (after_spaces rest)

abbrev pub begins_comment : List ℕ → Bool
begins_comment [] = true
begins_comment (c ∷ rest) = c == 59

-- nothing is left but spaces and a comment, which begins with `;`
unfoldable pub is_end_of_line : List ℕ → Bool
is_end_of_line text = begins_comment (after_spaces text)

-- the same text, small letters standing for capitals
abbrev pub is_same_name : List ℕ → List ℕ → Bool
is_same_name text name = str_eq_ignore_ascii_case text name
