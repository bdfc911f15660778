-- The text that a register points to, between double quotes: its characters up to the first that is
-- a control character or isn't mapped, at most 40 of them, and then `..`.
use Rattle.std.specs.Prelude.{ℕ, zero, suc, ◌==◌, nat_lt, List, [], ◌∷◌, ◌++◌, codes, length, Option, Some, None, Result, Ok, Err, if◌then◌else◌}
use Rattle.profile.specs.Fault.{Fault}
use Rattle.trace_effects.specs.Bytes.{Bytes, byte_loaded}
use Rattle.profile.specs.Sums.{address_further}
use Rattle.trace_store_text.specs.views.Quoted.{quoted_text}

-- a character that isn't a control character, if one is there
abbrev pub character_loaded : Result ℕ Fault → Option ℕ
character_loaded (Ok byte) = if nat_lt byte 32 then None else Some byte
character_loaded (Err fault) = None

abbrev pub character_then : Option ℕ → List ℕ → List ℕ
character_then (Some byte) more = byte ∷ more
character_then None more = []

-- at most so many characters from an address on; addresses count modulo 2^32
unfoldable pub characters_at : Bytes → ℕ → ℕ → List ℕ
characters_at b at zero = []
characters_at b at (suc count) =
    character_then (character_loaded (byte_loaded b at)) (characters_at b (address_further at 1) count)

abbrev pub cut_text : List ℕ → List ℕ
cut_text characters = quoted_text characters ++ (if length characters == 40 then codes ".." else [])

-- ` "System%Base"`
abbrev pub string_word : Bytes → ℕ → List ℕ
string_word b at = codes " " ++ cut_text (characters_at b at 40)
