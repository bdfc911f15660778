-- Texts and code at offsets of a module's image, and how such a text is shown.
use Rattle.std.specs.Prelude.{ℕ, not, ◌%◌, ◌^◌, ◌==◌, ◌&&◌, ◌||◌, nat_lt, List, [], ◌++◌, map, codes, Option, Some, None, unwrap_or, if◌then◌else◌}
use Rattle.std.specs.Int.{is_in_range}
use Rattle.profile.specs.Sums.{address_further}
use Rattle.address_map.specs.Bytes.{Bytes}
use Rattle.debug_labels.specs.Strings.{ends, text_at}
use Rattle.debug_labels.specs.TextEnd.TheVariants as end

-- where code at an offset of an image can be entered
abbrev pub code_place : ℕ → ℕ → ℕ → Option ℕ
code_place image len offset = let at = address_further image offset in
    if nat_lt 0 offset && (nat_lt offset len && (at % 4 == 0 && nat_lt at (2 ^ 26))) then Some at else None

-- the text at an offset of an image, empty where that has none
abbrev pub text_of_image : Bytes → ℕ → ℕ → ℕ → List ℕ
text_of_image b image len offset =
    if offset == 0 || not (nat_lt offset len) then []
    else unwrap_or (text_at (ends end.Zero) 255 b (address_further image offset)) []

-- from a space (32) to `~` (126); a tab (9) is a space, any other byte `.` (46)
abbrev pub shown_character : ℕ → ℕ
shown_character byte = if is_in_range 32 126 byte then byte else (if byte == 9 then 32 else 46)

-- `error 220 &DC Syntax: *PotSet <pot> <seeds>`
abbrev pub syntax_line : List ℕ → List ℕ
syntax_line text = codes "error 220 &DC " ++ (map shown_character text ++ codes "\n")
