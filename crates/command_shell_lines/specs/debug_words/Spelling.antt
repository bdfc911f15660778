-- Text between double quotes as the bytes that it stands for: `\n` is 10, `\r` 13, `\t` 9, `\"` and
-- `\\` the byte itself, and `\x` with two hexadecimal digits the byte that they spell. Any other
-- byte stands for itself, but a `"` for none.
use Rattle.std.specs.Prelude.{ℕ, Bool, true, false, ◌==◌, ◌||◌, List, [], ◌∷◌, Option, Some, None, if◌then◌else◌}
use Rattle.std.specs.Str.{bytes_eq}
use Rattle.command_shell_lines.specs.HexPairs.{pair_value, onto_bytes}
use Rattle.command_shell_lines.specs.declared.debug_words.spelling.EscapeState.{EscapeState}
use Rattle.command_shell_lines.specs.declared.debug_words.spelling.EscapeState.TheVariants.{Plain, Backslash, HexHigh, HexLow}
use Rattle.command_shell_lines.specs.declared.debug_words.spelling.EscapeStep.{EscapeStep}
use Rattle.command_shell_lines.specs.declared.debug_words.spelling.EscapeStep.TheVariants.{Bad, To, Gives}

-- the byte that a letter after a backslash stands for: n 110, r 114, t 116, `"` 34, backslash 92
abbrev pub escape_value : ℕ → Option ℕ
escape_value c =
    if c == 110 then Some 10 else (
    if c == 114 then Some 13 else (
    if c == 116 then Some 9 else (
    if c == 34 || c == 92 then Some c else
    None)))

abbrev pub giving : Option ℕ → EscapeStep
giving (Some b) = Gives b
giving None = Bad

-- what a byte does, by what stands before it
abbrev pub escape_step : EscapeState → ℕ → EscapeStep
escape_step Plain b = if b == 92 then To Backslash else (if b == 34 then Bad else Gives b)
escape_step Backslash b = if b == 120 then To HexHigh else giving (escape_value b)
escape_step HexHigh b = To (HexLow b)
escape_step (HexLow high) b = giving (pair_value high b)

abbrev pub can_text_end : EscapeState → Bool
can_text_end Plain = true
can_text_end Backslash = false
can_text_end HexHigh = false
can_text_end (HexLow high) = false

abbrev pub bytes_after_step : EscapeStep → (EscapeState → Option (List ℕ)) → Option (List ℕ)
bytes_after_step Bad more = None
bytes_after_step (To next) more = more next
bytes_after_step (Gives b) more = onto_bytes (Some b) (more Plain)

abbrev pub spelt_bytes_from : EscapeState → List ℕ → Option (List ℕ)
spelt_bytes_from state [] = if can_text_end state then Some [] else None
spelt_bytes_from state (b ∷ rest) = bytes_after_step (escape_step state b)
    (λ next. spelt_bytes_from next rest)

-- the bytes that a text stands for, or None where it isn't well spelt
abbrev pub spelt_bytes : List ℕ → Option (List ℕ)
spelt_bytes raw = spelt_bytes_from Plain raw

-- whether a text stands for these bytes
abbrev pub are_these_bytes : Option (List ℕ) → List ℕ → Bool
are_these_bytes (Some reported) bytes = bytes_eq reported bytes
are_these_bytes None bytes = false

abbrev pub is_spelling_of : List ℕ → List ℕ → Bool
is_spelling_of raw bytes = are_these_bytes (spelt_bytes raw) bytes
