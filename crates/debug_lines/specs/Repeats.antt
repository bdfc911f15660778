-- A line that is to be answered many times: what stands behind REPEAT and a number, whatever it asks
-- for, and as the code holds it.
use Rattle.std.specs.Prelude.{ℕ, ◌==◌, ◌+◌, nat_lt, List, codes, drop, take, Option, Some, None, if◌then◌else◌}
use Rattle.std.specs.List.{position}
use Rattle.command_shell_lines.specs.Numbers.{script_number}
use Rattle.command_shell_lines.specs.debug_words.Texts.{text_behind}
use Rattle.debug_lines.specs.declared.repeats.RepeatedLine.{RepeatedLine}

abbrev pub count_and_line : RepeatedLine → ℕ × List ℕ
count_and_line repeated = (repeated.count, repeated.line.now)

-- a number from 1 on
abbrev pub counted_text : Option ℕ → List ℕ → Option (ℕ × List ℕ)
counted_text (Some count) text = if nat_lt 0 count then Some (count, text) else None
counted_text None text = None

-- a number, a space and a text
abbrev pub counted_text_at : Option ℕ → List ℕ → Option (ℕ × List ℕ)
counted_text_at (Some place) text = counted_text (script_number (take place text)) (drop (place + 1) text)
counted_text_at None text = None

abbrev pub counted_text_behind : Option (List ℕ) → Option (ℕ × List ℕ)
counted_text_behind (Some text) = counted_text_at (position (λ b. b == 32) text) text
counted_text_behind None = None

-- what stands behind `REPEAT n` of a tidy line, and how often it is to be answered
unfoldable pub repeated_text : List ℕ → Option (ℕ × List ℕ)
repeated_text line = counted_text_behind (text_behind (codes "REPEAT ") line)
