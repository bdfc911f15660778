-- What lines that name bytes have behind their word: an address, how many bytes, and the bytes.
use Rattle.std.specs.Prelude.{ℕ, ◌==◌, ◌+◌, List, take, drop, is_some, Option, Some, None, option_map, if◌then◌else◌}
use Rattle.std.specs.List.{position}
use Rattle.command_shell_lines.specs.Numbers.{script_number}
use Rattle.command_shell_lines.specs.Operands.{count_up_to}
use Rattle.command_shell_lines.specs.debug_words.NamedBytes.{named_bytes}
use Rattle.debug_lines.specs.declared.byte_lines.CountedBytes.{CountedBytes}

-- a word, and what stands behind its space (32)
abbrev pub word_and_rest : List ℕ → Option (List ℕ × List ℕ)
word_and_rest text = option_map (λ place. (take place text, drop (place + 1) text))
    (position (λ b. b == 32) text)

abbrev pub count_and_bytes : Option ℕ → Option ℕ → List ℕ → Option (ℕ × (ℕ × List ℕ))
count_and_bytes (Some address) (Some count) text =
    if is_some (named_bytes text) then Some (address, (count, text)) else None
count_and_bytes (Some address) None text = None
count_and_bytes None count text = None

abbrev pub counted_behind : ℕ → List ℕ → Option (List ℕ × List ℕ) → Option (ℕ × (ℕ × List ℕ))
counted_behind most address (Some parts) =
    count_and_bytes (script_number address) (count_up_to most parts.0) parts.1
counted_behind most address None = None

abbrev pub counted_parts : ℕ → Option (List ℕ × List ℕ) → Option (ℕ × (ℕ × List ℕ))
counted_parts most (Some parts) = counted_behind most parts.0 (word_and_rest parts.1)
counted_parts most None = None

-- an address, a number up to the most, and a text that names bytes
abbrev pub counted_bytes : ℕ → List ℕ → Option (ℕ × (ℕ × List ℕ))
counted_bytes most text = counted_parts most (word_and_rest text)

-- as the code holds it
abbrev pub address_count_and_text : CountedBytes → ℕ × (ℕ × List ℕ)
address_count_and_text counted = (counted.address, (counted.count, counted.text.now))
