-- What a tidy line means where words of it may name places: a line that means something as it stands
-- is that line, and any other is read with the numbers of the places.
use Rattle.std.specs.Prelude.{ℕ, List, ◌++◌, ◌∷◌, [], Option, Some, None, Result, Ok, if◌then◌else◌}
use Rattle.std.specs.Option.{option_or}
use Rattle.profile.specs.images.Entries.{Entry, bytes_of_image}
use Rattle.debug_tables.specs.Passes.{labels_of_lines}
use Rattle.debug_tables.specs.AsmError.{AsmError}
use Rattle.command_shell_lines.specs.Labels.{Entries}
use Rattle.command_shell_lines.specs.Requests.{Request, Asm}
use Rattle.command_shell_lines.specs.debug_words.Texts.{before_quote, from_quote}
use Rattle.debug_modules.specs.Labels.{ImageLabels, labels_of_image}
use Rattle.debug_modules.specs.DebugLabelsLines.{LineNaming, line_with_numbers}
use Rattle.debug_lines.specs.DebugRequests.{DebugRequest, NotKnown, is_known, is_repeatable, repeated_line, simple_request}
use Rattle.debug_lines.specs.Repeats.{repeated_text}
use Rattle.debug_modules.specs.Places.{line_naming_on}
use Rattle.debug_session.specs.DebugState.{DebugState}

-- LABELS

abbrev pub labels_with_image : List ImageLabels → List ℕ → ℕ → Option (List ℕ) → Result Entries AsmError
    → List ImageLabels
labels_with_image labels name origin (Some bytes) (Ok entries) =
    labels ++ labels_of_image name bytes origin entries ∷ []
labels_with_image labels name origin bytes entries = labels

-- with those of the image that an ASM block has made
abbrev pub labels_with_block : List ImageLabels → List Entry → Request → List (List ℕ) → List ImageLabels
labels_with_block labels images (Asm name origin) block =
    labels_with_image labels name origin (bytes_of_image images name) (labels_of_lines block origin)
labels_with_block labels images request block = labels

-- WORDS THAT NAME PLACES

-- what words are read by now
abbrev pub naming_of : DebugState → LineNaming
naming_of d = line_naming_on d.labels d.script.machine

-- a line with the numbers of the places that it names, up to a text in quotes: no word of that names one
abbrev pub numbered_line : LineNaming → List ℕ → List ℕ
numbered_line n line = line_with_numbers n (before_quote line) ++ from_quote line

-- a line with numbers opens no block
abbrev pub unless_alone : DebugRequest → DebugRequest
unless_alone request = if is_repeatable request then request else NotKnown

-- what a tidy line asks for that is no REPEAT
abbrev pub meant_request : LineNaming → List ℕ → DebugRequest
meant_request n line = if is_known (simple_request line) then simple_request line
    else unless_alone (simple_request (numbered_line n line))

abbrev pub if_repeatable : LineNaming → Option (ℕ × List ℕ) → Option (ℕ × List ℕ)
if_repeatable n (Some repeated) = if is_repeatable (meant_request n repeated.1) then Some repeated else None
if_repeatable n None = None

-- what is repeated, and how often, of a line that means nothing as it stands
abbrev pub repeated_with_places : LineNaming → List ℕ → Option (ℕ × List ℕ)
repeated_with_places n line = if is_known (simple_request line) then None else if_repeatable n
    (repeated_text line)

-- what is repeated, and how often, of a tidy line
abbrev pub repeated_now : LineNaming → List ℕ → Option (ℕ × List ℕ)
repeated_now n line = option_or (repeated_line line) (repeated_with_places n line)
