-- What a line EXPECT says should be so, by what stands behind the word EXPECT.
use Rattle.std.specs.Prelude.{ℕ, Bool, true, false, List, [], ◌∷◌, codes, Option, Some, None, option_map, option_and_then, is_some, if◌then◌else◌}
use Rattle.std.specs.Str.{bytes_eq}
use Rattle.arm_core.specs.declared.psr.Mode.{Mode}
use Rattle.command_shell_lines.specs.Numbers.{script_number}
use Rattle.command_shell_lines.specs.Operands.{word_address}
use Rattle.command_shell_lines.specs.Requests.{is_same_word, words}
use Rattle.debug_lines.specs.declared.status.StatusPattern.{StatusPattern}
use Rattle.debug_lines.specs.declared.expectations.Expectation.{Expectation}
use Rattle.debug_lines.specs.declared.expectations.Expectation.TheVariants as expectation
use Rattle.command_shell_lines.specs.debug_words.ErrorNumbers.{error_shown}
use Rattle.debug_lines.specs.Registers.{register_of_name, banked_register_named}
use Rattle.command_shell_lines.specs.debug_words.Spelling.{spelt_bytes}
use Rattle.command_shell_lines.specs.debug_words.Texts.{between_quotes, byte_value, text_behind}
use Rattle.debug_lines.specs.Status.{status_of_word, status_of_two}
use Rattle.command_shell_lines.specs.debug_words.Values.{value_shown}

pub data ExpectRequest : Type 0 where
  -- a register as the machine's mode has it, 0 to 14, and its value
  Register : ℕ → ℕ → ExpectRequest
  Pc : ℕ → ExpectRequest
  -- a register as a mode has it
  Banked : Mode → ℕ → ℕ → ExpectRequest
  Flags : StatusPattern → ExpectRequest
  Word : ℕ → ℕ → ExpectRequest
  Byte : ℕ → ℕ → ExpectRequest
  Answer : List ℕ → ExpectRequest
  Line : List ℕ → ExpectRequest
  Error : ℕ → ExpectRequest
  -- the text between the quotes, as it is spelt
  Output : List ℕ → ExpectRequest
  Steps : ℕ → ExpectRequest
  StepsAtMost : ℕ → ExpectRequest

-- a text that is well spelt
abbrev pub well_spelt : List ℕ → Option (List ℕ)
well_spelt raw = if is_some (spelt_bytes raw) then Some raw else None

abbrev pub expect_both : Option ℕ → Option ℕ → (ℕ → ℕ → ExpectRequest) → Option ExpectRequest
expect_both (Some n) (Some m) request = Some (request n m)
expect_both (Some n) None request = None
expect_both None second request = None

-- the value of R0 to R14, SP, LR or a register of a mode
abbrev pub expect_in_register : Option ℕ → Option (Mode × ℕ) → ℕ → Option ExpectRequest
expect_in_register (Some n) banked value = Some (Register n value)
expect_in_register None (Some place) value = Some (Banked place.0 place.1 value)
expect_in_register None None value = None

abbrev pub expect_value : List ℕ → ℕ → Option ExpectRequest
expect_value what value = if is_same_word what (codes "PC") then Some (Pc value)
    else expect_in_register (register_of_name what) (banked_register_named what) value

-- two words
abbrev pub expect_of_two : List ℕ → List ℕ → Option ExpectRequest
expect_of_two what value =
    if is_same_word what (codes "FLAGS") then option_map Flags (status_of_word value) else (
    if is_same_word what (codes "ERROR") then option_map Error (error_shown value) else (
    if is_same_word what (codes "STEPS") then option_map Steps (script_number value) else
    option_and_then (expect_value what) (value_shown value)))

abbrev pub expect_steps : Bool → Option ℕ → Option ExpectRequest
expect_steps true count = option_map StepsAtMost count
expect_steps false count = None

-- three words
abbrev pub expect_of_three : List ℕ → List ℕ → List ℕ → Option ExpectRequest
expect_of_three what first second =
    if is_same_word what (codes "FLAGS") then option_map Flags (status_of_two first second) else (
    if is_same_word what (codes "WORD") then expect_both (word_address first) (value_shown second) Word else (
    if is_same_word what (codes "BYTE") then expect_both (script_number first) (byte_value second) Byte else (
    if is_same_word what (codes "STEPS") then expect_steps (bytes_eq first (codes "<="))
    (script_number second)
    else
    None)))

abbrev pub expect_of_words : List (List ℕ) → Option ExpectRequest
expect_of_words (what ∷ value ∷ []) = expect_of_two what value
expect_of_words (what ∷ first ∷ second ∷ []) = expect_of_three what first second
expect_of_words _ = None

-- a text in quotes that is well spelt
abbrev pub expect_output : List ℕ → Option ExpectRequest
expect_output text = option_map Output (option_and_then well_spelt (between_quotes text))

-- ANSWER and LINE have all that follows as their text.
abbrev pub expect_of_texts : Option (List ℕ) → Option (List ℕ) → Option (List ℕ) → List (List ℕ)
    → Option ExpectRequest
expect_of_texts (Some answer) line output others = Some (Answer answer)
expect_of_texts None (Some line) output others = Some (Line line)
expect_of_texts None None (Some output) others = expect_output output
expect_of_texts None None None others = expect_of_words others

unfoldable pub expect_request : List ℕ → Option ExpectRequest
expect_request text = expect_of_texts (text_behind (codes "ANSWER ") text)
    (text_behind (codes "LINE ") text) (text_behind (codes "OUTPUT ") text) (words text)

-- the expectations that the code tells apart, as the lines that they stand for
abbrev pub expect_request_of : Expectation → ExpectRequest
expect_request_of (expectation.Register register value) = Register register value
expect_request_of (expectation.Pc value) = Pc value
expect_request_of (expectation.Banked mode register value) = Banked mode register value
expect_request_of (expectation.Flags pattern) = Flags pattern
expect_request_of (expectation.Word address value) = Word address value
expect_request_of (expectation.Byte address value) = Byte address value
expect_request_of (expectation.Answer text) = Answer text.now
expect_request_of (expectation.Line text) = Line text.now
expect_request_of (expectation.Error number) = Error number
expect_request_of (expectation.Output raw) = Output raw.now
expect_request_of (expectation.Steps count) = Steps count
expect_request_of (expectation.StepsAtMost count) = StepsAtMost count
