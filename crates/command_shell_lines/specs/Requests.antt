-- What a line of a script asks for, by its words. Words are parted by single spaces; a command word
-- may be in upper or lower case.
use Rattle.std.specs.Prelude.{ℕ, Bool, true, false, ◌==◌, ◌&&◌, nat_lt, Option, Some, None, if◌then◌else◌, List, [], ◌∷◌, length, map, take, drop, codes}
use Rattle.std.specs.Char.{to_ascii_lowercase}
use Rattle.std.specs.List.{slice_split}
use Rattle.std.specs.Str.{bytes_eq}
use Rattle.assembler_text.specs.Entries.{can_name_image}
use Rattle.command_shell_lines.specs.Numbers.{script_number}
use Rattle.command_shell_lines.specs.Operands.{cpu_register_named, word_address, origin_of, count_up_to}
use Rattle.command_shell_lines.specs.declared.requests.ScriptCommand.{ScriptCommand}
use Rattle.command_shell_lines.specs.declared.requests.ScriptCommand.TheVariants as command

pub data Request : Type 0 where
  Nothing : Request
  Hex : List ℕ → Request
  Asm : List ℕ → ℕ → Request
  Boot : List ℕ → Request
  Run : Request
  Regs : Request
  Set : ℕ → ℕ → Request
  Poke : ℕ → ℕ → Request
  Call : ℕ → Request
  Load : List ℕ → Request
  Step : ℕ → Request
  Break : ℕ → Request
  Unbreak : ℕ → Request
  Mem : ℕ → ℕ → Request
  Code : ℕ → ℕ → Request
  Heap : ℕ → Request
  Areas : Request
  Modules : Request
  Flex : Request
  Unknown : Request

-- whether the lines that follow are a block of the request's own
abbrev pub opens_block : Request → Bool
opens_block (Hex name) = true
opens_block (Asm name origin) = true
opens_block request = false

-- equal but for the case of ASCII letters
abbrev pub is_same_word : List ℕ → List ℕ → Bool
is_same_word word command = bytes_eq (map to_ascii_lowercase word) (map to_ascii_lowercase command)

abbrev pub words : List ℕ → List (List ℕ)
words line = slice_split (λ b. b == 32) line

-- a line of one word: an empty line is one
abbrev pub request_of_word : List ℕ → Request
request_of_word word =
    if length word == 0 then Nothing else (
    if is_same_word word (codes "RUN") then Run else (
    if is_same_word word (codes "REGS") then Regs else (
    if is_same_word word (codes "AREAS") then Areas else (
    if is_same_word word (codes "MODULES") then Modules else (
    if is_same_word word (codes "FLEX") then Flex else
    Unknown)))))

-- a line of a word and a name that an image can have
abbrev pub request_if_named : Bool → Request → Request
request_if_named true request = request
request_if_named false request = Unknown

abbrev pub request_if_number : Option ℕ → (ℕ → Request) → Request
request_if_number (Some n) request = request n
request_if_number None request = Unknown

-- a line of a word and a number
abbrev pub request_of_number : List ℕ → ℕ → Request
request_of_number word number =
    if is_same_word word (codes "CALL") then Call number else (
    if is_same_word word (codes "STEP") then Step number else (
    if is_same_word word (codes "BREAK") then Break number else (
    if is_same_word word (codes "UNBREAK") then Unbreak number else (
    if is_same_word word (codes "HEAP") then Heap number else
    Unknown))))

-- a line of two words
abbrev pub request_of_two : List ℕ → List ℕ → Request
request_of_two word other =
    if is_same_word word (codes "HEX") then request_if_named (can_name_image other) (Hex other) else (
    if is_same_word word (codes "BOOT") then request_if_named (can_name_image other) (Boot other) else
    request_if_number (script_number other) (request_of_number word))

abbrev pub both_numbered : Option ℕ → Option ℕ → (ℕ → ℕ → Request) → Request
both_numbered (Some n) (Some m) request = request n m
both_numbered (Some n) None request = Unknown
both_numbered None second request = Unknown

-- a line of a word, a name that an image can have and an address
abbrev pub named_at : Bool → List ℕ → Option ℕ → Request
named_at true name (Some origin) = Asm name origin
named_at true name None = Unknown
named_at false name origin = Unknown

-- a line of three words
abbrev pub request_of_three : List ℕ → List ℕ → List ℕ → Request
request_of_three word first second =
    if is_same_word word (codes "ASM") then named_at (can_name_image first) first (origin_of second) else (
    if is_same_word word (codes "SET") then both_numbered (cpu_register_named first)
    (script_number second) Set else (
    if is_same_word word (codes "POKE") then both_numbered (word_address first) (script_number second) Poke
    else (
    if is_same_word word (codes "MEM") then both_numbered (script_number first) (count_up_to 4096 second) Mem
    else (
    if is_same_word word (codes "CODE") then both_numbered (word_address first) (count_up_to 1024 second) Code
    else
    Unknown))))

abbrev pub request_of_words : List (List ℕ) → Request
request_of_words [] = Unknown
request_of_words (word ∷ []) = request_of_word word
request_of_words (word ∷ other ∷ []) = request_of_two word other
request_of_words (word ∷ first ∷ second ∷ []) = request_of_three word first second
request_of_words (word ∷ first ∷ second ∷ third ∷ others) = Unknown

-- LOAD has a text of a byte at least: all that follows its space, other spaces too.
abbrev pub is_load : List ℕ → Bool
is_load line = nat_lt 5 (length line) && is_same_word (take 5 line) (codes "LOAD ")

abbrev pub request_of : List ℕ → Request
request_of line = if is_load line then Load (drop 5 line) else request_of_words (words line)

-- the line that ends a block
abbrev pub is_end_of_block : List ℕ → Bool
is_end_of_block line = is_same_word line (codes "END")

-- the lines that the code tells apart, as the requests that they stand for
abbrev pub request_of_command : ScriptCommand → Request
request_of_command command.Nothing = Nothing
request_of_command (command.Hex name) = Hex name.now
request_of_command (command.Asm name origin) = Asm name.now origin
request_of_command (command.Boot name) = Boot name.now
request_of_command command.Run = Run
request_of_command command.Regs = Regs
request_of_command (command.Set register value) = Set register value
request_of_command (command.Poke address value) = Poke address value
request_of_command (command.Call number) = Call number
request_of_command (command.Load text) = Load text.now
request_of_command (command.Step count) = Step count
request_of_command (command.Break address) = Break address
request_of_command (command.Unbreak address) = Unbreak address
request_of_command (command.Mem address count) = Mem address count
request_of_command (command.Code address count) = Code address count
request_of_command (command.Heap address) = Heap address
request_of_command command.Areas = Areas
request_of_command command.Modules = Modules
request_of_command command.Flex = Flex
request_of_command command.Unknown = Unknown
