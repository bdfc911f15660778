-- What a line STUB asks for: a SWI's number, and then, word by word, registers with their values, flags as
-- `C=1`, addresses with the words that are stored there, and at the end `AT` and the address of code that
-- is entered.
use Rattle.std.specs.Prelude.{ℕ, Bool, true, false, ◌+◌, ◌*◌, ◌==◌, ◌||◌, nat_le, List, [], ◌∷◌, ◌++◌, length, codes, Option, Some, None, is_some, option_map, option_and_then, if◌then◌else◌}
use Rattle.command_shell_lines.specs.Numbers.{script_number}
use Rattle.command_shell_lines.specs.Operands.{cpu_register_named, origin_of, word_address}
use Rattle.command_shell_lines.specs.Requests.{is_same_word, words}
use Rattle.command_shell_lines.specs.debug_words.Values.{swi_shown}
use Rattle.command_shell_lines.specs.declared.debug_words.stubs.Stub.{Stub}
use Rattle.command_shell_lines.specs.declared.debug_words.stubs.StubFlags.{StubFlags}

-- that says nothing but its SWI
abbrev pub empty_stub : ℕ → Stub
empty_stub number = record {
  number = number;
  registers = record { items = [] };
  flags = record { negative = None; zero = None; carry = None; overflow = None };
  at = 0;
  words = record { items = [] };
  entry = None;
}

-- `C=1`: the letter, `=` (61), and 1 (49) or 0 (48)
abbrev pub flag_by : ℕ → ℕ → Option (ℕ × Bool)
flag_by letter digit =
    if digit == 49 then Some (letter, true) else (if digit == 48 then Some (letter, false) else None)

abbrev pub flag_shown : List ℕ → Option (ℕ × Bool)
flag_shown (letter ∷ sign ∷ digit ∷ []) = if sign == 61 then flag_by letter digit else None
flag_shown _ = None

-- a flag that no word before it has set
abbrev pub flag_set_once : Option Bool → Bool → Option (Option Bool)
flag_set_once None is_set = Some (Some is_set)
flag_set_once (Some before) is_set = None

-- a letter in either case
abbrev pub is_flag_letter : ℕ → ℕ → Bool
is_flag_letter capital letter = letter == capital || letter == capital + 32

-- one flag more: N 78, Z 90, C 67, V 86
abbrev pub with_flag : StubFlags → ℕ → Bool → Option StubFlags
with_flag f letter is_set =
    if is_flag_letter 78 letter then option_map (λ flag. record f { negative = flag })
    (flag_set_once f.negative is_set) else (
    if is_flag_letter 90 letter then option_map (λ flag. record f { zero = flag }) (flag_set_once f.zero is_set) else (
    if is_flag_letter 67 letter then option_map (λ flag. record f { carry = flag }) (flag_set_once f.carry is_set) else (
    if is_flag_letter 86 letter then option_map (λ flag. record f { overflow = flag })
    (flag_set_once f.overflow is_set) else
    None)))

abbrev pub stub_with_flag : Stub → ℕ → Bool → Option Stub
stub_with_flag stub letter is_set =
    option_map (λ flags. record stub { flags = flags }) (with_flag stub.flags letter is_set)

-- at most 8 registers
abbrev pub stub_with_register : Stub → ℕ → Option ℕ → Option Stub
stub_with_register stub register (Some value) = if nat_le 8 (length stub.registers.items) then None else
    Some (record stub {
      registers = record {
        items = stub.registers.items ++ record { register = register; value = value } ∷ [];
      };
    })
stub_with_register stub register None = None

-- at most 8 words, one behind another
abbrev pub word_follows : Stub → ℕ → Bool
word_follows stub address =
    length stub.words.items == 0 || address == stub.at + 4 * length stub.words.items

abbrev pub stub_with_word : Stub → Option ℕ → Option ℕ → Option Stub
stub_with_word stub (Some address) (Some word) =
    if nat_le 8 (length stub.words.items) then None else (
    if word_follows stub address then Some (record stub {
      at = if length stub.words.items == 0 then address else stub.at;
      words = record { items = stub.words.items ++ word ∷ [] };
    }) else
    None)
stub_with_word stub (Some address) None = None
stub_with_word stub None word = None

-- the code that is entered, where no words are stored
abbrev pub stub_entering : Stub → Option ℕ → Option Stub
stub_entering stub (Some address) =
    if length stub.words.items == 0 then Some (record stub { entry = Some address }) else None
stub_entering stub None = None

abbrev pub stub_by_register : Stub → Option ℕ → List ℕ → List ℕ → Option Stub
stub_by_register stub (Some register) first second = stub_with_register stub register (script_number second)
stub_by_register stub None first second = stub_with_word stub (word_address first) (script_number second)

-- two words more
abbrev pub stub_with_pair : Stub → List ℕ → List ℕ → Option Stub
stub_with_pair stub first second =
    if is_same_word first (codes "AT") then stub_entering stub (origin_of second)
    else stub_by_register stub (cpu_register_named first) first second

-- What was read of a line, and the first of two words, where that alone was read. Nothing stands behind the
-- code that is entered.
pub record StubRead : Type 0 where
  pub stub : Stub
  pub first : Option (List ℕ)

abbrev pub read_alone : Stub → Option Stub → Option StubRead
read_alone stub (Some next) = Some (record { stub = next; first = None })
read_alone stub None = None

abbrev pub read_first : Stub → List ℕ → Option (ℕ × Bool) → Option StubRead
read_first stub word (Some flag) = read_alone stub (stub_with_flag stub flag.0 flag.1)
read_first stub word None = Some (record { stub = stub; first = Some word })

abbrev pub read_behind : Stub → Option (List ℕ) → List ℕ → Option StubRead
read_behind stub (Some first) word = read_alone stub (stub_with_pair stub first word)
read_behind stub None word = read_first stub word (flag_shown word)

abbrev pub read_word : StubRead → List ℕ → Option StubRead
read_word r word = if is_some r.stub.entry then None else read_behind r.stub r.first word

-- word by word
abbrev pub read_stub_words : StubRead → List (List ℕ) → Option StubRead
read_stub_words r [] = Some r
read_stub_words r (word ∷ others) = option_and_then (λ s. read_stub_words s others) (read_word r word)

-- no word may be missing
abbrev pub whole_stub : StubRead → Option Stub
whole_stub r = if is_some r.first then None else Some r.stub

abbrev pub stub_of_number : Option ℕ → List (List ℕ) → Option Stub
stub_of_number (Some number) items =
    option_and_then whole_stub (read_stub_words (record { stub = empty_stub number; first = None }) items)
stub_of_number None items = None

abbrev pub stub_of_words : List (List ℕ) → Option Stub
stub_of_words [] = None
stub_of_words (number ∷ items) = stub_of_number (swi_shown number) items

-- what stands behind the word STUB
abbrev pub stub_of_line : List ℕ → Option Stub
stub_of_line text = stub_of_words (words text)
