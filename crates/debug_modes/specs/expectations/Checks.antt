-- Whether what a line EXPECT says is so, and if not, what is so instead.
use Rattle.std.specs.Prelude.{ℕ, ◌==◌, ◌&&◌, ◌++◌, nat_le, Bool, true, false, List, [], ◌∷◌, codes, Option, Some, None, Result, Ok, Err, unwrap_or, not, if◌then◌else◌}
use Rattle.std.specs.Fmt.{decimal}
use Rattle.std.specs.List.{list_any}
use Rattle.std.specs.Str.{bytes_eq}
use Rattle.std.specs.Str.Lines.{lines}
use Rattle.profile.specs.Digits.{hex_word}
use Rattle.profile.specs.Fault.{Fault}
use Rattle.address_map.specs.Bytes.{Bytes, byte_loaded, word_loaded}
use Rattle.arm_core.specs.State.{State, register_in, register_of}
use Rattle.arm_core.specs.declared.psr.Mode.{Mode}
use Rattle.arm_core.specs.declared.psr.Mode.TheVariants.{User, FastInterrupt, Interrupt, Supervisor}
use Rattle.arm_core.specs.declared.psr.Psr.{Psr}
use Rattle.debug_labels.specs.Memory.{hex_byte}
use Rattle.debug_labels.specs.Registers.{flags_and_mode_text}
use Rattle.debug_lines.specs.Expectations.{ExpectRequest, Register, Pc, Banked, Flags, Word, Byte, Answer, Line, Error, Output, Steps, StepsAtMost}
use Rattle.debug_lines.specs.Spelling.{is_spelling_of}
use Rattle.debug_lines.specs.Tidy.{tidied_line}
use Rattle.debug_lines.specs.declared.status.StatusPattern.{StatusPattern}
use Rattle.debug_labels.specs.Banks.{banked_name}
use Rattle.debug_labels.specs.Quoted.{quoted_text}

-- What an expectation is about: the core and the memory, the last answer without what the guest
-- printed, what it printed in the last line that takes steps, and how many steps that took.
pub record Seen : Type 0 where
  pub cpu : State
  pub bytes : Bytes
  pub answer : List ℕ
  pub output : List ℕ
  pub steps : ℕ

abbrev pub reason_unless : Bool → List ℕ → Option (List ℕ)
reason_unless true reason = None
reason_unless false reason = Some reason

-- `R0 is 00000004`, `PC is 00008004`
abbrev pub value_reason : List ℕ → ℕ → List ℕ
value_reason name value = name ++ (codes " is " ++ hex_word value)

abbrev pub register_name : ℕ → List ℕ
register_name n = codes "R" ++ decimal n

-- `PSR is nzCvif USR`
abbrev pub status_reason : Psr → List ℕ
status_reason p = codes "PSR is " ++ flags_and_mode_text p

-- `[00009000] is 00000005`, `[00009000] is unmapped`
abbrev pub place_reason : ℕ → List ℕ → List ℕ
place_reason address value = codes "[" ++ (hex_word address ++ (codes "] is " ++ value))

abbrev pub loaded_or_unmapped : (ℕ → List ℕ) → Result ℕ Fault → List ℕ
loaded_or_unmapped text (Ok value) = text value
loaded_or_unmapped text (Err fault) = codes "unmapped"

abbrev pub is_loaded : ℕ → Result ℕ Fault → Bool
is_loaded value (Ok loaded) = loaded == value
is_loaded value (Err fault) = false

-- the last of some lines, or another where there are none
unfoldable pub last_line_or : List ℕ → List (List ℕ) → List ℕ
last_line_or last [] = last
last_line_or last (line ∷ rest) = last_line_or line rest

-- the last line of a text, an empty one where there is none
abbrev pub last_line : List ℕ → List ℕ
last_line text = last_line_or [] (lines text)

-- A line is a text where its words are: blanks count as one space.
abbrev pub is_line_of_words : List ℕ → List ℕ → Bool
is_line_of_words text line = bytes_eq (tidied_line line) text

-- `the answer is error 9`
abbrev pub answer_reason : List ℕ → List ℕ
answer_reason answer = codes "the answer is " ++ last_line answer

abbrev pub no_line_reason : List ℕ
no_line_reason = codes "the answer has no such line"

-- how a store call is answered that was refused with that error
abbrev pub error_answer : ℕ → List ℕ
error_answer number = codes "error " ++ decimal number

-- `6 steps were taken`
abbrev pub steps_reason : ℕ → List ℕ
steps_reason steps = decimal steps ++ codes " steps were taken"

-- `the output is "H"`
abbrev pub output_reason : List ℕ → List ℕ
output_reason output = codes "the output is " ++ quoted_text output

-- a flag, where the pattern shows it
abbrev pub is_flag : Option Bool → Bool → Bool
is_flag None flag = true
is_flag (Some true) flag = flag
is_flag (Some false) flag = not flag

abbrev pub is_mode : Mode → Mode → Bool
is_mode User User = true
is_mode FastInterrupt FastInterrupt = true
is_mode Interrupt Interrupt = true
is_mode Supervisor Supervisor = true
is_mode one other = false

abbrev pub is_mode_answer : Option Mode → Mode → Bool
is_mode_answer None mode = true
is_mode_answer (Some reported) mode = is_mode reported mode

abbrev pub has_status : StatusPattern → Psr → Bool
has_status p s = is_flag p.negative s.negative && (is_flag p.zero s.zero && (is_flag p.carry s.carry
    && (is_flag p.overflow s.overflow && (is_flag p.interrupts_off s.interrupts_off
    && (is_flag p.fast_interrupts_off s.fast_interrupts_off && is_mode_answer p.mode s.mode)))))

-- why what should be so isn't; nothing where it is so
abbrev pub check_answer : Seen → ExpectRequest → Option (List ℕ)
check_answer s (Register n v) = reason_unless (register_of s.cpu n == v)
    (value_reason (register_name n) (register_of s.cpu n))
check_answer s (Pc v) = reason_unless (s.cpu.pc == v) (value_reason (codes "PC") s.cpu.pc)
check_answer s (Banked mode n v) = reason_unless (register_in mode s.cpu n == v)
    (value_reason (banked_name mode n) (register_in mode s.cpu n))
check_answer s (Flags p) = reason_unless (has_status p s.cpu.psr) (status_reason s.cpu.psr)
check_answer s (Word address v) = reason_unless (is_loaded v (word_loaded s.bytes address))
    (place_reason address (loaded_or_unmapped hex_word (word_loaded s.bytes address)))
check_answer s (Byte address v) = reason_unless (is_loaded v (byte_loaded s.bytes address))
    (place_reason address (loaded_or_unmapped hex_byte (byte_loaded s.bytes address)))
check_answer s (Answer text) = reason_unless (is_line_of_words text (last_line s.answer))
    (answer_reason s.answer)
check_answer s (Line text) = reason_unless (list_any (is_line_of_words text) (lines s.answer))
    no_line_reason
check_answer s (Error number) = reason_unless (bytes_eq (last_line s.answer) (error_answer number))
    (answer_reason s.answer)
check_answer s (Output raw) = reason_unless (is_spelling_of raw s.output)
    (output_reason s.output)
check_answer s (Steps n) = reason_unless (s.steps == n) (steps_reason s.steps)
check_answer s (StepsAtMost n) = reason_unless (nat_le s.steps n) (steps_reason s.steps)

-- a status with what a pattern shows; all else stays
abbrev pub status_after_pattern : StatusPattern → Psr → Psr
status_after_pattern p s = record {
  negative = unwrap_or p.negative s.negative;
  zero = unwrap_or p.zero s.zero;
  carry = unwrap_or p.carry s.carry;
  overflow = unwrap_or p.overflow s.overflow;
  interrupts_off = unwrap_or p.interrupts_off s.interrupts_off;
  fast_interrupts_off = unwrap_or p.fast_interrupts_off s.fast_interrupts_off;
  mode = unwrap_or p.mode s.mode;
}
