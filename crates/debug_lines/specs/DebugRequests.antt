-- What a line of a debugging script asks for. A line is first read as a line of a script; only what is
-- none is made tidy and looked at further. Command words may be in upper or lower case.
use Rattle.std.specs.Prelude.{ℕ, Bool, true, false, ◌==◌, ◌&&◌, ◌||◌, ◌+◌, nat_lt, not, List, [], ◌∷◌, codes, drop, take, is_some, Option, Some, None, if◌then◌else◌}
use Rattle.std.specs.List.{position}
use Rattle.profile.specs.images.Entries.{can_name_image}
use Rattle.command_shell_lines.specs.Numbers.{script_number}
use Rattle.command_shell_lines.specs.Operands.{word_address, origin_of, count_up_to}
use Rattle.command_shell_lines.specs.Requests.{Request, Call, Poke, Set, Unknown, opens_block, request_of, request_of_command, is_same_word, words}
use Rattle.command_shell_lines.specs.Requests as script
use Rattle.command_shell_lines.specs.debug_words.NamedBytes.{named_bytes}
use Rattle.debug_lines.specs.ByteLines.{counted_bytes, word_and_rest}
use Rattle.debug_lines.specs.declared.status.StatusPattern.{StatusPattern}
use Rattle.debug_lines.specs.declared.requests.DebugCommand.{DebugCommand}
use Rattle.debug_lines.specs.declared.requests.DebugCommand.TheVariants as command
use Rattle.debug_lines.specs.declared.requests.DebugView.{DebugView}
use Rattle.debug_lines.specs.declared.requests.DebugView.TheVariants as view
use Rattle.command_shell_lines.specs.debug_words.Texts.{text_behind}
use Rattle.debug_lines.specs.Expectations.{ExpectRequest, expect_request, expect_request_of}
use Rattle.command_shell_lines.specs.debug_words.Forms.{form_of_word}
use Rattle.debug_lines.specs.ModeRequests.{ModeRequest, Trace, TraceLimit, mode_of_two, mode_request_of, stub_request}
use Rattle.debug_lines.specs.Status.{status_of_word, status_of_two}
use Rattle.debug_lines.specs.SteppingRequests.{SteppingRequest, Step, Finish, Gosub, RunLast, stepping_in, stepping_request_of}
use Rattle.debug_lines.specs.Registers.{register_of_name}
use Rattle.debug_lines.specs.Tidy.{tidied_line}
use Rattle.command_shell_lines.specs.debug_words.Values.{value_shown}
use Rattle.command_shell_lines.specs.debug_words.SwiNames.{swi_named}

-- what only looks
pub data ViewRequest : Type 0 where
  Words : ℕ → ℕ → ViewRequest
  Where : ViewRequest
  Banks : ViewRequest
  Stack : ℕ → ViewRequest
  Frames : ViewRequest
  Labels : ViewRequest
  Dump : ℕ → ℕ → ViewRequest
  Why : ViewRequest
  Help : ViewRequest
  -- where bytes stand, as a text names them: the first address that is looked at, and how many
  Find : ℕ → ℕ → List ℕ → ViewRequest
  -- the form of the lines that begin with a word
  Form : List ℕ → ViewRequest

pub data DebugRequest : Type 0 where
  -- what a line of a script asks for
  Script : Request → DebugRequest
  -- steps, and whether they are shown one by one; of a script's own lines only where they are
  Stepping : Bool → SteppingRequest → DebugRequest
  Mode : ModeRequest → DebugRequest
  Remark : DebugRequest
  View : ViewRequest → DebugRequest
  SetPc : ℕ → DebugRequest
  SetPsr : StatusPattern → DebugRequest
  -- an image's bytes to an address
  Put : List ℕ → ℕ → DebugRequest
  -- bytes to an address, as a text names them, and where they fill a range, of how many bytes
  Write : ℕ → Option ℕ → List ℕ → DebugRequest
  Forget : List ℕ → DebugRequest
  -- how often the steps of an image's words were taken
  Counts : List ℕ → DebugRequest
  Reset : DebugRequest
  Quit : DebugRequest
  Expect : ExpectRequest → DebugRequest
  -- a tidy line, so many times
  Repeat : ℕ → List ℕ → DebugRequest
  NotKnown : DebugRequest

-- whether a script has a line that asks for that
abbrev pub is_script_request : Request → Bool
is_script_request Unknown = false
is_script_request _ = true

-- a line without a word, or one that begins with `#` (35)
abbrev pub is_remark : List ℕ → Bool
is_remark [] = true
is_remark (first ∷ rest) = first == 35

-- the open frames have three names
abbrev pub is_frames_word : List ℕ → Bool
is_frames_word word = is_same_word word (codes "FRAMES")
    || (is_same_word word (codes "BACKTRACE") || is_same_word word (codes "BT"))

-- a line of one word
abbrev pub own_request_of_word : List ℕ → DebugRequest
own_request_of_word word =
    if is_same_word word (codes "WHERE") then View Where else (
    if is_same_word word (codes "BANKS") then View Banks else (
    if is_same_word word (codes "STACK") then View (Stack 8) else (
    if is_frames_word word then View Frames else (
    if is_same_word word (codes "LABELS") then View Labels else (
    if is_same_word word (codes "STEP") then Script (script.Step 1) else (
    if is_same_word word (codes "FINISH") then Stepping false Finish else (
    if is_same_word word (codes "RESET") then Reset else (
    if is_same_word word (codes "WHY") then View Why else (
    if is_same_word word (codes "HELP") then View Help else (
    if is_same_word word (codes "QUIT") then Quit else
    NotKnown))))))))))

abbrev pub stack_of : Option ℕ → DebugRequest
stack_of (Some count) = View (Stack count)
stack_of None = NotKnown

-- where the name is one that an image can have
abbrev pub of_image : List ℕ → DebugRequest → DebugRequest
of_image name request = if can_name_image name then request else NotKnown

abbrev pub gosub_to : Option ℕ → DebugRequest
gosub_to (Some address) = Stepping false (Gosub address)
gosub_to None = NotKnown

-- a store call by its name
abbrev pub named_call : Option ℕ → DebugRequest
named_call (Some number) = Script (Call number)
named_call None = NotKnown

abbrev pub help_of : Option (List ℕ) → DebugRequest
help_of (Some form) = View (Form form)
help_of None = NotKnown

abbrev pub mode_line : Option ModeRequest → DebugRequest
mode_line (Some request) = Mode request
mode_line None = NotKnown

-- a line of two words
abbrev pub own_request_of_two : List ℕ → List ℕ → DebugRequest
own_request_of_two word other =
    if is_same_word word (codes "STACK") then stack_of (count_up_to 1024 other) else (
    if is_same_word word (codes "FORGET") then of_image other (Forget other) else (
    if is_same_word word (codes "COUNTS") then of_image other (Counts other) else (
    if is_same_word word (codes "GOSUB") then gosub_to (origin_of other) else (
    if is_same_word word (codes "CALL") then named_call (swi_named other) else (
    if is_same_word word (codes "HELP") then help_of (form_of_word other) else
    mode_line (mode_of_two word other))))))

abbrev pub words_at : Option ℕ → Option ℕ → DebugRequest
words_at (Some address) (Some count) = View (Words address count)
words_at (Some address) None = NotKnown
words_at None count = NotKnown

abbrev pub dump_at : Option ℕ → Option ℕ → DebugRequest
dump_at (Some address) (Some count) = View (Dump address count)
dump_at (Some address) None = NotKnown
dump_at None count = NotKnown

abbrev pub set_pc_to : Option ℕ → DebugRequest
set_pc_to (Some address) = SetPc address
set_pc_to None = NotKnown

abbrev pub set_psr_to : Option StatusPattern → DebugRequest
set_psr_to (Some pattern) = SetPsr pattern
set_psr_to None = NotKnown

-- two numbers for what a line of a script sets
abbrev pub script_of_two : Option ℕ → Option ℕ → (ℕ → ℕ → Request) → DebugRequest
script_of_two (Some place) (Some value) request = Script (request place value)
script_of_two (Some place) None request = NotKnown
script_of_two None value request = NotKnown

abbrev pub set_request : List ℕ → List ℕ → DebugRequest
set_request what value =
    if is_same_word what (codes "PC") then set_pc_to (origin_of value) else (
    if is_same_word what (codes "PSR") then set_psr_to (status_of_word value) else
    script_of_two (register_of_name what) (value_shown value) Set)

abbrev pub put_at : Bool → List ℕ → Option ℕ → DebugRequest
put_at true name (Some address) = Put name address
put_at true name None = NotKnown
put_at false name address = NotKnown

-- a line of three words
abbrev pub own_request_of_three : List ℕ → List ℕ → List ℕ → DebugRequest
own_request_of_three word first second =
    if is_same_word word (codes "WORDS") then words_at (word_address first) (count_up_to 1024 second) else (
    if is_same_word word (codes "SET") then set_request first second else (
    if is_same_word word (codes "PUT") then put_at (can_name_image first) first (script_number second) else (
    if is_same_word word (codes "DUMP") then dump_at (script_number first) (count_up_to 4096 second) else
    NotKnown)))

abbrev pub set_psr_of_two : List ℕ → List ℕ → List ℕ → DebugRequest
set_psr_of_two what letters mode =
    if is_same_word what (codes "PSR") then set_psr_to (status_of_two letters mode) else NotKnown

-- a line of four words
abbrev pub own_request_of_four : List ℕ → List ℕ → List ℕ → List ℕ → DebugRequest
own_request_of_four word first second third =
    if is_same_word word (codes "SET") then set_psr_of_two first second third else NotKnown

abbrev pub own_request_of_words : List (List ℕ) → DebugRequest
own_request_of_words (word ∷ []) = own_request_of_word word
own_request_of_words (word ∷ other ∷ []) = own_request_of_two word other
own_request_of_words (word ∷ first ∷ second ∷ []) = own_request_of_three word first second
own_request_of_words (word ∷ first ∷ second ∷ third ∷ []) = own_request_of_four word first second third
own_request_of_words _ = NotKnown

abbrev pub expect_line : Option ExpectRequest → DebugRequest
expect_line (Some expected) = Expect expected
expect_line None = NotKnown

-- LINES THAT NAME BYTES

abbrev pub write_at : Option ℕ → List ℕ → DebugRequest
write_at (Some address) text = if is_some (named_bytes text) then Write address None text else NotKnown
write_at None text = NotKnown

-- a word's value to the address of a word, or bytes to any address
abbrev pub poke_by : Option ℕ → List ℕ → List ℕ → DebugRequest
poke_by (Some value) address text = script_of_two (word_address address) (Some value) Poke
poke_by None address text = write_at (script_number address) text

abbrev pub poke_at : List ℕ → List ℕ → DebugRequest
poke_at address text = poke_by (value_shown text) address text

abbrev pub poke_of : Option (List ℕ × List ℕ) → DebugRequest
poke_of (Some parts) = poke_at parts.0 parts.1
poke_of None = NotKnown

abbrev pub fill_of : Option (ℕ × (ℕ × List ℕ)) → DebugRequest
fill_of (Some fill) = Write fill.0 (Some fill.1.0) fill.1.1
fill_of None = NotKnown

abbrev pub find_of : Option (ℕ × (ℕ × List ℕ)) → DebugRequest
find_of (Some find) = View (Find find.0 find.1.0 find.1.1)
find_of None = NotKnown

-- POKE, FILL and FIND: FILL writes 2^20 bytes at most, FIND looks at 2^26 addresses at most.
abbrev pub bytes_request_by : Option (List ℕ) → Option (List ℕ) → Option (List ℕ) → Option DebugRequest
bytes_request_by (Some poke) fill find = Some (poke_of (word_and_rest poke))
bytes_request_by None (Some fill) find = Some (fill_of (counted_bytes 1048576 fill))
bytes_request_by None None (Some find) = Some (find_of (counted_bytes 67108864 find))
bytes_request_by None None None = None

abbrev pub bytes_request : List ℕ → Option DebugRequest
bytes_request line = bytes_request_by
    (text_behind (codes "POKE ") line) (text_behind (codes "FILL ") line) (text_behind (codes "FIND ") line)

-- EXPECT, STUB and the lines that name bytes read what follows for themselves.
abbrev pub own_request_behind : Option (List ℕ) → Option (List ℕ) → Option DebugRequest → List ℕ →
    DebugRequest
own_request_behind (Some expected) stub bytes line = expect_line (expect_request expected)
own_request_behind None (Some stub) bytes line = mode_line (stub_request stub)
own_request_behind None None (Some request) line = request
own_request_behind None None None line = own_request_of_words (words line)

-- what a tidy line asks for that is neither a REPEAT nor a TRACE
unfoldable pub untraced_request : List ℕ → DebugRequest
untraced_request line =
    if is_remark line then Remark else (
    if is_script_request (request_of line) then Script (request_of line) else
    own_request_behind (text_behind (codes "EXPECT ") line) (text_behind (codes "STUB ") line)
    (bytes_request line) line)

-- whether the lines that follow are a block of the line's own
abbrev pub debug_opens_block : DebugRequest → Bool
debug_opens_block (Script request) = opens_block request
debug_opens_block _ = false

-- what may stand behind REPEAT: a line that asks for something, and opens no block
abbrev pub is_repeatable : DebugRequest → Bool
is_repeatable (Script request) = not (opens_block request)
is_repeatable Remark = false
is_repeatable NotKnown = false
is_repeatable (Repeat count line) = false
is_repeatable _ = true

-- A line that takes steps has them shown behind TRACE; another that may stand there asks for what it
-- asks for without it.
abbrev pub traced_script : Option SteppingRequest → DebugRequest → DebugRequest
traced_script (Some request) other = Stepping true request
traced_script None other = if is_repeatable other then other else NotKnown

abbrev pub traced_request : DebugRequest → DebugRequest
traced_request (Script request) = traced_script (stepping_in request) (Script request)
traced_request (Stepping is_traced request) = Stepping true request
traced_request other = if is_repeatable other then other else NotKnown

abbrev pub trace_step : Option ℕ → Option DebugRequest
trace_step (Some count) = Some (Stepping true (Step count))
trace_step None = None

-- TRACE ON, TRACE OFF, TRACE n
abbrev pub trace_of_word : List ℕ → Option DebugRequest
trace_of_word word =
    if is_same_word word (codes "ON") then Some (Mode (Trace true)) else (
    if is_same_word word (codes "OFF") then Some (Mode (Trace false)) else
    trace_step (script_number word))

abbrev pub trace_limit : Option ℕ → Option DebugRequest
trace_limit (Some limit) = Some (Mode (TraceLimit limit))
trace_limit None = None

abbrev pub trace_last : Option ℕ → Option DebugRequest
trace_last (Some count) = Some (Stepping true (RunLast count))
trace_last None = None

-- TRACE LIMIT n, TRACE LAST n
abbrev pub trace_of_two : List ℕ → List ℕ → Option DebugRequest
trace_of_two word count =
    if is_same_word word (codes "LIMIT") then trace_limit (script_number count) else (
    if is_same_word word (codes "LAST") then trace_last (count_up_to 64 count) else
    None)

abbrev pub trace_of_words : List (List ℕ) → Option DebugRequest
trace_of_words (word ∷ []) = trace_of_word word
trace_of_words (word ∷ other ∷ []) = trace_of_two word other
trace_of_words _ = None

abbrev pub trace_of_own : Option DebugRequest → DebugRequest → DebugRequest
trace_of_own (Some own) other = own
trace_of_own None other = traced_request other

-- what a line asks for by what stands behind the word TRACE
abbrev pub trace_request : List ℕ → DebugRequest
trace_request text = trace_of_own (trace_of_words (words text)) (untraced_request text)

abbrev pub simple_request_behind : Option (List ℕ) → List ℕ → DebugRequest
simple_request_behind (Some text) line = trace_request text
simple_request_behind None line = untraced_request line

-- what a tidy line asks for that is no REPEAT
unfoldable pub simple_request : List ℕ → DebugRequest
simple_request line = simple_request_behind (text_behind (codes "TRACE ") line) line

abbrev pub repeated_if : Option ℕ → List ℕ → Option (ℕ × List ℕ)
repeated_if (Some count) line =
    if nat_lt 0 count && is_repeatable (simple_request line) then Some (count, line) else None
repeated_if None line = None

-- a number, a space and a line
abbrev pub repeated_at : Option ℕ → List ℕ → Option (ℕ × List ℕ)
repeated_at (Some place) text = repeated_if (script_number (take place text)) (drop (place + 1) text)
repeated_at None text = None

abbrev pub repeated_behind : Option (List ℕ) → Option (ℕ × List ℕ)
repeated_behind (Some text) = repeated_at (position (λ b. b == 32) text) text
repeated_behind None = None

-- what is repeated, and how often, of a line `REPEAT n line`
unfoldable pub repeated_line : List ℕ → Option (ℕ × List ℕ)
repeated_line line = repeated_behind (text_behind (codes "REPEAT ") line)

abbrev pub own_request_by : Option (ℕ × List ℕ) → List ℕ → DebugRequest
own_request_by (Some repeated) line = Repeat repeated.0 repeated.1
own_request_by None line = simple_request line

-- what a tidy line asks for
abbrev pub own_request : List ℕ → DebugRequest
own_request line = own_request_by (repeated_line line) line

-- what a line asks for
abbrev pub debug_request : List ℕ → DebugRequest
debug_request line = if is_script_request (request_of line) then Script (request_of line)
    else own_request (tidied_line line)

abbrev pub is_known : DebugRequest → Bool
is_known NotKnown = false
is_known _ = true

-- the lines that the code tells apart, as the requests that they stand for
abbrev pub view_request_of : DebugView → ViewRequest
view_request_of (view.Words address count) = Words address count
view_request_of view.Where = Where
view_request_of view.Banks = Banks
view_request_of (view.Stack count) = Stack count
view_request_of view.Frames = Frames
view_request_of view.Labels = Labels
view_request_of (view.Dump address count) = Dump address count
view_request_of view.Why = Why
view_request_of view.Help = Help

abbrev pub debug_request_of_command : DebugCommand → DebugRequest
debug_request_of_command (command.Script known) = Script (request_of_command known)
debug_request_of_command (command.Stepping is_traced request) = Stepping is_traced
    (stepping_request_of request)
debug_request_of_command (command.Mode request) = Mode (mode_request_of request)
debug_request_of_command command.Remark = Remark
debug_request_of_command (command.View shown) = View (view_request_of shown)
debug_request_of_command (command.Form text) = View (Form text.now)
debug_request_of_command (command.SetPc address) = SetPc address
debug_request_of_command (command.SetPsr pattern) = SetPsr pattern
debug_request_of_command (command.Put name address) = Put name.now address
debug_request_of_command (command.Write address count text) = Write address count text.now
debug_request_of_command (command.Find address count text) = View (Find address count text.now)
debug_request_of_command (command.Forget name) = Forget name.now
debug_request_of_command (command.Counts name) = Counts name.now
debug_request_of_command command.Reset = Reset
debug_request_of_command command.Quit = Quit
debug_request_of_command (command.Expect expected) = Expect (expect_request_of expected)
debug_request_of_command command.Unknown = NotKnown
