-- The lines that change how later lines are answered: whether steps are shown, and how many; stubs,
-- which stand for SWIs that the machine doesn't have; words that are watched; whether steps are
-- counted.
use Rattle.std.specs.Prelude.{ℕ, Bool, true, false, List, codes, Option, Some, None, option_map, if◌then◌else◌}
use Rattle.command_shell_lines.specs.Operands.{origin_of}
use Rattle.command_shell_lines.specs.Requests.{is_same_word}
use Rattle.command_shell_lines.specs.debug_words.StubLines.{stub_of_line}
use Rattle.command_shell_lines.specs.debug_words.Values.{swi_shown}
use Rattle.command_shell_lines.specs.declared.debug_words.stubs.Stub.{Stub as StubLine}
use Rattle.debug_lines.specs.declared.modes.ModeCommand.{ModeCommand}
use Rattle.debug_lines.specs.declared.modes.ModeCommand.TheVariants as mode

pub data ModeRequest : Type 0 where
  -- whether the steps of all lines are shown
  Trace : Bool → ModeRequest
  -- how many steps of a line are shown
  TraceLimit : ℕ → ModeRequest
  -- what a SWI does that the machine doesn't have
  Stub : StubLine → ModeRequest
  Unstub : ℕ → ModeRequest
  -- the address of a word, a multiple of 4 below 2^26
  Watch : ℕ → ModeRequest
  Unwatch : ℕ → ModeRequest
  -- whether steps are counted
  Count : Bool → ModeRequest

-- ON or OFF
abbrev pub is_on_word : List ℕ → Option Bool
is_on_word word =
    if is_same_word word (codes "ON") then Some true else (
    if is_same_word word (codes "OFF") then Some false else
    None)

-- a line of two words
abbrev pub mode_of_two : List ℕ → List ℕ → Option ModeRequest
mode_of_two word other =
    if is_same_word word (codes "UNSTUB") then option_map Unstub (swi_shown other) else (
    if is_same_word word (codes "WATCH") then option_map Watch (origin_of other) else (
    if is_same_word word (codes "UNWATCH") then option_map Unwatch (origin_of other) else (
    if is_same_word word (codes "COUNT") then option_map Count (is_on_word other) else
    None)))

-- what stands behind the word STUB
abbrev pub stub_request : List ℕ → Option ModeRequest
stub_request text = option_map Stub (stub_of_line text)

-- the lines that the code tells apart, as the requests that they stand for
abbrev pub mode_request_of : ModeCommand → ModeRequest
mode_request_of (mode.Trace is_on) = Trace is_on
mode_request_of (mode.TraceLimit limit) = TraceLimit limit
mode_request_of (mode.Stub stub) = Stub stub
mode_request_of (mode.Unstub number) = Unstub number
mode_request_of (mode.Watch address) = Watch address
mode_request_of (mode.Unwatch address) = Unwatch address
mode_request_of (mode.Count is_on) = Count is_on
