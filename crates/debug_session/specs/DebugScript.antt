-- What a debugging script does and what it is answered, line by line, over the written machine. A
-- line of a script is answered as in a script, but that each line may take the whole budget.
use Rattle.std.specs.Prelude.{ℕ, zero, suc, ◌+◌, ◌-◌, Bool, true, false, List, [], ◌∷◌, ◌++◌, length, codes, Option, Some, None, Result, Ok, Err, is_some, nat_lt, option_map, if◌then◌else◌}
use Rattle.std.specs.Str.Lines.{lines}
use Rattle.profile.specs.images.Entries.{Entry, bytes_of_image, without_entry}
use Rattle.debug_tables.specs.byte_writes.Put.{script_after_put}
use Rattle.command_shell_lines.specs.debug_words.NamedBytes.{bytes_written, named_bytes, or_no_bytes}
use Rattle.profile.specs.FaultNames.{fault_name}
use Rattle.profile.specs.Fault.{Fault}
use Rattle.debug_modules.specs.BlockErrorTexts.{text_with_errors}
use Rattle.debug_modules.specs.BlockErrors.{block_errors}
use Rattle.debug_tables.specs.Answers.{refused_text, unknown_text}
use Rattle.debug_tables.specs.Memory.{script_at, script_started_anew, script_with_budget, script_with_status}
use Rattle.debug_tables.specs.Script.{request_answer}
use Rattle.debug_tables.specs.State.{Answered, ScriptState}
use Rattle.command_shell_lines.specs.Blocks.{block_lines, lines_after, lines_taken}
use Rattle.command_shell_lines.specs.Requests.{Request, Asm, Hex, request_of}
use Rattle.debug_modules.specs.Checks.{Seen, check_answer, status_after_pattern}
use Rattle.debug_modules.specs.Halted.{halted_at_text, halting_fault}
use Rattle.debug_modules.specs.DebugModesEndings.{ending_of, output_of}
use Rattle.debug_modules.specs.Why.{why_below}
use Rattle.debug_lines.specs.DebugRequests.{DebugRequest, Script, Stepping, Mode, Remark, SetPc, SetPsr, Put, Write, Forget, Counts, Reset, Quit, Expect, Repeat, NotKnown, debug_opens_block, debug_request, is_script_request, View}
use Rattle.debug_tables.specs.MachineState.{stop_of}
use Rattle.debug_lines.specs.ModeRequests.{ModeRequest}
use Rattle.debug_lines.specs.SteppingRequests.{SteppingRequest, stepping_in}
use Rattle.debug_modules.specs.Changes.{ModeAnswer, mode_answer}
use Rattle.debug_modules.specs.Counting.{counts_text}
use Rattle.command_shell_lines.specs.FailedBlocks.{FailedBlockPlace, block_reason, failed_after}
use Rattle.debug_modules.specs.Modes.{takes_over}
use Rattle.debug_modules.specs.ViewTexts.{view_text}
use Rattle.debug_modules.specs.Answers.{ModuleAnswered, ModuleShown, Text, Steps, module_line_answered}
use Rattle.debug_modules.specs.SourceListing.{sources_after}
use Rattle.debug_modules.specs.Taking.{modes_after, note_of, stepping_in_modes}
use Rattle.debug_lines.specs.Tidy.{tidied_line}
use Rattle.debug_modules.specs.DebugHistoryAnswers.{PastAnswered, past_line_answered}
use Rattle.debug_modules.specs.DebugHistoryLines.{last_steps_asked}
use Rattle.debug_lines.specs.LineKinds.{asks_nothing, is_refused_block, takes_steps}
use Rattle.debug_modules.specs.Noted.{is_faulted, past_after_request, past_after_stepping, past_with_deed, steps_before}
use Rattle.debug_modules.specs.Past.{PastState, past_from_start, past_with_images}
use Rattle.debug_modules.specs.PastDeed.{PastDeed}
use Rattle.debug_modules.specs.PastDeed.TheVariants.{Anew, Bytes, Place, Status}
use Rattle.debug_modules.specs.Labels.{ImageLabels, without_labels}
use Rattle.debug_session.specs.DebugState.{DebugAnswered, DebugState, debug_answer, debug_start_state, then_debugged}
use Rattle.debug_session.specs.LastSteps.{last_steps_answer}
use Rattle.debug_session.specs.Naming.{labels_with_block, meant_request, naming_of, repeated_now}
use Rattle.debug_modules.specs.OwnAnswers.{forget_text, put_text, reasoned_text}
use Rattle.debug_modules.specs.Reasons.{refusal_reason}
use Rattle.debug_session.specs.declared.session.DebugSettings.{DebugSettings}
use Rattle.debug_lines.specs.declared.status.StatusPattern.{StatusPattern}
use Rattle.debug_modules.specs.Reports.{answer_in, fail_text, pass_text, report_of_refusal, summary_text, with_fail, with_pass, with_refusal}

-- LINES OF A SCRIPT

-- the labels after a line of a script: with those of the image that it has made
abbrev pub labels_after : DebugState → Request → Answered → List (List ℕ) → List ImageLabels
labels_after d request reported block =
    if is_refused_block d.script.images reported.state.images request then d.labels
    else labels_with_block d.labels reported.state.images request block

-- what is kept of what a line did: nothing of a block that is refused
abbrev pub past_after_line : DebugSettings → DebugState → ℕ → Request → Answered → PastState
past_after_line c d number request reported =
    if is_refused_block d.script.images reported.state.images request then d.past
    else past_after_request d.past number request (c.budget - reported.state.left)
    (is_faulted reported.state.machine.halt)

-- What is kept of an answer: of one to a line that takes steps, apart, what the guest printed and how
-- the steps ended.
abbrev pub state_with_answer : DebugSettings → DebugState → ℕ → Request → Answered → List (List ℕ)
    → DebugState
state_with_answer c d number request reported block = record d {
  script = reported.state;
  labels = labels_after d request reported block;
  sources = sources_after (is_refused_block d.script.images reported.state.images request) d.sources request block;
  answer = if takes_steps request then ending_of reported.text else reported.text;
  output = if takes_steps request then output_of reported.text else d.output;
  steps = if takes_steps request then c.budget - reported.state.left else d.steps;
  past = past_after_line c d number request reported;
}

-- The state after the answer to a line of a script. After an empty line the last answer is the one
-- before it.
abbrev pub state_after_line : DebugSettings → DebugState → ℕ → Request → Answered → List (List ℕ)
    → DebugState
state_after_line c d number request reported block = if asks_nothing request then record d
    { script = reported.state }
    else state_with_answer c d number request reported block

abbrev pub answer_or_refused : DebugSettings → DebugState → ℕ → Bool → DebugState → List ℕ → DebugAnswered
answer_or_refused c d number true after text = debug_answer (record after { tally = with_refusal d.tally })
    (report_of_refusal c.form d.tally number text)
answer_or_refused c d number false after text = debug_answer after (answer_in c.form text)

-- Where an ASM block is refused, its errors stand behind what a script answers.
abbrev pub script_line_answer_by : DebugSettings → DebugState → ℕ → Request → Answered → List (List ℕ)
    → DebugAnswered
script_line_answer_by c d number request reported block =
    answer_or_refused c d number (is_refused_block d.script.images reported.state.images request)
    (state_after_line c d number request reported block)
    (text_with_errors (is_refused_block d.script.images reported.state.images request) number request block
    reported.text)

-- A line of a script may take the whole budget.
abbrev pub plain_line_answer : DebugSettings → DebugState → ℕ → Request → List (List ℕ) → DebugAnswered
plain_line_answer c d number request block =
    script_line_answer_by c d number request
    (request_answer (script_with_budget d.script c.budget) number request block) block

-- LINES THAT TAKE STEPS IN MODES

-- what is kept and written of a line that took steps: the state, what is shown of the steps, what the
-- guest printed, and the line's usual ending; behind that stands, while WHY is on, what WHY shows of an error, which
-- no line EXPECT finds
abbrev pub stepping_answer_by : DebugSettings → DebugState → ScriptState → List ℕ → List ℕ → List ℕ →
    DebugAnswered
stepping_answer_by c d now text printed ending = debug_answer
    (record d {
      script = now;
      answer = ending;
      output = printed;
      steps = c.budget - now.left;
    })
    (answer_in c.form ((text ++ ending) ++ why_below d.modes now.machine ending))

-- It may take the whole budget, too.
abbrev pub stepping_line_answer : DebugSettings → DebugState → ℕ → Bool → SteppingRequest → DebugAnswered
stepping_line_answer c d number is_traced request =
    let s = script_with_budget d.script c.budget in
    let reported = stepping_in_modes d.modes d.labels is_traced s request in
    let after = record d {
      modes = modes_after d.modes s request;
      past = past_after_stepping d.past number d.modes.steps.stubs (note_of (steps_before s.machine)
          (c.budget - reported.now.left) reported.now.machine reported.ending) request;
    } in
    stepping_answer_by c after reported.now reported.text reported.printed reported.ending

-- what a line of a script asks for, where modes are set in which its steps are answered otherwise
abbrev pub stepping_now : DebugState → Request → Option SteppingRequest
stepping_now d request = if takes_over d.modes then stepping_in request else None

abbrev pub script_line_answer_in : Option SteppingRequest → DebugSettings → DebugState → ℕ → Request
    → List (List ℕ) → DebugAnswered
script_line_answer_in (Some stepping) c d number request block = stepping_line_answer c d number false stepping
script_line_answer_in None c d number request block = plain_line_answer c d number request block

-- BLOCKS WITH ERRORS

-- the blocks that had errors, after a line: with its block, if it has an ASM block with errors
abbrev pub failed_with_block : List FailedBlockPlace → ℕ → Request → List (List ℕ) → List FailedBlockPlace
failed_with_block failed number (Asm name origin) block =
    failed_after failed name number (nat_lt 0 (length (block_errors block origin)))
failed_with_block failed number (Hex name) block = failed_after failed name number false
failed_with_block failed number request block = failed

abbrev pub with_block_noted : DebugState → ℕ → Request → List (List ℕ) → DebugState
with_block_noted d number request block =
    record d { failed = failed_with_block d.failed number request block }

-- an answer, and a line below it
abbrev pub with_line_below : DebugSettings → List ℕ → DebugAnswered → DebugAnswered
with_line_below c below reported = debug_answer reported.state (reported.text ++ answer_in c.form below)

-- a line of a script, in the modes that are set
abbrev pub line_in_modes_answer : DebugSettings → DebugState → ℕ → Request → List (List ℕ) → DebugAnswered
line_in_modes_answer c d number request block =
    script_line_answer_in (stepping_now d request) c d number request block

-- Below one that boots or loads an image stands that a block of its name has errors, where that is so.
abbrev pub script_line_answer : DebugSettings → DebugState → ℕ → Request → List (List ℕ) → DebugAnswered
script_line_answer c d number request block =
    with_line_below c (block_reason d.failed d.script.images request)
    (line_in_modes_answer c (with_block_noted d number request block) number request block)

-- LINES OF ITS OWN

-- a view: its text is the answer
abbrev pub view_answer : DebugSettings → DebugState → List ℕ → DebugAnswered
view_answer c d text = debug_answer (record d { answer = text }) (answer_in c.form text)

-- a change of the machine by a line, which is answered nothing
abbrev pub machine_change_answer : DebugState → ℕ → PastDeed → ScriptState → DebugAnswered
machine_change_answer d number deed script =
    debug_answer (record d { script = script; answer = []; past = past_with_deed d.past number deed }) []

-- SET PC: a machine that a fault has halted stays where the fault was, which is shown.
abbrev pub set_pc_by : Option Fault → DebugSettings → DebugState → ℕ → ℕ → DebugAnswered
set_pc_by (Some fault) c d number address =
    view_answer c d (halted_at_text fault d.script.machine.cpu.pc)
set_pc_by None c d number address =
    machine_change_answer d number (Place address) (script_at d.script address)

abbrev pub set_pc_answer : DebugSettings → DebugState → ℕ → ℕ → DebugAnswered
set_pc_answer c d number address =
    set_pc_by (halting_fault (option_map stop_of d.script.machine.halt)) c d number address

-- SET PSR
abbrev pub set_psr_answer : DebugState → ℕ → StatusPattern → DebugAnswered
set_psr_answer d number pattern =
    let status = status_after_pattern pattern d.script.machine.cpu.psr in
    machine_change_answer d number (Status status) (script_with_status d.script status)

-- A machine that is made anew belongs to the past of the one before it, where that is known; else its past
-- begins.
abbrev pub past_after_reset : Bool → PastState → ℕ → PastState
past_after_reset keeps_past p number =
    if p.is_kept then past_with_deed p number Anew else past_from_start keeps_past

abbrev pub reset_answer : DebugSettings → DebugState → ℕ → DebugAnswered
reset_answer c d number = view_answer c
    (record d {
      script = script_started_anew d.script c.config c.budget;
      past = past_after_reset c.keeps_past d.past number;
    })
    (codes "reset\n")

-- FORGET: the image of that name goes, if there is one, its labels, and the text of its block.
abbrev pub forget_answer : DebugSettings → DebugState → List ℕ → DebugAnswered
forget_answer c d name = view_answer c
    (record d {
      script = record d.script { images = without_entry d.script.images name };
      labels = without_labels d.labels name;
      sources = without_entry d.sources name;
      past = past_with_images (is_some (bytes_of_image d.script.images name)) d.past;
    })
    (forget_text (is_some (bytes_of_image d.script.images name)) name)

-- COUNTS
abbrev pub counts_answer : DebugSettings → DebugState → List ℕ → DebugAnswered
counts_answer c d name =
    view_answer c d (counts_text d.modes.counts (naming_of d).names d.script.machine.store.bytes name)

-- Bytes that a line writes, whole or not at all: what is shown of them, or why they aren't written.
abbrev pub bytes_done : DebugSettings → DebugState → ℕ → ℕ → List ℕ → List ℕ → Result ScriptState Fault
    → DebugAnswered
bytes_done c d number address bytes text (Ok script) = view_answer c
    (record d { script = script; past = past_with_deed d.past number (Bytes address bytes) }) text
bytes_done c d number address bytes text (Err fault) = view_answer c d (refused_text (fault_name fault))

abbrev pub bytes_answer : DebugSettings → DebugState → ℕ → ℕ → List ℕ → List ℕ → DebugAnswered
bytes_answer c d number address bytes text =
    bytes_done c d number address bytes text (script_after_put d.script address bytes)

-- PUT: the bytes of the image of that name are written.
abbrev pub put_found : DebugSettings → DebugState → ℕ → List ℕ → ℕ → Option (List ℕ) → DebugAnswered
put_found c d number name address None = view_answer c d (refused_text (codes "NoImage"))
put_found c d number name address (Some bytes) = bytes_answer c d number address bytes (put_text name address)

abbrev pub put_answer : DebugSettings → DebugState → ℕ → List ℕ → ℕ → DebugAnswered
put_answer c d number name address = put_found c d number name address (bytes_of_image d.script.images name)

-- POKE and FILL of bytes: with no answer.
abbrev pub write_answer : DebugSettings → DebugState → ℕ → ℕ → Option ℕ → List ℕ → DebugAnswered
write_answer c d number address count named =
    bytes_answer c d number address (bytes_written count (or_no_bytes (named_bytes named))) []

-- a change of modes, and its answer
abbrev pub mode_answer_by : DebugSettings → DebugState → ModeAnswer → DebugAnswered
mode_answer_by c d reported = view_answer c (record d { modes = reported.modes }) reported.text

abbrev pub mode_line_answer : DebugSettings → DebugState → ModeRequest → DebugAnswered
mode_line_answer c d request = mode_answer_by c d (mode_answer d.script.machine d.modes request)

abbrev pub seen_of : DebugState → Seen
seen_of d = record {
  cpu = d.script.machine.cpu;
  bytes = d.script.machine.store.bytes;
  answer = d.answer;
  output = d.output;
  steps = d.steps;
}

-- an expectation that is met, or why it isn't
abbrev pub checked_answer : DebugSettings → DebugState → ℕ → List ℕ → Option (List ℕ) → DebugAnswered
checked_answer c d number words None = debug_answer (record d { tally = with_pass d.tally })
    (pass_text c.form d.tally number words)
checked_answer c d number words (Some reason) = debug_answer (record d { tally = with_fail d.tally })
    (fail_text c.form d.tally number words reason)

-- A line that means nothing: the reason is shown, and lines EXPECT find a script's answer.
abbrev pub unknown_answer : DebugSettings → DebugState → ℕ → List ℕ → DebugAnswered
unknown_answer c d number line = debug_answer
    (record d { answer = unknown_text number; tally = with_refusal d.tally })
    (report_of_refusal c.form d.tally number (reasoned_text number (refusal_reason (naming_of d) line)))

-- A line that enters the code of modules is a view where nothing was done, and else takes steps; any other line
-- means nothing.
abbrev pub module_line_shown : DebugSettings → DebugState → ScriptState → ModuleShown → DebugAnswered
module_line_shown c d now (Text text) = view_answer c (record d { script = now }) text
module_line_shown c d now (Steps text printed ending) = stepping_answer_by c d now text printed ending

abbrev pub module_line_by : DebugSettings → DebugState → ℕ → List ℕ → Option ModuleAnswered → DebugAnswered
module_line_by c d number line (Some a) =
    module_line_shown c (record d { modes = a.modes; past = a.past }) a.script a.shown
module_line_by c d number line None = unknown_answer c d number line

abbrev pub module_line_answer : DebugSettings → DebugState → ℕ → List ℕ → DebugAnswered
module_line_answer c d number line = module_line_by c d number line
    (module_line_answered d.modes d.labels d.sources c.budget d.script d.past number line)

-- A line that goes back or looks into the past is a view of what it leaves; any other may be about modules.
abbrev pub past_line_by : DebugSettings → DebugState → ℕ → List ℕ → Option PastAnswered → DebugAnswered
past_line_by c d number line (Some a) =
    view_answer c (record d { script = a.script; past = a.past }) a.text
past_line_by c d number line None = module_line_answer c d number line

-- `LAST STEPS n` is a view, too.
abbrev pub past_line_or_steps : DebugSettings → DebugState → ℕ → List ℕ → Option ℕ → DebugAnswered
past_line_or_steps c d number line (Some count) = view_answer c d (last_steps_answer c d count)
past_line_or_steps c d number line None =
    past_line_by c d number line (past_line_answered d.labels c.config c.budget d.script d.past line)

abbrev pub past_line_answer : DebugSettings → DebugState → ℕ → List ℕ → DebugAnswered
past_line_answer c d number line = past_line_or_steps c d number line (last_steps_asked line)

-- A line at that number that is no REPEAT: its words, made tidy, what it asks for, and the lines of
-- its block.
abbrev pub simple_request_answer : DebugSettings → DebugState → ℕ → List ℕ → DebugRequest → List (List ℕ)
    → DebugAnswered
simple_request_answer c d number words (Script request) block = script_line_answer c d number request block
simple_request_answer c d number words (Stepping is_traced request) block =
    stepping_line_answer c d number is_traced request
simple_request_answer c d number words (Mode request) block = mode_line_answer c d request
simple_request_answer c d number words Remark block = debug_answer d []
simple_request_answer c d number words (View shown) block = view_answer c d
    (view_text d.labels d.script.machine shown)
simple_request_answer c d number words (SetPc address) block = set_pc_answer c d number address
simple_request_answer c d number words (SetPsr pattern) block = set_psr_answer d number pattern
simple_request_answer c d number words (Put name address) block = put_answer c d number name address
simple_request_answer c d number words (Write address count named) block =
    write_answer c d number address count named
simple_request_answer c d number words (Forget name) block = forget_answer c d name
simple_request_answer c d number words (Counts name) block = counts_answer c d name
simple_request_answer c d number words Reset block = reset_answer c d number
simple_request_answer c d number words Quit block = debug_answer (record d { has_quit = true }) []
simple_request_answer c d number words (Expect expected) block =
    checked_answer c d number words (check_answer (seen_of d) expected)
simple_request_answer c d number words (Repeat count line) block = unknown_answer c d number words
simple_request_answer c d number words NotKnown block = past_line_answer c d number words

-- nothing is answered after QUIT
abbrev pub unless_quit : DebugState → DebugAnswered → DebugAnswered
unless_quit d reported = if d.has_quit then debug_answer d [] else reported

-- A tidy line that is no REPEAT, by what it means now.
abbrev pub simple_line_answer : DebugSettings → DebugState → ℕ → List ℕ → List (List ℕ) → DebugAnswered
simple_line_answer c d number line block =
    simple_request_answer c d number line (meant_request (naming_of d) line) block

-- a tidy line, so many times, each by what it means then
unfoldable pub repeated_answer : ℕ → DebugSettings → ℕ → List ℕ → List (List ℕ) → DebugState → DebugAnswered
repeated_answer zero c number line block d = debug_answer d []
repeated_answer (suc more) c number line block d = unless_quit d
    (then_debugged (simple_line_answer c d number line block)
    (λ after. repeated_answer more c number line block after))

-- a tidy line, by what is repeated, and how often
abbrev pub tidy_line_answer_by : Option (ℕ × List ℕ) → DebugSettings → DebugState → ℕ → List ℕ → List (List ℕ)
    → DebugAnswered
tidy_line_answer_by (Some repeated) c d number words block =
    repeated_answer repeated.0 c number repeated.1 block d
tidy_line_answer_by None c d number words block = simple_line_answer c d number words block

abbrev pub tidy_line_answer : DebugSettings → DebugState → ℕ → List ℕ → List (List ℕ) → DebugAnswered
tidy_line_answer c d number words block =
    tidy_line_answer_by (repeated_now (naming_of d) words) c d number words block

-- A line as it stands: one of a script is that line, and any other is made tidy.
abbrev pub debug_line_answer : DebugSettings → DebugState → ℕ → List ℕ → List (List ℕ) → DebugAnswered
debug_line_answer c d number line block =
    if is_script_request (request_of line) then script_line_answer c d number (request_of line) block
    else tidy_line_answer c d number (tidied_line line) block

-- THE SCRIPT

abbrev pub line_opens : List ℕ → Bool
line_opens line = debug_opens_block (debug_request line)

-- At most so many lines and blocks of a text, where so many lines came before.
unfoldable pub some_lines_answer : ℕ → DebugSettings → ℕ → DebugState → List (List ℕ) → DebugAnswered
some_lines_answer zero c number d left = debug_answer d []
some_lines_answer (suc more) c number d [] = debug_answer d []
some_lines_answer (suc more) c number d (line ∷ rest) = unless_quit d
    (then_debugged (debug_line_answer c d (number + 1) line (block_lines rest))
    (λ after. some_lines_answer more c (number + 1 + lines_taken (line_opens line) rest) after
    (lines_after (line_opens line) rest)))

-- all of them
abbrev pub debug_lines_answer : DebugSettings → ℕ → DebugState → List (List ℕ) → DebugAnswered
debug_lines_answer c number d left = some_lines_answer (length left) c number d left

-- what stands after the last of them
abbrev pub then_summary : DebugSettings → DebugAnswered → DebugAnswered
then_summary c reported = debug_answer reported.state (reported.text ++ summary_text c.form
    reported.state.tally)

-- a whole script
unfoldable pub debug_script_answer : DebugSettings → List Entry → List ℕ → DebugAnswered
debug_script_answer c images script =
    then_summary c (debug_lines_answer c 0 (debug_start_state c images) (lines script))
