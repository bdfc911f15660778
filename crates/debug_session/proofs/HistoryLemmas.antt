-- The past of a debugging session is that of its machine, and changes no answer of other lines.
use Rattle.std.proofs.Common.{◌≡◌, ℕ, ◌-◌, Bool, true, false, List, [], Option, Some, None, Result, Ok, Err, refl, sym, ap, subst, if◌then◌else◌, ◌++◌}
use Rattle.std.specs.Option.{option_map}
use Rattle.profile.specs.images.Entries.{bytes_of_image}
use Rattle.profile.specs.Fault.{Fault}
use Rattle.command_shell_lines.specs.Requests.{Request, Areas, Asm, Boot, Break, Call, Code, Flex, Heap, Hex, Load, Mem, Modules, Nothing, Poke, Regs, Run, Set, Step, Unbreak, Unknown}
use Rattle.debug_tables.specs.Memory.{script_at, script_started_anew, script_with_budget, script_with_status}
use Rattle.debug_tables.specs.Script.{request_answer}
use Rattle.debug_tables.specs.MachineState.{machine_start, stop_of}
use Rattle.debug_tables.specs.State.{Answered, ScriptState, script_start_state}
use Rattle.command_shell_lines.specs.debug_words.NamedBytes.{bytes_written, named_bytes, or_no_bytes}
use Rattle.debug_modules.specs.Labels.{ImageLabels}
use Rattle.debug_lines.specs.DebugRequests as own
use Rattle.debug_lines.specs.SteppingRequests as stepping
use Rattle.debug_modules.specs.DebugHistoryAnswers.{PastAnswered, back_until, last_in_past, past_answered, past_asked, past_command, past_gone_back, past_shown, undone}
use Rattle.debug_modules.specs.DebugHistoryLaws.{IsPastOf}
use Rattle.debug_modules.specs.DebugHistoryLines.{last_steps_asked}
use Rattle.debug_lines.specs.LineKinds.{asks_nothing, is_refused_block}
use Rattle.debug_modules.specs.Noted.{is_faulted, past_after_request, past_with_deed}
use Rattle.debug_modules.specs.Acts.{PastMoment, moment_after_acts}
use Rattle.debug_modules.specs.Past.{PastState, line_of_last_act, moment_after_past, past_from_start}
use Rattle.command_shell_lines.specs.debug_words.PastTexts.{no_history_text}
use Rattle.debug_modules.specs.PastDeed.TheVariants as deed
use Rattle.debug_modules.specs.PastCommand.{PastCommand}
use Rattle.debug_modules.specs.PastCommand.TheVariants as past
use Rattle.debug_modules.specs.PastFound.{PastFound}
use Rattle.debug_modules.specs.Sought.TheVariants.{Stood}
use Rattle.debug_modules.proofs.LineNotedLemmas.{image_forgotten, noted_is_done, refused_block}
use Rattle.debug_modules.proofs.AgainLemmas.{beside_at, moment_at, put_at}
use Rattle.debug_modules.proofs.NotedLemmas.{deed_noted}
use Rattle.profile.specs.Outcome.{Leaves}
use Rattle.debug_modules.specs.OwnAnswers.{put_text}
use Rattle.command_shell_lines.specs.FailedBlocks.{block_reason}
use Rattle.debug_modules.specs.Modes.{answer_of_line}
use Rattle.debug_modules.specs.Checks.{check_answer, status_after_pattern}
use Rattle.debug_modules.specs.Halted.{halting_fault}
use Rattle.debug_modules.specs.Reports.{report_of_refusal, with_refusal, answer_in}
use Rattle.debug_session.specs.DebugScript.{answer_or_refused, checked_answer, plain_line_answer, bytes_done, past_line_by, past_line_or_steps, put_found, script_line_answer_in, seen_of, set_pc_by, state_after_line, state_with_answer, stepping_line_answer, stepping_now, with_block_noted}
use Rattle.debug_session.specs.DebugState.{DebugAnswered, DebugState}
use Rattle.debug_session.specs.History.{HistoryChangesNoAnswer, IsSameButPast, IsUnhaltedWhereFresh, PastIsOfTheMachine}
use Rattle.debug_session.specs.declared.session.DebugSettings.{DebugSettings}
use Rattle.debug_session.proofs.ModuleLineLemmas.{module_line_kept, module_line_same}
use Rattle.debug_session.proofs.SteppingPastLemmas.{steps_kept}
use Rattle.debug_tables.specs.byte_writes.Put.{script_after_put}

-- the past of a state is that of its machine
abbrev IsKept : DebugState → Type 0
IsKept d = IsPastOf d.script d.past

-- LINES OF A SCRIPT

-- a line that asks for nothing does nothing
nothing_kept : (p : PastState) (line taken : ℕ) (has_faulted : Bool) (r : Request) → asks_nothing r ≡ true
    → past_after_request p line r taken has_faulted ≡ p
nothing_kept p line taken has_faulted Nothing is = refl
nothing_kept p line taken has_faulted (Hex name) is = absurd (cc)
nothing_kept p line taken has_faulted (Asm name origin) is = absurd (cc)
nothing_kept p line taken has_faulted (Boot name) is = absurd (cc)
nothing_kept p line taken has_faulted Run is = absurd (cc)
nothing_kept p line taken has_faulted Regs is = absurd (cc)
nothing_kept p line taken has_faulted (Set register value) is = absurd (cc)
nothing_kept p line taken has_faulted (Poke address value) is = absurd (cc)
nothing_kept p line taken has_faulted (Call called) is = absurd (cc)
nothing_kept p line taken has_faulted (Load text) is = absurd (cc)
nothing_kept p line taken has_faulted (Step count) is = absurd (cc)
nothing_kept p line taken has_faulted (Break address) is = absurd (cc)
nothing_kept p line taken has_faulted (Unbreak address) is = absurd (cc)
nothing_kept p line taken has_faulted (Mem address count) is = absurd (cc)
nothing_kept p line taken has_faulted (Code address count) is = absurd (cc)
nothing_kept p line taken has_faulted (Heap address) is = absurd (cc)
nothing_kept p line taken has_faulted Areas is = absurd (cc)
nothing_kept p line taken has_faulted Modules is = absurd (cc)
nothing_kept p line taken has_faulted Flex is = absurd (cc)
nothing_kept p line taken has_faulted Unknown is = absurd (cc)

refused_kept : (c : DebugSettings) (d after : DebugState) (number : ℕ) (refused : Bool) (text : List ℕ) → IsKept after
    → IsKept (answer_or_refused c d number refused after text).state
refused_kept c d after number true text is = is
refused_kept c d after number false text is = is

by_refused : (s : ScriptState) (p q : PastState) (refused : Bool) → (refused ≡ true → IsPastOf s p) → IsPastOf s q
    → IsPastOf s (if refused then p else q)
by_refused s p q true was is = was refl
by_refused s p q false was is = is

asked_kept : (c : DebugSettings) (d : DebugState) (number : ℕ) (r : Request) (reported : Answered) (block : List (List ℕ)) (nothing : Bool)
    → asks_nothing r ≡ nothing
    → (is_refused_block d.script.images reported.state.images r ≡ true → IsPastOf reported.state d.past)
    → IsPastOf reported.state (past_after_request d.past number r (c.budget - reported.state.left) (is_faulted reported.state.machine.halt))
    → IsKept (if nothing then record d { script = reported.state } else state_with_answer c d number r reported block)
asked_kept c d number r reported block true asks refused is =
    subst (λ (p : PastState). IsPastOf reported.state p)
    (nothing_kept d.past number (c.budget - reported.state.left) (is_faulted reported.state.machine.halt) r asks) is
asked_kept c d number r reported block false asks refused is =
    by_refused reported.state d.past
    (past_after_request d.past number r (c.budget - reported.state.left) (is_faulted reported.state.machine.halt))
    (is_refused_block d.script.images reported.state.images r) refused is

plain_kept : (c : DebugSettings) (d : DebugState) (number : ℕ) (r : Request) (block : List (List ℕ)) → IsUnhaltedWhereFresh d.script
    → IsKept d → IsKept (plain_line_answer c d number r block).state
plain_kept c d number r block up was =
    let s : ScriptState = script_with_budget d.script c.budget in
    let reported : Answered = request_answer s number r block in
    refused_kept c d (state_after_line c d number r reported block) number _ _
    (asked_kept c d number r reported block (asks_nothing r) refl
    (λ refused. subst (λ (t : ScriptState). IsPastOf t d.past) (sym (refused_block s number r block refused)) was)
    (noted_is_done s d.past number number r block up was))

-- LINES THAT TAKE STEPS IN MODES

stepping_kept : (c : DebugSettings) (d : DebugState) (number : ℕ) (is_traced : Bool) (r : stepping.SteppingRequest)
    → IsUnhaltedWhereFresh d.script → IsKept d → IsKept (stepping_line_answer c d number is_traced r).state
stepping_kept c d number is_traced r up was =
    steps_kept d.modes d.labels (answer_of_line d.modes is_traced) (script_with_budget d.script c.budget) d.past number r up was

line_kept : (c : DebugSettings) (d : DebugState) (number : ℕ) (r : Request) (block : List (List ℕ)) (o : Option stepping.SteppingRequest)
    → IsUnhaltedWhereFresh d.script → IsKept d → IsKept (script_line_answer_in o c d number r block).state
line_kept c d number r block (Some steps) up was = stepping_kept c d number false steps up was
line_kept c d number r block None up was = plain_kept c d number r block up was

-- OTHER LINES

place_kept : (c : DebugSettings) (d : DebugState) (number address : ℕ) (o : Option Fault) → IsKept d
    → IsKept (set_pc_by o c d number address).state
place_kept c d number address (Some fault) was = was
place_kept c d number address None was =
    deed_noted d.script (script_at d.script address) d.past number (deed.Place address) refl refl was refl

bytes_kept : (c : DebugSettings) (d : DebugState) (number address : ℕ) (bytes text : List ℕ) (r : Result ScriptState Fault)
    → script_after_put d.script address bytes ≡ r → IsKept d → IsKept (bytes_done c d number address bytes text r).state
bytes_kept c d number address bytes text (Ok script) is was =
    let put = put_at d.script script address bytes {U = Unit {0}} (Ok (record {})) (subst (λ (r : Result ScriptState Fault).
    Leaves {U = Unit {0}} d.script r (Ok (record {})) script) (sym is) refl) in
    let beside = beside_at d.script script _ put in
    deed_noted d.script script d.past number (deed.Bytes address bytes) beside.images beside.sizes was (moment_at d.script script _ put)
bytes_kept c d number address bytes text (Err fault) is was = was

found_kept : (c : DebugSettings) (d : DebugState) (number : ℕ) (name : List ℕ) (address : ℕ) (o : Option (List ℕ)) → IsKept d
    → IsKept (put_found c d number name address o).state
found_kept c d number name address None was = was
found_kept c d number name address (Some bytes) was =
    bytes_kept c d number address bytes (put_text name address) (script_after_put d.script address bytes) refl was

checked_kept : (c : DebugSettings) (d : DebugState) (number : ℕ) (words : List ℕ) (o : Option (List ℕ)) → IsKept d
    → IsKept (checked_answer c d number words o).state
checked_kept c d number words None was = was
checked_kept c d number words (Some reason) was = was

-- a machine as it is made, whatever was before
anew_kept : (c : DebugSettings) (s : ScriptState) (p : PastState) (number : ℕ) (b : Bool)
    → IsPastOf (script_started_anew s c.config c.budget)
    (if b then past_with_deed p number deed.Anew else past_from_start c.keeps_past)
unfolding moment_after_acts machine_start script_start_state
anew_kept c s p number true =
    let now : ScriptState = script_started_anew s c.config c.budget in
    let there : PastMoment = moment_after_past now.images now.sizes p in
    let before : ScriptState = record now { machine = there.machine; is_fresh = there.is_fresh } in
    deed_noted before now p number deed.Anew refl refl (λ kept. refl) refl
anew_kept c s p number false = λ kept. refl

-- LINES OF THE PAST

abbrev IsAnswerKept : PastAnswered → Type 0
IsAnswerKept a = IsPastOf a.script a.past

-- the machine after a past
there_kept : (labels : List ImageLabels) (c : DebugSettings) (s : ScriptState) (p : PastState) (step : ℕ)
    → IsAnswerKept (past_gone_back labels c.config c.budget s p step)
there_kept labels c s p step = λ kept. refl

if_kept : (b : Bool) (one other : PastAnswered) → IsAnswerKept one → IsAnswerKept other → IsAnswerKept (if b then one else other)
if_kept true one other is also = is
if_kept false one other is also = also

until_kept : (labels : List ImageLabels) (c : DebugSettings) (s : ScriptState) (p : PastState) (o : Option PastFound) → IsPastOf s p
    → IsAnswerKept (back_until labels c.config c.budget s p o)
until_kept labels c s p (Some found) was = there_kept labels c s p found.step
until_kept labels c s p None was = was

undone_kept : (c : DebugSettings) (s : ScriptState) (p : PastState) (o : Option ℕ) → IsPastOf s p
    → IsAnswerKept (undone c.config c.budget s p o)
undone_kept c s p (Some line) was = λ kept. refl
undone_kept c s p None was = was

command_kept : (labels : List ImageLabels) (c : DebugSettings) (s : ScriptState) (p : PastState) (command : PastCommand)
    → IsPastOf s p → IsAnswerKept (past_asked labels c.config c.budget s p command)
command_kept labels c s p (past.Back count) was = if_kept _ _ _ (there_kept labels c s p _) was
command_kept labels c s p (past.BackTo step) was = if_kept _ _ _ (there_kept labels c s p step) was
command_kept labels c s p (past.BackUntil address) was =
    until_kept labels c s p (last_in_past c.config s p (Stood address)) was
command_kept labels c s p past.Undo was = undone_kept c s p (line_of_last_act p.acts) was
command_kept labels c s p past.When was = was
command_kept labels c s p (past.Last x) was = was

past_kept : (c : DebugSettings) (d : DebugState) (number : ℕ) (words : List ℕ) (o : Option PastCommand) → IsKept d
    → IsKept (past_line_by c d number words (option_map (past_answered d.labels c.config c.budget d.script d.past) o)).state
past_kept c d number words None was = module_line_kept c d number words was
past_kept c d number words (Some command) was =
    if_kept d.past.is_kept (past_asked d.labels c.config c.budget d.script d.past command)
    (past_shown d.script d.past no_history_text) (command_kept d.labels c d.script d.past command was) was

looked_kept : (c : DebugSettings) (d : DebugState) (number : ℕ) (words : List ℕ) (o : Option ℕ) → IsKept d
    → IsKept (past_line_or_steps c d number words o).state
looked_kept c d number words None was = past_kept c d number words (past_command d.labels d.script.machine words) was
looked_kept c d number words (Some count) was = was

-- EACH LINE

pub past_is_of_the_machine : PastIsOfTheMachine
past_is_of_the_machine c d number words block (own.Script r) up was =
    line_kept c (with_block_noted d number r block) number r block (stepping_now d r) up was
past_is_of_the_machine c d number words block (own.Stepping is_traced r) up was = stepping_kept c d number is_traced r up was
past_is_of_the_machine c d number words block (own.Mode r) up was = was
past_is_of_the_machine c d number words block own.Remark up was = was
past_is_of_the_machine c d number words block (own.View shown) up was = was
past_is_of_the_machine c d number words block (own.SetPc address) up was =
    place_kept c d number address (halting_fault (option_map stop_of d.script.machine.halt)) was
past_is_of_the_machine c d number words block (own.SetPsr pattern) up was =
    let status = status_after_pattern pattern d.script.machine.cpu.psr in
    deed_noted d.script (script_with_status d.script status) d.past number (deed.Status status) refl refl was refl
past_is_of_the_machine c d number words block (own.Put name address) up was =
    found_kept c d number name address (bytes_of_image d.script.images name) was
past_is_of_the_machine c d number words block (own.Write address count named) up was =
    let bytes = bytes_written count (or_no_bytes (named_bytes named)) in
    bytes_kept c d number address bytes [] (script_after_put d.script address bytes) refl was
past_is_of_the_machine c d number words block (own.Forget name) up was = image_forgotten d.script d.past name was
past_is_of_the_machine c d number words block (own.Counts name) up was = was
past_is_of_the_machine c d number words block own.Reset up was = anew_kept c d.script d.past number d.past.is_kept
past_is_of_the_machine c d number words block own.Quit up was = was
past_is_of_the_machine c d number words block (own.Expect expected) up was =
    checked_kept c d number words (check_answer (seen_of d) expected) was
past_is_of_the_machine c d number words block (own.Repeat count line) up was = was
past_is_of_the_machine c d number words block own.NotKnown up was =
    looked_kept c d number words (last_steps_asked words) was

-- WITH ANOTHER PAST

abbrev Same : PastState → DebugAnswered → DebugAnswered → Type 0
Same p a b = IsSameButPast p a b

-- a refusal counts in both
refused_same : (c : DebugSettings) (d other after_other after : DebugState) (p : PastState) (number : ℕ) (refused : Bool) (text : List ℕ)
    → other ≡ record d { past = p }
    → record after_other { past = p } ≡ record after { past = p }
    → Same p (answer_or_refused c other number refused after_other text) (answer_or_refused c d number refused after text)
refused_same c d other after_other after p number true text is same = record {
  text = ap (λ (x : DebugState). report_of_refusal c.form x.tally number text) is;
  state = λ i. let tallied : DebugState = record (same i) { tally = with_refusal (is i).tally } in tallied;
}
refused_same c d other after_other after p number false text is same = record { text = refl; state = same }

asked_same : (c : DebugSettings) (d : DebugState) (p : PastState) (number : ℕ) (r : Request) (reported : Answered)
    (block : List (List ℕ)) (nothing : Bool)
    → (let other : DebugState = record d { past = p } in
    let one : DebugState = if nothing then record other { script = reported.state } else state_with_answer c other number r reported block in
    let two : DebugState = if nothing then record d { script = reported.state } else state_with_answer c d number r reported block in
    record one { past = p } ≡ record two { past = p })
asked_same c d p number r reported block true = refl
asked_same c d p number r reported block false = refl

line_same : (c : DebugSettings) (d : DebugState) (p : PastState) (number : ℕ) (r : Request) (block : List (List ℕ))
    (o : Option stepping.SteppingRequest)
    → Same p (script_line_answer_in o c (record d { past = p }) number r block) (script_line_answer_in o c d number r block)
line_same c d p number r block (Some steps) = record { text = refl; state = refl }
line_same c d p number r block None =
    let other : DebugState = record d { past = p } in
    let reported : Answered = request_answer (script_with_budget d.script c.budget) number r block in
    refused_same c d other (state_after_line c other number r reported block) (state_after_line c d number r reported block) p number
    _ _ refl (asked_same c d p number r reported block (asks_nothing r))

place_same : (c : DebugSettings) (d : DebugState) (p : PastState) (number address : ℕ) (o : Option Fault)
    → Same p (set_pc_by o c (record d { past = p }) number address) (set_pc_by o c d number address)
place_same c d p number address (Some fault) = record { text = refl; state = refl }
place_same c d p number address None = record { text = refl; state = refl }

bytes_same : (c : DebugSettings) (d : DebugState) (p : PastState) (number address : ℕ) (bytes text : List ℕ) (r : Result ScriptState Fault)
    → Same p (bytes_done c (record d { past = p }) number address bytes text r) (bytes_done c d number address bytes text r)
bytes_same c d p number address bytes text (Ok script) = record { text = refl; state = refl }
bytes_same c d p number address bytes text (Err fault) = record { text = refl; state = refl }

found_same : (c : DebugSettings) (d : DebugState) (p : PastState) (number : ℕ) (name : List ℕ) (address : ℕ) (o : Option (List ℕ))
    → Same p (put_found c (record d { past = p }) number name address o) (put_found c d number name address o)
found_same c d p number name address None = record { text = refl; state = refl }
found_same c d p number name address (Some bytes) =
    bytes_same c d p number address bytes (put_text name address) (script_after_put d.script address bytes)

checked_same : (c : DebugSettings) (d : DebugState) (p : PastState) (number : ℕ) (words : List ℕ) (o : Option (List ℕ))
    → Same p (checked_answer c (record d { past = p }) number words o) (checked_answer c d number words o)
checked_same c d p number words None = record { text = refl; state = refl }
checked_same c d p number words (Some reason) = record { text = refl; state = refl }

unknown_same : (c : DebugSettings) (d : DebugState) (p : PastState) (number : ℕ) (words : List ℕ) (o : Option PastCommand) → o ≡ None
    → Same p (past_line_by c (record d { past = p }) number words (option_map (past_answered d.labels c.config c.budget d.script p) o))
    (past_line_by c d number words (option_map (past_answered d.labels c.config c.budget d.script d.past) o))
unknown_same c d p number words None none = module_line_same c d p number words
unknown_same c d p number words (Some command) none = absurd (cc)

looked_same : (c : DebugSettings) (d : DebugState) (p : PastState) (number : ℕ) (words : List ℕ) (o : Option ℕ) → o ≡ None
    → past_command d.labels d.script.machine words ≡ None
    → Same p (past_line_or_steps c (record d { past = p }) number words o) (past_line_or_steps c d number words o)
looked_same c d p number words None steps none =
    unknown_same c d p number words (past_command d.labels d.script.machine words) none
looked_same c d p number words (Some count) steps none = absurd (cc)

pub history_changes_no_answer : HistoryChangesNoAnswer
history_changes_no_answer c d p number words block (own.Script r) none =
    let noted : DebugState = with_block_noted d number r block in
    let same : Same p (script_line_answer_in (stepping_now d r) c (record noted { past = p }) number r block)
    (script_line_answer_in (stepping_now d r) c noted number r block) = line_same c noted p number r block (stepping_now d r) in record {
      text = ap (λ (xs : List ℕ). xs ++ answer_in c.form (block_reason d.failed d.script.images r)) same.text;
      state = same.state;
    }
history_changes_no_answer c d p number words block (own.Stepping is_traced r) none = record { text = refl; state = refl }
history_changes_no_answer c d p number words block (own.Mode r) none = record { text = refl; state = refl }
history_changes_no_answer c d p number words block own.Remark none = record { text = refl; state = refl }
history_changes_no_answer c d p number words block (own.View shown) none = record { text = refl; state = refl }
history_changes_no_answer c d p number words block (own.SetPc address) none =
    place_same c d p number address (halting_fault (option_map stop_of d.script.machine.halt))
history_changes_no_answer c d p number words block (own.SetPsr pattern) none = record { text = refl; state = refl }
history_changes_no_answer c d p number words block (own.Put name address) none =
    found_same c d p number name address (bytes_of_image d.script.images name)
history_changes_no_answer c d p number words block (own.Write address count named) none =
    let bytes = bytes_written count (or_no_bytes (named_bytes named)) in
    bytes_same c d p number address bytes [] (script_after_put d.script address bytes)
history_changes_no_answer c d p number words block (own.Forget name) none = record { text = refl; state = refl }
history_changes_no_answer c d p number words block (own.Counts name) none = record { text = refl; state = refl }
history_changes_no_answer c d p number words block own.Reset none = record { text = refl; state = refl }
history_changes_no_answer c d p number words block own.Quit none = record { text = refl; state = refl }
history_changes_no_answer c d p number words block (own.Expect expected) none =
    checked_same c d p number words (check_answer (seen_of d) expected)
history_changes_no_answer c d p number words block (own.Repeat count line) none = record { text = refl; state = refl }
history_changes_no_answer c d p number words block own.NotKnown none =
    looked_same c d p number words (last_steps_asked words) (none refl).0 (none refl).1
