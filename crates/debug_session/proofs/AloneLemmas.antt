-- A line that opens no block is answered whatever lines follow it.
use Rattle.std.proofs.Common.{◌≡◌, ℕ, zero, suc, ◌+◌, Bool, true, false, List, Option, Some, None, IfSome, codes, drop, take, position, ap, refl, ◌∙◌}
use Rattle.std.specs.Prelude.{◌&&◌, ◌==◌, nat_lt, if◌then◌else◌}
use Rattle.command_shell_lines.specs.Numbers.{script_number}
use Rattle.command_shell_lines.specs.debug_words.Texts.{text_behind}
use Rattle.std.specs.Option.{option_or}
use Rattle.debug_modules.specs.DebugLabelsLines.{LineNaming}
use Rattle.command_shell_lines.specs.Requests.{Request, Nothing, Hex, Asm, Boot, Run, Regs, Set, Poke, Call, Load, Step, Break, Unbreak, Mem, Code, Heap, Areas, Modules, Flex, Unknown, opens_block, request_of}
use Rattle.debug_lines.specs.DebugRequests.{DebugRequest, Script, Stepping, Mode, Remark, View, SetPc, SetPsr, Put, Write, Forget, Counts, Reset, Quit, Expect, Repeat, NotKnown, debug_opens_block, is_known, is_repeatable, is_script_request, own_request, own_request_by, repeated_at, repeated_behind, repeated_if, repeated_line, simple_request}
use Rattle.debug_lines.specs.Repeats.{repeated_text}
use Rattle.debug_lines.specs.SteppingRequests.{SteppingRequest}
use Rattle.debug_lines.specs.Tidy.{tidied_line}
use Rattle.command_shell_lines.specs.FailedBlocks.{block_reason}
use Rattle.debug_session.specs.DebugScript.{debug_line_answer, line_opens, plain_line_answer, repeated_answer, script_line_answer, script_line_answer_in, simple_line_answer, simple_request_answer, stepping_now, tidy_line_answer, tidy_line_answer_by, unless_quit, with_block_noted, with_line_below}
use Rattle.debug_session.specs.DebugState.{DebugAnswered, DebugState, then_debugged}
use Rattle.debug_session.specs.Naming.{if_repeatable, meant_request, naming_of, numbered_line, repeated_with_places, unless_alone}
use Rattle.debug_session.specs.declared.session.DebugSettings.{DebugSettings}
use Rattle.debug_session.proofs.LineLemmas.{joined}
use Rattle.debug_session.proofs.NamingLemmas.{repeatable_alone, unknown_alone}

-- A LINE OF A SCRIPT

plain_alone : (c : DebugSettings) (d : DebugState) (number : ℕ) (r : Request) (block other : List (List ℕ)) → opens_block r ≡ false
    → plain_line_answer c d number r block ≡ plain_line_answer c d number r other
plain_alone c d number (Hex name) block other alone = absurd (cc)
plain_alone c d number (Asm name origin) block other alone = absurd (cc)
plain_alone c d number Nothing block other alone = refl
plain_alone c d number (Boot name) block other alone = refl
plain_alone c d number Run block other alone = refl
plain_alone c d number Regs block other alone = refl
plain_alone c d number (Set register value) block other alone = refl
plain_alone c d number (Poke address value) block other alone = refl
plain_alone c d number (Call called) block other alone = refl
plain_alone c d number (Load text) block other alone = refl
plain_alone c d number (Step count) block other alone = refl
plain_alone c d number (Break address) block other alone = refl
plain_alone c d number (Unbreak address) block other alone = refl
plain_alone c d number (Mem address count) block other alone = refl
plain_alone c d number (Code address count) block other alone = refl
plain_alone c d number (Heap address) block other alone = refl
plain_alone c d number Areas block other alone = refl
plain_alone c d number Modules block other alone = refl
plain_alone c d number Flex block other alone = refl
plain_alone c d number Unknown block other alone = refl

script_alone_in : (o : Option SteppingRequest) (c : DebugSettings) (d : DebugState) (number : ℕ) (r : Request)
    (block other : List (List ℕ)) → opens_block r ≡ false
    → script_line_answer_in o c d number r block ≡ script_line_answer_in o c d number r other
script_alone_in (Some stepping) c d number r block other alone = refl
script_alone_in None c d number r block other alone = plain_alone c d number r block other alone

-- no block is noted
noted_alone : (d : DebugState) (number : ℕ) (r : Request) (block other : List (List ℕ)) → opens_block r ≡ false
    → with_block_noted d number r block ≡ with_block_noted d number r other
noted_alone d number Nothing block other alone = refl
noted_alone d number (Hex name) block other alone = refl
noted_alone d number (Asm name origin) block other alone = absurd (cc)
noted_alone d number (Boot name) block other alone = refl
noted_alone d number Run block other alone = refl
noted_alone d number Regs block other alone = refl
noted_alone d number (Set register value) block other alone = refl
noted_alone d number (Poke address value) block other alone = refl
noted_alone d number (Call called) block other alone = refl
noted_alone d number (Load text) block other alone = refl
noted_alone d number (Step count) block other alone = refl
noted_alone d number (Break address) block other alone = refl
noted_alone d number (Unbreak address) block other alone = refl
noted_alone d number (Mem address count) block other alone = refl
noted_alone d number (Code address count) block other alone = refl
noted_alone d number (Heap address) block other alone = refl
noted_alone d number Areas block other alone = refl
noted_alone d number Modules block other alone = refl
noted_alone d number Flex block other alone = refl
noted_alone d number Unknown block other alone = refl

script_alone : (c : DebugSettings) (d : DebugState) (number : ℕ) (r : Request) (block other : List (List ℕ)) → opens_block r ≡ false
    → script_line_answer c d number r block ≡ script_line_answer c d number r other
script_alone c d number r block other alone =
    ap (λ (x : DebugAnswered). with_line_below c (block_reason d.failed d.script.images r) x)
    (ap (λ (e : DebugState). script_line_answer_in (stepping_now d r) c e number r block) (noted_alone d number r block other alone)
    ∙ script_alone_in (stepping_now d r) c (with_block_noted d number r other) number r block other alone)

-- A TIDY LINE

request_alone : (c : DebugSettings) (d : DebugState) (number : ℕ) (words : List ℕ) (r : DebugRequest) (block other : List (List ℕ))
    → debug_opens_block r ≡ false
    → simple_request_answer c d number words r block ≡ simple_request_answer c d number words r other
request_alone c d number words (Script request) block other alone = script_alone c d number request block other alone
request_alone c d number words (Stepping is_traced request) block other alone = refl
request_alone c d number words (Mode request) block other alone = refl
request_alone c d number words Remark block other alone = refl
request_alone c d number words (View shown) block other alone = refl
request_alone c d number words (SetPc address) block other alone = refl
request_alone c d number words (SetPsr pattern) block other alone = refl
request_alone c d number words (Put name address) block other alone = refl
request_alone c d number words (Write address count named) block other alone = refl
request_alone c d number words (Forget name) block other alone = refl
request_alone c d number words (Counts name) block other alone = refl
request_alone c d number words Reset block other alone = refl
request_alone c d number words Quit block other alone = refl
request_alone c d number words (Expect expected) block other alone = refl
request_alone c d number words (Repeat count line) block other alone = refl
request_alone c d number words NotKnown block other alone = refl

numbered_alone : (r : DebugRequest) (may : Bool) → is_repeatable r ≡ may → debug_opens_block (if may then r else NotKnown) ≡ false
numbered_alone r true is = repeatable_alone r is
numbered_alone r false is = refl

meant_by : (known : Bool) (r numbered : DebugRequest) → debug_opens_block r ≡ false
    → debug_opens_block (if known then r else unless_alone numbered) ≡ false
meant_by true r numbered alone = alone
meant_by false r numbered alone = numbered_alone numbered (is_repeatable numbered) refl

-- whatever the words in it mean
meant_alone : (n : LineNaming) (line : List ℕ) → debug_opens_block (simple_request line) ≡ false
    → debug_opens_block (meant_request n line) ≡ false
meant_alone n line alone =
    meant_by (is_known (simple_request line)) (simple_request line) (simple_request (numbered_line n line)) alone

simple_alone : (c : DebugSettings) (d : DebugState) (number : ℕ) (line : List ℕ) (block other : List (List ℕ))
    → debug_opens_block (simple_request line) ≡ false
    → simple_line_answer c d number line block ≡ simple_line_answer c d number line other
simple_alone c d number line block other alone =
    request_alone c d number line (meant_request (naming_of d) line) block other (meant_alone (naming_of d) line alone)

-- A LINE THAT IS REPEATED

-- what is repeated opens no block
IsAlone : ℕ × List ℕ → Type 0
IsAlone repeated = debug_opens_block (simple_request repeated.1) ≡ false

repeated_alone_by : (some may : Bool) (count : ℕ) (line : List ℕ) → is_repeatable (simple_request line) ≡ may
    → IfSome (if some && may then Some (count, line) else None) IsAlone
unfolding IsAlone
repeated_alone_by true true count line is = repeatable_alone (simple_request line) is
repeated_alone_by true false count line is = tt
repeated_alone_by false may count line is = tt

repeated_if_alone : (o : Option ℕ) (line : List ℕ) → IfSome (repeated_if o line) IsAlone
repeated_if_alone (Some count) line =
    repeated_alone_by (nat_lt 0 count) (is_repeatable (simple_request line)) count line refl
repeated_if_alone None line = tt

repeated_at_alone : (o : Option ℕ) (text : List ℕ) → IfSome (repeated_at o text) IsAlone
repeated_at_alone (Some place) text = repeated_if_alone (script_number (take place text)) (drop (place + 1) text)
repeated_at_alone None text = tt

repeated_behind_alone : (o : Option (List ℕ)) → IfSome (repeated_behind o) IsAlone
repeated_behind_alone (Some text) = repeated_at_alone (position (λ b. b == 32) text) text
repeated_behind_alone None = tt

repeated_line_alone : (line : List ℕ) → IfSome (repeated_line line) IsAlone
unfolding repeated_line
repeated_line_alone line = repeated_behind_alone (text_behind (codes "REPEAT ") line)

-- one that may be repeated by what it means
may_alone_by : (known may : Bool) (r numbered : DebugRequest) → is_known r ≡ known
    → is_repeatable (if known then r else unless_alone numbered) ≡ may → may ≡ true → debug_opens_block r ≡ false
may_alone_by true may r numbered is repeats so = repeatable_alone r (repeats ∙ so)
may_alone_by false may r numbered is repeats so = unknown_alone r is

may_alone : (n : LineNaming) (repeated : ℕ × List ℕ) (may : Bool) → is_repeatable (meant_request n repeated.1) ≡ may
    → IfSome (if may then Some repeated else None) IsAlone
unfolding IsAlone
may_alone n repeated true is =
    may_alone_by (is_known (simple_request repeated.1)) true (simple_request repeated.1)
    (simple_request (numbered_line n repeated.1)) refl is refl
may_alone n repeated false is = tt

if_repeatable_alone : (n : LineNaming) (o : Option (ℕ × List ℕ)) → IfSome (if_repeatable n o) IsAlone
if_repeatable_alone n (Some repeated) = may_alone n repeated (is_repeatable (meant_request n repeated.1)) refl
if_repeatable_alone n None = tt

places_alone_by : (known : Bool) (n : LineNaming) (o : Option (ℕ × List ℕ))
    → IfSome (if known then None else if_repeatable n o) IsAlone
places_alone_by true n o = tt
places_alone_by false n o = if_repeatable_alone n o

places_alone : (n : LineNaming) (line : List ℕ) → IfSome (repeated_with_places n line) IsAlone
places_alone n line = places_alone_by (is_known (simple_request line)) n (repeated_text line)

repeat_alone : (count : ℕ) (c : DebugSettings) (number : ℕ) (line : List ℕ) (block other : List (List ℕ)) (d : DebugState)
    → debug_opens_block (simple_request line) ≡ false
    → repeated_answer count c number line block d ≡ repeated_answer count c number line other d
unfolding repeated_answer
repeat_alone zero c number line block other d alone = refl
repeat_alone (suc more) c number line block other d alone =
    let first : DebugAnswered = simple_line_answer c d number line other in
    ap (λ (reported : DebugAnswered). unless_quit d (then_debugged reported (λ after. repeated_answer more c number line block after)))
    (simple_alone c d number line block other alone)
    ∙ ap (λ (reported : DebugAnswered). unless_quit d (joined first reported))
    (repeat_alone more c number line block other first.state alone)

-- A LINE

-- what is repeated by the line itself, or by what it means
tidy_alone_by : (itself meant : Option (ℕ × List ℕ)) (c : DebugSettings) (d : DebugState) (number : ℕ) (words : List ℕ)
    (block other : List (List ℕ)) → IfSome itself IsAlone → IfSome meant IsAlone
    → debug_opens_block (own_request_by itself words) ≡ false
    → tidy_line_answer_by (option_or itself meant) c d number words block
    ≡ tidy_line_answer_by (option_or itself meant) c d number words other
unfolding IsAlone
tidy_alone_by (Some repeated) meant c d number words block other first next alone =
    repeat_alone repeated.0 c number repeated.1 block other d first
tidy_alone_by None (Some repeated) c d number words block other first next alone =
    repeat_alone repeated.0 c number repeated.1 block other d next
tidy_alone_by None None c d number words block other first next alone =
    simple_alone c d number words block other alone

tidy_alone : (c : DebugSettings) (d : DebugState) (number : ℕ) (words : List ℕ) (block other : List (List ℕ))
    → debug_opens_block (own_request words) ≡ false
    → tidy_line_answer c d number words block ≡ tidy_line_answer c d number words other
tidy_alone c d number words block other alone =
    tidy_alone_by (repeated_line words) (repeated_with_places (naming_of d) words) c d number words block other
    (repeated_line_alone words) (places_alone (naming_of d) words) alone

line_alone_by : (is_script : Bool) (c : DebugSettings) (d : DebugState) (number : ℕ) (r : Request) (words : List ℕ)
    (block other : List (List ℕ)) → debug_opens_block (if is_script then Script r else own_request words) ≡ false
    → (if is_script then script_line_answer c d number r block else tidy_line_answer c d number words block)
    ≡ (if is_script then script_line_answer c d number r other else tidy_line_answer c d number words other)
line_alone_by true c d number r words block other alone = script_alone c d number r block other alone
line_alone_by false c d number r words block other alone = tidy_alone c d number words block other alone

pub line_alone : (c : DebugSettings) (d : DebugState) (number : ℕ) (line : List ℕ) (block other : List (List ℕ))
    → line_opens line ≡ false → debug_line_answer c d number line block ≡ debug_line_answer c d number line other
line_alone c d number line block other alone =
    line_alone_by (is_script_request (request_of line)) c d number (request_of line) (tidied_line line) block other alone
