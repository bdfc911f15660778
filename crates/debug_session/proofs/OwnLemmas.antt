-- What calls leave of a debugging session, by what those that they make leave.
use Rattle.std.proofs.Common.{◌≡◌, ℕ, ◌+◌, Bool, true, false, List, [], ◌++◌, Option, None, Some, Result, Ok, Err, ap, arith, refl, subst, sym, ◌∙◌}
use Rattle.std.specs.Result.{IsOkAnd}
use Rattle.std.specs.Prelude.{IfOk, ◌&&◌, ◌||◌, is_some, not, option_map, if◌then◌else◌, OnOk}
use Rattle.std.specs.Io.KnownBytes.{Appends}
use Rattle.profile.proofs.OutputLemmas.{Appends-join, Appends-nothing}
use Rattle.debug_lines.specs.DebugRequests.{DebugRequest}
use Rattle.profile.specs.declared.stop.Stop.{Stop}
use Rattle.profile.specs.Status.{status_after}
use Rattle.debug_modules.specs.BlockErrorTexts.{text_with_errors}
use Rattle.debug_tables.specs.Script.{request_answer}
use Rattle.debug_tables.specs.State.{Answered, IsAnswered, ScriptState}
use Rattle.debug_tables.specs.Memory.{script_started_anew, script_with_budget}
use Rattle.command_shell_lines.specs.Requests.{Request, Nothing, Hex, Asm, Boot, Run, Regs, Set, Poke, Call, Load, Step, Break, Unbreak, Mem, Code, Heap, Areas, Modules, Flex, Unknown, opens_block}
use Rattle.command_shell_lines.specs.Blocks.{lines_after, lines_taken}
use Rattle.command_shell_lines.specs.FailedBlocks.{block_reason}
use Rattle.debug_modules.specs.Labels.{ImageLabels}
use Rattle.debug_modules.specs.Changes.{ModeAnswer}
use Rattle.debug_modules.specs.DebugModes.{DebugModes}
use Rattle.debug_session.specs.DebugScript.{mode_answer_by, machine_change_answer, checked_answer, simple_request_answer, state_after_line, state_with_answer, script_line_answer, script_line_answer_by, answer_or_refused, line_in_modes_answer, past_after_reset, view_answer, with_block_noted}
use Rattle.debug_lines.specs.LineKinds.{asks_nothing, is_named_image, is_refused_block}
use Rattle.debug_modules.specs.Noted.{past_with_deed}
use Rattle.debug_modules.specs.Past.{PastState, past_from_start}
use Rattle.debug_modules.specs.PastDeed.{PastDeed}
use Rattle.debug_modules.specs.PastDeed.TheVariants.{Anew}
use Rattle.profile.specs.images.Entries.{Entry}
use Rattle.debug_tables.specs.Session.{script_state}
use Rattle.debug_session.specs.DebugState.{DebugAnswered, DebugState, IsDebugged, debug_answer}
use Rattle.debug_session.specs.Session.{debug_state}
use Rattle.debug_session.specs.declared.session.DebugSession.{DebugSession}
use Rattle.debug_modules.specs.Reports.{answer_in, is_untested}
use Rattle.debug_session.specs.ExitStatus.{debug_status}
use Rattle.debug_modules.specs.ReportForm.{ReportForm}
use Rattle.debug_modules.specs.ReportForm.TheVariants.{Answers, Tap}
use Rattle.debug_session.specs.declared.session.DebugSettings.{DebugSettings}

pub untested_status : (d : DebugState) (untested : Bool) (last : Option Stop) (status : ℕ)
    → untested ≡ is_untested d.tally → untested ≡ true → last ≡ d.script.last → status ≡ status_after last
    → status ≡ debug_status d
untested_status d untested last status is none same reported = rw (sym is ∙ none) (reported ∙ ap status_after same)

-- another script, and no answer
pub changed_script : (d : DebugState) (s t : ScriptState) (p q : PastState) (answer : List ℕ) → s ≡ t → p ≡ q → answer ≡ []
    → record d { script = s; answer = answer; past = p } ≡ record d { script = t; answer = []; past = q }
changed_script d s t p q answer same kept none = rw (same, kept, none) refl

-- an answer that was gathered in memory
pub gathered : (held text bytes : List ℕ) (now s t : ScriptState) (number : ℕ) (r : Request) (block : List (List ℕ))
    → held ≡ [] → bytes ≡ text → s ≡ t
    → IsAnswered (Some held) (Some text) now (request_answer s number r block)
    → IsAnswered (Some []) (Some bytes) now (request_answer t number r block)
gathered held text bytes now s t number r block none same with_budget reported =
    subst (λ (x : ScriptState). IsAnswered (Some []) (Some bytes) now (request_answer x number r block)) with_budget
    (subst (λ (xs : List ℕ). IsAnswered (Some []) (Some xs) now (request_answer s number r block)) (sym same)
    (subst (λ (xs : List ℕ). IsAnswered (Some xs) (Some text) now (request_answer s number r block)) none reported))

-- the tally and the form alone count of the state before
by_refusal : (c : DebugSettings) (d : DebugState) (number : ℕ) (r : Request) (reported : Answered) (block : List (List ℕ)) (shown : List ℕ)
    (refused : Bool)
    → answer_or_refused c (state_with_answer c d number r reported block) number refused (state_with_answer c d number r reported block) shown
    ≡ answer_or_refused c d number refused (state_with_answer c d number r reported block) shown
by_refusal c d number r reported block shown true = refl
by_refusal c d number r reported block shown false = refl

noted_is : (c : DebugSettings) (d : DebugState) (number : ℕ) (r : Request) (reported : Answered) (block : List (List ℕ)) (nothing : Bool)
    → nothing ≡ asks_nothing r → nothing ≡ false
    → state_with_answer c d number r reported block ≡ state_after_line c d number r reported block
noted_is c d number r reported block nothing asks some = rw (sym asks ∙ some) refl

pub line_answer : (before after : Option (List ℕ)) (c : DebugSettings) (d at_print now : DebugState) (number : ℕ)
    (r : Request) (reported : Answered) (block : List (List ℕ)) (text shown : List ℕ) (refused nothing : Bool)
    → at_print ≡ state_with_answer c d number r reported block → text ≡ reported.text → shown ≡ text_with_errors refused number r block text
    → nothing ≡ asks_nothing r → nothing ≡ false
    → refused ≡ is_refused_block d.script.images reported.state.images r
    → IsDebugged before after now (answer_or_refused c at_print number refused at_print shown)
    → IsDebugged before after now (script_line_answer_by c d number r reported block)
line_answer before after c d at_print now number r reported block text shown refused nothing note same behind asks some is written =
    subst (λ (x : DebugAnswered). IsDebugged before after now x)
    (ap (λ (x : DebugState). answer_or_refused c x number refused x shown) note
    ∙ ap (λ (xs : List ℕ). answer_or_refused c (state_with_answer c d number r reported block) number refused (state_with_answer c d number r reported block) xs)
    (behind ∙ ap (λ (xs : List ℕ). text_with_errors refused number r block xs) same)
    ∙ by_refusal c d number r reported block (text_with_errors refused number r block reported.text) refused
    ∙ ap (λ (b : Bool). answer_or_refused c d number b (state_with_answer c d number r reported block) (text_with_errors b number r block reported.text)) is
    ∙ ap (λ (x : DebugState). answer_or_refused c d number (is_refused_block d.script.images reported.state.images r) x
    (text_with_errors (is_refused_block d.script.images reported.state.images r) number r block reported.text))
    (noted_is c d number r reported block nothing asks some))
    written

-- the same by other names of the setting and the line
pub answer_with : (before after : Option (List ℕ)) (now at_print : DebugState) (c e : DebugSettings) (line number : ℕ) (refused : Bool)
    (text : List ℕ) → c ≡ e → line ≡ number
    → IsDebugged before after now (answer_or_refused c at_print line refused at_print text)
    → IsDebugged before after now (answer_or_refused e at_print number refused at_print text)
answer_with before after now at_print c e line number refused text setting at reported =
    subst (λ (x : DebugSettings). IsDebugged before after now (answer_or_refused x at_print number refused at_print text)) setting
    (subst (λ (n : ℕ). IsDebugged before after now (answer_or_refused c at_print n refused at_print text)) at reported)

-- a session whose script alone is another
pub session_moved : (old mid : DebugSession) (images after : List Entry) (to : ScriptState)
    → mid ≡ record old { session = mid.session; scratch = mid.scratch } → script_state mid.session after ≡ to
    → debug_state mid after ≡ record (debug_state old images) { script = to }
session_moved old mid images after to first state =
    ap (λ (s : DebugSession). debug_state s after) first
    ∙ ap (λ (t : ScriptState). let moved : DebugState = record (debug_state old images) { script = t } in moved) state

-- whether a block is refused, as the code tests it
pub refused_as_answer : (refused there : Bool) (before after images : List Entry) (r : Request)
    → refused ≡ (opens_block r && (there || not (is_named_image after r))) → there ≡ is_named_image before r
    → after ≡ images → refused ≡ is_refused_block before images r
refused_as_answer refused there before after images r is was same = is
    ∙ ap (λ (b : Bool). opens_block r && (b || not (is_named_image after r))) was
    ∙ ap (λ (es : List Entry). opens_block r && (is_named_image before r || not (is_named_image es r))) same

empty_in : (form : ReportForm) → answer_in form [] ≡ []
empty_in Answers = refl
empty_in Tap = refl

-- a line that asks for nothing
pub no_answer : (c : DebugSettings) (d now : DebugState) (number line : ℕ) (r : Request) (block named : List (List ℕ))
    (held : Option (List ℕ)) (nothing : Bool) → nothing ≡ asks_nothing r → nothing ≡ true
    → now ≡ record d { script = (request_answer (script_with_budget d.script c.budget) line r block).state }
    → IsDebugged held held now
    (script_line_answer_by c d number r (request_answer (script_with_budget d.script c.budget) line r block) named)
no_answer c d now number line Nothing block named held nothing asks none state = record {
  text = subst (λ (xs : List ℕ). Appends held held xs) (sym (empty_in c.form)) (Appends-nothing held);
  state = state;
}
no_answer c d now number line (Hex name) block named held nothing asks none state = absurd (cc)
no_answer c d now number line (Asm name origin) block named held nothing asks none state = absurd (cc)
no_answer c d now number line (Boot name) block named held nothing asks none state = absurd (cc)
no_answer c d now number line Run block named held nothing asks none state = absurd (cc)
no_answer c d now number line Regs block named held nothing asks none state = absurd (cc)
no_answer c d now number line (Set register value) block named held nothing asks none state = absurd (cc)
no_answer c d now number line (Poke address value) block named held nothing asks none state = absurd (cc)
no_answer c d now number line (Call called) block named held nothing asks none state = absurd (cc)
no_answer c d now number line (Load text) block named held nothing asks none state = absurd (cc)
no_answer c d now number line (Step count) block named held nothing asks none state = absurd (cc)
no_answer c d now number line (Break address) block named held nothing asks none state = absurd (cc)
no_answer c d now number line (Unbreak address) block named held nothing asks none state = absurd (cc)
no_answer c d now number line (Mem address count) block named held nothing asks none state = absurd (cc)
no_answer c d now number line (Code address count) block named held nothing asks none state = absurd (cc)
no_answer c d now number line (Heap address) block named held nothing asks none state = absurd (cc)
no_answer c d now number line Areas block named held nothing asks none state = absurd (cc)
no_answer c d now number line Modules block named held nothing asks none state = absurd (cc)
no_answer c d now number line Flex block named held nothing asks none state = absurd (cc)
no_answer c d now number line Unknown block named held nothing asks none state = absurd (cc)

-- a view by its text
pub view_of_text : {A E : Type 0} (result : Result A E) (before after : Option (List ℕ)) (now d : DebugState) (c : DebugSettings)
    (text shown : List ℕ) → text ≡ shown → OnOk result (IsDebugged before after now (view_answer c d text))
    → OnOk result (IsDebugged before after now (view_answer c d shown))
view_of_text result before after now d c text shown same reported =
    subst (λ (xs : List ℕ). OnOk result (IsDebugged before after now (view_answer c d xs))) same reported

-- what is shown of a request, shown of a line that asks for it
pub asked_if : {A E : Type 0} (result : Result A E) (before after : Option (List ℕ)) (now d : DebugState) (c : DebugSettings)
    (number : ℕ) (words : List ℕ) (block : List (List ℕ)) (r asks : DebugRequest)
    → r ≡ asks → OnOk result (IsDebugged before after now (simple_request_answer c d number words r block))
    → OnOk result (IsDebugged before after now (simple_request_answer c d number words asks block))
asked_if result before after now d c number words block r asks is reported =
    subst (λ (x : DebugRequest). OnOk result (IsDebugged before after now (simple_request_answer c d number words x block))) is reported

-- an expectation by its reason
pub checked_by : {A E : Type 0} (result : Result A E) (before after : Option (List ℕ)) (now d : DebugState) (c : DebugSettings)
    (line number : ℕ) (words : List ℕ) (reason reported : Option (List ℕ))
    → line ≡ number → reason ≡ reported → OnOk result (IsDebugged before after now (checked_answer c d line words reason))
    → OnOk result (IsDebugged before after now (checked_answer c d number words reported))
checked_by result before after now d c line number words reason reported at is written =
    subst (λ (x : Option (List ℕ)). OnOk result (IsDebugged before after now (checked_answer c d number words x))) is
    (subst (λ (n : ℕ). OnOk result (IsDebugged before after now (checked_answer c d n words reason))) at written)

-- a change that writes nothing
pub changed_silently : {A E : Type 0} (result : Result A E) (held : Option (List ℕ)) (now d : DebugState) (number : ℕ) (deed : PastDeed)
    (script : ScriptState) → OnOk result (now ≡ (machine_change_answer d number deed script).state)
    → OnOk result (IsDebugged held held now (machine_change_answer d number deed script))
changed_silently (Ok a) held now d number deed script is = record { text = Appends-nothing held; state = is }
changed_silently (Err e) held now d number deed script is = record {}

-- a line that opens no block takes none
pub left_alone : {A E : Type 0} (result : Result A E) (opens : Bool) (left : List (List ℕ)) → opens ≡ false
    → OnOk result (left ≡ lines_after opens left)
left_alone (Ok a) opens left alone = sym (ap (λ (b : Bool). lines_after b left) alone)
left_alone (Err e) opens left alone = record {}

pub number_alone : {A E : Type 0} (result : Result A E) (opens : Bool) (number : ℕ) (left : List (List ℕ)) → opens ≡ false
    → OnOk result (number ≡ number + lines_taken opens left)
number_alone (Ok a) opens number left alone =
    let none : lines_taken opens left ≡ 0 = ap (λ (b : Bool). lines_taken b left) alone in omega (arith, none)
number_alone (Err e) opens number left alone = record {}

-- whether there is something, by what is seen of it
pub mapped_some : {A B : Type 0} (f : A → B) (o : Option A) → is_some o ≡ is_some (option_map f o)
mapped_some f None = refl
mapped_some f (Some a) = refl

-- a session whose images and labels are others
pub without_image : (d : DebugState) (images after : List Entry) (labels left : List ImageLabels) (sources behind : List Entry)
    (p q : PastState) → after ≡ images → labels ≡ left → sources ≡ behind → p ≡ q
    → record d { script = record d.script { images = after }; labels = labels; sources = sources; past = p }
    ≡ record d { script = record d.script { images = images }; labels = left; sources = behind; past = q }
without_image d images after labels left sources behind p q stay go leave kept = rw (stay, go, leave, kept) refl

-- a text for which there was memory, shown
pub shown_as : {T F A E : Type 0} (text : Result T F) (result : Result A E) (P : T → Type 0) (before after : Option (List ℕ))
    (now : DebugState) (shown : T → DebugAnswered) (reported : DebugAnswered) → ((t : T) → P t → shown t ≡ reported)
    → IfOk text P → OnOk result (IsOkAnd text (λ t. IsDebugged before after now (shown t)))
    → OnOk result (IsDebugged before after now reported)
shown_as (Ok t) (Ok a) P before after now shown reported same said written =
    subst (λ (x : DebugAnswered). IsDebugged before after now x) (same t said) written
shown_as (Err f) (Ok a) P before after now shown reported same said written = absurd written
shown_as text (Err e) P before after now shown reported same said written = record {}

-- a view of another state
pub view_after : {A E : Type 0} (result : Result A E) (before after : Option (List ℕ)) (now d e : DebugState) (c f : DebugSettings)
    (text shown : List ℕ) → c ≡ f → d ≡ e → text ≡ shown → OnOk result (IsDebugged before after now (view_answer c d text))
    → OnOk result (IsDebugged before after now (view_answer f e shown))
view_after result before after now d e c f text shown setting state same reported =
    subst (λ (x : DebugSettings). OnOk result (IsDebugged before after now (view_answer x e shown))) setting
    (subst (λ (x : DebugState). OnOk result (IsDebugged before after now (view_answer c x shown))) state
    (view_of_text result before after now d c text shown same reported))

-- what is written, by what it should be
pub written_as : {A E : Type 0} (result : Result A E) (before after : Option (List ℕ)) (now : DebugState) (shown reported : DebugAnswered)
    → shown ≡ reported → OnOk result (IsDebugged before after now shown) → OnOk result (IsDebugged before after now reported)
written_as result before after now shown reported same written =
    subst (λ (x : DebugAnswered). OnOk result (IsDebugged before after now x)) same written

pub viewed : {A E : Type 0} (result : Result A E) (before after : Option (List ℕ)) (now d : DebugState) (c e : DebugSettings)
    (text : List ℕ) (reported : DebugAnswered) → c ≡ e → view_answer e d text ≡ reported
    → OnOk result (IsDebugged before after now (view_answer c d text)) → OnOk result (IsDebugged before after now reported)
viewed result before after now d c e text reported setting same =
    written_as result before after now (view_answer c d text) reported (ap (λ (s : DebugSettings). view_answer s d text) setting ∙ same)

-- an answer to a line of a script, and what stands below it
pub line_below : (before mid after : Option (List ℕ)) (c e : DebugSettings) (d n now : DebugState) (number : ℕ) (r : Request)
    (block : List (List ℕ)) (below : List ℕ) → e ≡ c → n ≡ with_block_noted d number r block
    → below ≡ block_reason d.failed d.script.images r
    → IsDebugged before mid now (line_in_modes_answer e n number r block) → Appends mid after (answer_in c.form below)
    → IsDebugged before after now (script_line_answer c d number r block)
line_below before mid after c e d n now number r block below setting noted is reported shown =
    let under : ReportForm → List ℕ → DebugAnswered → DebugAnswered = λ form xs x. debug_answer x.state (x.text ++ answer_in form xs) in
    let first : DebugAnswered = line_in_modes_answer e n number r block in
    subst (λ (x : DebugAnswered). IsDebugged before after now x)
    (λ i. under c.form (is i) (line_in_modes_answer (setting i) (noted i) number r block))
    (record {
      text = Appends-join before mid after first.text (answer_in c.form below) reported.text shown;
      state = reported.state;
    })

-- a machine made anew, whose past begins or goes on
pub made_anew : (d : DebugState) (s t : ScriptState) (p q : PastState) → s ≡ t → p ≡ q
    → record d { script = s; past = p } ≡ record d { script = t; past = q }
made_anew d s t p q made begun = λ i. record d { script = made i; past = begun i }

pub begun_anew : (c : DebugSettings) (d now : DebugState) (number : ℕ)
    → now ≡ record d { script = script_started_anew d.script c.config c.budget; past = past_from_start c.keeps_past }
    → d.past.is_kept ≡ false
    → now ≡ record d { script = script_started_anew d.script c.config c.budget; past = past_after_reset c.keeps_past d.past number }
begun_anew c d now number made lost = made ∙ ap (λ (b : Bool). let begun : DebugState = record d {
  script = script_started_anew d.script c.config c.budget;
  past = if b then past_with_deed d.past number Anew else past_from_start c.keeps_past;
} in begun) (sym lost)

pub gone_on_anew : (c : DebugSettings) (d : DebugState) (s : ScriptState) (p : PastState) (number : ℕ)
    → s ≡ script_started_anew d.script c.config c.budget → p ≡ past_with_deed d.past number Anew → d.past.is_kept ≡ true
    → record d { script = s; past = p }
    ≡ record d { script = script_started_anew d.script c.config c.budget; past = past_after_reset c.keeps_past d.past number }
gone_on_anew c d s p number made noted kept =
    (λ i. record d { script = made i; past = noted i })
    ∙ ap (λ (b : Bool). let gone : DebugState = record d {
      script = script_started_anew d.script c.config c.budget;
      past = if b then past_with_deed d.past number Anew else past_from_start c.keeps_past;
    } in gone) (sym kept)

-- a change of modes, and what is shown of it
pub changed_modes : (c : DebugSettings) (d : DebugState) (modes : DebugModes) (text : List ℕ) (reported : ModeAnswer) → modes ≡ reported.modes
    → text ≡ reported.text
    → (let changed : DebugState = record d { modes = modes } in view_answer c changed text) ≡ mode_answer_by c d reported
changed_modes c d modes text reported state same = λ i.
    let changed : DebugState = record d { modes = state i } in view_answer c changed (same i)
