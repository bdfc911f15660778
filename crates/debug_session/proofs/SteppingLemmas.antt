-- Lines that take steps in modes.
use Rattle.std.proofs.Common.{◌≡◌, ℕ, Bool, true, false, List, ◌++◌, Option, None, Some, Result, Ok, Err, refl, subst}
use Rattle.std.specs.Prelude.{OnOk, if◌then◌else◌}
use Rattle.std.specs.Io.KnownBytes.{Appends}
use Rattle.profile.proofs.OutputLemmas.{Appends-join}
use Rattle.profile.specs.FaultNames.{fault_name}
use Rattle.profile.specs.Outcome.{Leaves}
use Rattle.profile.specs.Fault.{Fault}
use Rattle.debug_tables.specs.Answers.{refused_text}
use Rattle.debug_tables.specs.State.{ScriptState}
use Rattle.command_shell_lines.specs.Requests.{Request, Nothing, Hex, Asm, Boot, Run, Regs, Set, Poke, Call, Load, Step, Break, Unbreak, Mem, Code, Heap, Areas, Modules, Flex, Unknown, opens_block}
use Rattle.debug_modules.specs.Noted.{past_with_deed}
use Rattle.debug_modules.specs.Past.{PastState}
use Rattle.debug_modules.specs.PastDeed.TheVariants.{Bytes}
use Rattle.debug_lines.specs.SteppingRequests.{SteppingRequest, stepping_in}
use Rattle.debug_modules.specs.DebugModes.{DebugModes}
use Rattle.debug_session.specs.DebugScript.{bytes_done, stepping_answer_by, view_answer}
use Rattle.debug_session.specs.DebugState.{DebugAnswered, DebugState, IsDebugged}
use Rattle.debug_modules.specs.Reports.{answer_in}
use Rattle.debug_modules.specs.ReportForm.{ReportForm}
use Rattle.debug_modules.specs.ReportForm.TheVariants.{Answers, Tap}
use Rattle.debug_session.specs.declared.session.DebugSettings.{DebugSettings}

-- a line that takes steps opens no block
stepping_opens : (r : Request) (asked : SteppingRequest) → Some asked ≡ stepping_in r → opens_block r ≡ false
stepping_opens Nothing asked is = absurd (cc)
stepping_opens (Hex name) asked is = absurd (cc)
stepping_opens (Asm name origin) asked is = absurd (cc)
stepping_opens (Boot name) asked is = absurd (cc)
stepping_opens Run asked is = refl
stepping_opens Regs asked is = absurd (cc)
stepping_opens (Set register value) asked is = absurd (cc)
stepping_opens (Poke address value) asked is = absurd (cc)
stepping_opens (Call number) asked is = refl
stepping_opens (Load text) asked is = refl
stepping_opens (Step count) asked is = refl
stepping_opens (Break address) asked is = absurd (cc)
stepping_opens (Unbreak address) asked is = absurd (cc)
stepping_opens (Mem address count) asked is = absurd (cc)
stepping_opens (Code address count) asked is = absurd (cc)
stepping_opens (Heap address) asked is = absurd (cc)
stepping_opens Areas asked is = absurd (cc)
stepping_opens Modules asked is = absurd (cc)
stepping_opens Flex asked is = absurd (cc)
stepping_opens Unknown asked is = absurd (cc)

pub stepping_alone : (over : Bool) (r : Request) (asked : SteppingRequest)
    → Some asked ≡ (if over then stepping_in r else None) → opens_block r ≡ false
stepping_alone true r asked is = stepping_opens r asked is
stepping_alone false r asked is = absurd (cc)

-- two answers one after another
answers_joined : (form : ReportForm) (xs ys : List ℕ) → answer_in form xs ++ answer_in form ys ≡ answer_in form (xs ++ ys)
answers_joined Answers xs ys = refl
answers_joined Tap xs ys = refl

pub written_both : (a b c : Option (List ℕ)) (form : ReportForm) (xs ys : List ℕ)
    → Appends a b (answer_in form xs) → Appends b c (answer_in form ys) → Appends a c (answer_in form (xs ++ ys))
written_both a b c form xs ys first next =
    subst (λ (text : List ℕ). Appends a c text) (answers_joined form xs ys)
    (Appends-join a b c (answer_in form xs) (answer_in form ys) first next)

-- what steps left, shown from the state and in the modes after them
pub answer_of_steps : {A E : Type 0} (result : Result A E) (before after : Option (List ℕ)) (c : DebugSettings)
    (d now : DebugState) (mid : ScriptState) (modes kept : DebugModes)
    (p q : PastState)
    (s : ScriptState) (text text' printed printed' ending ending' : List ℕ)
    → modes ≡ kept → p ≡ q → mid ≡ s → text ≡ text' → printed ≡ printed' → ending ≡ ending'
    → OnOk result (IsDebugged before after now
    (stepping_answer_by c (record d { script = mid; modes = modes; past = p }) mid text printed ending))
    → OnOk result (IsDebugged before after now (stepping_answer_by c (record d { modes = kept; past = q }) s text' printed' ending'))
answer_of_steps result before after c d now mid modes kept p q s text text' printed printed' ending ending' same past is reported prints ends written =
    subst (λ (x : DebugAnswered). OnOk result (IsDebugged before after now x)) (rw (same, past, is, reported, prints, ends) refl) written

-- bytes that a line writes, written or refused
pub bytes_ok : (c : DebugSettings) (d : DebugState) (number address : ℕ) (bytes text : List ℕ)
    (old new : ScriptState) (p : PastState) (o : Result ScriptState Fault) (u : Unit {0})
    → Leaves {U = Unit {0}} old o (Ok u) new → p ≡ past_with_deed d.past number (Bytes address bytes)
    → view_answer c (record d { script = new; past = p }) text ≡ bytes_done c d number address bytes text o
bytes_ok c d number address bytes text old new p (Ok s) u leaves noted = rw (leaves, noted) refl
bytes_ok c d number address bytes text old new p (Err fault) u leaves noted = absurd leaves

pub bytes_refused : (c : DebugSettings) (d : DebugState) (number address : ℕ) (bytes text : List ℕ)
    (new : ScriptState) (o : Result ScriptState Fault) (fault : Fault) (shown : List ℕ)
    → Leaves {U = Unit {0}} d.script o (Err fault) new → shown ≡ refused_text (fault_name fault)
    → view_answer c (record d { script = new }) shown ≡ bytes_done c d number address bytes text o
bytes_refused c d number address bytes text new (Ok s) fault shown leaves same = absurd leaves
bytes_refused c d number address bytes text new (Err f) fault shown leaves same = rw (leaves.1, same, leaves.0) refl
