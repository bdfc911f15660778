-- What is read and answered, up to the end of what is read or a line QUIT: in whatever pieces it comes,
-- it is answered as the whole of it is.
use Rattle.std.specs.Prelude.{◌≡◌, ◌⊎◌, ℕ, Bool, true, false, List, ◌++◌, Option, Result, IfErr, IfSome}
use Rattle.std.specs.Io.KnownBytes.{Appends, Consumes}
use Rattle.std.specs.Str.Lines.{lines}
use Rattle.profile.specs.images.Entries.{Entry}
use Rattle.profile.specs.Output.{AddsAllBut, AddsFront}
use Rattle.debug_session.specs.DebugScript.{debug_lines_answer, debug_script_answer, then_summary}
use Rattle.debug_session.specs.DebugState.{DebugAnswered}
use Rattle.debug_session.specs.ExitStatus.{debug_status}
use Rattle.debug_session.specs.RunError.{RunError}
use Rattle.debug_session.specs.RunError.TheVariants.{WriteFault}
use Rattle.debug_program.specs.Typing.{IsTakenInPart}
use Rattle.debug_session.specs.Session.{debug_state}
use Rattle.debug_program.specs.Typing.{IsTaken}
use Rattle.debug_session.specs.DebugChecksReportForm.{ReportForm}
use Rattle.debug_session.specs.DebugChecksReportForm.TheVariants.{Answers}
use Rattle.debug_session.specs.declared.session.DebugSettings.{DebugSettings}
use Rattle.debug_program.specs.declared.typing.DebugTyping.{DebugTyping}

-- what bytes are answered that follow what waits, from where a session stands, up to their end
abbrev pub debug_bytes_shown : DebugTyping → List Entry → List ℕ → DebugAnswered
debug_bytes_shown t images bytes = debug_lines_answer t.session.setting t.number
    (debug_state t.session images)
    (lines (t.pending.items ++ bytes))

-- Only answers are written: neither prompts nor comments of the protocol.
pub record IsPlainTalk (t : DebugTyping) (is_terminal : Bool) : Type 0 where
  pub form : t.session.setting.form ≡ Answers
  pub prompts : is_terminal ≡ false

-- A piece was taken; only where the form is that of the protocol something is written before it.
pub record TakesPiece (old now : DebugTyping) (images images_now : List Entry)
    (before after : Option (List ℕ)) (piece : List ℕ) : Type 0 where
  pub between : Option (List ℕ)
  pub plain : old.session.setting.form ≡ Answers → between ≡ before
  pub taken : IsTaken old now images images_now between after (old.pending.items ++ piece)

-- A piece was taken in part: of its answers a front stands written, or nothing; only where the form is
-- that of the protocol something is written before it.
pub record TakesPieceInPart (old : DebugTyping) (images : List Entry) (before after : Option (List ℕ))
    (piece : List ℕ) : Type 0 where
  pub between : Option (List ℕ)
  pub plain : old.session.setting.form ≡ Answers → between ≡ before
  pub part : (after ≡ between) ⊎ IsTakenInPart old images between after (old.pending.items ++ piece)

-- So much of the input was read. Whatever follows it, what the session is still to answer is what is
-- left of the answer to all.
pub record HasTalked (old now : DebugTyping) (images images_now : List Entry)
    (input left before after : Option (List ℕ)) (is_terminal : Bool) : Type 0 where
  pub read : List ℕ
  pub of_input : Consumes input left read
  pub setting : now.session.setting ≡ old.session.setting
  pub state : (rest : List ℕ)
      → (debug_bytes_shown old images (read ++ rest)).state ≡ (debug_bytes_shown now images_now rest).state
  pub text : IsPlainTalk old is_terminal → (rest : List ℕ) → AddsAllBut before after
      (debug_bytes_shown now images_now rest).text (debug_bytes_shown old images (read ++ rest)).text

-- All of the input is answered, with the summary behind it, where only answers are written.
abbrev pub DebugsInput : DebugTyping → List Entry → Bool → Option (List ℕ) → Option (List ℕ)
    → Option (List ℕ) → Type 0
DebugsInput t images is_terminal input before after = IfSome input (λ bytes. IsPlainTalk t is_terminal
    → Appends before after (then_summary t.session.setting (debug_bytes_shown t images bytes)).text)

-- A front of what all of the input is answered stands written, where only answers are written.
abbrev pub BeginsInput : DebugTyping → List Entry → Bool → Option (List ℕ) → Option (List ℕ)
    → Option (List ℕ) → Type 0
BeginsInput t images is_terminal input before after = IfSome input (λ bytes. IsPlainTalk t is_terminal
    → AddsFront before after (debug_bytes_shown t images bytes).text)

-- The same where a talk ends in an error, but for one of the writer.
abbrev pub BeginsWhereFailed : {A : Type 0} → DebugTyping → List Entry → Bool → Option (List ℕ)
    → Option (List ℕ) → Option (List ℕ) → Result A RunError → Type 0
BeginsWhereFailed t images is_terminal input before after result = IfErr result
    (λ error. (error ≡ WriteFault) ⊎ BeginsInput t images is_terminal input before after)

-- The exit status is that of the whole input.
abbrev pub IsStatusOfInput : DebugTyping → List Entry → Option (List ℕ) → ℕ → Type 0
IsStatusOfInput t images input status =
    IfSome input (λ bytes. status ≡ debug_status (debug_bytes_shown t images bytes).state)

-- The exit status is that of a debugging script, which the whole input is, on a fresh machine.
abbrev pub IsStatusOfScript : DebugSettings → List Entry → Option (List ℕ) → ℕ → Type 0
IsStatusOfScript c images input status =
    IfSome input (λ script. status ≡ debug_status (debug_script_answer c images script).state)
