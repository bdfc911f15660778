-- What a debugging script that is typed leaves, piece by piece.
use Rattle.std.specs.Prelude.{◌≡◌, ◌<◌, ◌≤◌, ℕ, ◌+◌, ◌^◌, ◌⊎◌, true, false, List, ◌++◌, length, take, drop, IfSome, Option}
use Rattle.profile.specs.Output.{AddsFront}
use Rattle.std.specs.Str.Lines.{lines}
use Rattle.profile.specs.images.Entries.{Entry}
use Rattle.debug_lines.specs.BlockEnds.{missing_ends_if, shown_beyond}
use Rattle.debug_lines.specs.WholeDebugRequests.{AreWholeDebugRequests}
use Rattle.debug_session.specs.DebugScript.{debug_lines_answer}
use Rattle.debug_session.specs.DebugState.{DebugAnswered, DebugState, IsDebugged}
use Rattle.debug_session.specs.Session.{debug_state}
use Rattle.debug_program.specs.declared.typing.DebugTyping.{DebugTyping}

-- The requests that are whole are answered, and the rest waits.
pub record IsTaken (old new : DebugTyping) (images images_after : List Entry) (before after : Option (List ℕ))
    (text : List ℕ) : Type 0 where
  pub count : ℕ
  pub whole : AreWholeDebugRequests text count
  pub reported : IsDebugged before after (debug_state new.session images_after)
      (debug_lines_answer old.session.setting old.number (debug_state old.session images)
      (lines (take count text)))
  pub waits : new.pending.items ≡ drop count text
  pub number : new.number ≡ old.number + length (lines (take count text))

-- Two sessions that were typed stand alike, and the same stands written.
pub record IsTypedAlike (one other : DebugTyping) (images images_of_other : List Entry)
    (before after after_other : Option (List ℕ)) : Type 0 where
  pub state : debug_state other.session images_of_other ≡ debug_state one.session images
  pub waits : other.pending.items ≡ one.pending.items
  pub number : other.number ≡ one.number
  pub written : IfSome before (λ held. after_other ≡ after)

-- What is typed in two pieces is taken as the two in one are.
abbrev pub TypedPiecesJoin : Type 0
TypedPiecesJoin = (first mid last : DebugTyping) (images images_mid images_last : List Entry)
    (before between after : Option (List ℕ)) (piece next : List ℕ)
    → IsTaken first mid images images_mid before between (first.pending.items ++ piece)
    → mid.session.setting ≡ first.session.setting
    → IsTaken mid last images_mid images_last between after (mid.pending.items ++ next)
    → IsTaken first last images images_last before after (first.pending.items ++ (piece ++ next))

-- What a piece is answered, and then what follows it up to the end, is what all of it is answered.
abbrev pub TypedPieceThenRest : Type 0
TypedPieceThenRest = (first mid : DebugTyping) (images images_mid : List Entry) (now : DebugState)
    (before between after : Option (List ℕ)) (piece rest : List ℕ)
    → IsTaken first mid images images_mid before between (first.pending.items ++ piece)
    → mid.session.setting ≡ first.session.setting
    → IsDebugged between after now (debug_lines_answer mid.session.setting mid.number
    (debug_state mid.session images_mid) (lines (mid.pending.items ++ rest)))
    → IsDebugged before after now (debug_lines_answer first.session.setting first.number
    (debug_state first.session images) (lines (first.pending.items ++ (piece ++ rest))))

-- A text is taken in one way.
abbrev pub TypedTextTakenOneWay : Type 0
TypedTextTakenOneWay = (first one other : DebugTyping) (images images_one images_other : List Entry)
    (before after after_other : Option (List ℕ)) (text : List ℕ)
    → IsTaken first one images images_one before after text
    → IsTaken first other images images_other before after_other text
    → IsTypedAlike one other images_one images_other before after after_other

-- what is answered of what waits, where nothing follows it
abbrev pub waiting_answer : DebugTyping → List Entry → DebugAnswered
waiting_answer t images =
    debug_lines_answer t.session.setting t.number (debug_state t.session images) (lines t.pending.items)

-- the lines at which blocks begin that lack their END, as far as a piece that comes next shows it, and
-- nothing before it has
abbrev pub missing_ends_typed : DebugTyping → List ℕ → List ℕ
missing_ends_typed t piece = shown_beyond (missing_ends_if false t.number t.pending.items)
    (missing_ends_if false t.number (t.pending.items ++ piece))

-- the same of the end
abbrev pub missing_ends_at_end : DebugTyping → List ℕ
missing_ends_at_end t = shown_beyond (missing_ends_if false t.number t.pending.items)
    (missing_ends_if true t.number t.pending.items)

-- A front of what is answered to the requests that are whole was appended.
pub record IsTakenInPart (old : DebugTyping) (images : List Entry) (before after : Option (List ℕ))
    (text : List ℕ) :
    Type 0 where
  pub count : ℕ
  pub whole : AreWholeDebugRequests text count
  pub front : AddsFront before after
      (debug_lines_answer old.session.setting old.number (debug_state old.session images)
      (lines (take count text))).text

-- More than 1,048,576 bytes of a text would wait for the end of a request, or its lines couldn't be
-- counted behind those that came before.
abbrev pub IsTooLong : ℕ → List ℕ → ℕ → Type 0
IsTooLong number text whole = (1048576 < length (drop whole text)) ⊎ (2 ^ 64 ≤ number + length text)

-- the same, of a text of which so many bytes are requests that are whole
pub record HasTooLong (number : ℕ) (text : List ℕ) : Type 0 where
  pub count : ℕ
  pub whole : AreWholeDebugRequests text count
  pub long : IsTooLong number text count
