-- How the transcript of a debugging script goes on, line by line, and what its first and its last line
-- stand on.
use Rattle.std.proofs.Common.{◌≡◌, ℕ, ◌+◌, ◌<◌, true, ◌⊎◌, List, [], ◌∷◌, ◌++◌, length, Option, Some, None, refl, ap, sym, ◌∙◌, subst, append_assoc, inl, inr}
use Rattle.std.proofs.lemmas.List.{append-nil}
use Rattle.std.proofs.lemmas.Grind.{flat_map-append}
use Rattle.std.specs.Prelude.{IfErr, IfNone, IfSome, Result, Ok, Err}
use Rattle.std.specs.Result.{IsErrAnd}
use Rattle.std.specs.Io.KnownBytes.{Appends}
use Rattle.std.specs.List.{flat_map}
use Rattle.std.specs.Str.Lines.{lines}
use Rattle.profile.proofs.OutputLemmas.{Appends-join, Appends-nothing}
use Rattle.profile.specs.images.Entries.{Entry}
use Rattle.profile.specs.text_lines.Lines.{ReadingPlace}
use Rattle.debug_session.specs.Error.{IsLineError}
use Rattle.debug_session.specs.RunError.{RunError}
use Rattle.debug_session.proofs.LineLemmas.{fewer, none_left, none_answer, step_state, step_text}
use Rattle.debug_session.specs.DebugScript.{debug_lines_answer}
use Rattle.debug_session.specs.DebugState.{DebugAnswered, DebugState, debug_answer, debug_start_state}
use Rattle.debug_session.specs.Session.{debug_state}
use Rattle.debug_session.specs.Reports.{summary_text}
use Rattle.debug_session.specs.declared.session.DebugSession.{DebugSession}
use Rattle.debug_session.specs.declared.session.DebugSettings.{DebugSettings}
use Rattle.debug_program.proofs.AnsweringLemmas.{place_is, with_block}
use Rattle.debug_program.specs.Answering.{AreAnsweredLines, IsNextAnswered, ScriptPlace, place_of_answering, start_place, shown_by_lines}
use Rattle.debug_program.specs.Spelling.{spelt_from}
use Rattle.debug_program.specs.Transcript.{BeginsTranscript, WritesTranscript, answered_text, answered_texts, debug_shown_in}
use Rattle.debug_program.specs.declared.answering.AnsweredLine.{AnsweredLine}
use Rattle.debug_program.specs.declared.answering.ScriptAnswering.{ScriptAnswering}
use Rattle.debug_program.specs.declared.spelling.Side.TheVariants as side

-- one line more
answered_more : (c : DebugSettings) (here middle next : ScriptPlace) (answered : List AnsweredLine) (a : AnsweredLine)
    → AreAnsweredLines c here answered middle → IsNextAnswered c middle next a → AreAnsweredLines c here (answered ++ a ∷ []) next
unfolding AreAnsweredLines
answered_more c here middle next [] a are is =
    (next, subst (λ (p : ScriptPlace). IsNextAnswered c p next a) (sym are) is, refl)
answered_more c here middle next (x ∷ answered) a are is =
    (are.0, are.1, answered_more c are.0 middle next answered a are.2 is)

-- what the lines from a place on are answered
abbrev from_place : DebugSettings → ScriptPlace → DebugAnswered
from_place c p = debug_lines_answer c p.number p.state p.left

shown_text : (c : DebugSettings) (here end : ScriptPlace) (answered : List AnsweredLine) → AreAnsweredLines c here answered end
    → (from_place c here).text ≡ shown_by_lines answered ++ (from_place c end).text
unfolding AreAnsweredLines
shown_text c here end [] are = ap (λ (p : ScriptPlace). (from_place c p).text) are
shown_text c here end (a ∷ rest) are =
    let next : ScriptPlace = are.0 in
    let one : IsNextAnswered c here next a = are.1 in
    let own = with_block c here.state (here.number + 1) one.line one.behind in
    step_text c c here.number (here.number + 1) next.number here.state next.state one.line here.left one.behind next.left
    one.going refl one.first refl (ap (λ (p : ScriptPlace). p.state) one.place ∙ ap (λ (t : DebugAnswered). t.state) own)
    (ap (λ (p : ScriptPlace). p.number) one.place) (ap (λ (p : ScriptPlace). p.left) one.place)
    ∙ (λ i. (ap (λ (t : DebugAnswered). t.text) (sym own) ∙ sym one.answer) i ++ shown_text c next end rest are.2 i)
    ∙ sym (append_assoc a.answer.items (shown_by_lines rest) (from_place c end).text)

shown_state : (c : DebugSettings) (here end : ScriptPlace) (answered : List AnsweredLine) → AreAnsweredLines c here answered end
    → (from_place c here).state ≡ (from_place c end).state
unfolding AreAnsweredLines
shown_state c here end [] are = ap (λ (p : ScriptPlace). (from_place c p).state) are
shown_state c here end (a ∷ rest) are =
    let next : ScriptPlace = are.0 in
    let one : IsNextAnswered c here next a = are.1 in
    let own = with_block c here.state (here.number + 1) one.line one.behind in
    step_state c c here.number (here.number + 1) next.number here.state next.state one.line here.left one.behind next.left
    one.going refl one.first refl (ap (λ (p : ScriptPlace). p.state) one.place ∙ ap (λ (t : DebugAnswered). t.state) own)
    (ap (λ (p : ScriptPlace). p.number) one.place) (ap (λ (p : ScriptPlace). p.left) one.place)
    ∙ shown_state c next end rest are.2

-- nothing is left to be answered
shown_at_end : (c : DebugSettings) (end : ScriptPlace) → (end.left ≡ []) ⊎ (end.state.has_quit ≡ true)
    → from_place c end ≡ debug_answer end.state []
shown_at_end c end (inl none) = none_left c end.number end.state end.left none
shown_at_end c end (inr quit) = none_answer (length end.left) c end.number end.state end.left quit

-- The lines of a script that were answered are a transcript, which stands written.
pub record TranscriptSoFar (c : DebugSettings) (images : List Entry) (script : List ℕ) (a : ScriptAnswering)
    (before after : Option (List ℕ)) : Type 0 where
  pub answered : List AnsweredLine
  pub lines : AreAnsweredLines c (start_place c images script) answered (place_of_answering a)
  pub text : Appends before after (answered_texts answered)

-- before the first line
pub starts_so : (a : ScriptAnswering) (s : DebugSession) (c : DebugSettings) (images : List Entry) (script : List ℕ) → a.session ≡ s
    → a.images ≡ images → a.place ≡ record { left = lines script; number = 0 }
    → ((images : List Entry) → debug_state s images ≡ debug_start_state c images)
    → place_of_answering a ≡ start_place c images script
starts_so a s c images script session its_images place state =
    place_is (place_of_answering a) (start_place c images script) (ap (λ (p : ReadingPlace). p.number) place)
    ((λ i. debug_state (session i) (its_images i)) ∙ state images)
    (ap (λ (p : ReadingPlace). p.left) place)

pub transcript_starts : (c : DebugSettings) (images : List Entry) (script : List ℕ) (a : ScriptAnswering) (written : Option (List ℕ))
    → place_of_answering a ≡ start_place c images script → TranscriptSoFar c images script a written written
unfolding AreAnsweredLines
transcript_starts c images script a written start = record { answered = []; lines = sym start; text = Appends-nothing written }

texts_more : (answered : List AnsweredLine) (a : AnsweredLine)
    → answered_texts (answered ++ a ∷ []) ≡ answered_texts answered ++ answered_text a
texts_more answered a =
    flat_map-append answered_text answered (a ∷ []) ∙ ap (λ (t : List ℕ). answered_texts answered ++ t) (append-nil (answered_text a))

pub transcript_goes_on : (c : DebugSettings) (images : List Entry) (script : List ℕ) (old new : ScriptAnswering) (a : AnsweredLine)
    (before between after : Option (List ℕ)) → TranscriptSoFar c images script old before between
    → IsNextAnswered c (place_of_answering old) (place_of_answering new) a → Appends between after (answered_text a)
    → TranscriptSoFar c images script new before after
transcript_goes_on c images script old new a before between after so next written = record {
  answered = so.answered ++ a ∷ [];
  lines = answered_more c (start_place c images script) (place_of_answering old) (place_of_answering new) so.answered a so.lines next;
  text = subst (λ (xs : List ℕ). Appends before after xs) (sym (texts_more so.answered a))
      (Appends-join before between after (answered_texts so.answered) (answered_text a) so.text written);
}

all_shown : (c : DebugSettings) (images : List Entry) (script : List ℕ) (answered : List AnsweredLine) (end : ScriptPlace)
    → AreAnsweredLines c (start_place c images script) answered end
    → (end.left ≡ []) ⊎ (end.state.has_quit ≡ true) → shown_by_lines answered ≡ (debug_shown_in c images script).text
all_shown c images script answered end are ended =
    sym (shown_text c (start_place c images script) end answered are
    ∙ ap (λ (t : DebugAnswered). shown_by_lines answered ++ t.text) (shown_at_end c end ended) ∙ append-nil (shown_by_lines answered))

-- the transcript was begun, where it goes no further
pub begun_so : (c : DebugSettings) (images : List Entry) (script : List ℕ) (a : ScriptAnswering) (before after : Option (List ℕ))
    → TranscriptSoFar c images script a before after → BeginsTranscript c images script before after
begun_so c images script a before after so =
    record { answered = so.answered; here = place_of_answering a; lines = so.lines; text = so.text }

-- the state behind the last line
pub state_at_end : (c : DebugSettings) (images : List Entry) (script : List ℕ) (a : ScriptAnswering) (before after : Option (List ℕ))
    → TranscriptSoFar c images script a before after
    → ((place_of_answering a).left ≡ []) ⊎ ((place_of_answering a).state.has_quit ≡ true)
    → (debug_shown_in c images script).state ≡ (place_of_answering a).state
state_at_end c images script a before after so ended =
    shown_state c (start_place c images script) (place_of_answering a) so.answered so.lines
    ∙ ap (λ (d : DebugAnswered). d.state) (shown_at_end c (place_of_answering a) ended)

-- where no line is left
pub transcript_ends : (c : DebugSettings) (images : List Entry) (script : List ℕ) (a : ScriptAnswering) (summary : List ℕ)
    (before between after : Option (List ℕ)) → TranscriptSoFar c images script a before between
    → ((place_of_answering a).left ≡ []) ⊎ ((place_of_answering a).state.has_quit ≡ true)
    → summary ≡ summary_text c.form (place_of_answering a).state.tally
    → Appends between after (spelt_from side.Reported true summary) → WritesTranscript c images script before after
transcript_ends c images script a summary before between after so ended is written =
    let reported = state_at_end c images script a before between so ended in
    let own : summary ≡ summary_text c.form (debug_shown_in c images script).state.tally =
    is ∙ ap (λ (d : DebugState). summary_text c.form d.tally) (sym reported) in
    let last : List ℕ = spelt_from side.Reported true (summary_text c.form (debug_shown_in c images script).state.tally) in
    record {
      answered = so.answered;
      all = record {
        end = place_of_answering a;
        lines = so.lines;
        ended = ended;
        reported = all_shown c images script so.answered (place_of_answering a) so.lines ended;
      };
      text = Appends-join before between after (answered_texts so.answered) last so.text
          (subst (λ (xs : List ℕ). Appends between after xs) (ap (λ (xs : List ℕ). spelt_from side.Reported true xs) own) written);
    }

pub fewer_lines : (c : DebugSettings) (old new : ScriptPlace) (a : AnsweredLine) → IsNextAnswered c old new a
    → length new.left < length old.left
fewer_lines c old new a one =
    fewer one.line old.left one.behind new.left one.first (ap (λ (p : ScriptPlace). p.left) one.place)

-- the next line, where there is one, by the setting of the transcript
pub next_is : (c d : DebugSettings) (next : Option AnsweredLine) (a : AnsweredLine) (old new : ScriptPlace)
    → IfSome next (λ (x : AnsweredLine). IsNextAnswered c old new x) → next ≡ Some a → c ≡ d → IsNextAnswered d old new a
next_is c d next a old new some is setting =
    let P : Option AnsweredLine → Type 0 = λ o. IfSome o (λ (x : AnsweredLine). IsNextAnswered c old new x) in
    let one : IsNextAnswered c old new a = subst P is some in
    subst (λ (k : DebugSettings). IsNextAnswered k old new a) setting one

pub none_next : (A : Type 0) (next : Option AnsweredLine) → IfNone next A → next ≡ None → A
none_next A next none is =
    let P : Option AnsweredLine → Type 0 = λ o. IfNone o A in
    subst P is none

pub some_of : (A : Type 0) (next : Option AnsweredLine) (a : AnsweredLine) → IfSome next (λ (x : AnsweredLine). A) → next ≡ Some a → A
some_of A next a some is =
    let P : Option AnsweredLine → Type 0 = λ o. IfSome o (λ (x : AnsweredLine). A) in
    subst P is some

pub summary_is : (s : DebugSession) (c : DebugSettings) → s.setting ≡ c
    → summary_text s.setting.form s.tally ≡ summary_text c.form s.tally
summary_is s c is = ap (λ (d : DebugSettings). summary_text d.form s.tally) is

-- an error that a line may end in
pub line_error : {A : Type 0} (r : Result A RunError) (e : RunError) → IsLineError e → IsErrAnd r (λ x. x ≡ e) → IfErr r IsLineError
line_error (Ok a) e line is = tt
line_error (Err x) e line is = subst IsLineError (sym is) line
