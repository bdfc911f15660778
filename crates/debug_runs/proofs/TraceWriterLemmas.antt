-- What is shown, from its pieces.
use Rattle.std.proofs.Common.{◌≡◌, ◌==◌, ℕ, ◌++◌, ◌∙◌, Bool, true, false, List, [], ◌∷◌, Option, None, Some, Result, Ok, Err, refl, sym, ap, append_assoc, arith, length, subst}
use Rattle.std.proofs.lemmas.Bool.{eqb-true}
use Rattle.std.proofs.lemmas.List.{append-nil}
use Rattle.std.specs.Prelude.{OnOk}
use Rattle.std.specs.Io.KnownBytes.{Appends}
use Rattle.debug_tables.specs.MachineState.{StepOutcome, outcome_with}
use Rattle.debug_tables.specs.Calls.{step_made}
use Rattle.debug_tables.specs.State.{ScriptState, IsAnswered, answer}
use Rattle.debug_tables.specs.OutsideCall.{OutsideCall}
use Rattle.trace_text.specs.Step.{Known, known_of, known_outside, start_text, step_end_text, step_text}
use Rattle.trace_text.specs.Columns.{below_text}
use Rattle.profile.specs.text_sink.TextSink.{sink_text_of}
use Rattle.debug_runs.specs.Calls.{outside_start_text, outside_text}
use Rattle.debug_runs.specs.TraceWriter.{is_step_shown, answer_of_step, untold_text}
use Rattle.debug_runs.specs.Reported.{IsAnswerOn}
use Rattle.debug_runs.specs.declared.writer.TraceWriter.{TraceWriter}

-- an answer from the state that was made of another
pub shows_at : {U E : Type 0} (r : Result U E) (b c : Option (List ℕ)) (now s : ScriptState) (text : List ℕ) → now ≡ s
    → OnOk r (Appends b c text) → OnOk r (IsAnswered b c now (answer s text))
shows_at (Ok u) b c now s text is h = record { text = h; state = is }
shows_at (Err e) b c now s text is h = tt

-- a step that is shown, and one that isn't
pub answer_whole : (reported : Option ℕ) (whole printed : List ℕ) → is_step_shown reported ≡ true → answer_of_step reported whole printed ≡ whole
answer_whole reported whole printed is = rw is refl

pub answer_rest : (reported : Option ℕ) (whole printed : List ℕ) → is_step_shown reported ≡ false → answer_of_step reported whole printed ≡ untold_text reported printed
answer_rest reported whole printed is = rw is refl

pub ruleset trace_writer_steps = (answer_whole, answer_rest)

-- the same text, written another way
pub answer_same : {U E : Type 0} (r : Result U E) (old new : TraceWriter) (text same printed : List ℕ) → same ≡ text
    → OnOk r (IsAnswerOn old new text printed) → OnOk r (IsAnswerOn old new same printed)
answer_same r old new text same printed is reported = subst (λ (xs : List ℕ). OnOk r (IsAnswerOn old new xs printed)) (sym is) reported

-- what holds whatever a call answers
pub whatever : {U E P : Type 0} (r : Result U E) → P → OnOk r P
whatever (Ok u) p = p
whatever (Err e) p = tt

-- the end of a step's text, by what a trace kept and the session behind the step
end_is : (s next : ScriptState) (o : StepOutcome) (kept known : Known) (printed : List ℕ) → next ≡ step_made s o → kept ≡ known → printed ≡ o.printed
    → step_end_text kept (outcome_with next.machine printed) ≡ step_end_text known o
end_is s next o kept known printed made is all =
    ap (λ (k : Known). step_end_text k (outcome_with next.machine printed)) is
    ∙ (ap (λ (w : ScriptState). step_end_text known (outcome_with w.machine printed)) made
    ∙ ap (λ (p : List ℕ). step_end_text known (outcome_with o.now p)) all)

pub ended_so : (s next : ScriptState) (o : StepOutcome) (kept : Known) (u v printed : List ℕ) → next ≡ step_made s o → printed ≡ o.printed
    → v ≡ u ++ step_end_text kept (outcome_with next.machine printed) → v ≡ u ++ step_end_text kept o
ended_so s next o kept u v printed made all behind =
    behind ∙ ap (λ (xs : List ℕ). u ++ xs) (end_is s next o kept kept printed made refl all)

-- what was shown, and what was printed, where the last call succeeded
pub answer_pushed : {U E : Type 0} (r : Result U E) (old new : TraceWriter) (text printed piece : List ℕ) → sink_text_of new.text ≡ sink_text_of old.text ++ text
    → piece ≡ printed → OnOk r (sink_text_of new.printed ≡ sink_text_of old.printed ++ piece) → OnOk r (IsAnswerOn old new text printed)
answer_pushed (Err f) old new text printed piece reported is pushed = tt
answer_pushed (Ok u) old new text printed piece reported is pushed = record {
  text_answer = reported;
  all_printed = pushed ∙ ap (λ (xs : List ℕ). sink_text_of old.printed ++ xs) is;
}

-- how a step began that is shown, and how it ended
pub start_first : {U E : Type 0} (r : Result U E) (old mid new last : TraceWriter) (start end same whole printed : List ℕ)
    → sink_text_of mid.text ≡ sink_text_of old.text ++ start → sink_text_of mid.printed ≡ sink_text_of old.printed
    → same ≡ end → whole ≡ start ++ end → sink_text_of last.text ≡ sink_text_of new.text → sink_text_of last.printed ≡ sink_text_of new.printed
    → OnOk r (IsAnswerOn mid new same printed) → OnOk r (IsAnswerOn old last whole printed)
start_first (Err f) old mid new last start end same whole printed first all is whole_is text_same printed_same reported = tt
start_first (Ok u) old mid new last start end same whole printed first all is whole_is text_same printed_same reported = record {
  text_answer = text_same
      ∙ (reported.text_answer
      ∙ (ap (λ (xs : List ℕ). sink_text_of mid.text ++ xs) is
      ∙ (ap (λ (xs : List ℕ). xs ++ end) first
      ∙ (append_assoc (sink_text_of old.text) start end
      ∙ ap (λ (xs : List ℕ). sink_text_of old.text ++ xs) (sym whole_is)))));
  all_printed = printed_same ∙ (reported.all_printed ∙ ap (λ (xs : List ℕ). xs ++ printed) all);
}

-- what a step printed that isn't shown
pub untold_pushed : {U E : Type 0} (r : Result U E) (old new : TraceWriter) (reported : Option ℕ) (printed piece : List ℕ) → piece ≡ printed
    → OnOk r (IsAnswerOn old new (untold_text reported piece) piece) → OnOk r (IsAnswerOn old new (untold_text reported printed) printed)
untold_pushed r old new reported printed piece is pushed =
    subst (λ (xs : List ℕ). OnOk r (IsAnswerOn old new (untold_text reported xs) xs)) is pushed

pub untold_none : (reported : Option ℕ) → untold_text reported [] ≡ []
unfolding below_text
untold_none None = refl
untold_none (Some limit) = refl

nothing_more : (t : TraceWriter) (reported : Option ℕ) → IsAnswerOn t t (untold_text reported []) []
nothing_more t reported = record {
  text_answer = sym (ap (λ (xs : List ℕ). sink_text_of t.text ++ xs) (untold_none reported) ∙ append-nil (sink_text_of t.text));
  all_printed = sym (append-nil (sink_text_of t.printed));
}

-- a step that isn't shown, and that prints nothing
pub no_answer : (t : TraceWriter) (reported : Option ℕ) (printed : List ℕ) → (length printed == 0) ≡ true
    → IsAnswerOn t t (untold_text reported printed) printed
no_answer t reported [] is = nothing_more t reported
no_answer t reported (x ∷ xs) is = absurd (omega (arith, eqb-true (length (x ∷ xs)) 0 is))

-- a text alone
pub text_alone : {U E : Type 0} (r : Result U E) (old new : TraceWriter) (text same : List ℕ) → same ≡ text → new.printed ≡ old.printed
    → OnOk r (sink_text_of new.text ≡ sink_text_of old.text ++ same) → OnOk r (IsAnswerOn old new text [])
text_alone (Err f) old new text same is all pushed = tt
text_alone (Ok u) old new text same is all pushed = record {
  text_answer = pushed ∙ ap (λ (xs : List ℕ). sink_text_of old.text ++ xs) is;
  all_printed = ap sink_text_of all ∙ sym (append-nil (sink_text_of old.printed));
}

-- a label's line before a step
pub label_first : {U E : Type 0} (r : Result U E) (old mid new : TraceWriter) (label text same whole printed piece : List ℕ)
    → sink_text_of mid.text ≡ sink_text_of old.text ++ label → sink_text_of mid.printed ≡ sink_text_of old.printed
    → same ≡ text → piece ≡ printed → whole ≡ label ++ text
    → OnOk r (IsAnswerOn mid new same piece) → OnOk r (IsAnswerOn old new whole printed)
label_first (Err f) old mid new label text same whole printed piece first all is is_printed all_is reported = tt
label_first (Ok u) old mid new label text same whole printed piece first all is is_printed all_is reported = record {
  text_answer = reported.text_answer
      ∙ (ap (λ (xs : List ℕ). sink_text_of mid.text ++ xs) is
      ∙ (ap (λ (xs : List ℕ). xs ++ text) first
      ∙ (append_assoc (sink_text_of old.text) label text
      ∙ ap (λ (xs : List ℕ). sink_text_of old.text ++ xs) (sym all_is))));
  all_printed = reported.all_printed
      ∙ (ap (λ (xs : List ℕ). xs ++ piece) all
      ∙ ap (λ (xs : List ℕ). sink_text_of old.printed ++ xs) is_printed);
}
