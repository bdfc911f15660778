-- How the records of a script are put together.
use Rattle.std.proofs.Common.{◌≡◌, ◌∙◌, ℕ, Bool, true, false, List, [], ◌++◌, Option, Result, Ok, Err, refl, ap, subst, append_assoc}
use Rattle.std.proofs.lemmas.List.Folds.{list_all-append}
use Rattle.std.specs.Prelude.{IfOk, OnOk, codes}
use Rattle.profile.specs.text_sink.Safe.{AddsSafe, is_safe}
use Rattle.trace_effects.specs.record_text.Spelling.{comma_before}
use Rattle.trace_effects.proofs.RecordTextLemmas.WritingLemmas.{nothing_adds, then_added, then_adds}
use Rattle.std.specs.Str.Lines.{lines}
use Rattle.profile.specs.images.Entries.{Entry}
use Rattle.debug_session.specs.DebugState.{DebugState}
use Rattle.debug_session.specs.declared.session.DebugSettings.{DebugSettings}
use Rattle.debug_records.specs.AnsweredLines.{RecordingState}
use Rattle.debug_records.specs.LineRecords.{Adds, AreAllRecorded, IsRecord}
use Rattle.debug_records.specs.Recording.{recording_start}
use Rattle.debug_records.specs.Records.{HasAllRecords, IsLastRecord, first_head}

-- What holds of a result.
pub on_ok_both : {T E : Type 0} (r : Result T E) (P Q R : Type 0) → (P → Q → R) → OnOk r P → OnOk r Q → OnOk r R
on_ok_both (Ok x) P Q R both h k = both h k
on_ok_both (Err e) P Q R both h k = record {}

pub if_ok_both : {T E : Type 0} (r : Result T E) (P Q R : T → Type 0) → ((x : T) → P x → Q x → R x) → IfOk r P → IfOk r Q → IfOk r R
if_ok_both (Ok x) P Q R both h k = both x h k
if_ok_both (Err e) P Q R both h k = record {}

-- A text behind another.
pub then_written : (P Q R : List ℕ → Type 0) (a b c : Option (List ℕ))
    → ((s t : List ℕ) → P s → Q t → R (s ++ t)) → Adds P a b → Adds Q b c → Adds R a c
then_written P Q R a b c join h k = record {
  text = h.text ++ k.text;
  adds = then_adds a b c h.text k.text h.adds k.adds;
  safe = list_all-append is_safe h.text k.text ∙ rw (h.safe, k.safe) refl;
  is = join h.text k.text h.is k.is;
}

pub also_written : (P Q : List ℕ → Type 0) (a b : Option (List ℕ)) → ((t : List ℕ) → P t → Q t) → Adds P a b → Adds Q a b
also_written P Q a b other h = record { text = h.text; adds = h.adds; safe = h.safe; is = other h.text h.is }

pub none_written : (P : List ℕ → Type 0) (a : Option (List ℕ)) → P [] → Adds P a a
none_written P a is = record { text = []; adds = nothing_adds a; safe = refl; is = is }

pub adds_safe : (P : List ℕ → Type 0) (a b : Option (List ℕ)) → Adds P a b → AddsSafe a b
adds_safe P a b h = record { text = h.text; adds = h.adds; safe = h.safe }

-- The first record, those of the lines, and the last.
pub recorded : (setting : DebugSettings) (images : List Entry) (name script : List ℕ) (status : ℕ) (start : RecordingState)
    (debug : DebugState) (a b c d : Option (List ℕ)) → start ≡ recording_start setting images (lines script)
    → Adds (IsRecord (first_head setting name)) a b → Adds (AreAllRecorded start debug) b c
    → Adds (IsLastRecord debug status) c d → HasAllRecords setting images name script status a d
recorded setting images name script status start debug a b c d same first between last = record {
  first = first.text;
  between = between.text;
  last = last.text;
  debug = debug;
  begins = first.is;
  lines_are = subst (λ (s : RecordingState). AreAllRecorded s debug between.text) same between.is;
  ends = last.is;
  adds = then_adds a b d first.text (between.text ++ last.text) first.adds
      (then_adds b c d between.text last.text between.adds last.adds);
}

pub recorded_safe : (P Q R : List ℕ → Type 0) (a b c d : Option (List ℕ)) → Adds P a b → Adds Q b c → Adds R c d → AddsSafe a d
recorded_safe P Q R a b c d first between last =
    then_added a b d (adds_safe P a b first)
    (then_added b c d (adds_safe Q b c between) (adds_safe R c d last))

-- Parts of a record, one pushed behind another.
pub joined : (t u v a b : List ℕ) → u ≡ t ++ a → v ≡ u ++ b → v ≡ t ++ (a ++ b)
joined t u v a b first then = then ∙ ap (λ (z : List ℕ). z ++ b) first ∙ append_assoc t a b

without_comma : (u v x : List ℕ) (follows : Bool) → follows ≡ false → v ≡ u ++ (comma_before follows ++ x) → v ≡ u ++ x
without_comma u v x follows is pushed = subst (λ (f : Bool). v ≡ u ++ (comma_before f ++ x)) is pushed

-- a field behind another
pub last_field : (t u x : List ℕ) (follows : Bool) → follows ≡ true → u ≡ t ++ (comma_before follows ++ x) → u ≡ t ++ (codes "," ++ x)
last_field t u x follows is pushed = subst (λ (f : Bool). u ≡ t ++ (comma_before f ++ x)) is pushed

-- a field behind another, and the rest behind it
pub next_field : (t u v x rest : List ℕ) (follows : Bool) → follows ≡ true → u ≡ t ++ (comma_before follows ++ x) → v ≡ u ++ rest
    → v ≡ t ++ (codes "," ++ (x ++ rest))
next_field t u v x rest follows is pushed behind =
    joined t u v (codes "," ++ x) rest (last_field t u x follows is pushed) behind

pub first_field : (t u v x rest : List ℕ) (follows : Bool) → follows ≡ false → u ≡ t ++ (comma_before follows ++ x) → v ≡ u ++ rest
    → v ≡ t ++ (x ++ rest)
first_field t u v x rest follows is pushed behind = joined t u v x rest (without_comma t u x follows is pushed) behind

-- what opens a record, and the rest behind it
pub opened : (t u v x rest : List ℕ) (follows : Bool) → t ≡ [] → follows ≡ false → u ≡ t ++ (comma_before follows ++ x) → v ≡ u ++ rest
    → v ≡ x ++ rest
opened t u v x rest follows empty is pushed behind =
    behind ∙ ap (λ (z : List ℕ). z ++ rest) (without_comma t u x follows is pushed ∙ ap (λ (z : List ℕ). z ++ x) empty)
