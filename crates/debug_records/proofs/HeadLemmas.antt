-- What the records of lines and of their answers have.
use Rattle.std.proofs.Common.{◌≡◌, ◌∙◌, ℕ, ◌==◌, zero, suc, Bool, true, false, List, [], ◌∷◌, ◌++◌, take, Option, refl, sym, ap, subst, append_assoc}
use Rattle.std.specs.Prelude.{◌&&◌, codes, not}
use Rattle.std.proofs.lemmas.Bool.{false≢true}
use Rattle.std.proofs.lemmas.List.{append-nil}
use Rattle.profile.specs.text_lines.Lines.{ReadingPlace}
use Rattle.command_shell_lines.specs.Blocks.{lines_in_block}
use Rattle.debug_session.specs.DebugState.{DebugState}
use Rattle.trace_effects.specs.record_text.Spelling.{comma_before, string_text}
use Rattle.trace_json.specs.MachineState.{MachineState}
use Rattle.debug_records.specs.AnsweredLines.{RecordingState, request_read, state_answered, state_behind, steps_of_line}
use Rattle.debug_records.specs.LineRecords.{Adds, AreRecords, IsOfForm, IsRecord, RecordForm, Whole, answer_form, answer_record_form, block_field, line_forms, line_head, line_record_form, step_forms, strings_text, then_records}
use Rattle.debug_records.specs.Moments.{IsAlike}
use Rattle.debug_records.specs.declared.counts.LineCounts.{LineCounts}
use Rattle.debug_records.specs.Taking.{IsLineRecorded, IsMomentPrinted, IsShown, forms_by}
use Rattle.debug_records.proofs.MomentLemmas.{changes_from, shown_recorded}
use Rattle.debug_records.proofs.RecordLemmas.{joined, then_written}
use Rattle.debug_records.proofs.RecordedLines.{record_added}
use Rattle.trace_effects.specs.declared.record_text.text.RecordText.{RecordText}

-- THE RECORD OF AN ANSWER

-- the records of a line behind its own
abbrev pub forms_next : List ℕ → List ℕ → RecordingState → List RecordForm
forms_next line words at =
    let request = request_read line words at in
    let after = state_answered words at in
    let taken = steps_of_line request after in
    step_forms (taken == 0) at.steps at.limit taken at.debug.script.machine after.script.machine
    ++ (answer_record_form line words at ∷ [])

pub answer_whole : (remark stays resets : Bool) (x : List ℕ) (s t : MachineState) (a b : Option (List ℕ)) → remark ≡ true
    → Adds (IsOfForm (Whole x)) a b → Adds (IsOfForm (answer_form remark stays resets x s t)) a b
answer_whole true stays resets x s t a b is h = h
answer_whole false stays resets x s t a b is h = absurd (false≢true is)

pub answer_begins : (remark stays resets : Bool) (x : List ℕ) (s t : MachineState) (a b : Option (List ℕ)) → remark ≡ false
    → (stays && not resets) ≡ false → Adds (IsRecord x) a b → Adds (IsOfForm (answer_form remark stays resets x s t)) a b
answer_begins true stays resets x s t a b is some h = absurd (false≢true (sym is))
answer_begins false false resets x s t a b is some h = h
answer_begins false true true x s t a b is some h = h
answer_begins false true false x s t a b is some h = absurd (false≢true (sym some))

pub answer_changes : (remark stays resets : Bool) (x : List ℕ) (s t : MachineState) (changes : RecordText) (front rest : List ℕ)
    (a b : Option (List ℕ)) → remark ≡ false → (stays && not resets) ≡ true → IsShown (codes "pc") s.cpu.pc s t changes
    → IsMomentPrinted x front changes.bytes.items rest a b → Adds (IsOfForm (answer_form remark stays resets x s t)) a b
answer_changes true stays resets x s t changes front rest a b is some shown printed = absurd (false≢true (sym is))
answer_changes false false resets x s t changes front rest a b is some shown printed = absurd (false≢true some)
answer_changes false true true x s t changes front rest a b is some shown printed = absurd (false≢true some)
answer_changes false true false x s t changes front rest a b is some shown printed =
    shown_recorded x (codes "pc") s.cpu.pc s t changes front rest a b shown printed

answer_from : (remark stays resets : Bool) (head : List ℕ) (s m t : MachineState) (a b : Option (List ℕ)) → (stays ≡ true → IsAlike s m)
    → Adds (IsOfForm (answer_form remark stays resets head s t)) a b → Adds (IsOfForm (answer_form remark stays resets head m t)) a b
answer_from true stays resets head s m t a b alike h = h
answer_from false false resets head s m t a b alike h = h
answer_from false true true head s m t a b alike h = h
answer_from false true false head s m t a b alike h = changes_from head s m t a b (alike refl) h

-- the records of the steps, and that of the answer, on a machine that is read as that of the twin
pub answer_written : (remark stays resets : Bool) (x head : List ℕ) (steps : List RecordForm) (first s m t : MachineState)
    (a b c : Option (List ℕ)) → x ≡ head → IsAlike first m → (stays ≡ true → s ≡ first) → Adds (AreRecords steps) a b
    → Adds (IsOfForm (answer_form remark stays resets x s t)) b c
    → Adds (AreRecords (steps ++ (answer_form remark stays resets head m t ∷ []))) a c
answer_written remark stays resets x head steps first s m t a b c same alike kept h k =
    let last : RecordForm = answer_form remark stays resets head m t in
    then_written (AreRecords steps) (IsOfForm last) (AreRecords (steps ++ (last ∷ []))) a b c
    (λ y z are is. record_added steps last y z are is) h
    (answer_from remark stays resets head s m t b c (λ none. subst (λ (n : MachineState). IsAlike n m) (sym (kept none)) alike)
    (subst (λ (y : List ℕ). Adds (IsOfForm (answer_form remark stays resets y s t)) b c) same k))

-- the same line, the same steps before it, and the same answer
pub same_forms : (remark r stepping s resets e : Bool) (taken t before limit : ℕ) (block place : ReadingPlace) (counts c : LineCounts)
    (after d : DebugState) (text x : List ℕ) (m : MachineState) → remark ≡ r → stepping ≡ s → resets ≡ e → taken ≡ t → block ≡ place
    → counts ≡ c → after ≡ d → text ≡ x → forms_by remark stepping resets taken before limit block.number counts after text m
    ≡ forms_by r s e t before limit place.number c d x m
same_forms remark r stepping s resets e taken t before limit block place counts c after d text x m f g h i j k l o =
    rw (f, g, h, i, j, k, l, o) refl

-- the record of a line, and those behind it
pub line_recorded : (line words : List ℕ) (time : Option ℕ) (at after : RecordingState) (forms : List RecordForm)
    (a b c : Option (List ℕ)) → Adds (IsOfForm (line_record_form line words time at)) a b → forms ≡ forms_next line words at
    → after ≡ state_behind line words at → Adds (AreRecords forms) b c → IsLineRecorded line words time at after a c
line_recorded line words time at after forms a b c first same state h = record {
  records = then_written (IsOfForm (line_record_form line words time at)) (AreRecords (forms_next line words at))
      (AreRecords (line_forms line words time at)) a b c (λ s t is are. then_records s is are) first
      (subst (λ (fs : List RecordForm). Adds (AreRecords fs) b c) same h);
  state = state;
}

pub written_is : (new old text : List ℕ) → old ≡ [] → new ≡ old ++ text → new ≡ text
written_is new old text empty is = is ∙ ap (λ (t : List ℕ). t ++ text) empty

pub line_is : (line : List ℕ) (time : Option ℕ) (opens o : Bool) (block place : ReadingPlace) → opens ≡ o → block ≡ place
    → Whole (line_head block.number line time ++ block_field opens (take (lines_in_block block.left) block.left))
    ≡ Whole (line_head place.number line time ++ block_field o (take (lines_in_block place.left) place.left))
line_is line time opens o block place e f = rw (e, f) refl

-- THE LINES OF A BLOCK

-- a string, and those that are left
pub next_string : (t u all : List ℕ) (f g : Bool) (m n : ℕ) (line : List ℕ) (left rest : List (List ℕ)) → left ≡ line ∷ rest
    → m ≡ suc n → u ≡ t ++ (comma_before f ++ string_text line) → g ≡ true → t ++ strings_text f (take m left) ≡ all
    → u ++ strings_text g (take n rest) ≡ all
next_string t u all f g m n line left rest here more added is so_far =
    let now : t ++ strings_text f (take (suc n) (line ∷ rest)) ≡ all =
    subst (λ (k : ℕ). t ++ strings_text f (take k (line ∷ rest)) ≡ all) more
    (subst (λ (ls : List (List ℕ)). t ++ strings_text f (take m ls) ≡ all) here so_far) in
    let others : List ℕ = strings_text true (take n rest) in
    rw (added, is) (append_assoc t (comma_before f ++ string_text line) others
    ∙ (ap (λ (x : List ℕ). t ++ x) (append_assoc (comma_before f) (string_text line) others) ∙ now))

no_strings : (f : Bool) (m : ℕ) → strings_text f (take m []) ≡ []
no_strings f zero = refl
no_strings f (suc m) = refl

-- no line is left
pub last_string : (t all : List ℕ) (f : Bool) (m : ℕ) (left : List (List ℕ)) → left ≡ [] → t ++ strings_text f (take m left) ≡ all
    → t ≡ all
last_string t all f m left none so_far =
    sym (append-nil t) ∙ (ap (λ (x : List ℕ). t ++ x) (sym (no_strings f m))
    ∙ subst (λ (ls : List (List ℕ)). t ++ strings_text f (take m ls) ≡ all) none so_far)

-- no more were wanted
pub all_strings : (t all : List ℕ) (f : Bool) (m : ℕ) (left : List (List ℕ)) → m ≡ 0 → t ++ strings_text f (take m left) ≡ all → t ≡ all
all_strings t all f m left none so_far =
    sym (append-nil t) ∙ subst (λ (k : ℕ). t ++ strings_text f (take k left) ≡ all) none so_far

pub block_added : (t u v w : List ℕ) (before inner opens : Bool) (count lines : ℕ) (left : List (List ℕ)) → before ≡ true
    → inner ≡ false → opens ≡ true → count ≡ lines → u ≡ t ++ (comma_before before ++ codes "\"block\":[")
    → v ≡ u ++ strings_text inner (take count left) → w ≡ v ++ codes "]" → w ≡ t ++ block_field opens (take lines left)
block_added t u v w before inner opens count lines left f g o same first then last =
    let begun : u ≡ t ++ codes ",\"block\":[" = subst (λ (b : Bool). u ≡ t ++ (comma_before b ++ codes "\"block\":[")) f first in
    let block : v ≡ u ++ strings_text false (take lines left) =
    subst (λ (n : ℕ). v ≡ u ++ strings_text false (take n left)) same
    (subst (λ (b : Bool). v ≡ u ++ strings_text b (take count left)) g then) in
    rw o (joined t u w (codes ",\"block\":[") (strings_text false (take lines left) ++ codes "]") begun
    (joined u v w (strings_text false (take lines left)) (codes "]") block last))
