-- Records of moments are written, one behind another.
use Rattle.std.proofs.Common.{◌≡◌, ◌∙◌, ℕ, ◌+◌, ◌<◌, ◌≤◌, ◌==◌, min, Bool, true, false, is_some, List, [], ◌++◌, Option, Some, None, refl, sym, ap, subst, arith, inl, inr}
use Rattle.std.specs.Prelude.{◌||◌, codes, not, IfSome}
use Rattle.std.proofs.lemmas.Bool.{cases_Bool, false≢true, le-ltb, lt-ltb}
use Rattle.std.proofs.lemmas.List.{append-nil}
use Rattle.arm_core.specs.State.{State}
use Rattle.profile.specs.images.Entries.{Entry}
use Rattle.trace_json.specs.MachineState.{MachineState, StepOutcome}
use Rattle.trace_json.specs.Step.{machine_step}
use Rattle.command_shell_lines.specs.declared.debug_words.stubs.Stub.{Stub}
use Rattle.debug_session.specs.Stubs.{StubDeedState, deed_ahead, stubbed_step}
use Rattle.debug_session.proofs.StubLemmas.{real_steps}
use Rattle.trace_effects.specs.Cause.{cause_of}
use Rattle.trace_effects.specs.changes.Laws.{core_after}
use Rattle.trace_effects.specs.declared.record_text.text.RecordText.{RecordText}
use Rattle.trace_json.specs.CoreFields.{core_fields}
use Rattle.trace_json.specs.Fields.{entries}
use Rattle.trace_json.specs.Moments.{ChangesKept, IsMadeOutside, KeepsMemory, ShowsChanges, expected_at, is_copied, step_place_by, step_place, words_of}
use Rattle.trace_json.specs.PlainSteps.{PlainStepsStore, is_plain}
use Rattle.trace_json.specs.declared.before.MemoryBefore.{MemoryBefore}
use Rattle.trace_json.specs.declared.before.StepKind.{StepKind}
use Rattle.trace_json.specs.declared.before.StepKind.TheVariants.{Outside}
use Rattle.trace_json.specs.OtherFields.{are_others}
use Rattle.trace_json.specs.WordFields.{word_fields}
use Rattle.trace_json.specs.declared.step.StepBefore.{StepBefore}
use Rattle.trace_json.proofs.PrefixLemmas.{words_alike}
use Rattle.trace_json.proofs.MomentLemmas.{copied_changes, core_replays, kept_behind, step_changes, words_same}
use Rattle.debug_records.specs.AnsweredLines.{step_number}
use Rattle.debug_records.specs.LineRecords.{Adds, AreRecords, Changes, IsOfForm, Steps, step_forms}
use Rattle.debug_records.specs.Moments.{AreStepRecords, AreSteps, IsAlike, IsMoment, IsRest, IsRestIf, IsSet, IsStepRecord, IsRecordText, moment_text, no_steps, place_field, step_head, then_step}
use Rattle.debug_records.specs.Recording.{session_machine, twin_machine}
use Rattle.debug_records.specs.Taking.{IsMomentPrinted, IsNoText, IsShown, IsStepPushed, IsStepShown, IsStepTaken, IsTakenFrom}
use Rattle.debug_records.specs.declared.recorder.Twin.{Twin}
use Rattle.debug_session.specs.declared.session.DebugSession.{DebugSession}
use Rattle.debug_records.proofs.RecordLemmas.{also_written, none_written, then_written}
use Rattle.debug_records.proofs.RecordedLines.{one_record}

-- A MOMENT

fields_are : (old new : RecordText) (fields : List (List ℕ)) → IsNoText old → new.bytes.items ≡ old.bytes.items ++ entries old.follows fields
    → new.bytes.items ≡ entries false fields
fields_are old new fields none is =
    is ∙ (ap (λ (t : List ℕ). t ++ entries old.follows fields) none.bytes ∙ ap (λ (f : Bool). entries f fields) none.follows)

-- what differs was written where nothing stood, and then the record
moment_written : (head name : List ℕ) (expected : ℕ) (s t : MachineState) (old new : RecordText) (front rest : List ℕ)
    (a b : Option (List ℕ)) → IsNoText old → ShowsChanges name expected s t old new → are_others front ≡ true → are_others rest ≡ true
    → Adds (IsRecordText (moment_text head front new.bytes.items rest)) a b → Adds (IsMoment head name expected s t) a b
moment_written head name expected s t old new front rest a b none shows ahead behind =
    let fields : List (List ℕ) = core_fields name shows.core ++ word_fields shows.words in
    also_written (IsRecordText (moment_text head front new.bytes.items rest)) (IsMoment head name expected s t) a b (λ text is. record {
      core = shows.core;
      words = shows.words;
      front = front;
      rest = rest;
      front_others = ahead;
      rest_others = behind;
      whole = is ∙ ap (λ (changes : List ℕ). moment_text head front changes rest) (fields_are old new fields none shows.written.text);
      core_replays = core_replays expected s.cpu t.cpu shows.core shows.core_are;
      words_replay = shows.words_are;
    })

pub shown_recorded : (head name : List ℕ) (expected : ℕ) (s t : MachineState) (changes : RecordText) (front rest : List ℕ)
    (a b : Option (List ℕ)) → IsShown name expected s t changes → IsMomentPrinted head front changes.bytes.items rest a b
    → Adds (IsMoment head name expected s t) a b
shown_recorded head name expected s t changes front rest a b shown printed =
    moment_written head name expected s t shown.old changes front rest a b shown.none shown.shows printed.others printed.others_behind
    printed.written

pub shown_from : (name : List ℕ) (expected : ℕ) (s t : MachineState) (old new : RecordText) → IsNoText old
    → ShowsChanges name expected s t old new → IsShown name expected s t new
shown_from name expected s t old new none shows = record { old = old; none = none; shows = shows }

-- what differs of a machine that is another, written where nothing else was before it nor behind it
pub shows_between : (name : List ℕ) (expected : ℕ) (s t u : MachineState) (old first new last : RecordText) → t ≡ u → first ≡ old
    → ShowsChanges name expected s t first new → last ≡ new → ShowsChanges name expected s u old last
shows_between name expected s t u old first new last now begins shows ends =
    subst (λ (x : RecordText). ShowsChanges name expected s u old x) (sym ends)
    (subst (λ (x : RecordText). ShowsChanges name expected s u x new) begins
    (subst (λ (m : MachineState). ShowsChanges name expected s m first new) now shows))

-- the same of a session's machine that stays
pub shows_behind : (name : List ℕ) (expected : ℕ) (s t : MachineState) (d e : DebugSession) (old new last : RecordText)
    → t ≡ session_machine d → ShowsChanges name expected s t old new → last ≡ new → e ≡ d
    → ShowsChanges name expected s (session_machine e) old last
shows_behind name expected s t d e old new last now shows ends stays =
    shows_between name expected s t (session_machine e) old old new last (now ∙ sym (ap session_machine stays)) refl shows ends

-- words that are replayed, at an address
where_alike : (head name : List ℕ) (s m t : MachineState) (text : List ℕ) → IsAlike s m → IsMoment head name s.cpu.pc s t text
    → IsMoment head name m.cpu.pc m t text
where_alike head name s m t text alike is = record {
  core = is.core;
  words = is.words;
  front = is.front;
  rest = is.rest;
  front_others = is.front_others;
  rest_others = is.rest_others;
  whole = is.whole;
  core_replays = subst (λ c. core_after c.pc c is.core ≡ t.cpu) alike.core is.core_replays;
  words_replay = λ a whole below. sym (words_alike is.words (words_of s) (words_of m) a (alike.words a whole below)) ∙ is.words_replay a whole below;
}

pub changes_from : (head : List ℕ) (s m t : MachineState) (a b : Option (List ℕ)) → IsAlike s m → Adds (IsOfForm (Changes head s t)) a b
    → Adds (IsOfForm (Changes head m t)) a b
changes_from head s m t a b alike =
    also_written (IsMoment head (codes "pc") s.cpu.pc s t) (IsMoment head (codes "pc") m.cpu.pc m t) a b
    (λ text is. where_alike head (codes "pc") s m t text alike is)

-- A STEP

from_place : (place : Option ℕ) (from from' : ℕ) (halted : Bool) → (place ≡ None → from ≡ from')
    → expected_at place from halted ≡ expected_at place from' halted
from_place None from from' halted same = same refl
from_place (Some at) from from' halted same = refl

pub step_from : (before : StepBefore) (s e t : MachineState) (old new : RecordText) → (IsMadeOutside before → e ≡ s)
    → ShowsChanges (codes "next") (expected_at (step_place before) e.cpu.pc (is_some t.halt)) s t old new
    → ShowsChanges (codes "next") (expected_at (step_place before) s.cpu.pc (is_some t.halt)) s t old new
step_from before s e t old new stays =
    subst (λ (n : ℕ). ShowsChanges (codes "next") n s t old new)
    (from_place (step_place before) e.cpu.pc s.cpu.pc (is_some t.halt) (λ outside. ap (λ m. m.cpu.pc) (stays outside)))

there_by : (kind : StepKind) (pc at : ℕ) → pc ≡ at → IfSome (step_place_by kind pc) (λ (a : ℕ). a ≡ at)
there_by (Outside number) pc at is = tt
there_by kind pc at is = is

-- a step that was taken, what was set in the core behind it, and what was written of both
pub step_shown : (is_first is_last : Bool) (s t0 settled : MachineState) (before : StepBefore) (reported : State) (cleared : RecordText)
    (old new : Twin) → IsStepTaken is_first s t0 before → IsSet t0 settled → (is_last ≡ false → settled ≡ t0)
    → twin_machine old ≡ settled → reported ≡ s.cpu → IsNoText cleared → old.changes ≡ cleared → (place : Option ℕ)
    → IsStepPushed before reported old new place → IsStepShown is_first is_last s (twin_machine new) place new.changes
step_shown is_first is_last s t0 settled before reported cleared old new taken set earlier here core none opens place pushed =
    let t = pushed.machine in
    let now : t ≡ settled = pushed.same ∙ here in
    let ends : t ≡ twin_machine new = pushed.same ∙ sym (ap session_machine pushed.session) in
    let e = taken.entered in
    let leaves : IsSet t0 t = subst (λ (m : MachineState). IsSet t0 m) (sym now) set in
    let kept : ChangesKept before.memory e t = kept_behind e t0 t before.memory leaves.store leaves.halt taken.taken.kept in
    let words : words_of e ≡ words_of s = words_same s e taken.set.store in
    subst (λ (p : Option ℕ). IsStepShown is_first is_last s (twin_machine new) p new.changes) (sym pushed.there)
    (subst (λ (m : MachineState). IsStepShown is_first is_last s m (step_place before) new.changes) ends (record {
      entered = e;
      left = t0;
      enters = taken.set;
      step = taken.taken.step;
      leaves = leaves;
      later = taken.later;
      earlier = λ more. now ∙ earlier more;
      there = there_by before.kind before.cpu.pc e.cpu.pc (ap (λ (x : State). x.pc) taken.taken.keeps.core);
      shown = record {
        old = old.changes;
        none = subst IsNoText (sym opens) none;
        shows = step_from before s e t old.changes new.changes taken.stays (pushed.shows s e core words taken.taken.keeps kept);
      };
    }))

-- its record
pub step_recorded : (number : ℕ) (is_first is_last : Bool) (s t : MachineState) (place : Option ℕ) (changes : RecordText)
    (front rest head : List ℕ) (a b : Option (List ℕ)) → IsStepShown is_first is_last s t place changes
    → head ≡ step_head number ++ place_field place → IsMomentPrinted head front changes.bytes.items rest a b
    → Adds (IsStepRecord number is_first is_last s t) a b
step_recorded number is_first is_last s t place changes front rest head a b shown begins printed =
    let expected : ℕ = expected_at place s.cpu.pc (is_some t.halt) in
    also_written (IsMoment (step_head number ++ place_field place) (codes "next") expected s t)
    (IsStepRecord number is_first is_last s t) a b (λ text moment. record {
      entered = shown.entered;
      left = shown.left;
      enters = shown.enters;
      step = shown.step;
      leaves = shown.leaves;
      later = shown.later;
      earlier = shown.earlier;
      place = place;
      there = shown.there;
      moment = moment;
    })
    (subst (λ (x : List ℕ). Adds (IsMoment x (codes "next") expected s t) a b) begins
    (shown_recorded head (codes "next") expected s t changes front rest a b shown.shown printed))

-- what is kept before a step knows all that it changes, and before what a stub does in its place
pub taken_kept : (stubs : List Stub) (images : List Entry) (s t : MachineState) (deed : Option StubDeedState) (stubbed : Bool) (memory : MemoryBefore)
    → PlainStepsStore → KeepsMemory memory s → deed ≡ deed_ahead stubs s → stubbed ≡ is_some deed
    → is_copied memory ≡ (stubbed || not (is_plain (cause_of s.cpu s.store.bytes))) → t ≡ (stubbed_step stubs images s).now
    → ChangesKept memory s t
taken_kept stubs images s t (Some d) stubbed memory law keeps ahead tests copied made =
    copied_changes s t memory (copied ∙ ap (λ (b : Bool). b || not (is_plain (cause_of s.cpu s.store.bytes))) tests)
taken_kept stubs images s t None stubbed memory law keeps ahead tests copied made =
    let now : t ≡ (machine_step images s).now = made ∙ ap (λ (o : StepOutcome). o.now) (real_steps stubs images s (sym ahead)) in
    let all : is_copied memory ≡ not (is_plain (cause_of s.cpu s.store.bytes)) =
    copied ∙ ap (λ (b : Bool). b || not (is_plain (cause_of s.cpu s.store.bytes))) tests in
    subst (λ (m : MachineState). ChangesKept memory s m) (sym now)
    (step_changes images s memory law keeps (λ stored. elim (cases_Bool (is_plain (cause_of s.cpu s.store.bytes))) [
      | inl plain ↦ plain
      | inr other ↦ absurd (false≢true (sym stored ∙ (all ∙ ap (λ (b : Bool). not b) other)))
    ]))

no_place : (place : Option ℕ) → is_some place ≡ true → place ≡ None → ⊥
no_place None there none = false≢true there
no_place (Some at) there none = false≢true (sym (ap (λ (p : Option ℕ). is_some p) none) ∙ there)

-- a step that is no call from outside, where a routine may have been entered before the first
pub inside_taken : (is_first : Bool) (s e t : MachineState) (before : StepBefore) → IsSet s e → (is_first ≡ false → e ≡ s)
    → is_some (step_place before) ≡ true → IsTakenFrom e t before → IsStepTaken is_first s t before
inside_taken is_first s e t before set later inside taken = record {
  entered = e;
  set = set;
  later = later;
  stays = λ outside. absurd (no_place (step_place before) inside outside);
  taken = taken;
}

-- a call from outside
pub outside_taken : (is_first : Bool) (s t : MachineState) (before : StepBefore) → IsTakenFrom s t before → IsStepTaken is_first s t before
outside_taken is_first s t before taken = record {
  entered = s;
  set = record { store = refl; halt = refl };
  later = λ more. refl;
  stays = λ outside. refl;
  taken = taken;
}

-- STEPS

pub none_stepped : (before taken : ℕ) (s : MachineState) (a : Option (List ℕ)) → Adds (AreStepRecords before taken 0 s s) a a
none_stepped before taken s a = none_written (AreStepRecords before taken 0 s s) a no_steps

pub step_added : (before taken n number : ℕ) (is_last : Bool) (s t u : MachineState) (a b c : Option (List ℕ))
    → number ≡ step_number before (n + 1) → is_last ≡ (n + 1 == taken) → Adds (AreStepRecords before taken n s t) a b
    → Adds (IsStepRecord number (n == 0) is_last t u) b c → Adds (AreStepRecords before taken (n + 1) s u) a c
step_added before taken n number is_last s t u a b c is last h k =
    then_written (AreStepRecords before taken n s t) (IsStepRecord (step_number before (n + 1)) (n == 0) (n + 1 == taken) t u)
    (AreStepRecords before taken (n + 1) s u) a b c (λ x y i j. then_step y i j) h
    (subst (λ (m : ℕ). Adds (IsStepRecord m (n == 0) (n + 1 == taken) t u) b c) is
    (subst (λ (l : Bool). Adds (IsStepRecord number (n == 0) l t u) b c) last k))

pub all_steps : (before limit taken : ℕ) (s t : MachineState) (a b : Option (List ℕ)) → taken ≤ limit → Adds (AreStepRecords before taken taken s t) a b
    → Adds (AreSteps before limit taken s t) a b
all_steps before limit taken s t a b within =
    let least : min limit taken ≡ taken = omega arith in
    also_written (AreStepRecords before taken taken s t) (AreSteps before limit taken s t) a b (λ x are. record {
      middle = t;
      each = x;
      rest = [];
      one_by_one = subst (λ (n : ℕ). AreStepRecords before taken n s t x) (sym least) are;
      together = subst (λ (more : Bool). IsRestIf more before limit taken t t []) (sym (le-ltb limit taken within)) (refl, refl);
      whole = sym (append-nil x);
    })

pub some_steps : (before limit taken : ℕ) (s t u : MachineState) (a b c : Option (List ℕ)) → limit < taken → Adds (AreStepRecords before taken limit s t) a b
    → Adds (IsRest before limit taken t u) b c → Adds (AreSteps before limit taken s u) a c
some_steps before limit taken s t u a b c beyond =
    let least : min limit taken ≡ limit = omega arith in
    then_written (AreStepRecords before taken limit s t) (IsRest before limit taken t u) (AreSteps before limit taken s u) a b c (λ x y are is. record {
      middle = t;
      each = x;
      rest = y;
      one_by_one = subst (λ (n : ℕ). AreStepRecords before taken n s t x) (sym least) are;
      together = subst (λ (more : Bool). IsRestIf more before limit taken t u y) (sym (lt-ltb limit taken beyond)) is;
      whole = refl;
    })

-- those of a line
pub line_stepped : (before limit taken : ℕ) (s t m m' : MachineState) (a b : Option (List ℕ)) → IsAlike s m
    → Adds (AreSteps before limit taken s t) a b → IsAlike t m' → Adds (AreRecords (step_forms false before limit taken m m')) a b
line_stepped before limit taken s t m m' a b starts written ends =
    also_written (AreSteps before limit taken s t) (AreRecords (step_forms false before limit taken m m')) a b
    (λ x are. one_record (Steps before limit taken m m') x (record { first = s; last = t; starts = starts; steps = are; ends = ends })) written
