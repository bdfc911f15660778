-- Which lines were answered, and that each of them has its records.
use Rattle.std.proofs.Common.{◌≡◌, ◌<◌, ◌≤◌, ℕ, ◌+◌, Bool, true, false, List, [], ◌∷◌, ◌++◌, drop, take, Option, None, Some, is_some, nat_lt, refl, sym, subst}
use Rattle.std.specs.Prelude.{option_map, if◌then◌else◌, ◌==◌, ◌&&◌, codes, IfSome}
use Rattle.std.specs.List.{flat_map, position}
use Rattle.std.specs.Option.{option_or}
use Rattle.std.proofs.lemmas.Bool.{le-ltb, lt-ltb, ltb-true}
use Rattle.std.proofs.lemmas.Grind.{flat_map-append}
use Rattle.std.proofs.lemmas.List.{append-nil}
use Rattle.command_shell_lines.specs.Blocks.{block_lines, lines_after, lines_taken}
use Rattle.command_shell_lines.specs.Numbers.{script_number}
use Rattle.command_shell_lines.specs.Requests.{request_of}
use Rattle.command_shell_lines.specs.debug_words.Texts.{text_behind}
use Rattle.debug_lines.specs.DebugRequests.{DebugRequest, is_known, is_repeatable, is_script_request, repeated_at, repeated_behind, repeated_if, repeated_line, simple_request}
use Rattle.debug_lines.specs.Repeats.{counted_text, counted_text_at, counted_text_behind, repeated_text}
use Rattle.debug_lines.specs.SteppingRequests.{SteppingRequest, stepping_request_of}
use Rattle.debug_lines.specs.Tidy.{tidied_line}
use Rattle.debug_lines.specs.declared.stepping.SteppingCommand.{SteppingCommand}
use Rattle.debug_session.specs.DebugScript.{debug_line_answer}
use Rattle.debug_session.specs.DebugState.{DebugState, debug_start_state}
use Rattle.debug_session.specs.Naming.{if_repeatable, meant_request, naming_of, repeated_now, repeated_with_places}
use Rattle.debug_session.specs.declared.session.DebugSettings.{DebugSettings}
use Rattle.profile.specs.images.Entries.{Entry}
use Rattle.debug_records.specs.AnsweredLines.{RecordedLine, answer_by, AreLinesBetween, RecordingState, again_or_next, answered_state, behind, limit_after, next_answered, next_line, no_more, once, request_meant, state_behind, step_number, steps_asked, steps_of_line, then_line, this_time, typed_line}
use Rattle.debug_records.specs.LineRecords.{Adds, AreRecorded, AreRecords, RecordForm, forms_of, line_forms, no_records}
use Rattle.debug_records.specs.Recording.{recording_start, without_past}
use Rattle.debug_records.specs.Taking.{IsFirstRecorded, IsLineRecorded}
use Rattle.debug_records.proofs.RecordLemmas.{also_written, none_written, then_written}
use Rattle.debug_records.proofs.RecordedLines.{records_joined}

-- STATES

abbrev pub state_of : DebugSettings → DebugState → ℕ → List (List ℕ) → ℕ → ℕ → RecordingState
state_of setting debug number left steps limit = record {
  setting = setting;
  debug = debug;
  number = number;
  left = left;
  steps = steps;
  limit = limit;
}

pub started : (setting now : DebugSettings) (images held : List Entry) (debug : DebugState) (script : List (List ℕ))
    → now ≡ without_past setting → debug ≡ debug_start_state (without_past setting) held → held ≡ images
    → state_of now debug 0 script 0 100000 ≡ recording_start setting images script
started setting now images held debug script same state is = rw (same, state, is) refl

by_some : (steps : Option SteppingCommand) (taken : ℕ) (after : DebugState) → taken ≡ (if is_some steps then after.steps else 0)
    → taken ≡ (if is_some (option_map stepping_request_of steps) then after.steps else 0)
by_some (Some one) taken after h = h
by_some None taken after h = h

pub answered_by : (words : List ℕ) (at : RecordingState)
    → debug_line_answer at.setting at.debug at.number words (block_lines at.left) ≡ answer_by words at
unfolding answer_by
answered_by words at = refl

-- how many steps a line took, by what it asks for
pub taken_is : (meant read : List ℕ) (steps : Option SteppingCommand) (taken : ℕ) (debug after : DebugState)
    → meant ≡ read → option_map stepping_request_of steps ≡ steps_asked (request_meant meant)
    → taken ≡ (if is_some steps then debug.steps else 0) → debug ≡ after → taken ≡ steps_of_line (request_meant read) after
taken_is meant read steps taken debug after is asked h state =
    let here : option_map stepping_request_of steps ≡ steps_asked (request_meant read) =
    subst (λ (words : List ℕ). option_map stepping_request_of steps ≡ steps_asked (request_meant words)) is asked in
    subst (λ (request : Option SteppingRequest). taken ≡ (if is_some request then after.steps else 0)) here
    (by_some steps taken after (subst (λ (d : DebugState). taken ≡ (if is_some steps then d.steps else 0)) state h))

-- the state after a line
pub left_behind : (at : RecordingState) (request : DebugRequest) (after : DebugState) (opens : Bool) (setting : DebugSettings)
    (debug : DebugState) (number : ℕ) (left : List (List ℕ)) (taken steps limit : ℕ)
    → setting ≡ at.setting → debug ≡ after → number ≡ at.number + lines_taken opens at.left → left ≡ lines_after opens at.left
    → taken ≡ steps_of_line request after → steps ≡ step_number at.steps taken → limit ≡ limit_after request at.limit
    → state_of setting debug number left steps limit ≡ answered_state request after opens at
left_behind at request after opens setting debug number left taken steps limit same state counts rest took sum most =
    rw (same, state, counts, rest, sum, took, most) refl

-- LINES, ONE BEHIND ANOTHER

answered_joined : (a c : DebugState) (n o : Option RecordedLine) (b : DebugState) (m : Option RecordedLine) (ls ks : List RecordedLine)
    → AreLinesBetween a n b m ls → AreLinesBetween c o a n ks → AreLinesBetween c o b m (ls ++ ks)
answered_joined a c n o b m ls ks no_more k = k
answered_joined a c n o b m ls ks (then_line {line = l} {lines = more} h) k =
    then_line (answered_joined a c n o (behind l).debug (next_answered l) more ks h k)

pub joined : (start mid after : DebugState) (first second next : Option RecordedLine) (s t : List ℕ)
    → AreRecorded start first mid second s → AreRecorded mid second after next t → AreRecorded start first after next (s ++ t)
joined start mid after first second next s t h k = record {
  lines = h.lines ++ k.lines;
  answered = answered_joined mid after second next start first h.lines k.lines h.answered k.answered;
  records = subst (λ (hs : List RecordForm). AreRecords hs (s ++ t)) (sym (flat_map-append forms_of h.lines k.lines))
      (records_joined (flat_map forms_of h.lines) (flat_map forms_of k.lines) s t h.records k.records);
}

pub none_recorded : (at : DebugState) (next : Option RecordedLine) → AreRecorded at next at next []
none_recorded at next = record { lines = []; answered = no_more; records = no_records }

one_recorded : (a : RecordedLine) (t : List ℕ) → AreRecords (forms_of a) t → AreRecorded a.at.debug (Some a) (behind a).debug (next_answered a) t
one_recorded a t are = record {
  lines = a ∷ [];
  answered = then_line no_more;
  records = subst (λ (hs : List RecordForm). AreRecords hs t) (sym (append-nil (forms_of a))) are;
}

-- a line that is answered once
pub once_recorded : (line words : List ℕ) (at after : RecordingState) (a b : Option (List ℕ))
    → Adds (AreRecords (line_forms line words None at)) a b → after ≡ state_behind line words at
    → Adds (AreRecorded at.debug (Some (once line words at)) after.debug (next_line after)) a b
once_recorded line words at after a b h is =
    subst (λ (s : RecordingState). Adds (AreRecorded at.debug (Some (once line words at)) s.debug (next_line s)) a b) (sym is)
    (also_written (AreRecords (line_forms line words None at)) (AreRecorded at.debug (Some (once line words at))
    (state_behind line words at).debug (next_line (state_behind line words at))) a b
    (λ t are. one_recorded (once line words at) t are) h)

-- A LINE THAT IS REPEATED

-- the time of a number, or the next line
abbrev pub time_or_next : List ℕ → List ℕ → ℕ → ℕ → RecordingState → Option RecordedLine
time_or_next line words n count at = if nat_lt n count then Some (this_time line words n count at) else next_line at

now_is : (line words : List ℕ) (n count : ℕ) (at : RecordingState) → n < count
    → time_or_next line words n count at ≡ Some (this_time line words n count at)
now_is line words n count at within = rw (lt-ltb n count within) refl

none_left : (line words : List ℕ) (n count : ℕ) (at : RecordingState) → count ≤ n → time_or_next line words n count at ≡ next_line at
none_left line words n count at past = rw (le-ltb n count past) refl

either_one : {X : Type 0} (b : Bool) (x : X) → (if b then x else x) ≡ x
either_one true x = refl
either_one false x = refl

goes_on : (line words : List ℕ) (n count : ℕ) (at : RecordingState) → at.debug.has_quit ≡ false
    → again_or_next line words (Some (n, count)) at ≡ time_or_next line words (n + 1) count at
goes_on line words n count at is = rw is refl

stops : (line words : List ℕ) (n count : ℕ) (at : RecordingState) → at.debug.has_quit ≡ true
    → again_or_next line words (Some (n, count)) at ≡ next_line at
stops line words n count at is = rw is (either_one (nat_lt (n + 1) count) None)

-- one more time, after the first of which this stood
module _ (line words : List ℕ) (n count : ℕ) (start : DebugState) (at after : RecordingState) (first : Option RecordedLine)
    (a b c : Option (List ℕ)) where
  abbrev Before : Type 0
  Before = Adds (AreRecorded start first at.debug (time_or_next line words n count at)) a b

  abbrev Behind : Option RecordedLine → Type 0
  Behind next = Adds (AreRecorded start first after.debug next) a c

  time_recorded : n < count → Before → Adds (AreRecords (line_forms line words (Some n) at)) b c
      → after ≡ state_behind line words at → Behind (again_or_next line words (Some (n, count)) after)
  time_recorded within h k is =
      let now : RecordedLine = this_time line words n count at in
      subst (λ (s : RecordingState). Adds (AreRecorded start first s.debug (again_or_next line words (Some (n, count)) s)) a c) (sym is)
      (then_written (AreRecorded start first at.debug (time_or_next line words n count at))
      (AreRecords (line_forms line words (Some n) at)) (AreRecorded start first (behind now).debug (next_answered now)) a b c
      (λ s t i j.
      joined start at.debug (behind now).debug first (Some now) (next_answered now) s t
      (subst (λ (o : Option RecordedLine). AreRecorded start first at.debug o s) (now_is line words n count at within) i)
      (one_recorded now t j))
      h k)

  -- that was the last, by QUIT
  pub last_time : n < count → after.debug.has_quit ≡ true → Before → Adds (AreRecords (line_forms line words (Some n) at)) b c
      → after ≡ state_behind line words at → Behind (next_line after)
  last_time within quits h k is = subst Behind (stops line words n count after quits) (time_recorded within h k is)

  -- behind which there may be another
  pub next_time : n < count → after.debug.has_quit ≡ false → Before → Adds (AreRecords (line_forms line words (Some n) at)) b c
      → after ≡ state_behind line words at → Behind (time_or_next line words (n + 1) count after)
  next_time within more h k is = subst Behind (goes_on line words n count after more) (time_recorded within h k is)

-- before the first time
pub first_time : (line words : List ℕ) (count : ℕ) (at : RecordingState) (a : Option (List ℕ)) → 0 < count
    → Adds (AreRecorded at.debug (Some (this_time line words 0 count at)) at.debug (time_or_next line words 0 count at)) a a
first_time line words count at a some =
    let now : Option RecordedLine = Some (this_time line words 0 count at) in
    subst (λ (o : Option RecordedLine). Adds (AreRecorded at.debug now at.debug o) a a) (sym (now_is line words 0 count at some))
    (none_written (AreRecorded at.debug now at.debug now) a (none_recorded at.debug now))

-- behind all times
pub all_times : (line words : List ℕ) (n count : ℕ) (start : DebugState) (after : RecordingState) (first : Option RecordedLine)
    (a b : Option (List ℕ)) → count ≤ n → Adds (AreRecorded start first after.debug (time_or_next line words n count after)) a b
    → Adds (AreRecorded start first after.debug (next_line after)) a b
all_times line words n count start after first a b past =
    subst (λ (o : Option RecordedLine). Adds (AreRecorded start first after.debug o) a b) (none_left line words n count after past)

-- what is repeated is so once at least
abbrev IsCounted : ℕ × List ℕ → Type 0
IsCounted repeated = 0 < repeated.0

counted_by : (some may : Bool) (count : ℕ) (line : List ℕ) → nat_lt 0 count ≡ some
    → IfSome (if some && may then Some (count, line) else None) IsCounted
counted_by true true count line is = ltb-true 0 count is
counted_by true false count line is = tt
counted_by false may count line is = tt

counted_if : (o : Option ℕ) (line : List ℕ) → IfSome (repeated_if o line) IsCounted
counted_if (Some count) line = counted_by (nat_lt 0 count) (is_repeatable (simple_request line)) count line refl
counted_if None line = tt

counted_at : (o : Option ℕ) (text : List ℕ) → IfSome (repeated_at o text) IsCounted
counted_at (Some place) text = counted_if (script_number (take place text)) (drop (place + 1) text)
counted_at None text = tt

counted_behind : (o : Option (List ℕ)) → IfSome (repeated_behind o) IsCounted
counted_behind (Some text) = counted_at (position (λ b. b == 32) text) text
counted_behind None = tt

line_counted : (line : List ℕ) → IfSome (repeated_line line) IsCounted
unfolding repeated_line
line_counted line = counted_behind (text_behind (codes "REPEAT ") line)

text_counted_by : (some : Bool) (count : ℕ) (text : List ℕ) → nat_lt 0 count ≡ some
    → IfSome (if some then Some (count, text) else None) IsCounted
text_counted_by true count text is = ltb-true 0 count is
text_counted_by false count text is = tt

text_counted_if : (o : Option ℕ) (text : List ℕ) → IfSome (counted_text o text) IsCounted
text_counted_if (Some count) text = text_counted_by (nat_lt 0 count) count text refl
text_counted_if None text = tt

text_counted_at : (o : Option ℕ) (text : List ℕ) → IfSome (counted_text_at o text) IsCounted
text_counted_at (Some place) text = text_counted_if (script_number (take place text)) (drop (place + 1) text)
text_counted_at None text = tt

text_counted_behind : (o : Option (List ℕ)) → IfSome (counted_text_behind o) IsCounted
text_counted_behind (Some text) = text_counted_at (position (λ b. b == 32) text) text
text_counted_behind None = tt

text_counted : (line : List ℕ) → IfSome (repeated_text line) IsCounted
unfolding repeated_text
text_counted line = text_counted_behind (text_behind (codes "REPEAT ") line)

kept_if : (may : Bool) (repeated : ℕ × List ℕ) → IsCounted repeated → IfSome (if may then Some repeated else None) IsCounted
kept_if true repeated is = is
kept_if false repeated is = tt

kept : (d : DebugState) (o : Option (ℕ × List ℕ)) → IfSome o IsCounted → IfSome (if_repeatable (naming_of d) o) IsCounted
kept d (Some repeated) is = kept_if (is_repeatable (meant_request (naming_of d) repeated.1)) repeated is
kept d None is = tt

unless_known : (known : Bool) (o : Option (ℕ × List ℕ)) → IfSome o IsCounted → IfSome (if known then None else o) IsCounted
unless_known true o is = tt
unless_known false o is = is

one_of : (o p : Option (ℕ × List ℕ)) → IfSome o IsCounted → IfSome p IsCounted → IfSome (option_or o p) IsCounted
one_of (Some repeated) p h k = h
one_of None p h k = k

now_counted : (d : DebugState) (line : List ℕ) → IfSome (repeated_now (naming_of d) line) IsCounted
now_counted d line =
    one_of (repeated_line line) (repeated_with_places (naming_of d) line) (line_counted line)
    (unless_known (is_known (simple_request line)) (if_repeatable (naming_of d) (repeated_text line))
    (kept d (repeated_text line) (text_counted line)))

pub repeated_once : (d : DebugState) (line words : List ℕ) (count : ℕ) → repeated_now (naming_of d) line ≡ Some (count, words)
    → 0 < count
repeated_once d line words count is = subst (λ (o : Option (ℕ × List ℕ)). IfSome o IsCounted) is (now_counted d line)

-- A LINE AS IT WAS TYPED

typed_script : (line : List ℕ) (at : RecordingState) → is_script_request (request_of line) ≡ true
    → once line line at ≡ typed_line line at
typed_script line at is = rw is refl

typed_tidy : (line : List ℕ) (at : RecordingState) → is_script_request (request_of line) ≡ false
    → repeated_now (naming_of at.debug) (tidied_line line) ≡ None → once line (tidied_line line) at ≡ typed_line line at
typed_tidy line at other none = rw (other, none) refl

typed_repeat : (line : List ℕ) (at : RecordingState) (count : ℕ) (words : List ℕ) → is_script_request (request_of line) ≡ false
    → repeated_now (naming_of at.debug) (tidied_line line) ≡ Some (count, words) → this_time line words 0 count at ≡ typed_line line at
typed_repeat line at count words other some = rw (other, some) refl

pub script_recorded : (line : List ℕ) (start after : RecordingState) (a b : Option (List ℕ))
    → is_script_request (request_of line) ≡ true → IsLineRecorded line line None start after a b
    → IsFirstRecorded (typed_line line start) start after a b
script_recorded line start after a b is h =
    subst (λ (x : RecordedLine). IsFirstRecorded x start after a b) (typed_script line start is)
    (once_recorded line line start after a b h.records h.state)

-- a line that is made tidy
pub tidy_recorded : (line words : List ℕ) (start after : RecordingState) (a b : Option (List ℕ))
    → is_script_request (request_of line) ≡ false → words ≡ tidied_line line → repeated_now (naming_of start.debug) words ≡ None
    → IsLineRecorded line words None start after a b → IsFirstRecorded (typed_line line start) start after a b
tidy_recorded line words start after a b other is none h =
    subst (λ (x : RecordedLine). IsFirstRecorded x start after a b)
    (typed_tidy line start other (subst (λ (ws : List ℕ). repeated_now (naming_of start.debug) ws ≡ None) is none))
    (once_recorded line (tidied_line line) start after a b
    (subst (λ (ws : List ℕ). Adds (AreRecords (line_forms line ws None start)) a b) is h.records)
    (subst (λ (ws : List ℕ). after ≡ state_behind line ws start) is h.state))

pub repeated_recorded : (line words : List ℕ) (count : ℕ) (again : List ℕ) (start after : RecordingState)
    (a b : Option (List ℕ)) → is_script_request (request_of line) ≡ false → words ≡ tidied_line line
    → repeated_now (naming_of start.debug) words ≡ Some (count, again)
    → IsFirstRecorded (this_time line again 0 count start) start after a b
    → IsFirstRecorded (typed_line line start) start after a b
repeated_recorded line words count again start after a b other is some h =
    subst (λ (x : RecordedLine). IsFirstRecorded x start after a b)
    (typed_repeat line start count again other
    (subst (λ (ws : List ℕ). repeated_now (naming_of start.debug) ws ≡ Some (count, again)) is some))
    h

-- THE LINES OF A SCRIPT

next_is : (at : RecordingState) (line : List ℕ) (rest : List (List ℕ)) (number : ℕ) → at.debug.has_quit ≡ false
    → at.left ≡ line ∷ rest → number ≡ at.number + 1 → next_line at ≡ Some (typed_line line (record at { number = number; left = rest }))
next_is at line rest number goes_on here next = rw (goes_on, here, next) refl

pub next_recorded : (start : DebugState) (at after : RecordingState) (first : Option RecordedLine) (line : List ℕ)
    (rest : List (List ℕ)) (number : ℕ) (a b c : Option (List ℕ)) → at.debug.has_quit ≡ false → at.left ≡ line ∷ rest
    → number ≡ at.number + 1 → Adds (AreRecorded start first at.debug (next_line at)) a b
    → Adds (AreRecorded at.debug (Some (typed_line line (record at { number = number; left = rest }))) after.debug (next_line after)) b c
    → Adds (AreRecorded start first after.debug (next_line after)) a c
next_recorded start at after first line rest number a b c goes_on here next h k =
    let now : Option RecordedLine = Some (typed_line line (record at { number = number; left = rest })) in
    then_written (AreRecorded start first at.debug (next_line at)) (AreRecorded at.debug now after.debug (next_line after))
    (AreRecorded start first after.debug (next_line after)) a b c
    (λ s t i j.
    joined start at.debug after.debug first now (next_line after) s t
    (subst (λ (o : Option RecordedLine). AreRecorded start first at.debug o s) (next_is at line rest number goes_on here next) i) j)
    h k

-- no line is left, or one was QUIT
pub all_recorded : (start : DebugState) (first : Option RecordedLine) (after : RecordingState) (a b : Option (List ℕ))
    → next_line after ≡ None → Adds (AreRecorded start first after.debug (next_line after)) a b
    → Adds (AreRecorded start first after.debug None) a b
all_recorded start first after a b = subst (λ (o : Option RecordedLine). Adds (AreRecorded start first after.debug o) a b)

pub none_behind_quit : (at : RecordingState) → at.debug.has_quit ≡ true → next_line at ≡ None
none_behind_quit at is = rw is refl

pub none_behind_last : (at : RecordingState) → at.debug.has_quit ≡ false → at.left ≡ [] → next_line at ≡ None
none_behind_last at goes_on is = rw (goes_on, is) refl
