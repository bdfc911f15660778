-- What is shown of the steps that were taken last.
use Rattle.std.proofs.Common.{◌≡◌, ◌<◌, ◌≤◌, ℕ, ◌-◌, ◌+◌, ◌==◌, ◌++◌, Bool, true, false, List, [], ◌∷◌, Option, Some, None, length, get_or, drop, refl, sym, ◌∙◌, ap, if◌then◌else◌}
use Rattle.std.specs.Prelude.{codes, is_some}
use Rattle.std.specs.Option.{option_map}
use mir.Val.{bool_byte}
use Rattle.std.proofs.lemmas.List.{append-nil, drop_all, drop_more}
use Rattle.profile.specs.images.Entries.{Entry}
use Rattle.profile.specs.declared.stop.Stop.{Stop}
use Rattle.command_shell_lines.specs.declared.debug_words.stubs.Stub.{Stub}
use Rattle.debug_modules.specs.Labels.{ImageLabels}
use Rattle.debug_tables.specs.Halt.{Halt}
use Rattle.debug_tables.specs.MachineState.{stop_of}
use Rattle.debug_tables.specs.State.{ScriptState}
use Rattle.debug_lines.specs.SteppingRequests.{SteppingRequest}
use Rattle.debug_modules.specs.Acts.{PastMoment, count_if, is_anew, moment_after_deed, moment_after_steps, moment_of_script, steps_behind, steps_of_acts, steps_of_deed, stubs_of_deed}
use Rattle.debug_modules.specs.Again.{IsAtMoment}
use Rattle.debug_modules.specs.Act.{Act}
use Rattle.debug_modules.specs.PastDeed.{PastDeed}
use Rattle.debug_modules.proofs.AgainLemmas.{IsBeside, moment_at}
use Rattle.debug_modules.proofs.StepLemmas.{never_none}
use Rattle.debug_tables.specs.Answers.{refused_text}
use Rattle.debug_session.specs.LastSteps.{modes_with_stubs, script_at_past, steps_shown, text_of_acts, text_of_deed, text_of_steps, text_or_refused, text_with_deed}
use Rattle.debug_tables.specs.declared.modes.StepModes.{StepModes}

pub shown_text : (labels : List ImageLabels) (s : ScriptState) (k : ℕ) (d : PastDeed) (taken : SteppingRequest × ℕ) (old new text : List ℕ)
    → s.machine.halt ≡ None → Some taken ≡ steps_behind k d
    → text ≡ (steps_shown (stubs_of_deed d) labels
    (script_at_past s (moment_after_steps (stubs_of_deed d) s.images k (moment_of_script s))) taken.1 taken.0).text
    → new ≡ old ++ text → new ≡ old ++ text_of_deed labels s k d (moment_of_script s)
shown_text labels s k d taken old new text up is same more =
    let stubs = stubs_of_deed d in
    let first : ScriptState = script_at_past s (moment_after_steps stubs s.images k (moment_of_script s)) in
    more ∙ ap (λ (xs : List ℕ). old ++ xs)
    (same ∙ ap (λ (o : Option (SteppingRequest × ℕ)). text_of_steps stubs labels first o) is
    ∙ sym (ap (λ (o : Option Halt). if is_some o then [] else text_of_steps stubs labels first (steps_behind k d)) up))

if_none : (b : Bool) (xs : List ℕ) → xs ≡ [] → [] ≡ (if b then [] else xs)
if_none true xs none = refl
if_none false xs none = sym none

pub no_text : (labels : List ImageLabels) (s : ScriptState) (k : ℕ) (d : PastDeed) (old : List ℕ) → None ≡ steps_behind k d
    → old ≡ old ++ text_of_deed labels s k d (moment_of_script s)
no_text labels s k d old none =
    let stubs = stubs_of_deed d in
    let first : ScriptState = script_at_past s (moment_after_steps stubs s.images k (moment_of_script s)) in
    sym (append-nil old) ∙ ap (λ (xs : List ℕ). old ++ xs)
    (if_none (is_some s.machine.halt) (text_of_steps stubs labels first (steps_behind k d))
    (ap (λ (o : Option (SteppingRequest × ℕ)). text_of_steps stubs labels first o) (sym none)))

pub halted_text : (labels : List ImageLabels) (s : ScriptState) (k : ℕ) (d : PastDeed) (old : List ℕ) → is_some s.machine.halt ≡ true
    → old ≡ old ++ text_of_deed labels s k d (moment_of_script s)
halted_text labels s k d old is =
    let stubs = stubs_of_deed d in
    let first : ScriptState = script_at_past s (moment_after_steps stubs s.images k (moment_of_script s)) in
    sym (append-nil old) ∙ ap (λ (b : Bool). old ++ (if b then [] else text_of_steps stubs labels first (steps_behind k d))) (sym is)

-- stubs, and no watch
pub stubs_alone : (modes : StepModes) (stubs : List Stub) → modes.stubs ≡ stubs → modes.watches ≡ [] → modes ≡ modes_with_stubs stubs
stubs_alone modes stubs same watches = λ i. record { stubs = same i; watches = watches i }

same_steps : (stubs : List Stub) (labels : List ImageLabels) (s t : ScriptState) (m : PastMoment) (o : Option (SteppingRequest × ℕ))
    → IsBeside s t → text_of_steps stubs labels (script_at_past t m) o ≡ text_of_steps stubs labels (script_at_past s m) o
same_steps stubs labels s t m None b = refl
same_steps stubs labels s t m (Some taken) b = λ i. (steps_shown stubs labels
    (script_at_past (record s { sizes = b.sizes i; images = b.images i; breaks = b.breaks i }) m) taken.1 taken.0).text

-- what is shown of the steps of a deed doesn't depend on where the script's machine is
pub same_text : (labels : List ImageLabels) (s t : ScriptState) (k : ℕ) (d : PastDeed) (m : PastMoment) → IsBeside s t
    → text_of_deed labels t k d m ≡ text_of_deed labels s k d m
same_text labels s t k d m b =
    let stubs = stubs_of_deed d in
    ap (λ (xs : List ℕ). if is_some m.machine.halt then [] else xs)
    (ap (λ (es : List Entry). text_of_steps stubs labels (script_at_past t (moment_after_steps stubs es k m)) (steps_behind k d)) b.images
    ∙ same_steps stubs labels s t (moment_after_steps stubs s.images k m) (steps_behind k d) b)

first_text : (labels : List ImageLabels) (s : ScriptState) (k : ℕ) (act : Act) (rest : List Act) (m : PastMoment) (text : List ℕ)
    → text_of_acts labels s k (act ∷ rest) m text
    ≡ text_of_acts labels s (k - steps_of_deed act.deed) rest (moment_after_deed s.images s.sizes act.deed m)
    (text_with_deed labels s k act.deed m text)
unfolding text_of_acts
first_text labels s k act rest m text = refl

pub text_behind : (labels : List ImageLabels) (s now next : ScriptState) (k more : ℕ) (acts : List Act) (i : ℕ) (act : Act) (text new all : List ℕ)
    → i < length acts → act ≡ get_or acts i act → IsBeside s now
    → IsAtMoment now next (moment_after_deed now.images now.sizes act.deed (moment_of_script now))
    → more ≡ k - steps_of_deed act.deed
    → new ≡ text_with_deed labels now k act.deed (moment_of_script now) text
    → text_of_acts labels s k (drop i acts) (moment_of_script now) text ≡ all
    → text_of_acts labels s more (drop (i + 1) acts) (moment_of_script next) new ≡ all
text_behind labels s now next k more acts i act text new all below is b done fewer shown so_far =
    let rest : List Act = drop (i + 1) acts in
    let m : PastMoment = moment_of_script now in
    let split = drop_more acts i act below ∙ ap (λ (a : Act). a ∷ rest) (sym is) in
    let there : moment_of_script next ≡ moment_after_deed s.images s.sizes act.deed m =
    moment_at now next (moment_after_deed now.images now.sizes act.deed m) done
    ∙ (λ j. moment_after_deed (b.images j) (b.sizes j) act.deed m) in
    let same : new ≡ text_with_deed labels s k act.deed m text =
    shown ∙ ap (λ (xs : List ℕ). if is_anew act.deed then [] else text ++ xs) (same_text labels s now k act.deed m b) in
    (λ j. text_of_acts labels s (fewer j) rest (there j) (same j))
    ∙ sym (first_text labels s k act rest m text)
    ∙ ap (λ (xs : List Act). text_of_acts labels s k xs m text) (sym split)
    ∙ so_far

none_shown : (labels : List ImageLabels) (s : ScriptState) (k : ℕ) (m : PastMoment) (text : List ℕ) → text_of_acts labels s k [] m text ≡ text
unfolding text_of_acts
none_shown labels s k m text = refl

pub text_whole : (labels : List ImageLabels) (s : ScriptState) (k : ℕ) (acts : List Act) (i : ℕ) (m : PastMoment) (text all : List ℕ)
    → length acts ≤ i → text_of_acts labels s k (drop i acts) m text ≡ all → text ≡ all
text_whole labels s k acts i m text all past so_far =
    sym (none_shown labels s k m text)
    ∙ ap (λ (xs : List Act). text_of_acts labels s k xs m text) (sym (drop_all i acts past)) ∙ so_far

-- what is shown with a deed, unless it makes the machine anew
pub shown_on : (b : Bool) (old new more : List ℕ) → b ≡ false → new ≡ old ++ more → new ≡ (if b then [] else old ++ more)
shown_on true old new more off is = absurd (cc)
shown_on false old new more off is = is

pub shown_anew : (b : Bool) (new text : List ℕ) → b ≡ true → new ≡ [] → new ≡ (if b then [] else text)
shown_anew true new text on none = none
shown_anew false new text on none = absurd (cc)

-- a machine that has no stop isn't halted
pub up_where : (o : Option Halt) (x : Option Stop) (b : Bool) → b ≡ is_some x → x ≡ option_map stop_of o → b ≡ false → o ≡ None
up_where None x b e f off = refl
up_where (Some h) x b e f off = let some = ap (λ (y : Option Stop). is_some y) f in absurd (cc (e, some, off))

-- ALL STEPS

pub byte_if : (b : Bool) → bool_byte b ≡ count_if b
byte_if true = refl
byte_if false = refl

-- what is shown before the first act
pub text_begins : (labels : List ImageLabels) (start now : ScriptState) (skipped steps counted count : ℕ) (b faulted : Bool) (text : List ℕ)
    (acts all : List Act) → text ≡ [] → now ≡ start → acts ≡ all → steps ≡ steps_of_acts all → b ≡ faulted → counted ≡ count - count_if b
    → skipped ≡ steps - counted
    → text_of_acts labels start skipped (drop 0 acts) (moment_of_script now) text
    ≡ text_of_acts labels start (steps_of_acts all - (count - count_if faulted)) all (moment_of_script start) []
text_begins labels start now skipped steps counted count b faulted text acts all none same kept steps_are fault counts skips =
    let fewer : skipped ≡ steps_of_acts all - (count - count_if faulted) =
    skips ∙ (λ i. (steps_are i) - ((counts ∙ ap (λ (x : Bool). count - count_if x) fault) i)) in
    λ i. text_of_acts labels start (fewer i) (kept i) (moment_of_script (same i)) (none i)

-- where nothing is shown, and where something is
is_none : (text : List ℕ) → (length text == 0) ≡ true → text ≡ []
is_none [] e = refl
is_none (byte ∷ text) e = let never = never_none (length text) in absurd (cc (e, never))

pub none_to_show : (line text all : List ℕ) {b : Bool} → line ≡ refused_text (codes "NoHistory") → text ≡ all
    → b ≡ (length text == 0) → b ≡ true → line ≡ text_or_refused all
none_to_show line text all said whole empty is =
    said ∙ ap text_or_refused (sym (is_none text (sym empty ∙ is)) ∙ whole)

is_some_text : (text : List ℕ) → (length text == 0) ≡ false → text ≡ text_or_refused text
is_some_text [] e = absurd (cc e)
is_some_text (byte ∷ text) e = refl

pub some_to_show : (text all : List ℕ) {b : Bool} → text ≡ all → b ≡ (length text == 0) → b ≡ false → text ≡ text_or_refused all
some_to_show text all whole empty is = is_some_text text (sym empty ∙ is) ∙ ap text_or_refused whole
