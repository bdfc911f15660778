-- Laws of going back.
use Rattle.std.specs.Prelude.{◌≡◌, ◌≤◌, ◌<◌, ℕ, ◌+◌, ◌-◌, List, [], ◌∷◌, ◌++◌, Bool, true, false, Option, None, length, take, drop, MatchOption}
use Rattle.profile.specs.images.Entries.{Entry}
use Rattle.command_shell_lines.specs.declared.debug_words.stubs.Stub.{Stub}
use Rattle.profile.specs.Sizes.{Sizes}
use Rattle.debug_tables.specs.Script.{request_answer}
use Rattle.debug_tables.specs.State.{ScriptState}
use Rattle.command_shell_lines.specs.Requests.{Request}
use Rattle.debug_history.specs.Acts.{PastMoment, moment_after_acts, moment_after_deed, moment_after_steps, moment_of_script, steps_act, steps_of_acts, steps_of_deed}
use Rattle.debug_history.specs.Answers.{PastAnswered, past_answered}
use Rattle.debug_history.specs.declared.lines.PastCommand.TheVariants.{Last, When}
use Rattle.debug_labels.specs.Labels.{ImageLabels}
use Rattle.debug_history.specs.Noted.{is_faulted, past_after_request}
use Rattle.debug_history.specs.Past.{PastState, acts_before_line, acts_until, moment_after_past, past_until}
use Rattle.debug_history.specs.Search.{last_found, passes, value_in}
use Rattle.debug_history.specs.declared.act.Act.{Act}
use Rattle.debug_history.specs.declared.search.PastFound.{PastFound}
use Rattle.debug_history.specs.declared.search.Sought.{Sought}

-- Where a line took so many steps, going back leaves fewer: after some acts and then n steps, going back
-- by m of these leaves the machine n - m steps after the machine that the line found.
abbrev pub BackLeavesFewerSteps : Type 0
BackLeavesFewerSteps = (images : List Entry) (sizes : Sizes) (acts : List Act) (start : PastMoment) (line : ℕ)
    (stubs : List Stub) (n m : ℕ)
    → m ≤ n
    → let found = moment_after_acts images sizes acts start in
    let now = steps_of_acts (acts ++ steps_act line stubs n ∷ []) in
    moment_after_acts images sizes (acts_until (now - m) (acts ++ steps_act line stubs n ∷ [])) start
    ≡ moment_after_steps stubs images (n - m) found

-- Going back, and then taking the steps that were gone back by, leads to the machine that was there.
abbrev pub BackThenStep : Type 0
BackThenStep = (images : List Entry) (sizes : Sizes) (acts : List Act) (start : PastMoment) (line : ℕ)
    (stubs : List Stub) (n m : ℕ) → m ≤ n
    → let now = steps_of_acts (acts ++ steps_act line stubs n ∷ []) in
    (moment_after_steps stubs images m
    (moment_after_acts images sizes (acts_until (now - m) (acts ++ steps_act line stubs n ∷ [])) start)).machine
    ≡ (moment_after_acts images sizes (acts ++ steps_act line stubs n ∷ []) start).machine

-- To go back to where the machine stands changes nothing.
abbrev pub BackToNowIsNothing : Type 0
BackToNowIsNothing = (acts : List Act) → acts_until (steps_of_acts acts) acts ≡ acts

-- After going back to a step, so many steps were counted.
abbrev pub BackCountsSteps : Type 0
BackCountsSteps = (acts : List Act) (step : ℕ) → step ≤ steps_of_acts acts
    → steps_of_acts (acts_until step acts) ≡ step

-- Going anywhere from a moment leads where going there at once leads: so what was gone back by lies ahead.
abbrev pub BackAndAhead : Type 0
BackAndAhead = (images : List Entry) (sizes : Sizes) (p : PastState) (first second : ℕ)
    → moment_after_past images sizes (past_until second (past_until first p))
    ≡ moment_after_past images sizes (past_until second p)

-- all acts are of one line, and acts of other lines end by another
abbrev pub AllOfLine : ℕ → List Act → Type 0
AllOfLine line acts = (before after : List Act) (act : Act) → acts ≡ before ++ act ∷ after → act.line ≡ line

abbrev pub EndsOtherwise : ℕ → List Act → Type 0
EndsOtherwise line acts = (before : List Act) (act : Act) → acts ≡ before ++ act ∷ [] → act.line ≡ line → ⊥

-- Undoing a line leaves what was there before it.
abbrev pub UndoIsUndo : Type 0
UndoIsUndo = (acts done : List Act) (line : ℕ) → EndsOtherwise line acts → AllOfLine line done
    → acts_before_line line (acts ++ done) ≡ acts

-- whether the unit of that number is what is sought, and what is found there
abbrev pub passes_first : List Entry → Sizes → Sought → PastMoment → List Act → Bool
passes_first images sizes x m [] = false
passes_first images sizes x m (unit ∷ rest) = passes x (steps_of_deed unit.deed) (value_in x m.machine)
    (value_in x (moment_after_deed images sizes unit.deed m).machine)

abbrev pub passes_at : List Entry → Sizes → Sought → PastMoment → List Act → ℕ → Bool
passes_at images sizes x start us j =
    passes_first images sizes x (moment_after_acts images sizes (take j us) start) (drop j us)

-- so many steps come before it, and these values are seen before and after it
pub record IsFoundAt (images : List Entry) (sizes : Sizes) (x : Sought) (start : PastMoment) (us : List Act) (j : ℕ)
    (f : PastFound) : Type 0 where
  pub within : j < length us
  pub passes : passes_at images sizes x start us j ≡ true
  pub step : f.step ≡ steps_of_acts (take j us)
  pub before : f.before ≡ value_in x (moment_after_acts images sizes (take j us) start).machine
  pub after : f.after ≡ value_in x (moment_after_acts images sizes (take (j + 1) us) start).machine
  pub last : (k : ℕ) → j < k → k < length us → passes_at images sizes x start us k ≡ false

-- What is found is the last: none that follows it is what is sought; and where nothing is found, none is.
abbrev pub LastIsTheGreatest : Type 0
LastIsTheGreatest = (images : List Entry) (sizes : Sizes) (x : Sought) (start : PastMoment) (us : List Act)
    → MatchOption (last_found images sizes x start 0 us)
    ((k : ℕ) → k < length us → passes_at images sizes x start us k ≡ false)
    (λ f. (j : ℕ) × IsFoundAt images sizes x start us j f)

-- a past that is that of a script's machine, where it is known
abbrev pub IsPastOf : ScriptState → PastState → Type 0
IsPastOf s p = p.is_kept ≡ true → moment_of_script s ≡ moment_after_past s.images s.sizes p

-- Looking into the past changes nothing.
pub record LooksBackOnly (s : ScriptState) (p : PastState) (a : PastAnswered) : Type 0 where
  pub script : a.script ≡ s
  pub past : a.past ≡ p

abbrev pub LookingBackChangesNothing : Type 0
LookingBackChangesNothing = (labels : List ImageLabels) (sizes : Sizes) (budget : ℕ) (s : ScriptState)
    (p : PastState) (x : Sought)
    → LooksBackOnly s p (past_answered labels sizes budget s p When)
    × LooksBackOnly s p (past_answered labels sizes budget s p (Last x))

-- What is kept of a line is what the line did: where the past is that of the machine that the line finds, it
-- is that of the machine that the line leaves. A machine as it was made isn't halted.
abbrev pub NotedIsDone : Type 0
NotedIsDone = (s : ScriptState) (p : PastState) (line number : ℕ) (request : Request) (block : List (List ℕ))
    → (s.is_fresh ≡ true → s.machine.halt ≡ None) → IsPastOf s p
    → let now = (request_answer s number request block).state in
    IsPastOf now (past_after_request p line request (s.left - now.left) (is_faulted now.machine.halt))
