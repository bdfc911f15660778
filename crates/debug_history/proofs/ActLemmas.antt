-- Acts up to a moment, and what they lead to.
use Rattle.std.proofs.Common.{◌≡◌, ◌<◌, ◌≤◌, ℕ, Bool, true, false, zero, suc, ◌+◌, ◌-◌, ◌&&◌, ◌==◌, List, [], ◌∷◌, ◌++◌, refl, sym, ◌∙◌, ap, arith, if◌then◌else◌}
use Rattle.std.specs.Prelude.{nat_le}
use Rattle.std.proofs.lemmas.Bool.Decides.{nat_tests}
use Rattle.std.proofs.lemmas.List.{append-nil}
use Rattle.profile.specs.images.Entries.{Entry}
use Rattle.command_shell_lines.specs.declared.debug_words.stubs.Stub.{Stub}
use Rattle.profile.specs.Sizes.{Sizes}
use Rattle.debug_history.specs.Acts.{PastMoment, moment_after_acts, moment_after_deed, moment_after_steps, steps_act, steps_of_acts, steps_of_deed, stubs_of_deed}
use Rattle.debug_history.specs.Past.{acts_until, first_steps}
use Rattle.debug_history.specs.Laws.{BackCountsSteps, BackLeavesFewerSteps, BackThenStep, BackToNowIsNothing}
use Rattle.debug_history.specs.Steps.{steps_after}
use Rattle.debug_history.specs.declared.act.Act.{Act}
use Rattle.debug_history.proofs.StepLemmas.{none_left, steps_added}

pub acts_joined : (images : List Entry) (sizes : Sizes) (acts rest : List Act) (m : PastMoment)
    → moment_after_acts images sizes (acts ++ rest) m ≡ moment_after_acts images sizes rest (moment_after_acts images sizes acts m)
unfolding moment_after_acts
acts_joined images sizes [] rest m = refl
acts_joined images sizes (act ∷ acts) rest m = acts_joined images sizes acts rest (moment_after_deed images sizes act.deed m)

pub steps_joined : (acts rest : List Act) → steps_of_acts (acts ++ rest) ≡ steps_of_acts acts + steps_of_acts rest
unfolding steps_of_acts
steps_joined [] rest = let e : steps_of_acts rest ≡ 0 + steps_of_acts rest = omega arith in e
steps_joined (act ∷ acts) rest =
    let n : ℕ = steps_of_deed act.deed in
    let e : n + (steps_of_acts acts + steps_of_acts rest) ≡ (n + steps_of_acts acts) + steps_of_acts rest = omega arith in
    ap (λ (k : ℕ). n + k) (steps_joined acts rest) ∙ e

pub steps_of_one : (act : Act) → steps_of_acts (act ∷ []) ≡ steps_of_deed act.deed
unfolding steps_of_acts
steps_of_one act = let n : ℕ = steps_of_deed act.deed in let e : n + 0 ≡ n = omega arith in e

pub steps_of_none : steps_of_acts [] ≡ 0
unfolding steps_of_acts
steps_of_none = refl

pub steps_with_one : (acts : List Act) (act : Act) → steps_of_acts (acts ++ act ∷ []) ≡ steps_of_acts acts + steps_of_deed act.deed
steps_with_one acts act = steps_joined acts (act ∷ []) ∙ ap (λ (k : ℕ). steps_of_acts acts + k) (steps_of_one act)

-- a moment that lies behind an act is found among those that follow
until_kept : (n k : ℕ) (act : Act) (rest : List Act)
    → (if nat_le n (n + k) then act ∷ acts_until ((n + k) - n) rest else first_steps act.line (stubs_of_deed act.deed) (n + k)) ≡ act ∷ acts_until k rest
until_kept n k act rest =
    let fits : nat_le n (n + k) ≡ true = grind (arith, nat_tests) in
    let left : (n + k) - n ≡ k = omega arith in
    ap (λ (b : Bool). if b then act ∷ acts_until ((n + k) - n) rest else first_steps act.line (stubs_of_deed act.deed) (n + k)) fits
    ∙ ap (λ (j : ℕ). act ∷ acts_until j rest) left

until_act : (act : Act) (k : ℕ) (rest : List Act) → acts_until (steps_of_deed act.deed + k) (act ∷ rest) ≡ act ∷ acts_until k rest
unfolding acts_until
until_act act k rest = until_kept (steps_of_deed act.deed) k act rest

pub until_passes : (acts rest : List Act) (k : ℕ) → acts_until (steps_of_acts acts + k) (acts ++ rest) ≡ acts ++ acts_until k rest
unfolding steps_of_acts
until_passes [] rest k = let e : 0 + k ≡ k = omega arith in ap (λ (j : ℕ). acts_until j rest) e
until_passes (act ∷ acts) rest k =
    let n : ℕ = steps_of_deed act.deed in
    let e : (n + steps_of_acts acts) + k ≡ n + (steps_of_acts acts + k) = omega arith in
    ap (λ (j : ℕ). acts_until j (act ∷ (acts ++ rest))) e
    ∙ until_act act (steps_of_acts acts + k) (acts ++ rest)
    ∙ ap (λ (xs : List Act). act ∷ xs) (until_passes acts rest k)

-- a moment within the steps of the last act
last_by : (images : List Entry) (sizes : Sizes) (m : PastMoment) (line : ℕ) (stubs : List Stub) (b : Bool) (n k : ℕ) → nat_le n k ≡ b → k ≤ n
    → moment_after_acts images sizes (if b then steps_act line stubs n ∷ acts_until (k - n) [] else first_steps line stubs k) m
    ≡ moment_after_steps stubs images k m
unfolding acts_until moment_after_acts
last_by images sizes m line stubs true n k e h =
    let same : n ≡ k = grind (arith, nat_tests, e, h) in ap (λ (j : ℕ). moment_after_steps stubs images j m) same
last_by images sizes m line stubs false n zero e h = sym (none_left stubs images m)
last_by images sizes m line stubs false n (suc k) e h = refl

until_last : (images : List Entry) (sizes : Sizes) (m : PastMoment) (line : ℕ) (stubs : List Stub) (n k : ℕ) → k ≤ n
    → moment_after_acts images sizes (acts_until k (steps_act line stubs n ∷ [])) m ≡ moment_after_steps stubs images k m
unfolding acts_until
until_last images sizes m line stubs n k h = last_by images sizes m line stubs (nat_le n k) n k refl h

steps_behind : (acts : List Act) (line : ℕ) (stubs : List Stub) (n m : ℕ) → m ≤ n
    → steps_of_acts (acts ++ steps_act line stubs n ∷ []) - m ≡ steps_of_acts acts + (n - m)
steps_behind acts line stubs n m h =
    let e : (steps_of_acts acts + n) - m ≡ steps_of_acts acts + (n - m) = omega (arith, h) in
    ap (λ (k : ℕ). k - m) (steps_with_one acts (steps_act line stubs n)) ∙ e

after_last : (images : List Entry) (sizes : Sizes) (acts : List Act) (start : PastMoment) (line : ℕ) (stubs : List Stub) (n : ℕ)
    → moment_after_acts images sizes (acts ++ steps_act line stubs n ∷ []) start
    ≡ moment_after_steps stubs images n (moment_after_acts images sizes acts start)
unfolding moment_after_acts
after_last images sizes acts start line stubs n = acts_joined images sizes acts (steps_act line stubs n ∷ []) start

pub back_leaves_fewer : BackLeavesFewerSteps
back_leaves_fewer images sizes acts start line stubs n m h =
    let last : List Act = steps_act line stubs n ∷ [] in
    let less : n - m ≤ n = omega arith in
    ap (λ (k : ℕ). moment_after_acts images sizes (acts_until k (acts ++ last)) start) (steps_behind acts line stubs n m h)
    ∙ ap (λ (xs : List Act). moment_after_acts images sizes xs start) (until_passes acts last (n - m))
    ∙ acts_joined images sizes acts (acts_until (n - m) last) start
    ∙ until_last images sizes (moment_after_acts images sizes acts start) line stubs n (n - m) less

pub back_then_steps : BackThenStep
back_then_steps images sizes acts start line stubs n m h =
    let all : (n - m) + m ≡ n = omega (arith, h) in
    let found : PastMoment = moment_after_acts images sizes acts start in
    ap (λ (x : PastMoment). steps_after stubs images m x.machine) (back_leaves_fewer images sizes acts start line stubs n m h)
    ∙ sym (steps_added stubs images (n - m) m found.machine)
    ∙ ap (λ (k : ℕ). steps_after stubs images k found.machine) all
    ∙ sym (ap (λ (x : PastMoment). x.machine) (after_last images sizes acts start line stubs n))

-- all acts stay where the moment is no earlier than their end
all_by : (act : Act) (rest : List Act) (b : Bool) (n step : ℕ) → nat_le n step ≡ b → n ≤ step
    → acts_until (step - n) rest ≡ rest
    → (if b then act ∷ acts_until (step - n) rest else first_steps act.line (stubs_of_deed act.deed) step) ≡ act ∷ rest
all_by act rest true n step e h more = ap (λ (xs : List Act). act ∷ xs) more
all_by act rest false n step e h more = absurd (grind (arith, nat_tests, e, h))

pub until_all : (acts : List Act) (step : ℕ) → steps_of_acts acts ≤ step → acts_until step acts ≡ acts
unfolding steps_of_acts acts_until
until_all [] step h = refl
until_all (act ∷ rest) step h =
    let n : ℕ = steps_of_deed act.deed in
    let first : n ≤ step = omega (arith, h) in
    let others : steps_of_acts rest ≤ step - n = omega (arith, h) in
    all_by act rest (nat_le n step) n step refl first (until_all rest (step - n) others)

pub back_to_now : BackToNowIsNothing
back_to_now acts = let h : steps_of_acts acts ≤ steps_of_acts acts = omega arith in until_all acts (steps_of_acts acts) h

first_count : (line : ℕ) (stubs : List Stub) (step : ℕ) → steps_of_acts (first_steps line stubs step) ≡ step
unfolding steps_of_acts
first_count line stubs zero = refl
first_count line stubs (suc step) = let e : suc step + 0 ≡ suc step = omega arith in e

counted_by : (act : Act) (rest : List Act) (b : Bool) (step : ℕ) → nat_le (steps_of_deed act.deed) step ≡ b
    → (steps_of_deed act.deed ≤ step → steps_of_acts (acts_until (step - steps_of_deed act.deed) rest) ≡ step - steps_of_deed act.deed)
    → steps_of_acts (if b then act ∷ acts_until (step - steps_of_deed act.deed) rest else first_steps act.line (stubs_of_deed act.deed) step) ≡ step
unfolding steps_of_acts
counted_by act rest true step e more =
    let n : ℕ = steps_of_deed act.deed in
    let below : n ≤ step = grind (arith, nat_tests, e) in
    let all : n + (step - n) ≡ step = omega (arith, below) in
    ap (λ (k : ℕ). n + k) (more below) ∙ all
counted_by act rest false step e more = first_count act.line (stubs_of_deed act.deed) step

pub back_counts : BackCountsSteps
unfolding steps_of_acts acts_until
back_counts [] step h = let e : 0 ≡ step = omega (arith, h) in e
back_counts (act ∷ rest) step h =
    counted_by act rest (nat_le (steps_of_deed act.deed) step) step refl
    (λ below. back_counts rest (step - steps_of_deed act.deed)
    (let within : step - steps_of_deed act.deed ≤ steps_of_acts rest = omega (arith, h) in within))

pub until_counts : (acts : List Act) (step : ℕ) → step ≤ steps_of_acts acts → steps_of_acts (acts_until step acts) ≡ step
until_counts acts step h = back_counts acts step h

pub ruleset until_steps = (until_counts, until_all)
