-- The last that was found is the last.
use Rattle.std.proofs.Common.{◌≡◌, ◌<◌, ◌≤◌, ℕ, Bool, true, false, zero, suc, ◌+◌, Option, Some, None, List, [], ◌∷◌, ◌++◌, length, take, drop, refl, sym, ◌∙◌, ap, arith}
use Rattle.std.specs.Prelude.{MatchOption, nat_lt}
use Rattle.std.specs.Option.{option_or}
use Rattle.profile.specs.images.Entries.{Entry}
use Rattle.profile.specs.Sizes.{Sizes}
use Rattle.debug_history.specs.Acts.{PastMoment, moment_after_acts, moment_after_deed, steps_of_acts, steps_of_deed}
use Rattle.debug_history.specs.Laws.{IsFoundAt, LastIsTheGreatest, passes_at, passes_first}
use Rattle.debug_history.specs.Search.{found_between, found_if, last_found, passes, value_in}
use Rattle.debug_history.specs.declared.act.Act.{Act}
use Rattle.debug_history.specs.declared.search.PastFound.{PastFound}
use Rattle.debug_history.specs.declared.search.Sought.{Sought}

after : List Entry → Sizes → Act → PastMoment → PastMoment
after images sizes u m = moment_after_deed images sizes u.deed m

passes_later : (images : List Entry) (sizes : Sizes) (x : Sought) (m : PastMoment) (u : Act) (us : List Act) (k : ℕ)
    → passes_at images sizes x m (u ∷ us) (suc k) ≡ passes_at images sizes x (after images sizes u m) us k
unfolding after moment_after_acts
passes_later images sizes x m u us k = refl

moment_later : (images : List Entry) (sizes : Sizes) (m : PastMoment) (u : Act) (us : List Act) (k : ℕ)
    → moment_after_acts images sizes (take (suc k) (u ∷ us)) m ≡ moment_after_acts images sizes (take k us) (after images sizes u m)
unfolding after moment_after_acts
moment_later images sizes m u us k = refl

moment_first : (images : List Entry) (sizes : Sizes) (m : PastMoment) (u : Act) (us : List Act)
    → moment_after_acts images sizes (take 1 (u ∷ us)) m ≡ after images sizes u m
unfolding after moment_after_acts
moment_first images sizes m u us = refl

moment_none : (images : List Entry) (sizes : Sizes) (m : PastMoment) (us : List Act) → moment_after_acts images sizes (take 0 us) m ≡ m
unfolding moment_after_acts
moment_none images sizes m us = refl

steps_later : (u : Act) (us : List Act) (k : ℕ) → steps_of_acts (take (suc k) (u ∷ us)) ≡ steps_of_deed u.deed + steps_of_acts (take k us)
unfolding steps_of_acts
steps_later u us k = refl

steps_none : (us : List Act) → steps_of_acts (take 0 us) ≡ 0
unfolding steps_of_acts
steps_none us = refl

-- what is found at a place, where so many steps were counted before the first unit
record IsFrom (images : List Entry) (sizes : Sizes) (x : Sought) (base : ℕ) (m : PastMoment) (us : List Act) (f : PastFound) (j : ℕ) : Type 0 where
  pub within : j < length us
  pub passes : passes_at images sizes x m us j ≡ true
  pub step : f.step ≡ base + steps_of_acts (take j us)
  pub before : f.before ≡ value_in x (moment_after_acts images sizes (take j us) m).machine
  pub after : f.after ≡ value_in x (moment_after_acts images sizes (take (suc j) us) m).machine
  pub last : (k : ℕ) → j < k → k < length us → passes_at images sizes x m us k ≡ false

abbrev NonePasses : List Entry → Sizes → Sought → PastMoment → List Act → Type 0
NonePasses images sizes x m us = (k : ℕ) → k < length us → passes_at images sizes x m us k ≡ false

abbrev IsLast : List Entry → Sizes → Sought → ℕ → PastMoment → List Act → Option PastFound → Type 0
IsLast images sizes x base m us o = MatchOption o (NonePasses images sizes x m us) (λ f. (j : ℕ) × IsFrom images sizes x base m us f j)

later_last : (images : List Entry) (sizes : Sizes) (x : Sought) (base n : ℕ) (m : PastMoment) (u : Act) (us : List Act) (f : PastFound) (j : ℕ)
    → IsFrom images sizes x n (after images sizes u m) us f j
    → (k : ℕ) → suc j < k → k < length (u ∷ us) → passes_at images sizes x m (u ∷ us) k ≡ false
later_last images sizes x base n m u us f j at zero more less = absurd (omega (arith, more))
later_last images sizes x base n m u us f j at (suc k) more less =
    let h : j < k = omega (arith, more) in
    let h' : k < length us = omega (arith, less) in
    passes_later images sizes x m u us k ∙ at.last k h h'

found_later : (images : List Entry) (sizes : Sizes) (x : Sought) (base : ℕ) (m : PastMoment) (u : Act) (us : List Act) (f : PastFound) (j : ℕ)
    → IsFrom images sizes x (base + steps_of_deed u.deed) (after images sizes u m) us f j
    → IsFrom images sizes x base m (u ∷ us) f (suc j)
found_later images sizes x base m u us f j at =
    let n : ℕ = steps_of_deed u.deed in
    let more : ℕ = steps_of_acts (take j us) in
    let e : (base + n) + more ≡ base + (n + more) = omega arith in
    record {
      within = let h = at.within in omega (arith, h);
      passes = passes_later images sizes x m u us j ∙ at.passes;
      step = at.step ∙ e ∙ ap (λ (k : ℕ). base + k) (sym (steps_later u us j));
      before = at.before ∙ sym (ap (λ (t : PastMoment). value_in x t.machine) (moment_later images sizes m u us j));
      after = at.after ∙ sym (ap (λ (t : PastMoment). value_in x t.machine) (moment_later images sizes m u us (suc j)));
      last = later_last images sizes x base (base + n) m u us f j at;
    }

none_later : (images : List Entry) (sizes : Sizes) (x : Sought) (m : PastMoment) (u : Act) (us : List Act)
    → NonePasses images sizes x (after images sizes u m) us
    → (k : ℕ) → 0 < k → k < length (u ∷ us) → passes_at images sizes x m (u ∷ us) k ≡ false
none_later images sizes x m u us none zero more less = absurd (omega (arith, more))
none_later images sizes x m u us none (suc k) more less =
    let h : k < length us = omega (arith, less) in passes_later images sizes x m u us k ∙ none k h

none_at_all : (images : List Entry) (sizes : Sizes) (x : Sought) (m : PastMoment) (u : Act) (us : List Act)
    → NonePasses images sizes x (after images sizes u m) us → passes_at images sizes x m (u ∷ us) 0 ≡ false
    → NonePasses images sizes x m (u ∷ us)
none_at_all images sizes x m u us none first zero less = first
none_at_all images sizes x m u us none first (suc k) less =
    let h : k < length us = omega (arith, less) in passes_later images sizes x m u us k ∙ none k h

passes_here : (images : List Entry) (sizes : Sizes) (x : Sought) (m : PastMoment) (u : Act) (us : List Act)
    → passes_at images sizes x m (u ∷ us) 0
    ≡ passes x (steps_of_deed u.deed) (value_in x m.machine) (value_in x (after images sizes u m).machine)
unfolding after moment_after_acts
passes_here images sizes x m u us = refl

-- the first, where none that follows passes
first_by : (images : List Entry) (sizes : Sizes) (x : Sought) (base : ℕ) (m : PastMoment) (u : Act) (us : List Act) (b : Bool)
    → passes_at images sizes x m (u ∷ us) 0 ≡ b → NonePasses images sizes x (after images sizes u m) us
    → IsLast images sizes x base m (u ∷ us)
    (found_if b u.line base (steps_of_deed u.deed) (value_in x m.machine) (value_in x (after images sizes u m).machine))
first_by images sizes x base m u us false is none = none_at_all images sizes x m u us none is
first_by images sizes x base m u us true is none =
    let e : base ≡ base + 0 = omega arith in (
      0,
      record {
        within = omega arith;
        passes = is;
        step = e ∙ ap (λ (k : ℕ). base + k) (sym (steps_none (u ∷ us)));
        before = sym (ap (λ (t : PastMoment). value_in x t.machine) (moment_none images sizes m (u ∷ us)));
        after = sym (ap (λ (t : PastMoment). value_in x t.machine) (moment_first images sizes m u us));
        last = none_later images sizes x m u us none;
      },
    )

joined : (images : List Entry) (sizes : Sizes) (x : Sought) (base : ℕ) (m : PastMoment) (u : Act) (us : List Act) (o : Option PastFound)
    → IsLast images sizes x (base + steps_of_deed u.deed) (after images sizes u m) us o
    → IsLast images sizes x base m (u ∷ us)
    (option_or o (found_between x u.line base (steps_of_deed u.deed) (value_in x m.machine) (value_in x (after images sizes u m).machine)))
joined images sizes x base m u us (Some f) is = (suc is.0, found_later images sizes x base m u us f is.0 is.1)
joined images sizes x base m u us None none =
    first_by images sizes x base m u us
    (passes x (steps_of_deed u.deed) (value_in x m.machine) (value_in x (after images sizes u m).machine))
    (passes_here images sizes x m u us) none

greatest : (images : List Entry) (sizes : Sizes) (x : Sought) (base : ℕ) (m : PastMoment) (us : List Act)
    → IsLast images sizes x base m us (last_found images sizes x m base us)
unfolding last_found after
greatest images sizes x base m [] = λ k h. absurd (omega (arith, h))
greatest images sizes x base m (u ∷ us) =
    joined images sizes x base m u us (last_found images sizes x (after images sizes u m) (base + steps_of_deed u.deed) us)
    (greatest images sizes x (base + steps_of_deed u.deed) (after images sizes u m) us)

from_start : (images : List Entry) (sizes : Sizes) (x : Sought) (m : PastMoment) (us : List Act) (f : PastFound) (j : ℕ)
    → IsFrom images sizes x 0 m us f j → IsFoundAt images sizes x m us j f
from_start images sizes x m us f j at =
    let e : 0 + steps_of_acts (take j us) ≡ steps_of_acts (take j us) = omega arith in
    let next : suc j ≡ j + 1 = omega arith in
    record {
      within = at.within;
      passes = at.passes;
      step = at.step ∙ e;
      before = at.before;
      after = at.after ∙ ap (λ (k : ℕ). value_in x (moment_after_acts images sizes (take k us) m).machine) next;
      last = at.last;
    }

found_last : (images : List Entry) (sizes : Sizes) (x : Sought) (m : PastMoment) (us : List Act) (o : Option PastFound)
    → IsLast images sizes x 0 m us o
    → MatchOption o (NonePasses images sizes x m us) (λ f. (j : ℕ) × IsFoundAt images sizes x m us j f)
found_last images sizes x m us (Some f) is = (is.0, from_start images sizes x m us f is.0 is.1)
found_last images sizes x m us None none = none

pub last_is_greatest : LastIsTheGreatest
last_is_greatest images sizes x start us =
    found_last images sizes x start us (last_found images sizes x start 0 us) (greatest images sizes x 0 start us)
