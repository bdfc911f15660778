-- One break more, up to which steps are taken, and that goes then.
use Rattle.std.proofs.Common.{◌≡◌, ℕ, zero, suc, ◌+◌, ◌-◌, ◌%◌, ◌==◌, ◌&&◌, ◌||◌, ◌++◌, ◌<◌, Bool, true, false, not, cond, List, [], ◌∷◌, Option, Some, None, Result, Ok, Err, if◌then◌else◌, take, drop, ap, arith, eq-eqb, length, refl, subst, sym, ◌∙◌}
use Rattle.std.proofs.Math.Seq.{drop-append-add, take-append_seam}
use Rattle.std.proofs.lemmas.Bool.{lt-ltb, or_from, or_parts}
use Rattle.std.proofs.lemmas.List.{append-nil, length-append}
use Rattle.std.specs.List.{position, position_or_len}
use Rattle.std.specs.Prelude.{nat_le, nat_lt}
use Rattle.profile.specs.Outcome.{Leaves, bind}
use Rattle.profile.specs.declared.stop.Stop.{Stop}
use Rattle.profile.specs.declared.stop.Stop.TheVariants as stop
use Rattle.law_machine.proofs.RunLoop.{ran-none}
use Rattle.debug_tables.specs.MachineState.{MachineState}
use Rattle.debug_tables.specs.GuestState.{AreCoreSteps}
use Rattle.debug_tables.specs.Run.{is_among, silent_run, ran}
use Rattle.arm_core.specs.breaks.Breaks.{without_break, without_place}
use Rattle.arm_core.specs.declared.breaks.breaks.BreakError.{BreakError}
use Rattle.arm_core.specs.declared.breaks.breaks.BreakError.TheVariants as error
use Rattle.debug_tables.specs.State.{ScriptState}
use Rattle.debug_tables.specs.Stepping.{IsAfterSilentSteps, script_after_silent, script_with_break, script_without_break}
use Rattle.std.proofs.Math.Bool.{and-true}
use Rattle.debug_runs.specs.Silent.{IsAfterSilentUpTo}

-- AMONG BREAKS

or_behind : (b t : Bool) → t ≡ true → (b || t) ≡ true
or_behind true t e = refl
or_behind false t e = e

among_last : (breaks : List ℕ) (a : ℕ) → is_among (breaks ++ a ∷ []) a ≡ true
unfolding is_among
among_last [] a = ap (λ (b : Bool). b || false) (eq-eqb a a refl)
among_last (b ∷ breaks) a = or_behind (b == a) (is_among (breaks ++ a ∷ []) a) (among_last breaks a)

covers_last : (breaks : List ℕ) (a at : ℕ) → is_among (breaks ++ a ∷ []) at ≡ false → is_among breaks at ≡ false
unfolding is_among
covers_last [] a at clear = refl
covers_last (b ∷ breaks) a at clear =
    let parts = or_parts (b == at) (is_among (breaks ++ a ∷ []) at) clear in
    or_from (b == at) (is_among breaks at) parts.0 (covers_last breaks a at parts.1)

-- the place of the last
place_last : (breaks : List ℕ) (a : ℕ) → is_among breaks a ≡ false → position_or_len (λ b. b == a) (breaks ++ a ∷ []) ≡ length breaks
unfolding is_among
place_last [] a other = ap (λ (b : Bool). cond (not b) (1 + 0) 0) (eq-eqb a a refl)
place_last (b ∷ breaks) a other =
    let parts = or_parts (b == a) (is_among breaks a) other in
    let rest = place_last breaks a parts.1 in
    let more : 1 + position_or_len (λ c. c == a) (breaks ++ a ∷ []) ≡ suc (length breaks) = omega (arith, rest) in
    ap (λ (t : Bool). cond (not t) (1 + position_or_len (λ c. c == a) (breaks ++ a ∷ [])) 0) parts.0 ∙ more

without_last : (breaks : List ℕ) (a : ℕ) → is_among breaks a ≡ false → without_break (breaks ++ a ∷ []) a ≡ Ok breaks
without_last breaks a other =
    let all : List ℕ = breaks ++ a ∷ [] in
    let longer : length breaks < length all = omega (arith, length-append breaks (a ∷ [])) in
    let found : position (λ b. b == a) all ≡ Some (length breaks) =
    ap (λ (k : ℕ). cond (nat_lt k (length all)) (Some k) None) (place_last breaks a other)
    ∙ ap (λ (t : Bool). cond t (Some (length breaks)) None) (lt-ltb (length breaks) (length all) longer) in
    ap (without_place all) found
    ∙ ap (λ (xs : List ℕ). let r : Result (List ℕ) BreakError = Ok (xs ++ drop (length breaks + 1) all) in r) (take-append_seam breaks (a ∷ []))
    ∙ ap (λ (xs : List ℕ). let r : Result (List ℕ) BreakError = Ok (breaks ++ xs) in r) (drop-append-add breaks (a ∷ []) 1)
    ∙ ap (λ (xs : List ℕ). let r : Result (List ℕ) BreakError = Ok xs in r) (append-nil breaks)

-- A SESSION'S BREAKS

abbrev with_breaks_of : ScriptState → Result (List ℕ) BreakError → Result ScriptState BreakError
with_breaks_of s r = bind r (λ breaks. Ok (record s { breaks = breaks }))

added_by : {U : Type 0} (u : U) (s now : ScriptState) (a : ℕ) (unaligned among full : Bool) → among ≡ false
    → Leaves s (with_breaks_of s (if unaligned then Err error.Unaligned else (
    if among then Ok s.breaks else (
    if full then Err error.BreakTableFull else
    Ok (s.breaks ++ a ∷ []))))) (Ok u) now
    → now ≡ record s { breaks = s.breaks ++ a ∷ [] }
added_by u s now a true among full other leaves = absurd leaves
added_by u s now a false true full other leaves = absurd (cc)
added_by u s now a false false true other leaves = absurd leaves
added_by u s now a false false false other leaves = leaves

pub added : {U : Type 0} (u : U) (s now : ScriptState) (a : ℕ) → is_among s.breaks a ≡ false
    → Leaves s (script_with_break s a) (Ok u) now → now ≡ record s { breaks = s.breaks ++ a ∷ [] }
added u s now a other leaves =
    added_by u s now a (not (a % 4 == 0)) (is_among s.breaks a) (nat_le 16 (length s.breaks)) other leaves

pub not_added : (U : Type 0) (s now : ScriptState) (r : Result ScriptState BreakError) (e : BreakError)
    → Leaves {U = U} s r (Err e) now → now ≡ s
not_added U s now (Ok t) e leaves = absurd leaves
not_added U s now (Err f) e leaves = leaves.1

removed_by : {U : Type 0} (r : Result U BreakError) (s now : ScriptState) (breaks : List ℕ)
    → Leaves s (with_breaks_of s (Ok breaks)) r now → now ≡ record s { breaks = breaks }
removed_by (Ok u) s now breaks leaves = leaves
removed_by (Err e) s now breaks leaves = absurd leaves

pub removed : {U : Type 0} (r : Result U BreakError) (s now : ScriptState) (breaks : List ℕ) (a : ℕ) → s.breaks ≡ breaks ++ a ∷ []
    → is_among breaks a ≡ false → Leaves s (script_without_break s a) r now → now ≡ record s { breaks = breaks }
removed r s now breaks a is other leaves =
    let gone : without_break s.breaks a ≡ Ok breaks = ap (λ (xs : List ℕ). without_break xs a) is ∙ without_last breaks a other in
    removed_by r s now breaks (subst (λ (q : Result (List ℕ) BreakError). Leaves s (with_breaks_of s q) r now) gone leaves)

-- STEPS UP TO AN ADDRESS

-- that is a break already
pub up_to_its_break : (address n : ℕ) (s now : ScriptState) (x : Stop) → is_among s.breaks address ≡ true → IsAfterSilentSteps s now n x
    → IsAfterSilentUpTo address s now n
up_to_its_break address n s now x ahead after = record {
  stops = s.breaks;
  breaks = λ at clear. clear;
  ahead = ahead;
  ends = x;
  run = after.run;
  steps = after.steps;
  state = after.state;
  unhalted = after.unhalted;
}

-- that is one for these steps
pub up_to_last_break : (address n : ℕ) (s mid now : ScriptState) (breaks : List ℕ) (x : Stop) → s.breaks ≡ breaks ++ address ∷ []
    → IsAfterSilentSteps s mid n x → now ≡ record mid { breaks = breaks }
    → IsAfterSilentUpTo address (record s { breaks = breaks }) now n
up_to_last_break address n s mid now breaks x is after back =
    let same : now.machine ≡ mid.machine = ap (λ (w : ScriptState). w.machine) back in
    record {
      stops = breaks ++ address ∷ [];
      breaks = λ at clear. covers_last breaks address at clear;
      ahead = among_last breaks address;
      ends = x;
      run = ap (λ (xs : List ℕ). ran s.images xs n s.machine) (sym is) ∙ after.run
          ∙ ap (λ (m : MachineState). silent_run m n x) (sym same);
      steps = subst (λ (m : MachineState). AreCoreSteps n s.machine m) (sym same) after.steps;
      state = back ∙ ap (λ (w : ScriptState). let v : ScriptState = record w { breaks = breaks } in v) after.state
          ∙ ap (λ (m : MachineState). let v : ScriptState = record s { breaks = breaks } in script_after_silent v m n) (sym same);
      unhalted = ap (λ (m : MachineState). m.halt) same ∙ after.unhalted;
    }

-- none, where it can't be one
pub none_up_to : (address : ℕ) (s now : ScriptState) → s.machine.halt ≡ None → now ≡ s → IsAfterSilentUpTo address s now 0
unfolding AreCoreSteps
none_up_to address s now unhalted back =
    let same : now.machine ≡ s.machine = ap (λ (w : ScriptState). w.machine) back in
    let fresh : s.is_fresh ≡ (s.is_fresh && (0 == 0)) = sym (and-true s.is_fresh) in
    let left : s.left ≡ s.left - 0 = omega arith in
    let there : s.machine ≡ now.machine = sym same in
    let start : s ≡ script_after_silent s now.machine 0 = λ i. record s { machine = there i; is_fresh = fresh i; left = left i } in
    record {
      stops = s.breaks ++ address ∷ [];
      breaks = λ at clear. covers_last s.breaks address at clear;
      ahead = among_last s.breaks address;
      ends = stop.Budget;
      run = ran-none s.images (s.breaks ++ address ∷ []) s.machine unhalted
          ∙ ap (λ (m : MachineState). silent_run m 0 stop.Budget) there;
      steps = same;
      state = back ∙ start;
      unhalted = ap (λ (m : MachineState). m.halt) same ∙ unhalted;
    }

-- with its breaks as they were
pub same_breaks : (address n : ℕ) (s mid now : ScriptState) (breaks : List ℕ) → mid ≡ record s { breaks = breaks }
    → IsAfterSilentUpTo address (record mid { breaks = s.breaks }) now n → IsAfterSilentUpTo address s now n
same_breaks address n s mid now breaks is after =
    subst (λ (w : ScriptState). IsAfterSilentUpTo address w now n)
    (ap (λ (w : ScriptState). let v : ScriptState = record w { breaks = s.breaks } in v) is) after
