-- What is done again comes to the moment that it came to before.
use Rattle.std.proofs.Common.{◌≡◌, ◌≢◌, ◌<◌, ◌≤◌, ℕ, Bool, true, false, zero, suc, ◌+◌, ◌-◌, ◌&&◌, ◌==◌, Option, Some, None, Result, Ok, Err, List, [], ◌∷◌, length, get_or, drop, refl, sym, ◌∙◌, ap, subst, arith}
use Rattle.std.specs.Prelude.{min, unwrap_or}
use Rattle.std.specs.Option.{option_map}
use Rattle.std.proofs.lemmas.Bool.Decides.{nat_tests}
use Rattle.std.proofs.lemmas.List.{drop_all, drop_more}
use Rattle.profile.specs.images.Entries.{Entry}
use Rattle.command_shell_lines.specs.declared.debug_words.stubs.Stub.{Stub}
use Rattle.profile.specs.Outcome.{Leaves, bind}
use Rattle.profile.specs.Sizes.{Sizes}
use Rattle.profile.specs.Fault.{Fault}
use Rattle.profile.specs.declared.stop.Stop.{Stop}
use Rattle.profile.specs.declared.stop.Stop.TheVariants as stop
use Rattle.debug_labels.specs.Boot.{machine_after_boot}
use Rattle.debug_labels.specs.BootError.{BootError}
use Rattle.debug_tables.specs.MachineState.{MachineState, StepOutcome, stop_of}
use Rattle.debug_tables.specs.Run.{Run, ran}
use Rattle.debug_labels.specs.Writes.{machine_after_poke}
use Rattle.debug_labels.specs.Halt.{Halt}
use Rattle.debug_tables.specs.Calls.{step_made}
use Rattle.debug_tables.specs.Images.{boot_done, boot_found}
use Rattle.debug_tables.specs.Memory.{script_after_poke, script_started_anew, script_with_budget, script_with_last, script_with_machine}
use Rattle.debug_tables.specs.State.{ScriptState, script_start_state}
use Rattle.debug_tables.specs.Stepping.{IsAfterRun, script_after_run, script_run}
use Rattle.debug_labels.specs.Bytes.{ok_unless_fault}
use Rattle.debug_tables.specs.Stubs.{machine_with_bytes, stubbed_step}
use Rattle.debug_tables.specs.byte_writes.Put.{put_fault, script_after_put}
use Rattle.debug_history.specs.Acts.{PastMoment, changed_moment, fresh_moment, moment_after_acts, moment_after_boot, moment_after_deed, moment_after_put, moment_after_steps, moment_after_word, moment_of_script, moment_unless_fault}
use Rattle.debug_history.specs.Again.{IsAtMoment, script_at_moment}
use Rattle.debug_history.specs.Steps.{steps_after}
use Rattle.debug_history.specs.declared.act.Act.{Act}
use Rattle.debug_history.proofs.NotedLemmas.{taken_within}
use Rattle.debug_history.proofs.StepLemmas.{halted_left, none_left, run_leads, run_or_halted}

-- THE REST OF A SCRIPT STAYS

pub record IsBeside (s now : ScriptState) : Type 0 where
  pub sizes : now.sizes ≡ s.sizes
  pub images : now.images ≡ s.images
  pub breaks : now.breaks ≡ s.breaks

pub beside_itself : (s : ScriptState) → IsBeside s s
beside_itself s = record { sizes = refl; images = refl; breaks = refl }

pub beside_both : (s now next : ScriptState) → IsBeside s now → IsBeside now next → IsBeside s next
beside_both s now next one two = record {
  sizes = two.sizes ∙ one.sizes;
  images = two.images ∙ one.images;
  breaks = two.breaks ∙ one.breaks;
}

pub beside_same : (s now t : ScriptState) → now ≡ t → IsBeside s t → IsBeside s now
beside_same s now t e b = record {
  sizes = ap (λ (x : ScriptState). x.sizes) e ∙ b.sizes;
  images = ap (λ (x : ScriptState). x.images) e ∙ b.images;
  breaks = ap (λ (x : ScriptState). x.breaks) e ∙ b.breaks;
}

pub at_moment : (s now : ScriptState) (m : PastMoment) → IsBeside s now → moment_of_script now ≡ m → IsAtMoment s now m
at_moment s now m b moment = λ i. record {
  machine = (moment i).machine;
  is_fresh = (moment i).is_fresh;
  sizes = b.sizes i;
  images = b.images i;
  breaks = b.breaks i;
  left = now.left;
  last = now.last;
}

pub beside_at : (s now : ScriptState) (m : PastMoment) → IsAtMoment s now m → IsBeside s now
beside_at s now m is = record {
  sizes = ap (λ (x : ScriptState). x.sizes) is;
  images = ap (λ (x : ScriptState). x.images) is;
  breaks = ap (λ (x : ScriptState). x.breaks) is;
}

pub moment_at : (s now : ScriptState) (m : PastMoment) → IsAtMoment s now m → moment_of_script now ≡ m
moment_at s now m is = ap moment_of_script is

-- a script that is another, whose rest is that of the first
at_same : (s now t : ScriptState) (m : PastMoment) → now ≡ t → IsBeside s t → moment_of_script t ≡ m → IsAtMoment s now m
at_same s now t m e b moment = at_moment s now m (beside_same s now t e b) (ap moment_of_script e ∙ moment)

-- SINGLE DEEDS

pub with_machine_at : (s now : ScriptState) (machine : MachineState) → now ≡ script_with_machine s machine
    → IsAtMoment s now (changed_moment machine)
with_machine_at s now machine e = at_same s now (script_with_machine s machine) (changed_moment machine) e
    (record { sizes = refl; images = refl; breaks = refl }) refl

poked : (s now : ScriptState) (r : Result MachineState Fault) {U : Type 0} (result : Result U Fault)
    → Leaves s (bind r (λ (machine : MachineState). Ok (script_with_machine s machine))) result now
    → IsAtMoment s now (moment_after_word (moment_of_script s) r)
poked s now (Ok machine) (Ok u) e = with_machine_at s now machine e
poked s now (Ok machine) (Err f) e = absurd e
poked s now (Err f) (Ok u) e = absurd e
poked s now (Err f) (Err g) e = at_same s now s (moment_of_script s) e.1 (beside_itself s) refl

pub poke_at : (s now : ScriptState) (address value : ℕ) {U : Type 0} (result : Result U Fault)
    → Leaves s (script_after_poke s address value) result now
    → IsAtMoment s now (moment_after_word (moment_of_script s) (machine_after_poke s.machine address value))
poke_at s now address value result e = poked s now (machine_after_poke s.machine address value) result e

put_by : (s now : ScriptState) (machine : MachineState) (o : Option Fault) {U : Type 0} (result : Result U Fault)
    → Leaves s (ok_unless_fault o (script_with_machine s machine)) result now
    → IsAtMoment s now (moment_unless_fault (moment_of_script s) o machine)
put_by s now machine None (Ok u) e = with_machine_at s now machine e
put_by s now machine None (Err f) e = absurd e
put_by s now machine (Some f) (Ok u) e = absurd e
put_by s now machine (Some f) (Err g) e = at_same s now s (moment_of_script s) e.1 (beside_itself s) refl

pub put_at : (s now : ScriptState) (at : ℕ) (bytes : List ℕ) {U : Type 0} (result : Result U Fault)
    → Leaves s (script_after_put s at bytes) result now
    → IsAtMoment s now (moment_after_put (moment_of_script s) at bytes)
put_at s now at [] (Ok u) e = at_same s now s (moment_of_script s) e (beside_itself s) refl
put_at s now at [] (Err f) e = absurd e
put_at s now at (byte ∷ bytes) result e =
    put_by s now (machine_with_bytes s.machine at (byte ∷ bytes))
    (put_fault s.machine.store at (length (byte ∷ bytes))) result e

pub anew_at : (s now : ScriptState) (sizes : Sizes) (budget : ℕ) → sizes ≡ s.sizes → now ≡ script_started_anew s sizes budget
    → IsAtMoment s now (fresh_moment s.sizes)
unfolding script_start_state
anew_at s now sizes budget same e =
    at_same s now (script_started_anew s sizes budget) (fresh_moment s.sizes) e
    (record { sizes = same; images = refl; breaks = refl }) (ap fresh_moment same)

booted : (s now : ScriptState) (name : List ℕ) (r : Result MachineState BootError) → now ≡ (boot_done s name r).state
    → (program : List ℕ) → r ≡ machine_after_boot s.sizes s.is_fresh s.machine program
    → IsAtMoment s now (moment_after_boot s.sizes (moment_of_script s) (Some program))
booted s now name (Ok machine) e program is = rw (← is) (with_machine_at s now machine e)
booted s now name (Err error) e program is = rw (← is) (at_same s now s (moment_of_script s) e (beside_itself s) refl)

pub boot_at : (s now : ScriptState) (name : List ℕ) (o : Option (List ℕ)) → now ≡ (boot_found s name o).state
    → IsAtMoment s now (moment_after_boot s.sizes (moment_of_script s) o)
boot_at s now name None e = at_same s now s (moment_of_script s) e (beside_itself s) refl
boot_at s now name (Some program) e =
    booted s now name (machine_after_boot s.sizes s.is_fresh s.machine program) e program refl

-- a step of a script that was given a budget of one
pub one_step_at : (s budgeted next : ScriptState) (f : MachineState → StepOutcome) → budgeted ≡ script_with_budget s 1
    → next ≡ step_made budgeted (f budgeted.machine) → IsAtMoment s next (changed_moment (f s.machine).now)
one_step_at s budgeted next f given made =
    let t : ScriptState = step_made (script_with_budget s 1) (f s.machine) in
    at_same s next t (changed_moment (f s.machine).now)
    (made ∙ ap (λ (x : ScriptState). step_made x (f x.machine)) given)
    (record { sizes = refl; images = refl; breaks = refl }) refl

-- STEPS IN PIECES

-- so many of some steps are left, and the script stands where the others led
pub record IsUnderWay (stubs : List Stub) (s now : ScriptState) (count left : ℕ) : Type 0 where
  pub beside : IsBeside s now
  pub moment : moment_after_steps stubs s.images left (moment_of_script now)
      ≡ moment_after_steps stubs s.images count (moment_of_script s)

pub way_begins : (stubs : List Stub) (s : ScriptState) (count : ℕ) → IsUnderWay stubs s s count count
way_begins stubs s count = record { beside = beside_itself s; moment = refl }

pub fresh_gone : (b : Bool) (n k : ℕ) → 0 < n → ((b && (n == 0)) && (k == 0)) ≡ (b && (n == 0))
fresh_gone b n k some = grind (arith, nat_tests, some)

way_on : (s now next : ScriptState) (count left taken : ℕ) (before after : Option (List ℕ)) (x : Stop) → IsUnderWay [] s now count left
    → 0 < left → IsAfterRun (script_with_budget now left) left next before after taken x → IsUnderWay [] s next count (left - taken)
way_on s now next count left taken before after x way some done =
    let r : Run = script_run (script_with_budget now left) left in
    let t : ScriptState = script_after_run (script_with_budget now left) left r in
    let led : steps_after [] s.images left now.machine ≡ steps_after [] s.images (left - r.taken) r.now =
    subst (λ (es : List Entry). steps_after [] es left now.machine ≡ steps_after [] es (left - r.taken) r.now)
    way.beside.images (run_leads now.images now.breaks left now.machine) in
    let here : steps_after [] s.images (left - taken) next.machine ≡ steps_after [] s.images (left - r.taken) r.now =
    ap (λ (k : ℕ). steps_after [] s.images (left - k) next.machine) done.count
    ∙ ap (λ (u : ScriptState). steps_after [] s.images (left - r.taken) u.machine) done.state in
    let machine : steps_after [] s.images (left - taken) next.machine ≡ steps_after [] s.images left now.machine = here ∙ sym led in
    let fresh : (next.is_fresh && ((left - taken) == 0)) ≡ (now.is_fresh && (left == 0)) =
    ap (λ (u : ScriptState). u.is_fresh && ((left - taken) == 0)) done.state
    ∙ fresh_gone now.is_fresh left (left - taken) some in
    let same : moment_after_steps [] s.images (left - taken) (moment_of_script next) ≡ moment_after_steps [] s.images left (moment_of_script now) =
    λ i. record { machine = machine i; is_fresh = fresh i } in
    record {
      beside = beside_both s now next way.beside
          (beside_same now next t done.state (record { sizes = refl; images = refl; breaks = refl }));
      moment = same ∙ way.moment;
    }

pub way_goes_on : (s now budgeted next : ScriptState) (count left taken : ℕ) (before after : Option (List ℕ)) (x : Stop)
    → IsUnderWay [] s now count left → 0 < left → budgeted ≡ script_with_budget now left
    → IsAfterRun budgeted (min left budgeted.left) next before after taken x → IsUnderWay [] s next count (left - taken)
way_goes_on s now budgeted next count left taken before after x way some given done =
    let whole : min left left ≡ left = omega arith in
    way_on s now next count left taken before after x way some
    (subst (λ (n : ℕ). IsAfterRun (script_with_budget now left) n next before after taken x) whole
    (subst (λ (t : ScriptState). IsAfterRun t (min left t.left) next before after taken x) given done))

pub way_ends : (stubs : List Stub) (s now : ScriptState) (count left : ℕ) → IsUnderWay stubs s now count left → left ≡ 0
    → IsAtMoment s now (moment_after_steps stubs s.images count (moment_of_script s))
way_ends stubs s now count left way none =
    at_moment s now (moment_after_steps stubs s.images count (moment_of_script s)) way.beside
    (sym (none_left stubs s.images (moment_of_script now))
    ∙ ap (λ (k : ℕ). moment_after_steps stubs s.images k (moment_of_script now)) (sym none) ∙ way.moment)

-- a step with stubs
none_fresh_left : (b : Bool) (n k : ℕ) → (false && (k == 0)) ≡ (b && (suc n == 0))
none_fresh_left b n k = grind (arith, nat_tests)

pub stub_goes_on : (stubs : List Stub) (s now budgeted next : ScriptState) (count left : ℕ) → IsUnderWay stubs s now count left
    → 0 < left → budgeted ≡ script_with_budget now 1
    → next ≡ step_made budgeted (stubbed_step stubs budgeted.images budgeted.machine) → IsUnderWay stubs s next count (left - 1)
unfolding steps_after
stub_goes_on stubs s now budgeted next count zero way some given made = absurd (omega (arith, some))
stub_goes_on stubs s now budgeted next count (suc n) way some given made =
    let t : ScriptState = step_made (script_with_budget now 1) (stubbed_step stubs now.images now.machine) in
    let is : next ≡ t = made ∙ ap (λ (x : ScriptState). step_made x (stubbed_step stubs x.images x.machine)) given in
    let one : suc n - 1 ≡ n = omega arith in
    let stepped : next.machine ≡ (stubbed_step stubs s.images now.machine).now =
    ap (λ (x : ScriptState). x.machine) is
    ∙ ap (λ (es : List Entry). (stubbed_step stubs es now.machine).now) way.beside.images in
    let old : next.is_fresh ≡ false = ap (λ (x : ScriptState). x.is_fresh) is in
    let fresh : (next.is_fresh && ((suc n - 1) == 0)) ≡ (now.is_fresh && (suc n == 0)) =
    ap (λ (b : Bool). b && ((suc n - 1) == 0)) old ∙ none_fresh_left now.is_fresh n (suc n - 1) in
    let machine : steps_after stubs s.images (suc n - 1) next.machine ≡ steps_after stubs s.images (suc n) now.machine =
    λ i. steps_after stubs s.images (one i) (stepped i) in
    let same : moment_after_steps stubs s.images (suc n - 1) (moment_of_script next)
    ≡ moment_after_steps stubs s.images (suc n) (moment_of_script now) =
    λ i. record { machine = machine i; is_fresh = fresh i } in
    record {
      beside = beside_both s now next way.beside
          (beside_same now next t is (record { sizes = refl; images = refl; breaks = refl }));
      moment = same ∙ way.moment;
    }

pub way_halts : (s now : ScriptState) (count left : ℕ) (h : Halt) → IsUnderWay [] s now count left → now.machine.halt ≡ Some h
    → now.is_fresh ≡ false → IsAtMoment s now (moment_after_steps [] s.images count (moment_of_script s))
way_halts s now count left h way halted old =
    at_moment s now (moment_after_steps [] s.images count (moment_of_script s)) way.beside
    (sym (halted_left [] s.images left (moment_of_script now) h halted old) ∙ way.moment)

-- the loop ends: fewer steps are left, or the machine is halted
pub unhalted : Option Halt → ℕ
unhalted None = 1
unhalted (Some h) = 0

unhalted_most : (o : Option Halt) → unhalted o ≤ 1
unfolding unhalted
unhalted_most None = omega arith
unhalted_most (Some h) = omega arith

unhalted_none : (o : Option Halt) → o ≢ None → unhalted o ≡ 0
unfolding unhalted
unhalted_none None h = absurd (h refl)
unhalted_none (Some h) e = refl

halted_run : (images : List Entry) (breaks : List ℕ) (left : ℕ) (s : MachineState) → 0 < left
    → (ran images breaks left s).taken ≡ 0 → unhalted (ran images breaks left s).now.halt ≡ 0
halted_run images breaks zero s some none = absurd (omega (arith, some))
halted_run images breaks (suc n) s some none =
    unhalted_none (ran images breaks (suc n) s).now.halt (run_or_halted images breaks n s none)

shrinks : (left taken a b : ℕ) → 0 < left → a ≤ 1 → b ≡ 1 → (taken ≡ 0 → a ≡ 0) → (left - taken) + a < left + b
shrinks left zero a b some most one none = let e : a ≡ 0 = none refl in omega (arith, some, most, one, e)
shrinks left (suc taken) a b some most one none = omega (arith, some, most, one)

pub way_shrinks : (now budgeted next : ScriptState) (left taken : ℕ) (before after : Option (List ℕ)) (x : Stop) → 0 < left
    → now.machine.halt ≡ None → budgeted ≡ script_with_budget now left
    → IsAfterRun budgeted (min left budgeted.left) next before after taken x
    → (left - taken) + unhalted next.machine.halt < left + unhalted now.machine.halt
unfolding unhalted
way_shrinks now budgeted next left taken before after x some up given done =
    let whole : min left left ≡ left = omega arith in
    let is : IsAfterRun (script_with_budget now left) left next before after taken x =
    subst (λ (n : ℕ). IsAfterRun (script_with_budget now left) n next before after taken x) whole
    (subst (λ (t : ScriptState). IsAfterRun t (min left t.left) next before after taken x) given done) in
    let r : Run = ran now.images now.breaks left now.machine in
    shrinks left taken (unhalted next.machine.halt) (unhalted now.machine.halt) some (unhalted_most next.machine.halt) (ap unhalted up)
    (λ none. ap (λ (t : ScriptState). unhalted t.machine.halt) is.state
    ∙ halted_run now.images now.breaks left now.machine some (sym is.count ∙ none))

-- no more steps are taken than are left
pub way_takes : (now budgeted next : ScriptState) (left taken : ℕ) (before after : Option (List ℕ)) (x : Stop)
    → budgeted ≡ script_with_budget now left → IsAfterRun budgeted (min left budgeted.left) next before after taken x → taken ≤ left
way_takes now budgeted next left taken before after x given done =
    let whole : min left left ≡ left = omega arith in
    let is : IsAfterRun (script_with_budget now left) left next before after taken x =
    subst (λ (n : ℕ). IsAfterRun (script_with_budget now left) n next before after taken x) whole
    (subst (λ (t : ScriptState). IsAfterRun t (min left t.left) next before after taken x) given done) in
    let within = taken_within now.images now.breaks left now.machine in
    let count = is.count in
    omega (arith, within, count)

-- why a machine is halted, if it is
pub halted_is : (o : Option Halt) (x : Option Stop) (y : Stop) → x ≡ option_map stop_of o → x ≡ Some y → (h : Halt) × (o ≡ Some h)
halted_is (Some h) x y e is = (h, refl)
halted_is None x y e is = absurd (cc)

pub halted_none : (o : Option Halt) (x : Option Stop) → x ≡ option_map stop_of o → x ≡ None → o ≡ None
halted_none (Some h) x e none = absurd (cc)
halted_none None x e none = refl

-- ACTS ONE AFTER ANOTHER

pub record AreUnderWay (s now : ScriptState) (acts rest : List Act) : Type 0 where
  pub beside : IsBeside s now
  pub moment : moment_after_acts s.images s.sizes rest (moment_of_script now) ≡ moment_after_acts s.images s.sizes acts (moment_of_script s)

pub acts_begin : (s : ScriptState) (acts : List Act) → AreUnderWay s s acts (drop 0 acts)
acts_begin s acts = record { beside = beside_itself s; moment = refl }

first_done : (images : List Entry) (sizes : Sizes) (act : Act) (rest : List Act) (m : PastMoment)
    → moment_after_acts images sizes (act ∷ rest) m ≡ moment_after_acts images sizes rest (moment_after_deed images sizes act.deed m)
unfolding moment_after_acts
first_done images sizes act rest m = refl

pub acts_go_on : (s now next : ScriptState) (acts : List Act) (i : ℕ) (act : Act) → i < length acts → act ≡ get_or acts i act
    → AreUnderWay s now acts (drop i acts)
    → IsAtMoment now next (moment_after_deed now.images now.sizes act.deed (moment_of_script now))
    → AreUnderWay s next acts (drop (i + 1) acts)
acts_go_on s now next acts i act below is way done =
    let rest : List Act = drop (i + 1) acts in
    let split = drop_more acts i act below ∙ ap (λ (a : Act). a ∷ rest) (sym is) in
    let b = way.beside in
    let there : moment_of_script next ≡ moment_after_deed s.images s.sizes act.deed (moment_of_script now) =
    moment_at now next (moment_after_deed now.images now.sizes act.deed (moment_of_script now)) done
    ∙ (λ i. moment_after_deed (b.images i) (b.sizes i) act.deed (moment_of_script now)) in
    record {
      beside = beside_both s now next b
          (beside_at now next (moment_after_deed now.images now.sizes act.deed (moment_of_script now)) done);
      moment = ap (λ (m : PastMoment). moment_after_acts s.images s.sizes rest m) there
          ∙ sym (first_done s.images s.sizes act rest (moment_of_script now))
          ∙ ap (λ (xs : List Act). moment_after_acts s.images s.sizes xs (moment_of_script now)) (sym split) ∙ way.moment;
    }

pub none_done : (images : List Entry) (sizes : Sizes) (m : PastMoment) → moment_after_acts images sizes [] m ≡ m
unfolding moment_after_acts
none_done images sizes m = refl

pub acts_end : (s now : ScriptState) (acts : List Act) (i : ℕ) → length acts ≤ i → AreUnderWay s now acts (drop i acts)
    → IsAtMoment s now (moment_after_acts s.images s.sizes acts (moment_of_script s))
acts_end s now acts i all way =
    at_moment s now (moment_after_acts s.images s.sizes acts (moment_of_script s)) way.beside
    (sym (none_done s.images s.sizes (moment_of_script now))
    ∙ ap (λ (xs : List Act). moment_after_acts s.images s.sizes xs (moment_of_script now)) (sym (drop_all i acts all)) ∙ way.moment)

-- a script that stands after all acts
pub back_stands : (s s1 s2 s3 s4 : ScriptState) (sizes : Sizes) (budget : ℕ) (acts : List Act) (last : Stop)
    → s1 ≡ script_started_anew s sizes budget
    → IsAtMoment s1 s2 (moment_after_acts s1.images s1.sizes acts (moment_of_script s1))
    → s3 ≡ script_with_budget s2 budget → s4 ≡ script_with_last s3 last → last ≡ unwrap_or s.last stop.Budget
    → s4 ≡ script_at_moment s sizes budget (moment_after_acts s.images sizes acts (fresh_moment sizes))
unfolding script_start_state
back_stands s s1 s2 s3 s4 sizes budget acts last e1 e2 e3 e4 e5 =
    let m : PastMoment = moment_after_acts s.images sizes acts (fresh_moment sizes) in
    let at : IsAtMoment (script_started_anew s sizes budget) s2 m =
    subst (λ (t : ScriptState). IsAtMoment t s2 (moment_after_acts t.images t.sizes acts (moment_of_script t))) e1 e2 in
    e4 ∙ ap (λ (t : ScriptState). script_with_last t last) e3
    ∙ ap (λ (t : ScriptState). script_with_last (script_with_budget t budget) last) at
    ∙ (λ i. record s { machine = m.machine; is_fresh = m.is_fresh; sizes = sizes; left = budget; last = Some (e5 i) })
