-- A search goes from unit to unit.
use Rattle.std.proofs.Common.{◌≡◌, ◌<◌, ◌≤◌, ℕ, Bool, true, false, zero, suc, ◌+◌, ◌-◌, ◌&&◌, ◌==◌, Option, Some, None, List, [], ◌∷◌, ◌++◌, length, get_or, take, drop, refl, sym, ◌∙◌, ap, subst, arith}
use Rattle.std.specs.List.{flat_map}
use Rattle.std.specs.Option.{option_or}
use Rattle.std.proofs.lemmas.List.{append-nil, drop_all, drop_more, take-append-drop, take_all}
use Rattle.profile.specs.images.Entries.{Entry}
use Rattle.command_shell_lines.specs.declared.debug_words.stubs.Stub.{Stub}
use Rattle.profile.specs.Sizes.{Sizes}
use Rattle.debug_tables.specs.State.{ScriptState, script_start_state}
use Rattle.debug_tables.specs.MachineState.{MachineState}
use Rattle.debug_tables.specs.Stubs.{stubbed_step}
use Rattle.debug_history.specs.Acts.{PastMoment, changed_moment, fresh_moment, moment_after_acts, moment_after_deed, moment_after_steps, moment_of_script, steps_act, steps_of_acts, steps_of_deed}
use Rattle.debug_history.specs.Again.{IsAtMoment}
use Rattle.debug_history.specs.Scan.{scan_past}
use Rattle.debug_history.specs.Search.{found_between, last_among, last_found, value_in, single_steps, units, units_of, units_of_act}
use Rattle.debug_history.specs.Steps.{steps_after}
use Rattle.debug_history.specs.declared.act.PastDeed.{PastDeed}
use Rattle.debug_history.specs.declared.act.PastDeed.TheVariants as deed
use Rattle.debug_history.specs.declared.act.Act.{Act}
use Rattle.debug_history.specs.declared.scan.Scan.{Scan}
use Rattle.debug_history.specs.declared.search.PastFound.{PastFound}
use Rattle.debug_history.specs.declared.search.Sought.{Sought}
use Rattle.debug_history.proofs.ActLemmas.{acts_joined, steps_joined, steps_of_one}
use Rattle.debug_history.proofs.PastLemmas.{counted_first, fewer_taken}
use Rattle.debug_history.proofs.AgainLemmas.{AreUnderWay, IsBeside, at_moment, beside_at, beside_both, beside_itself, moment_at, none_done}

or_again : (a b c : Option PastFound) → option_or (option_or a b) c ≡ option_or a (option_or b c)
or_again None b c = refl
or_again (Some x) b c = refl

or_none : (a : Option PastFound) → a ≡ option_or a None
or_none None = refl
or_none (Some f) = refl

pub last_joined : (images : List Entry) (sizes : Sizes) (x : Sought) (m : PastMoment) (step : ℕ) (us vs : List Act)
    → last_found images sizes x m step (us ++ vs)
    ≡ option_or (last_found images sizes x (moment_after_acts images sizes us m) (step + steps_of_acts us) vs)
    (last_found images sizes x m step us)
unfolding last_found moment_after_acts steps_of_acts
last_joined images sizes x m step [] vs =
    let e : step ≡ step + 0 = omega arith in
    ap (λ (k : ℕ). last_found images sizes x m k vs) e ∙ or_none (last_found images sizes x m (step + 0) vs)
last_joined images sizes x m step (u ∷ us) vs =
    let t : PastMoment = moment_after_deed images sizes u.deed m in
    let n : ℕ = steps_of_deed u.deed in
    let first : Option PastFound = found_between x u.line step n (value_in x m.machine) (value_in x t.machine) in
    let e : (step + n) + steps_of_acts us ≡ step + (n + steps_of_acts us) = omega arith in
    let last : ℕ → Option PastFound = λ (k : ℕ). last_found images sizes x (moment_after_acts images sizes us t) k vs in
    ap (λ (o : Option PastFound). option_or o first) (last_joined images sizes x t (step + n) us vs)
    ∙ or_again (last ((step + n) + steps_of_acts us)) (last_found images sizes x t (step + n) us) first
    ∙ ap (λ (k : ℕ). option_or (last k) (option_or (last_found images sizes x t (step + n) us) first)) e

-- units, and then others
pub scanned_both : (images : List Entry) (sizes : Sizes) (x : Sought) (us vs : List Act) (m : PastMoment) (scan : Scan)
    → scan_past images sizes x (us ++ vs) m scan
    ≡ scan_past images sizes x vs (moment_after_acts images sizes us m) (scan_past images sizes x us m scan)
scanned_both images sizes x us vs m scan =
    let t : PastMoment = moment_after_acts images sizes us m in
    let steps : scan.step + steps_of_acts (us ++ vs) ≡ (scan.step + steps_of_acts us) + steps_of_acts vs =
    (let e = steps_joined us vs in omega (arith, e)) in
    let moment = acts_joined images sizes us vs m in
    let found : option_or (last_found images sizes x m scan.step (us ++ vs)) scan.found
    ≡ option_or (last_found images sizes x t (scan.step + steps_of_acts us) vs)
    (option_or (last_found images sizes x m scan.step us) scan.found) =
    ap (λ (o : Option PastFound). option_or o scan.found) (last_joined images sizes x m scan.step us vs)
    ∙ or_again (last_found images sizes x t (scan.step + steps_of_acts us) vs) (last_found images sizes x m scan.step us) scan.found in
    λ i. record { step = steps i; seen = value_in x (moment i).machine; found = found i }

pub scanned_none : (images : List Entry) (sizes : Sizes) (x : Sought) (m : PastMoment) (scan : Scan) → scan.seen ≡ value_in x m.machine
    → scan_past images sizes x [] m scan ≡ scan
unfolding last_found moment_after_acts steps_of_acts
scanned_none images sizes x m scan h =
    let e : scan.step + 0 ≡ scan.step = omega arith in
    λ i. record { step = e i; seen = sym h i; found = scan.found }

-- one unit
pub scanned_one : (images : List Entry) (sizes : Sizes) (x : Sought) (u : Act) (m : PastMoment) (scan next : Scan)
    → scan.seen ≡ value_in x m.machine
    → (let t = moment_after_deed images sizes u.deed m in
    next.step ≡ scan.step + steps_of_deed u.deed → next.seen ≡ value_in x t.machine
    → next.found ≡ option_or (found_between x u.line scan.step (steps_of_deed u.deed) scan.seen (value_in x t.machine)) scan.found
    → next ≡ scan_past images sizes x (u ∷ []) m scan)
unfolding last_found moment_after_acts steps_of_acts
scanned_one images sizes x u m scan next h step now found =
    let n : ℕ = steps_of_deed u.deed in
    let t : PastMoment = moment_after_deed images sizes u.deed m in
    let e : scan.step + n ≡ scan.step + (n + 0) = omega arith in
    let f = found ∙ ap (λ (o : Option ℕ). option_or (found_between x u.line scan.step n o (value_in x t.machine)) scan.found) h in
    λ i. record { step = (step ∙ e) i; seen = now i; found = f i }

-- HOW FAR A SEARCH IS

-- so many units are left, and the script and the search stand where the others led
pub record IsScanning (x : Sought) (s now : ScriptState) (us rest : List Act) (start scan : Scan) : Type 0 where
  pub beside : IsBeside s now
  pub moment : moment_after_acts s.images s.sizes rest (moment_of_script now) ≡ moment_after_acts s.images s.sizes us (moment_of_script s)
  pub led : scan_past s.images s.sizes x rest (moment_of_script now) scan ≡ scan_past s.images s.sizes x us (moment_of_script s) start
  pub sight : scan.seen ≡ value_in x now.machine
  pub fits : scan.step + steps_of_acts rest ≡ start.step + steps_of_acts us

pub scan_begins : (x : Sought) (s : ScriptState) (us : List Act) (start : Scan) → start.seen ≡ value_in x s.machine
    → IsScanning x s s us us start start
scan_begins x s us start h = record { beside = beside_itself s; moment = refl; led = refl; sight = h; fits = refl }

counted_both : (step : ℕ) (part rest : List Act) → (step + steps_of_acts part) + steps_of_acts rest ≡ step + steps_of_acts (part ++ rest)
counted_both step part rest = let e = steps_joined part rest in omega (arith, e)

pub scan_goes_on : (x : Sought) (s now next : ScriptState) (us part rest : List Act) (start scan more : Scan)
    → IsScanning x s now us (part ++ rest) start scan
    → IsAtMoment now next (moment_after_acts now.images now.sizes part (moment_of_script now))
    → more ≡ scan_past now.images now.sizes x part (moment_of_script now) scan
    → IsScanning x s next us rest start more
scan_goes_on x s now next us part rest start scan more way done is =
    let b = way.beside in
    let m : PastMoment = moment_of_script now in
    let t : PastMoment = moment_after_acts s.images s.sizes part m in
    let there : moment_of_script next ≡ t =
    moment_at now next (moment_after_acts now.images now.sizes part m) done
    ∙ (λ i. moment_after_acts (b.images i) (b.sizes i) part m) in
    let e : more ≡ scan_past s.images s.sizes x part m scan = is ∙ (λ i. scan_past (b.images i) (b.sizes i) x part m scan) in
    record {
      beside = beside_both s now next b (beside_at now next (moment_after_acts now.images now.sizes part m) done);
      moment = ap (λ (y : PastMoment). moment_after_acts s.images s.sizes rest y) there
          ∙ sym (acts_joined s.images s.sizes part rest m) ∙ way.moment;
      led = (λ i. scan_past s.images s.sizes x rest (there i) (e i))
          ∙ sym (scanned_both s.images s.sizes x part rest m scan) ∙ way.led;
      sight = ap (λ (y : Scan). y.seen) e ∙ sym (ap (λ (y : PastMoment). value_in x y.machine) there);
      fits = ap (λ (y : Scan). y.step + steps_of_acts rest) e
          ∙ counted_both scan.step part rest ∙ way.fits;
    }

pub scan_ends : (x : Sought) (s now : ScriptState) (us rest : List Act) (start scan : Scan) → rest ≡ []
    → IsScanning x s now us rest start scan
    → IsAtMoment s now (moment_after_acts s.images s.sizes us (moment_of_script s))
    × (scan ≡ scan_past s.images s.sizes x us (moment_of_script s) start)
scan_ends x s now us rest start scan none way =
    let m : PastMoment = moment_of_script now in (
      at_moment s now (moment_after_acts s.images s.sizes us (moment_of_script s)) way.beside
          (sym (ap (λ (xs : List Act). moment_after_acts s.images s.sizes xs m) none ∙ none_done s.images s.sizes m) ∙ way.moment),
      sym (ap (λ (xs : List Act). scan_past s.images s.sizes x xs m scan) none ∙ scanned_none s.images s.sizes x m scan way.sight)
          ∙ way.led,
    )

-- UNITS

units_none : units [] ≡ []
units_none = refl

pub units_first : (acts : List Act) (i : ℕ) (act : Act) → i < length acts → act ≡ get_or acts i act
    → units (drop i acts) ≡ units_of_act act ++ units (drop (i + 1) acts)
units_first acts i act below is =
    ap units (drop_more acts i act below ∙ ap (λ (a : Act). a ∷ drop (i + 1) acts) (sym is))

pub units_end : (acts : List Act) (i : ℕ) → length acts ≤ i → units (drop i acts) ≡ []
units_end acts i all = ap units (drop_all i acts all)

pub singles_first : (line : ℕ) (stubs : List Stub) (left : ℕ) → 0 < left
    → single_steps line stubs left ≡ steps_act line stubs 1 ∷ single_steps line stubs (left - 1)
unfolding single_steps
singles_first line stubs zero some = absurd (omega (arith, some))
singles_first line stubs (suc n) some =
    let e : n ≡ suc n - 1 = omega arith in ap (λ (k : ℕ). steps_act line stubs 1 ∷ single_steps line stubs k) e

pub singles_end : (line : ℕ) (stubs : List Stub) → single_steps line stubs 0 ≡ []
unfolding single_steps
singles_end line stubs = refl

pub singles_count : (line : ℕ) (stubs : List Stub) (n : ℕ) → steps_of_acts (single_steps line stubs n) ≡ n
unfolding single_steps steps_of_acts
singles_count line stubs zero = refl
singles_count line stubs (suc n) = let e : 1 + n ≡ suc n = omega arith in ap (λ (k : ℕ). 1 + k) (singles_count line stubs n) ∙ e

-- one unit more
pub one_unit : (images : List Entry) (sizes : Sizes) (u : Act) (m : PastMoment)
    → moment_after_deed images sizes u.deed m ≡ moment_after_acts images sizes (u ∷ []) m
unfolding moment_after_acts
one_unit images sizes u m = refl

pub unit_goes_on : (x : Sought) (s now next : ScriptState) (us : List Act) (u : Act) (rest : List Act) (start scan more : Scan)
    → IsScanning x s now us (u ∷ rest) start scan
    → IsAtMoment now next (moment_after_deed now.images now.sizes u.deed (moment_of_script now))
    → more.step ≡ scan.step + steps_of_deed u.deed → more.seen ≡ value_in x next.machine
    → more.found ≡ option_or (found_between x u.line scan.step (steps_of_deed u.deed) scan.seen (value_in x next.machine)) scan.found
    → IsScanning x s next us rest start more
unit_goes_on x s now next us u rest start scan more way done step sight found =
    let n : ℕ = steps_of_deed u.deed in
    let m : PastMoment = moment_of_script now in
    let t : PastMoment = moment_after_deed now.images now.sizes u.deed m in
    let there : next.machine ≡ t.machine = ap (λ (y : PastMoment). y.machine) (moment_at now next t done) in
    let is : more ≡ scan_past now.images now.sizes x (u ∷ []) m scan =
    scanned_one now.images now.sizes x u m scan more way.sight step (sight ∙ ap (value_in x) there)
    (found ∙ ap (λ (k : MachineState). option_or (found_between x u.line scan.step n scan.seen (value_in x k)) scan.found) there) in
    scan_goes_on x s now next us (u ∷ []) rest start scan more way
    (subst (λ (y : PastMoment). IsAtMoment now next y) (one_unit now.images now.sizes u m) done) is

none_fresh : (b : Bool) → false ≡ (b && (1 == 0))
none_fresh true = refl
none_fresh false = refl

one_step : (stubs : List Stub) (images : List Entry) (m : PastMoment)
    → changed_moment (stubbed_step stubs images m.machine).now ≡ moment_after_steps stubs images 1 m
unfolding steps_after
one_step stubs images m = λ i. record { machine = (stubbed_step stubs images m.machine).now; is_fresh = none_fresh m.is_fresh i }

-- a step
pub step_goes_on : (x : Sought) (s now next : ScriptState) (us : List Act) (line : ℕ) (stubs : List Stub) (left : ℕ) (start scan more : Scan) → 0 < left
    → IsScanning x s now us (single_steps line stubs left) start scan
    → IsAtMoment now next (changed_moment (stubbed_step stubs now.images now.machine).now)
    → more.step ≡ scan.step + 1 → more.seen ≡ value_in x next.machine
    → more.found ≡ option_or (found_between x line scan.step 1 scan.seen (value_in x next.machine)) scan.found
    → IsScanning x s next us (single_steps line stubs (left - 1)) start more
step_goes_on x s now next us line stubs left start scan more some way done step sight found =
    unit_goes_on x s now next us (steps_act line stubs 1) (single_steps line stubs (left - 1)) start scan more
    (subst (λ (xs : List Act). IsScanning x s now us xs start scan) (singles_first line stubs left some) way)
    (subst (λ (y : PastMoment). IsAtMoment now next y) (one_step stubs now.images (moment_of_script now)) done) step sight found

pub step_fits : (x : Sought) (s now : ScriptState) (us : List Act) (line : ℕ) (stubs : List Stub) (left count bound : ℕ) (start scan : Scan) → 0 < left
    → us ≡ single_steps line stubs count → start.step + count < bound → IsScanning x s now us (single_steps line stubs left) start scan
    → scan.step + 1 < bound
step_fits x s now us line stubs left count bound start scan some are fits way =
    let a = singles_count line stubs left in
    let b = ap steps_of_acts are ∙ singles_count line stubs count in
    let c = way.fits in
    omega (arith, a, b, c, some, fits)

-- how many steps units count
unit_count : (line : ℕ) (d : PastDeed) → steps_of_acts (units_of line d) ≡ steps_of_deed d
unit_count line (deed.Steps stubs n) = singles_count line stubs n
unit_count line deed.FaultingStep = steps_of_one (record { line = line; deed = deed.FaultingStep })
unit_count line (deed.Boot name) = steps_of_one (record { line = line; deed = deed.Boot name })
unit_count line (deed.Call number b) = steps_of_one (record { line = line; deed = deed.Call number b })
unit_count line (deed.Load text b) = steps_of_one (record { line = line; deed = deed.Load text b })
unit_count line (deed.Register number value) = steps_of_one (record { line = line; deed = deed.Register number value })
unit_count line (deed.Word address value) = steps_of_one (record { line = line; deed = deed.Word address value })
unit_count line (deed.Banked mode number value) = steps_of_one (record { line = line; deed = deed.Banked mode number value })
unit_count line (deed.Place address) = steps_of_one (record { line = line; deed = deed.Place address })
unit_count line (deed.Routine address link) = steps_of_one (record { line = line; deed = deed.Routine address link })
unit_count line (deed.Status status) = steps_of_one (record { line = line; deed = deed.Status status })
unit_count line deed.Woken = steps_of_one (record { line = line; deed = deed.Woken })
unit_count line (deed.Bytes address bytes) = steps_of_one (record { line = line; deed = deed.Bytes address bytes })
unit_count line deed.Anew = steps_of_one (record { line = line; deed = deed.Anew })

pub units_count : (acts : List Act) → steps_of_acts (units acts) ≡ steps_of_acts acts
unfolding steps_of_acts
units_count [] = refl
units_count (act ∷ rest) =
    steps_joined (units_of_act act) (units rest)
    ∙ ap (λ (n : ℕ). n + steps_of_acts (units rest)) (unit_count act.line act.deed)
    ∙ ap (λ (n : ℕ). steps_of_deed act.deed + n) (units_count rest)

pub act_fits : (x : Sought) (s now : ScriptState) (acts : List Act) (i bound : ℕ) (act : Act) (start scan : Scan)
    → i < length acts → act ≡ get_or acts i act → start.step + steps_of_acts acts < bound
    → IsScanning x s now (units acts) (units (drop i acts)) start scan → scan.step + steps_of_deed act.deed < bound
act_fits x s now acts i bound act start scan below is fits way =
    let a = units_count (drop i acts) in
    let b = units_count acts in
    let c = way.fits in
    let d = counted_first acts i act below is in
    omega (arith, a, b, c, d, fits)

-- an act
pub act_goes_on : (x : Sought) (s now next : ScriptState) (acts : List Act) (i : ℕ) (act : Act) (start scan more : Scan)
    → i < length acts → act ≡ get_or acts i act → IsScanning x s now (units acts) (units (drop i acts)) start scan
    → IsAtMoment now next (moment_after_acts now.images now.sizes (units_of_act act) (moment_of_script now))
    → more ≡ scan_past now.images now.sizes x (units_of_act act) (moment_of_script now) scan
    → IsScanning x s next (units acts) (units (drop (i + 1) acts)) start more
act_goes_on x s now next acts i act start scan more below is way done led =
    scan_goes_on x s now next (units acts) (units_of_act act) (units (drop (i + 1) acts)) start scan more
    (subst (λ (xs : List Act). IsScanning x s now (units acts) xs start scan) (units_first acts i act below is) way) done led

-- what is found in a past
or_nothing : (o : Option PastFound) → option_or o None ≡ o
or_nothing None = refl
or_nothing (Some f) = refl

-- what is found among some acts, before which others were done
pub found_among : (s now : ScriptState) (images : List Entry) (sizes : Sizes) (budget : ℕ) (x : Sought) (before part : List Act) (start scan : Scan)
    → s ≡ script_start_state sizes images budget
    → IsAtMoment s now (moment_after_acts s.images s.sizes before (moment_of_script s))
    → start.step ≡ steps_of_acts before → start.found ≡ None
    → scan ≡ scan_past now.images now.sizes x (units part) (moment_of_script now) start
    → scan.found ≡ last_found images sizes x (moment_after_acts images sizes before (fresh_moment sizes)) (steps_of_acts before) (units part)
unfolding script_start_state
found_among s now images sizes budget x before part start scan fresh there step none led =
    let m : PastMoment = moment_after_acts s.images s.sizes before (moment_of_script s) in
    let b = beside_at s now m there in
    let moment = moment_at s now m there in
    ap (λ (y : Scan). y.found) led
    ∙ (λ i. option_or (last_found (b.images i) (b.sizes i) x (moment i) (step i) (units part)) (none i))
    ∙ or_nothing (last_found s.images s.sizes x m (steps_of_acts before) (units part))
    ∙ ap (λ (t : ScriptState). last_found t.images t.sizes x (moment_after_acts t.images t.sizes before (moment_of_script t))
    (steps_of_acts before) (units part)) fresh

-- all acts from the first to the last
pub all_among : (images : List Entry) (sizes : Sizes) (acts : List Act) (x : Sought) (count : ℕ) → count ≡ length acts
    → last_among images sizes acts x 0 count ≡ last_found images sizes x (fresh_moment sizes) 0 (units acts)
unfolding moment_after_acts steps_of_acts
all_among images sizes acts x count is =
    let all : length acts ≤ count = omega (arith, is) in
    ap (λ (done : List Act). last_found images sizes x (fresh_moment sizes) 0 (units done)) (take_all count acts all)

pub images_stay : (s now : ScriptState) (m : PastMoment) → IsAtMoment s now m → now.images ≡ s.images
images_stay s now m is = ap (λ (x : ScriptState). x.images) is

pub parts_fit : (acts : List Act) (from until : ℕ)
    → steps_of_acts (take from (take until acts)) + steps_of_acts (drop from (take until acts)) ≤ steps_of_acts acts
parts_fit acts from until =
    let done : List Act = take until acts in
    let joined = steps_joined (take from done) (drop from done) in
    let whole = ap steps_of_acts (take-append-drop from done) in
    let fewer = fewer_taken acts until in
    omega (arith, joined, whole, fewer)

-- a deed that isn't steps is a unit
pub units_other : (line : ℕ) (d : PastDeed) → ((stubs : List Stub) (n : ℕ) → d ≡ deed.Steps stubs n → ⊥) → units_of line d ≡ record { line = line; deed = d } ∷ []
units_other line (deed.Steps stubs n) other = absurd (other stubs n refl)
units_other line deed.FaultingStep other = refl
units_other line (deed.Boot name) other = refl
units_other line (deed.Call number b) other = refl
units_other line (deed.Load text b) other = refl
units_other line (deed.Register number value) other = refl
units_other line (deed.Word address value) other = refl
units_other line (deed.Banked mode number value) other = refl
units_other line (deed.Place address) other = refl
units_other line (deed.Routine address link) other = refl
units_other line (deed.Status status) other = refl
units_other line deed.Woken other = refl
units_other line (deed.Bytes address bytes) other = refl
units_other line deed.Anew other = refl

pub deed_scanned : (x : Sought) (s now : ScriptState) (u : Act) (scan next : Scan) (steps : ℕ) (machine : MachineState)
    → scan.seen ≡ value_in x s.machine
    → IsAtMoment s now (moment_after_deed s.images s.sizes u.deed (moment_of_script s))
    → steps ≡ steps_of_deed u.deed → machine ≡ now.machine → next.step ≡ scan.step + steps → next.seen ≡ value_in x machine
    → next.found ≡ option_or (found_between x u.line scan.step steps scan.seen (value_in x machine)) scan.found
    → next ≡ scan_past s.images s.sizes x (u ∷ []) (moment_of_script s) scan
deed_scanned x s now u scan next steps machine h done count same step sight found =
    let m : PastMoment = moment_of_script s in
    let t : PastMoment = moment_after_deed s.images s.sizes u.deed m in
    let there : machine ≡ t.machine = same ∙ ap (λ (y : PastMoment). y.machine) (moment_at s now t done) in
    scanned_one s.images s.sizes x u m scan next h (step ∙ ap (λ (n : ℕ). scan.step + n) count) (sight ∙ ap (value_in x) there)
    (found ∙ (λ i. option_or (found_between x u.line scan.step (count i) scan.seen (value_in x (there i))) scan.found))
