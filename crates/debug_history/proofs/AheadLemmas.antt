-- What lies ahead of a moment leads where it led before.
use Rattle.std.proofs.Common.{◌≡◌, ◌<◌, ◌≤◌, ◌^◌, ℕ, Bool, true, false, zero, suc, ◌+◌, ◌-◌, ◌&&◌, ◌==◌, List, [], ◌∷◌, ◌++◌, length, get_or, take, drop, refl, sym, ◌∙◌, ap, arith, append_assoc, length-append, length-drop, if◌then◌else◌}
use Rattle.std.specs.Prelude.{nat_le, set}
use Rattle.std.proofs.Math.Seq.{drop-append_seam, take-append_seam, take-length}
use Rattle.std.proofs.lemmas.Bool.Decides.{nat_tests}
use Rattle.std.proofs.lemmas.List.{append-nil, drop_all, drop_more, length-take-le, set_at, take-append-drop}
use Rattle.profile.specs.images.Entries.{Entry}
use Rattle.command_shell_lines.specs.declared.debug_words.stubs.Stub.{Stub}
use Rattle.profile.specs.Sizes.{Sizes}
use Rattle.debug_history.specs.Acts.{PastMoment, moment_after_acts, moment_after_deed, moment_after_steps, steps_act, steps_of_acts, steps_of_deed, stubs_of_deed}
use Rattle.debug_history.specs.Cutting.{behind_cut, first_cut}
use Rattle.debug_history.specs.Past.{PastState, act_behind, acts_from, acts_until, first_steps, past_until, past_with_act, unknown_past}
use Rattle.debug_history.specs.Laws.{BackAndAhead}
use Rattle.debug_history.specs.Steps.{steps_after}
use Rattle.debug_history.specs.declared.act.Act.{Act}
use Rattle.debug_history.specs.declared.act.PastDeed.{PastDeed}
use Rattle.debug_history.specs.declared.act.PastDeed.TheVariants as deed
use Rattle.debug_history.proofs.PastLemmas.{cut_by, kept_by}
use Rattle.debug_history.proofs.StepLemmas.{none_left, steps_added}

-- HOW MANY STEPS BOTH PARTS COUNT

both_by : (act : Act) (rest : List Act) (k : ℕ) (b : Bool) → nat_le (steps_of_deed act.deed) k ≡ b
    → steps_of_acts (acts_until (k - steps_of_deed act.deed) rest ++ acts_from (k - steps_of_deed act.deed) rest) ≡ steps_of_acts rest
    → steps_of_acts ((if b then act ∷ acts_until (k - steps_of_deed act.deed) rest else first_steps act.line (stubs_of_deed act.deed) k)
    ++ (if b then acts_from (k - steps_of_deed act.deed) rest else act_behind k act ∷ rest)) ≡ steps_of_deed act.deed + steps_of_acts rest
unfolding steps_of_acts
both_by act rest k true e more = ap (λ (j : ℕ). steps_of_deed act.deed + j) more
both_by act rest zero false e more = refl
both_by act rest (suc j) false e more =
    let n : ℕ = steps_of_deed act.deed in
    let r : ℕ = steps_of_acts rest in
    let below : suc j < n = grind (arith, nat_tests, e) in
    let all : suc j + ((n - suc j) + r) ≡ n + r = omega (arith, below) in
    all

pub both_count : (acts : List Act) (k : ℕ) → steps_of_acts (acts_until k acts ++ acts_from k acts) ≡ steps_of_acts acts
unfolding acts_until acts_from steps_of_acts
both_count [] k = refl
both_count (act ∷ rest) k =
    both_by act rest k (nat_le (steps_of_deed act.deed) k) refl (both_count rest (k - steps_of_deed act.deed))

-- WHERE THEY LEAD

first_leads : (images : List Entry) (sizes : Sizes) (line : ℕ) (stubs : List Stub) (k : ℕ) (m : PastMoment)
    → moment_after_acts images sizes (first_steps line stubs k) m ≡ moment_after_steps stubs images k m
unfolding moment_after_acts
first_leads images sizes line stubs zero m = sym (none_left stubs images m)
first_leads images sizes line stubs (suc k) m = refl

none_of_both : (f : Bool) (a b n : ℕ) → a + b ≡ n → ((f && (a == 0)) && (b == 0)) ≡ (f && (n == 0))
none_of_both f a b n e = grind (arith, nat_tests, e)

steps_both : (stubs : List Stub) (images : List Entry) (a b n : ℕ) (m : PastMoment) → a + b ≡ n
    → moment_after_steps stubs images b (moment_after_steps stubs images a m) ≡ moment_after_steps stubs images n m
steps_both stubs images a b n m e =
    let same = sym (steps_added stubs images a b m.machine) ∙ ap (λ (k : ℕ). steps_after stubs images k m.machine) e in
    λ i. record { machine = same i; is_fresh = none_of_both m.is_fresh a b n e i }

pair_leads : (images : List Entry) (sizes : Sizes) (line : ℕ) (stubs : List Stub) (a b : ℕ) (rest : List Act) (m : PastMoment)
    → moment_after_acts images sizes (steps_act line stubs a ∷ (steps_act line stubs b ∷ rest)) m
    ≡ moment_after_acts images sizes rest (moment_after_steps stubs images b (moment_after_steps stubs images a m))
unfolding moment_after_acts
pair_leads images sizes line stubs a b rest m = refl

one_leads : (images : List Entry) (sizes : Sizes) (line : ℕ) (stubs : List Stub) (n : ℕ) (rest : List Act) (m : PastMoment)
    → moment_after_acts images sizes (steps_act line stubs n ∷ rest) m ≡ moment_after_acts images sizes rest (moment_after_steps stubs images n m)
unfolding moment_after_acts
one_leads images sizes line stubs n rest m = refl

-- steps that became two acts, up to a moment: before the cut, between it and their end, or behind that
cut_leads : (images : List Entry) (sizes : Sizes) (line : ℕ) (stubs : List Stub) (a b c n : ℕ) (rest : List Act) (m : PastMoment) (x y : Bool)
    → a + b ≡ c → 0 < b → nat_le a n ≡ x → nat_le c n ≡ y
    → moment_after_acts images sizes (acts_until n (steps_act line stubs a ∷ (steps_act line stubs b ∷ rest))) m
    ≡ moment_after_acts images sizes (acts_until n (steps_act line stubs c ∷ rest)) m
cut_leads images sizes line stubs a b c n rest m false y all some e f =
    let one : n < a = grind (arith, nat_tests, e) in
    let two : n < c = omega (arith, one, all) in
    ap (λ (xs : List Act). moment_after_acts images sizes xs m)
    (cut_by (steps_act line stubs a) (steps_act line stubs b ∷ rest) n one ∙ sym (cut_by (steps_act line stubs c) rest n two))
cut_leads images sizes line stubs a b c n rest m true false all some e f =
    let one : a ≤ n = grind (arith, nat_tests, e) in
    let two : n < c = grind (arith, nat_tests, f) in
    let less : n - a < b = omega (arith, one, two, all) in
    let sum : a + (n - a) ≡ n = omega (arith, one) in
    ap (λ (xs : List Act). moment_after_acts images sizes xs m)
    (kept_by (steps_act line stubs a) (steps_act line stubs b ∷ rest) n one
    ∙ ap (λ (xs : List Act). steps_act line stubs a ∷ xs) (cut_by (steps_act line stubs b) rest (n - a) less))
    ∙ one_leads images sizes line stubs a (first_steps line stubs (n - a)) m
    ∙ first_leads images sizes line stubs (n - a) (moment_after_steps stubs images a m)
    ∙ steps_both stubs images a (n - a) n m sum
    ∙ sym (first_leads images sizes line stubs n m)
    ∙ ap (λ (xs : List Act). moment_after_acts images sizes xs m) (sym (cut_by (steps_act line stubs c) rest n two))
cut_leads images sizes line stubs a b c n rest m true true all some e f =
    let one : a ≤ n = grind (arith, nat_tests, e) in
    let two : c ≤ n = grind (arith, nat_tests, f) in
    let fits : b ≤ n - a = omega (arith, one, two, all) in
    let left : (n - a) - b ≡ n - c = omega (arith, one, two, all) in
    ap (λ (xs : List Act). moment_after_acts images sizes xs m)
    (kept_by (steps_act line stubs a) (steps_act line stubs b ∷ rest) n one
    ∙ ap (λ (xs : List Act). steps_act line stubs a ∷ xs) (kept_by (steps_act line stubs b) rest (n - a) fits))
    ∙ pair_leads images sizes line stubs a b (acts_until ((n - a) - b) rest) m
    ∙ (λ i. moment_after_acts images sizes (acts_until (left i) rest) (steps_both stubs images a b c m all i))
    ∙ sym (one_leads images sizes line stubs c (acts_until (n - c) rest) m)
    ∙ ap (λ (xs : List Act). moment_after_acts images sizes xs m) (sym (kept_by (steps_act line stubs c) rest n two))

-- only steps count more than one
count_most : (b : Bool) (j : ℕ) → suc j < (if b then 1 else 0) → zero ≡ suc j
count_most true j h = absurd (omega (arith, h))
count_most false j h = absurd (omega (arith, h))

within_leads : (images : List Entry) (sizes : Sizes) (line j n : ℕ) (d : PastDeed) (rest : List Act) (m : PastMoment)
    → suc j < steps_of_deed d
    → moment_after_acts images sizes (acts_until n (steps_act line (stubs_of_deed d) (suc j) ∷ (steps_act line (stubs_of_deed d) (steps_of_deed d - suc j) ∷ rest))) m
    ≡ moment_after_acts images sizes (acts_until n (record { line = line; deed = d } ∷ rest)) m
within_leads images sizes line j n (deed.Steps stubs count) rest m h =
    let all : suc j + (count - suc j) ≡ count = omega (arith, h) in
    let some : 0 < count - suc j = omega (arith, h) in
    cut_leads images sizes line stubs (suc j) (count - suc j) count n rest m (nat_le (suc j) n) (nat_le count n) all some refl refl
within_leads images sizes line j n deed.FaultingStep rest m h = absurd (omega (arith, h))
within_leads images sizes line j n (deed.Boot name) rest m h = absurd (omega (arith, h))
within_leads images sizes line j n (deed.Call number true) rest m h = absurd (omega (arith, h))
within_leads images sizes line j n (deed.Call number false) rest m h = absurd (omega (arith, h))
within_leads images sizes line j n (deed.Load text true) rest m h = absurd (omega (arith, h))
within_leads images sizes line j n (deed.Load text false) rest m h = absurd (omega (arith, h))
within_leads images sizes line j n (deed.Register number value) rest m h = absurd (omega (arith, h))
within_leads images sizes line j n (deed.Word address value) rest m h = absurd (omega (arith, h))
within_leads images sizes line j n (deed.Banked mode number value) rest m h = absurd (omega (arith, h))
within_leads images sizes line j n (deed.Place address) rest m h = absurd (omega (arith, h))
within_leads images sizes line j n (deed.Routine address link) rest m h = absurd (omega (arith, h))
within_leads images sizes line j n (deed.Status status) rest m h = absurd (omega (arith, h))
within_leads images sizes line j n deed.Woken rest m h = absurd (omega (arith, h))
within_leads images sizes line j n (deed.Bytes address bytes) rest m h = absurd (omega (arith, h))
within_leads images sizes line j n deed.Anew rest m h = absurd (omega (arith, h))

-- the same act before others that lead where these lead
head_by : (images : List Entry) (sizes : Sizes) (act : Act) (xs ys : List Act) (n : ℕ) (m : PastMoment) (b : Bool)
    → ((x : PastMoment) → moment_after_acts images sizes (acts_until (n - steps_of_deed act.deed) xs) x
    ≡ moment_after_acts images sizes (acts_until (n - steps_of_deed act.deed) ys) x)
    → moment_after_acts images sizes (if b then act ∷ acts_until (n - steps_of_deed act.deed) xs else first_steps act.line (stubs_of_deed act.deed) n) m
    ≡ moment_after_acts images sizes (if b then act ∷ acts_until (n - steps_of_deed act.deed) ys else first_steps act.line (stubs_of_deed act.deed) n) m
unfolding moment_after_acts
head_by images sizes act xs ys n m true more = more (moment_after_deed images sizes act.deed m)
head_by images sizes act xs ys n m false more = refl

same_head : (images : List Entry) (sizes : Sizes) (act : Act) (xs ys : List Act) (n : ℕ) (m : PastMoment)
    → ((x : PastMoment) → moment_after_acts images sizes (acts_until (n - steps_of_deed act.deed) xs) x
    ≡ moment_after_acts images sizes (acts_until (n - steps_of_deed act.deed) ys) x)
    → moment_after_acts images sizes (acts_until n (act ∷ xs)) m ≡ moment_after_acts images sizes (acts_until n (act ∷ ys)) m
unfolding acts_until
same_head images sizes act xs ys n m more = head_by images sizes act xs ys n m (nat_le (steps_of_deed act.deed) n) more

ahead_by : (images : List Entry) (sizes : Sizes) (act : Act) (rest : List Act) (k n : ℕ) (m : PastMoment) (b : Bool)
    → nat_le (steps_of_deed act.deed) k ≡ b
    → ((x : PastMoment) → moment_after_acts images sizes (acts_until (n - steps_of_deed act.deed)
    (acts_until (k - steps_of_deed act.deed) rest ++ acts_from (k - steps_of_deed act.deed) rest)) x
    ≡ moment_after_acts images sizes (acts_until (n - steps_of_deed act.deed) rest) x)
    → moment_after_acts images sizes (acts_until n ((if b then act ∷ acts_until (k - steps_of_deed act.deed) rest else first_steps act.line (stubs_of_deed act.deed) k)
    ++ (if b then acts_from (k - steps_of_deed act.deed) rest else act_behind k act ∷ rest))) m
    ≡ moment_after_acts images sizes (acts_until n (act ∷ rest)) m
ahead_by images sizes act rest k n m true e more =
    same_head images sizes act (acts_until (k - steps_of_deed act.deed) rest ++ acts_from (k - steps_of_deed act.deed) rest) rest n m more
ahead_by images sizes act rest zero n m false e more = refl
ahead_by images sizes act rest (suc j) n m false e more =
    let below : suc j < steps_of_deed act.deed = grind (arith, nat_tests, e) in
    within_leads images sizes act.line j n act.deed rest m below

ahead_leads : (images : List Entry) (sizes : Sizes) (acts : List Act) (k n : ℕ) (m : PastMoment)
    → moment_after_acts images sizes (acts_until n (acts_until k acts ++ acts_from k acts)) m
    ≡ moment_after_acts images sizes (acts_until n acts) m
unfolding acts_until acts_from
ahead_leads images sizes [] k n m = refl
ahead_leads images sizes (act ∷ rest) k n m =
    let c : ℕ = steps_of_deed act.deed in
    ahead_by images sizes act rest k n m (nat_le c k) refl (ahead_leads images sizes rest (k - c) (n - c))

pub back_and_ahead : BackAndAhead
back_and_ahead images sizes p first second =
    ahead_leads images sizes (p.acts ++ p.ahead) first second (record { machine = _; is_fresh = true })

-- HOW THEY ARE KEPT

-- a cut before an act
first_none : (acts : List Act) → first_cut acts 0 ≡ []
first_none [] = refl
first_none (act ∷ rest) = refl

behind_none : (acts : List Act) → behind_cut acts 0 ≡ acts
behind_none [] = refl
behind_none (act ∷ rest) = refl

pub cut_between : (acts : List Act) (i left : ℕ) → left ≡ 0
    → acts ≡ (take i acts ++ first_cut (drop i acts) left) ++ behind_cut (drop i acts) left
cut_between acts i zero none =
    let first = first_none (drop i acts) in
    let behind = behind_none (drop i acts) in
    sym (take-append-drop i acts) ∙ ap (λ (xs : List Act). xs ++ drop i acts) (sym (append-nil (take i acts)))
    ∙ sym (λ j. (take i acts ++ first j) ++ behind j)
cut_between acts i (suc left) none = absurd (omega (arith, none))

pub count_between : (acts : List Act) (i left : ℕ) → i < length acts → left ≡ 0
    → i ≡ length (take i acts ++ first_cut (drop i acts) left)
count_between acts i zero below none =
    let within : i ≤ length acts = omega (arith, below) in
    sym (length-take-le i acts within) ∙ ap length (sym (append-nil (take i acts)))
    ∙ sym (ap (λ (xs : List Act). length (take i acts ++ xs)) (first_none (drop i acts)))
count_between acts i (suc left) below none = absurd (omega (arith, none))

-- a cut within an act
last_length : (xs : List Act) (x : Act) → length (xs ++ x ∷ []) ≡ length xs + 1
last_length [] x = refl
last_length (y ∷ xs) x = let more = last_length xs x in omega (arith, more)

front_length : (acts : List Act) (i : ℕ) (act : Act) → i < length acts → length (take i acts ++ act ∷ []) ≡ i + 1
front_length acts i act below =
    let within : i ≤ length acts = omega (arith, below) in
    last_length (take i acts) act ∙ ap (λ (n : ℕ). n + 1) (length-take-le i acts within)

set_behind : (acts : List Act) (i : ℕ) (act one two : Act) → i < length acts
    → set (take i acts ++ one ∷ drop i acts) (i + 1) two ≡ (take i acts ++ one ∷ []) ++ two ∷ drop (i + 1) acts
set_behind acts i act one two below =
    let split = drop_more acts i act below in
    ap (λ (xs : List Act). set (take i acts ++ one ∷ xs) (i + 1) two) split
    ∙ ap (λ (xs : List Act). set xs (i + 1) two) (sym (append_assoc (take i acts) (one ∷ []) _))
    ∙ set_at (take i acts ++ one ∷ []) _ (drop (i + 1) acts) two (i + 1) (front_length acts i one below)

-- the act in which a cut lies, and what follows it
split_here : (acts : List Act) (i : ℕ) (act : Act) → i < length acts → act ≡ get_or acts i act
    → drop i acts ≡ act ∷ drop (i + 1) acts
split_here acts i act below is = drop_more acts i act below ∙ ap (λ (a : Act). a ∷ drop (i + 1) acts) (sym is)

pub cut_within : (acts : List Act) (i left : ℕ) (act first rest : Act) → i < length acts → 0 < left → act ≡ get_or acts i act
    → first ≡ steps_act act.line (stubs_of_deed act.deed) left
    → rest ≡ steps_act act.line (stubs_of_deed act.deed) (steps_of_deed act.deed - left)
    → set (take i acts ++ first ∷ drop i acts) (i + 1) rest
    ≡ (take i acts ++ first_cut (drop i acts) left) ++ behind_cut (drop i acts) left
cut_within acts i zero act first rest below some is e f = absurd (omega (arith, some))
cut_within acts i (suc left) act first rest below some is e f =
    let split = split_here acts i act below is in
    set_behind acts i act first rest below
    ∙ (λ j. (take i acts ++ (e j) ∷ []) ++ (f j) ∷ drop (i + 1) acts)
    ∙ sym (λ j. (take i acts ++ first_cut (split j) (suc left)) ++ behind_cut (split j) (suc left))

first_one : (rest : List Act) (left : ℕ) → 0 < length rest → 0 < left → length (first_cut rest left) ≡ 1
first_one [] left some within = absurd (omega (arith, some))
first_one (act ∷ rest) zero some within = absurd (omega (arith, within))
first_one (act ∷ rest) (suc left) some within = refl

pub count_within : (acts : List Act) (i left : ℕ) → i < length acts → 0 < left
    → i + 1 ≡ length (take i acts ++ first_cut (drop i acts) left)
count_within acts i left below within =
    let many = length-drop i acts in
    let some : 0 < length (drop i acts) = omega (arith, many, below) in
    let one = first_one (drop i acts) left some within in
    let front = length-take-le i acts (omega (arith, below)) in
    let both = length-append (take i acts) (first_cut (drop i acts) left) in
    omega (arith, one, front, both)

-- the acts before a place and those behind it
pub parted : (front back items : List Act) (n : ℕ) → items ≡ front ++ back → n ≡ length front → take n items ≡ front
parted front back items n all count =
    (λ i. take (count i) (all i)) ∙ take-append_seam front back

pub parted_behind : (front back items : List Act) (n : ℕ) → items ≡ front ++ back → n ≡ length front → drop n items ≡ back
parted_behind front back items n all count =
    (λ i. drop (count i) (all i)) ∙ drop-append_seam front back

both_length : (xs ys : List Act) → length xs ≤ length (xs ++ ys)
both_length [] ys = omega arith
both_length (x ∷ xs) ys = let more = both_length xs ys in omega (arith, more)

pub front_within : (front back items : List Act) (n : ℕ) → items ≡ front ++ back → n ≡ length front → n ≤ length items
front_within front back items n all count =
    let sum = both_length front back in
    let same = ap length all in
    omega (arith, count, sum, same)
