-- Acts that are cut, and how many steps are left of them.
use Rattle.std.proofs.Common.{◌≡◌, ◌≢◌, ◌<◌, ◌≤◌, ℕ, Bool, true, false, suc, ◌+◌, ◌-◌, ◌&&◌, ◌==◌, Option, Some, None, List, [], ◌∷◌, ◌++◌, length, get_or, take, drop, refl, sym, ◌∙◌, ap, arith, append_assoc, if◌then◌else◌}
use Rattle.std.specs.Prelude.{map, nat_le}
use Rattle.std.specs.List.{last_or, slice_get}
use Rattle.std.specs.Option.{option_map}
use Rattle.std.proofs.lemmas.Bool.Decides.{nat_tests}
use Rattle.std.proofs.lemmas.List.{drop_all, drop_more, take-append-drop, take_more}
use Rattle.std.proofs.lemmas.Option.{get_or_from_slice_get, slice_get-get_or}
use Rattle.debug_history.specs.Acts.{is_anew, steps_of_acts, steps_of_deed, stubs_of_deed}
use Rattle.debug_history.specs.Cutting.{behind_cut, first_cut}
use Rattle.debug_history.specs.Past.{act_behind, acts_before_line, acts_from, acts_until, ends_anew, first_steps, line_of_last_act}
use Rattle.debug_history.specs.declared.act.Act.{Act}
use Rattle.debug_history.proofs.ActLemmas.{steps_joined, steps_of_none}

-- WHERE ACTS ARE CUT

-- those that stay so far, and those of the rest
abbrev pub IsCutFrom : List Act → ℕ → ℕ → ℕ → Type 0
IsCutFrom acts step i left = acts_until step acts ≡ take i acts ++ acts_until left (drop i acts)

fits : (n left : ℕ) → n ≤ left → nat_le n left ≡ true
fits n left h = grind (arith, nat_tests, h)

pub kept_by : (act : Act) (rest : List Act) (left : ℕ) → steps_of_deed act.deed ≤ left
    → acts_until left (act ∷ rest) ≡ act ∷ acts_until (left - steps_of_deed act.deed) rest
unfolding acts_until
kept_by act rest left h =
    let n : ℕ = steps_of_deed act.deed in
    ap (λ (b : Bool). if b then act ∷ acts_until (left - n) rest else first_steps act.line (stubs_of_deed act.deed) left) (fits n left h)

less : (n left : ℕ) → left < n → nat_le n left ≡ false
less n left h = grind (arith, nat_tests, h)

pub cut_by : (act : Act) (rest : List Act) (left : ℕ) → left < steps_of_deed act.deed
    → acts_until left (act ∷ rest) ≡ first_steps act.line (stubs_of_deed act.deed) left
unfolding acts_until
cut_by act rest left h =
    let n : ℕ = steps_of_deed act.deed in
    ap (λ (b : Bool). if b then act ∷ acts_until (left - n) rest else first_steps act.line (stubs_of_deed act.deed) left) (less n left h)

pub cut_goes_on : (acts : List Act) (step i left : ℕ) (act : Act) → i < length acts → act ≡ get_or acts i act
    → steps_of_deed act.deed ≤ left → IsCutFrom acts step i left → IsCutFrom acts step (i + 1) (left - steps_of_deed act.deed)
cut_goes_on acts step i left act below is few h =
    let rest : List Act = drop (i + 1) acts in
    let more : List Act = acts_until (left - steps_of_deed act.deed) rest in
    let split = drop_more acts i act below ∙ ap (λ (a : Act). a ∷ rest) (sym is) in
    let front = take_more acts i act below ∙ ap (λ (a : Act). take i acts ++ a ∷ []) (sym is) in
    h ∙ ap (λ (xs : List Act). take i acts ++ acts_until left xs) split
    ∙ ap (λ (xs : List Act). take i acts ++ xs) (kept_by act rest left few)
    ∙ sym (append_assoc (take i acts) (act ∷ []) more)
    ∙ sym (ap (λ (xs : List Act). xs ++ more) front)

pub cut_here : (acts : List Act) (step i left : ℕ) (act : Act) → i < length acts → act ≡ get_or acts i act
    → left < steps_of_deed act.deed → IsCutFrom acts step i left → acts_until step acts ≡ take i acts ++ first_cut (drop i acts) left
cut_here acts step i left act below is more h =
    let rest : List Act = drop (i + 1) acts in
    let split = drop_more acts i act below ∙ ap (λ (a : Act). a ∷ rest) (sym is) in
    h ∙ ap (λ (xs : List Act). take i acts ++ acts_until left xs) split
    ∙ ap (λ (xs : List Act). take i acts ++ xs) (cut_by act rest left more)
    ∙ sym (ap (λ (xs : List Act). take i acts ++ first_cut xs left) split)

until_none : (left : ℕ) → acts_until left [] ≡ []
unfolding acts_until
until_none left = refl

pub cut_nowhere : (acts : List Act) (step i left : ℕ) → length acts ≤ i → IsCutFrom acts step i left → acts_until step acts ≡ acts
cut_nowhere acts step i left all h =
    let none = drop_all i acts all in
    h ∙ ap (λ (xs : List Act). take i acts ++ acts_until left xs) none
    ∙ ap (λ (xs : List Act). take i acts ++ xs) (until_none left ∙ sym none)
    ∙ take-append-drop i acts

-- and those behind the cut
abbrev pub IsCutBehind : List Act → ℕ → ℕ → ℕ → Type 0
IsCutBehind acts step i left = acts_from step acts ≡ acts_from left (drop i acts)

passed_by : (act : Act) (rest : List Act) (left : ℕ) → steps_of_deed act.deed ≤ left
    → acts_from left (act ∷ rest) ≡ acts_from (left - steps_of_deed act.deed) rest
unfolding acts_from
passed_by act rest left h =
    let n : ℕ = steps_of_deed act.deed in
    ap (λ (b : Bool). if b then acts_from (left - n) rest else act_behind left act ∷ rest) (fits n left h)

split_by : (act : Act) (rest : List Act) (left : ℕ) → left < steps_of_deed act.deed
    → acts_from left (act ∷ rest) ≡ act_behind left act ∷ rest
unfolding acts_from
split_by act rest left h =
    let n : ℕ = steps_of_deed act.deed in
    ap (λ (b : Bool). if b then acts_from (left - n) rest else act_behind left act ∷ rest) (less n left h)

pub behind_goes_on : (acts : List Act) (step i left : ℕ) (act : Act) → i < length acts → act ≡ get_or acts i act
    → steps_of_deed act.deed ≤ left → IsCutBehind acts step i left → IsCutBehind acts step (i + 1) (left - steps_of_deed act.deed)
behind_goes_on acts step i left act below is few h =
    let split = drop_more acts i act below ∙ ap (λ (a : Act). a ∷ drop (i + 1) acts) (sym is) in
    h ∙ ap (acts_from left) split ∙ passed_by act (drop (i + 1) acts) left few

pub behind_here : (acts : List Act) (step i left : ℕ) (act : Act) → i < length acts → act ≡ get_or acts i act
    → left < steps_of_deed act.deed → IsCutBehind acts step i left
    → acts_from step acts ≡ behind_cut (drop i acts) left
behind_here acts step i left act below is more h =
    let split = drop_more acts i act below ∙ ap (λ (a : Act). a ∷ drop (i + 1) acts) (sym is) in
    h ∙ ap (acts_from left) split ∙ split_by act (drop (i + 1) acts) left more
    ∙ sym (ap (λ (xs : List Act). behind_cut xs left) split)

from_none : (left : ℕ) → acts_from left [] ≡ []
unfolding acts_from
from_none left = refl

pub behind_nowhere : (acts : List Act) (step i left : ℕ) → length acts ≤ i → IsCutBehind acts step i left → acts_from step acts ≡ []
behind_nowhere acts step i left all h = h ∙ ap (acts_from left) (drop_all i acts all) ∙ from_none left

-- HOW MANY STEPS ARE LEFT

pub fewer_taken : (acts : List Act) (n : ℕ) → steps_of_acts (take n acts) ≤ steps_of_acts acts
fewer_taken acts n =
    let both = ap steps_of_acts (sym (take-append-drop n acts)) ∙ steps_joined (take n acts) (drop n acts) in
    omega (arith, both)

first_counted : (act : Act) (rest : List Act) → steps_of_acts (act ∷ rest) ≡ steps_of_deed act.deed + steps_of_acts rest
unfolding steps_of_acts
first_counted act rest = refl

pub counted_first : (acts : List Act) (i : ℕ) (act : Act) → i < length acts → act ≡ get_or acts i act
    → steps_of_acts (drop i acts) ≡ steps_of_deed act.deed + steps_of_acts (drop (i + 1) acts)
counted_first acts i act below is =
    ap steps_of_acts (drop_more acts i act below ∙ ap (λ (a : Act). a ∷ drop (i + 1) acts) (sym is))
    ∙ first_counted act (drop (i + 1) acts)

pub counted_none : (acts : List Act) (i : ℕ) → length acts ≤ i → steps_of_acts (drop i acts) ≡ 0
counted_none acts i all = ap steps_of_acts (drop_all i acts all) ∙ steps_of_none

-- THE LAST LINE

pub before_last : (line : ℕ) (acts : List Act) (act : Act) → (act.line == line) ≡ true
    → acts_before_line line (acts ++ act ∷ []) ≡ acts_before_line line acts
unfolding acts_before_line
before_last line [] act e =
    ap (λ (b : Bool). if true && b then [] else act ∷ []) e
before_last line (first ∷ rest) act e =
    ap (λ (before : List Act). if (length before == 0) && (first.line == line) then [] else first ∷ before)
    (before_last line rest act e)

kept_behind : (xs : List Act) (act : Act) (n : ℕ) → length (xs ++ act ∷ []) ≡ suc n
    → (length (xs ++ act ∷ []) == 0) ≡ false
kept_behind xs act n e = grind (arith, nat_tests, e)

one_more : (xs : List Act) (act : Act) → length (xs ++ act ∷ []) ≡ suc (length xs)
one_more [] act = refl
one_more (x ∷ xs) act = ap suc (one_more xs act)

pub all_before_last : (line : ℕ) (acts : List Act) (act : Act) → (act.line == line) ≡ false
    → acts_before_line line (acts ++ act ∷ []) ≡ acts ++ act ∷ []
unfolding acts_before_line
all_before_last line [] act e = ap (λ (b : Bool). if true && b then [] else act ∷ []) e
all_before_last line (first ∷ rest) act e =
    let all : List Act = rest ++ act ∷ [] in
    ap (λ (before : List Act). if (length before == 0) && (first.line == line) then [] else first ∷ before)
    (all_before_last line rest act e)
    ∙ ap (λ (b : Bool). if b && (first.line == line) then [] else first ∷ all)
    (kept_behind rest act (length rest) (one_more rest act))

before_none : (line : ℕ) → acts_before_line line [] ≡ []
unfolding acts_before_line
before_none line = refl

-- the acts up to the last one of another line
pub line_goes_on : (acts : List Act) (line n : ℕ) (act : Act) → n < length acts → act ≡ get_or acts n act → act.line ≡ line
    → acts_before_line line (take (n + 1) acts) ≡ acts_before_line line acts
    → acts_before_line line (take n acts) ≡ acts_before_line line acts
line_goes_on acts line n act below is same h =
    let front = take_more acts n act below ∙ ap (λ (a : Act). take n acts ++ a ∷ []) (sym is) in
    let e : (act.line == line) ≡ true = grind (arith, nat_tests, same) in
    sym (before_last line (take n acts) act e) ∙ ap (acts_before_line line) (sym front) ∙ h

pub line_ends : (acts : List Act) (line n : ℕ) (act : Act) → n < length acts → act ≡ get_or acts n act → act.line ≢ line
    → acts_before_line line (take (n + 1) acts) ≡ acts_before_line line acts
    → acts_before_line line acts ≡ take (n + 1) acts
line_ends acts line n act below is other h =
    let front = take_more acts n act below ∙ ap (λ (a : Act). take n acts ++ a ∷ []) (sym is) in
    let e : (act.line == line) ≡ false = grind (arith, nat_tests, other) in
    sym h ∙ ap (acts_before_line line) front ∙ all_before_last line (take n acts) act e ∙ sym front

pub line_never : (acts : List Act) (line : ℕ) → acts_before_line line (take 0 acts) ≡ acts_before_line line acts
    → acts_before_line line acts ≡ take 0 acts
line_never acts line h = sym h ∙ before_none line

-- what is last, if anything is
behind_first : (first second : Act) (rest : List Act) (o : Option Act) → slice_get (first ∷ second ∷ rest) (length (first ∷ second ∷ rest) - 1) ≡ o
    → slice_get (second ∷ rest) (length (second ∷ rest) - 1) ≡ o
behind_first first second rest o is =
    let many : length (first ∷ second ∷ rest) - 1 ≡ suc (length (second ∷ rest) - 1) = omega (arith) in
    sym (ap (slice_get (first ∷ second ∷ rest)) many) ∙ is

none_last : (acts : List Act) → slice_get acts (length acts - 1) ≡ None → acts ≡ []
none_last [] is = refl
none_last (first ∷ rest) is =
    let below : length (first ∷ rest) - 1 < length (first ∷ rest) = omega (arith) in
    let some = slice_get-get_or (first ∷ rest) (length (first ∷ rest) - 1) first below in
    absurd (cc)

-- its line
pub last_line : (acts : List Act) (act : Act) (o : Option ℕ) → slice_get acts (length acts - 1) ≡ Some act
    → last_or o (map (λ (a : Act). a.line) acts) ≡ Some act.line
last_line [] act o is = absurd (cc)
last_line (first ∷ []) act o is = ap (option_map (λ (a : Act). a.line)) is
last_line (first ∷ second ∷ rest) act o is =
    last_line (second ∷ rest) act (Some first.line) (behind_first first second rest (Some act) is)

pub no_line : (acts : List Act) → slice_get acts (length acts - 1) ≡ None → None ≡ line_of_last_act acts
no_line acts is = ap line_of_last_act (sym (none_last acts is))

-- whether a machine stands as it was made
pub last_anew : (acts : List Act) (act : Act) (b : Bool) → slice_get acts (length acts - 1) ≡ Some act
    → ends_anew b acts ≡ is_anew act.deed
unfolding ends_anew
last_anew [] act b is = absurd (cc)
last_anew (first ∷ []) act b is = ap (λ (a : Act). is_anew a.deed) (get_or_from_slice_get (first ∷ []) 0 act act is)
last_anew (first ∷ second ∷ rest) act b is =
    last_anew (second ∷ rest) act (is_anew first.deed) (behind_first first second rest (Some act) is)

begins_anew : (b : Bool) → b ≡ ends_anew b []
unfolding ends_anew
begins_anew b = refl

pub none_anew : (acts : List Act) (b : Bool) → slice_get acts (length acts - 1) ≡ None → b ≡ ends_anew b acts
none_anew acts b is = begins_anew b ∙ ap (ends_anew b) (sym (none_last acts is))
