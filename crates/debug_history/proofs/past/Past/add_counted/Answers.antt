use Rattle.std.proofs.Common.{◌≡◌, ◌<◌, ◌≤◌, ◌^◌, ◌+◌, ◌∙◌, ℕ, Bool, true, false, List, [], ◌∷◌, ◌++◌, ap, arith, drop, length, refl, take, sym, if◌then◌else◌}
use Rattle.std.specs.Prelude.{nat_lt}
use Rattle.std.proofs.Math.Seq.{take-length}
use Rattle.std.proofs.lemmas.Bool.Decides.{nat_tests}
use Rattle.std.proofs.lemmas.List.{drop_all}
use Rattle.debug_history.specs.Acts.{steps_of_acts, steps_of_deed}
use Rattle.debug_history.specs.Past.{PastState, past_with_act, unknown_past}
use Rattle.debug_history.specs.declared.act.Act.{Act}
use Rattle.debug_history.proofs.ActLemmas.{steps_with_one}
use Rattle.debug_history.proofs.past.Past.add_counted.Goals as goal

-- the past with an act more, where it is known and the steps are few enough
added_by : (p : PastState) (act : Act) (b c : Bool) → b ≡ true → c ≡ true → record p { acts = p.acts ++ act ∷ []; ahead = [] }
    ≡ (if b then (if c then record p { acts = p.acts ++ act ∷ []; ahead = [] } else unknown_past) else p)
added_by p act true true kept few = refl
added_by p act true false kept few = absurd (cc)
added_by p act false c kept few = absurd (cc)

few_enough : (n : ℕ) → n < 2 ^ 64 → nat_lt n (2 ^ 64) ≡ true
few_enough n h = grind (arith, nat_tests, h)

added : (p : PastState) (act : Act) → p.is_kept ≡ true → steps_of_acts p.acts + steps_of_deed act.deed < 2 ^ 64
    → record p { acts = p.acts ++ act ∷ []; ahead = [] } ≡ past_with_act p act
added p act kept fits =
    added_by p act p.is_kept (nat_lt (steps_of_acts p.acts + steps_of_deed act.deed) (2 ^ 64)) kept
    (few_enough (steps_of_acts p.acts + steps_of_deed act.deed) fits)

pub invariant_of-self-2 : goal.invariant_of-self-2
invariant_of-self-2 c =
    let items : List Act = c.push.new.self.items in
    let before : List Act = take c.self.inside.done c.self.inside.acts.items in
    let count : c.len-self-inside.result ≡ length items = omega (arith, c.len-self-inside.ensures, c.push.new.self.ok.0) in
    let whole : take c.len-self-inside.result items ≡ items = ap (λ (n : ℕ). take n items) count ∙ take-length items in
    let counted = ap steps_of_acts (c.in_ok-push.ensures.items ∙ ap (λ (xs : List Act). xs ++ c.args.act ∷ []) c.truncate.ensures.items)
    ∙ steps_with_one before c.args.act in
    let sum = c.requires.counted in
    let same = ap (λ (p : PastState). steps_of_acts p.acts) c.self.view_is in
    let all : c.args.steps ≡ steps_of_acts items = omega (arith, counted, sum, same) in
    (omega (arith, count), all ∙ sym (ap steps_of_acts whole), all)

pub returns : goal.returns
returns c =
    let items : List Act = c.push.new.self.items in
    let before : List Act = take c.self.inside.done c.self.inside.acts.items in
    let old : PastState = record {
      is_kept = c.self.inside.is_kept;
      acts = before;
      ahead = drop c.self.inside.done c.self.inside.acts.items;
    } in
    let count : c.len-self-inside.result ≡ length items = omega (arith, c.len-self-inside.ensures, c.push.new.self.ok.0) in
    let whole : take c.len-self-inside.result items ≡ items = ap (λ (n : ℕ). take n items) count ∙ take-length items in
    let all : length items ≤ c.len-self-inside.result = omega (arith, count) in
    let acts : take c.len-self-inside.result items ≡ before ++ c.args.act ∷ [] =
    whole ∙ c.in_ok-push.ensures.items ∙ ap (λ (xs : List Act). xs ++ c.args.act ∷ []) c.truncate.ensures.items in
    let none : drop c.len-self-inside.result items ≡ [] = drop_all c.len-self-inside.result items all in
    let sum = c.requires.counted in
    let most = c.ranges.steps in
    let same = ap (λ (p : PastState). steps_of_acts p.acts) c.self.view_is in
    let fits : steps_of_acts before + steps_of_deed c.args.act.deed < 2 ^ 64 = omega (arith, sum, most, same) in
    let kept = ap (λ (p : PastState). p.is_kept) c.self.view_is ∙ c.requires.kept in
    (λ i. record { is_kept = c.self.inside.is_kept; acts = acts i; ahead = none i }) ∙ added old c.args.act kept fits
    ∙ ap (λ (p : PastState). past_with_act p c.args.act) c.self.view_is
