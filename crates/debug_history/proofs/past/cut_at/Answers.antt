use Rattle.std.proofs.Common.{◌≡◌, ◌<◌, ◌≤◌, ℕ, ◌+◌, ◌-◌, ◌∙◌, List, ap, length, refl, subst, sym, arith}
use Rattle.debug_history.specs.Acts.{steps_of_deed}
use Rattle.debug_history.specs.declared.act.Act.{Act}
use Rattle.debug_history.proofs.PastLemmas.{IsCutBehind, IsCutFrom, behind_goes_on, behind_here, behind_nowhere, cut_goes_on, cut_here, cut_nowhere}
use Rattle.debug_history.proofs.past.cut_at.Goals as goal

pub returns-then-count-left-clause-until : goal.returns-then-count-left-clause-until
returns-then-count-left-clause-until c =
    let acts : List Act = c.args.acts.now in
    let act : Act = c.index-acts-index.result in
    let i : ℕ = c.loop-index.index in
    let below : i < length acts = omega arith in
    let one = c.steps-count.ensures in
    let test = c.if-count-left.true in
    let more : c.loop-index.left < steps_of_deed act.deed = omega (arith, one, test) in
    cut_here acts c.args.step i c.loop-index.left act below c.index-acts-index.is more c.loop-index.invariant.until

pub loop-index-preserved : goal.loop-index-preserved
loop-index-preserved c =
    let acts : List Act = c.args.acts.now in
    let act : Act = c.index-acts-index.result in
    let i : ℕ = c.loop-index.index in
    let below : i < length acts = omega arith in
    let one = c.steps-count.ensures in
    let test = c.if-count-left.false in
    let few : steps_of_deed act.deed ≤ c.loop-index.left = omega (arith, one, test) in
    record {
      until = subst (λ (k : ℕ). IsCutFrom acts c.args.step (i + 1) (c.loop-index.left - k)) (sym one)
          (cut_goes_on acts c.args.step i c.loop-index.left act below c.index-acts-index.is few c.loop-index.invariant.until);
      behind = subst (λ (k : ℕ). IsCutBehind acts c.args.step (i + 1) (c.loop-index.left - k)) (sym one)
          (behind_goes_on acts c.args.step i c.loop-index.left act below c.index-acts-index.is few c.loop-index.invariant.behind);
    }

pub returns-clause-until : goal.returns-clause-until
returns-clause-until c =
    let acts : List Act = c.args.acts.now in
    let i : ℕ = c.loop-index.index in
    let all : length acts ≤ i = omega arith in
    cut_nowhere acts c.args.step i c.loop-index.left all c.loop-index.invariant.until

pub loop-index-init : goal.loop-index-init
loop-index-init c = record { until = refl; behind = refl }

pub returns-then-count-left-clause-from : goal.returns-then-count-left-clause-from
returns-then-count-left-clause-from c =
    let acts : List Act = c.args.acts.now in
    let act : Act = c.index-acts-index.result in
    let i : ℕ = c.loop-index.index in
    let below : i < length acts = omega arith in
    let one = c.steps-count.ensures in
    let test = c.if-count-left.true in
    let more : c.loop-index.left < steps_of_deed act.deed = omega (arith, one, test) in
    behind_here acts c.args.step i c.loop-index.left act below c.index-acts-index.is more c.loop-index.invariant.behind

pub returns-clause-from : goal.returns-clause-from
returns-clause-from c =
    let acts : List Act = c.args.acts.now in
    let i : ℕ = c.loop-index.index in
    let all : length acts ≤ i = omega arith in
    behind_nowhere acts c.args.step i c.loop-index.left all c.loop-index.invariant.behind
