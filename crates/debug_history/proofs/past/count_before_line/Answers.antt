use Rattle.std.proofs.Common.{◌≡◌, ◌<◌, ℕ, ◌+◌, ◌-◌, List, length, take, ◌∙◌, ap, subst, sym, arith}
use Rattle.debug_history.specs.Past.{acts_before_line}
use Rattle.debug_history.specs.declared.act.Act.{Act}
use Rattle.debug_history.proofs.PastLemmas.{line_ends, line_goes_on, line_never}
use Rattle.debug_history.proofs.past.count_before_line.Goals as goal

pub loop-count-preserved : goal.loop-count-preserved
loop-count-preserved c =
    let acts : List Act = c.args.acts.now in
    let some = c.loop-count-test.true in
    let most = c.loop-count.invariant.most in
    let n : ℕ = c.loop-count.count - 1 in
    let e : n + 1 ≡ c.loop-count.count = omega (arith, some) in
    let below : n < length acts = omega (arith, some, most) in
    record {
      most = omega (arith, most);
      before = line_goes_on acts c.args.line n c.index-acts-count.result below c.index-acts-count.is
          (ap (λ (a : Act). a.line) c.index-acts-count.is ∙ c.if-acts-count.true)
          (subst (λ (k : ℕ). acts_before_line c.args.line (take k acts) ≡ acts_before_line c.args.line acts) (sym e)
          c.loop-count.invariant.before);
    }

pub returns-else-acts-count-clause-before : goal.returns-else-acts-count-clause-before
returns-else-acts-count-clause-before c =
    let acts : List Act = c.args.acts.now in
    let some = c.loop-count-test.true in
    let most = c.loop-count.invariant.most in
    let n : ℕ = c.loop-count.count - 1 in
    let e : n + 1 ≡ c.loop-count.count = omega (arith, some) in
    let below : n < length acts = omega (arith, some, most) in
    line_ends acts c.args.line n c.index-acts-count.result below c.index-acts-count.is
    (λ e. c.if-acts-count.false (ap (λ (a : Act). a.line) (sym c.index-acts-count.is) ∙ e))
    (subst (λ (k : ℕ). acts_before_line c.args.line (take k acts) ≡ acts_before_line c.args.line acts) (sym e)
    c.loop-count.invariant.before) ∙ ap (λ (k : ℕ). take k acts) e

pub returns-after-loop-count-clause-before : goal.returns-after-loop-count-clause-before
returns-after-loop-count-clause-before c =
    let acts : List Act = c.args.acts.now in
    let none : c.loop-count.count ≡ 0 = omega (arith, c.loop-count-test.false) in
    line_never acts c.args.line
    (subst (λ (k : ℕ). acts_before_line c.args.line (take k acts) ≡ acts_before_line c.args.line acts) none
    c.loop-count.invariant.before) ∙ ap (λ (k : ℕ). take k acts) (sym none)
