use Rattle.std.proofs.Common.{◌≡◌, ◌<◌, ◌≤◌, ℕ, ◌+◌, List, length, drop, arith}
use Rattle.debug_history.specs.Acts.{steps_of_acts, steps_of_deed}
use Rattle.debug_history.specs.declared.act.Act.{Act}
use Rattle.debug_history.proofs.PastLemmas.{counted_first, counted_none}
use Rattle.debug_history.proofs.past.count_steps.Goals as goal

pub overflow_add-steps : goal.overflow_add-steps
overflow_add-steps c =
    let acts : List Act = c.args.acts.now in
    let i : ℕ = c.loop-act.act-index in
    let below : i < length acts = omega arith in
    let first = counted_first acts i c.act-item.result below c.act-item.is in
    let all = c.loop-act.invariant in
    let one = c.steps-steps.ensures in
    let fits = c.requires in
    omega (arith, first, all, one, fits)

pub loop-act-preserved : goal.loop-act-preserved
loop-act-preserved c =
    let acts : List Act = c.args.acts.now in
    let i : ℕ = c.loop-act.act-index in
    let below : i < length acts = omega arith in
    let first = counted_first acts i c.act-item.result below c.act-item.is in
    let all = c.loop-act.invariant in
    let one = c.steps-steps.ensures in
    let e : (c.loop-act.steps + c.steps-steps.result) + steps_of_acts (drop (i + 1) acts) ≡ steps_of_acts acts =
    omega (arith, first, all, one) in
    e

pub returns : goal.returns
returns c =
    let acts : List Act = c.args.acts.now in
    let i : ℕ = c.loop-act.act-index in
    let over : length acts ≤ i = omega arith in
    let none = counted_none acts i over in
    let all = c.loop-act.invariant in
    omega (arith, none, all)
