use Rattle.std.proofs.Common.{◌≤◌, ◌≡◌, ◌∙◌, ℕ, List, ap, arith, length, take, sym}
use Rattle.debug_history.specs.Acts.{steps_of_acts}
use Rattle.debug_history.specs.declared.act.Act.{Act}
use Rattle.debug_history.proofs.AheadLemmas.{both_count, front_within}
use Rattle.debug_history.proofs.PastLemmas.{fewer_taken}
use Rattle.debug_history.proofs.past.Past.move_to.Goals as goal

pub count_steps-self-inside-requires : goal.count_steps-self-inside-requires
count_steps-self-inside-requires c =
    let items : List Act = c.split_at.new.acts.items in
    let fewer = fewer_taken items c.in_ok-done.done in
    let same = ap (λ (xs : List Act). steps_of_acts (take c.in_ok-done.done xs)) c.as_slice.ensures.value in
    let both = ap steps_of_acts c.in_ok-done.ensures.items ∙ both_count c.self.inside.acts.items c.args.step in
    let all = c.self.invariant.2 in
    omega (arith, fewer, same, both, all)

pub invariant_of-self-2 : goal.invariant_of-self-2
invariant_of-self-2 c =
    let items : List Act = c.split_at.new.acts.items in
    let both = ap steps_of_acts c.in_ok-done.ensures.items ∙ both_count c.self.inside.acts.items c.args.step in (
      front_within _ _ items c.in_ok-done.done c.in_ok-done.ensures.items c.in_ok-done.ensures.count,
      c.count_steps-self-inside.ensures ∙ ap (λ (xs : List Act). steps_of_acts (take c.in_ok-done.done xs)) c.as_slice.ensures.value,
      c.self.invariant.2 ∙ sym both,
    )
