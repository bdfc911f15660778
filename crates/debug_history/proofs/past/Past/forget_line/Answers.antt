use Rattle.std.proofs.Common.{◌∙◌, ap, arith}
use Rattle.debug_history.specs.Acts.{steps_of_acts}
use Rattle.debug_history.proofs.PastLemmas.{fewer_taken}
use Rattle.debug_history.proofs.past.Past.forget_line.Goals as goal

pub count_steps-self-inside-requires : goal.count_steps-self-inside-requires
count_steps-self-inside-requires c =
    let fewer = fewer_taken c.self.inside.acts.items c.count_before_line-done.result in
    let same = ap steps_of_acts (c.as_slice.ensures.value ∙ c.truncate.ensures.items) in
    let all = c.self.invariant.2 in
    omega (arith, fewer, same, all)
