-- Steps that a cut lies within become two acts.
use Rattle.std.proofs.Common.{◌≡◌, ◌+◌, ◌-◌, ◌∙◌, List, ap, arith, get_or}
use Rattle.std.specs.Prelude.{set}
use Rattle.debug_history.specs.Acts.{steps_act, steps_of_deed, stubs_of_deed}
use Rattle.debug_history.specs.declared.act.Act.{Act}
use Rattle.debug_history.proofs.AheadLemmas.{cut_within}
use Rattle.debug_history.proofs.past.split_within.Goals as goal

pub returns-clause-items : goal.returns-clause-items
returns-clause-items c =
    let acts : List Act = c.args.acts.now.items in
    let cut = c.args.cut in
    let act : Act = c.index-items-cut.result in
    let less = c.saturating_sub.ensures in
    let all = c.steps.ensures in
    let count : c.saturating_sub.result ≡ steps_of_deed act.deed - cut.left = omega (arith, less, all) in
    ap (λ (xs : List Act). set xs (cut.index + 1) c.in_ok-rest.rest) c.in_ok-insert.ensures.items
    ∙ cut_within acts cut.index cut.left act c.in_ok-first.first c.in_ok-rest.rest c.requires.there c.requires.within
    (c.index-items-cut.is ∙ ap (λ (xs : List Act). get_or xs cut.index act) c.as_slice-items.ensures.value)
    c.in_ok-first.ensures (c.in_ok-rest.ensures ∙ ap (steps_act act.line (stubs_of_deed act.deed)) count)
