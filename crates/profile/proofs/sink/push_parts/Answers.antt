use Rattle.std.proofs.Common.{arith}
use Rattle.profile.proofs.OutputLemmas.{AddsPart-from_parts}
use Rattle.profile.proofs.sink.push_parts.Goals as goal

pub returns-in_err-push_all-clause-part : goal.returns-in_err-push_all-clause-part
returns-in_err-push_all-clause-part g c =
    let part = AddsPart-from_parts (λ p. p.now) _ _ _ _ _ _ _ c.loop-part-test.true c.loop-part.invariant.text c.in_err-push_all.ensures.part in
    grind (arith, part)
