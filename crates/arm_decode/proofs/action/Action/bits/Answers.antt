use Rattle.std.proofs.Common.{ap, ◌∙◌, sym}
use Rattle.arm_decode.specs.Diagrams.{word_of_diagram, action_fields}
use Rattle.arm_decode.proofs.action.Action.bits.Goals as goal

pub returns-in-Transfer-clause-value : goal.returns-in-Transfer-clause-value
returns-in-Transfer-clause-value c =
    c.bits-in-Transfer.ensures.value ∙ ap (λ a. word_of_diagram (action_fields a)) (sym c.in-Transfer.is)
