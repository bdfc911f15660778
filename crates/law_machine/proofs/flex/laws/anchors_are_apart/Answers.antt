use Rattle.law_machine.proofs.FlexLemmas.Apart.{anchors_are_apart}
use Rattle.law_machine.proofs.flex.laws.anchors_are_apart.Goals as goal

pub returns : goal.returns
returns c = anchors_are_apart
