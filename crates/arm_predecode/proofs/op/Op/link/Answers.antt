use Rattle.std.proofs.Common.{◌≡◌, ap, refl, ◌∙◌, sym}
use Rattle.arm_predecode.proofs.Known.{branches}
use Rattle.arm_predecode.proofs.op.Op.link.Goals as goal

pub invariant_of-result : goal.invariant_of-result
invariant_of-result c = c.link_kind-kind.ensures _ (branches _ _ _ c.requires.form c.requires.condition c.requires.links c.distance_in-value.ensures)
