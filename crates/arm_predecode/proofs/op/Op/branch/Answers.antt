use Rattle.std.proofs.Common.{◌≡◌, ap, refl, ◌∙◌, sym}
use Rattle.arm_predecode.proofs.Known.{branches}
use Rattle.arm_predecode.proofs.op.Op.branch.Goals as goal

pub invariant_of-result : goal.invariant_of-result
invariant_of-result c = c.branch_kind-kind.ensures _ (branches _ _ _ c.requires.form c.requires.condition c.requires.plain c.distance_in-value.ensures)
