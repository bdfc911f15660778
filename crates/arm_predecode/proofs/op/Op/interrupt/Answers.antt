use Rattle.std.proofs.Common.{◌≡◌, ap, refl, ◌∙◌, sym}
use Rattle.arm_predecode.proofs.Known.{interrupts}
use Rattle.arm_predecode.proofs.op.Op.interrupt.Goals as goal

pub invariant_of-result : goal.invariant_of-result
invariant_of-result c = interrupts _ c.requires.form c.requires.always
