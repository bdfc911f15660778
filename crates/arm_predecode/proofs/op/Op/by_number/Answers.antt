use Rattle.std.proofs.Common.{◌≡◌, ap, refl, ◌∙◌, sym}
use Rattle.arm_predecode.proofs.Known.{by_number}
use Rattle.arm_predecode.proofs.op.Op.by_number.Goals as goal

pub invariant_of-result : goal.invariant_of-result
invariant_of-result c =
    c.number_kind-kind.ensures _ (by_number c.args.transfer.now _ c.requires.form c.requires.always c.requires.fields c.requires.allowed c.requires.rd c.requires.rn
    c.number-rd.ensures.value c.number-rn.ensures.value c.added_in-value.ensures)
