use Rattle.std.proofs.Common.{◌≡◌, ap, refl, ◌∙◌, sym}
use Rattle.arm_core.specs.ShiftedRegister.{ShiftedRegister}
use Rattle.arm_predecode.proofs.Known.{by_offset}
use Rattle.arm_predecode.proofs.op.Op.by_offset.Goals as goal

pub invariant_of-result : goal.invariant_of-result
invariant_of-result c =
    c.offset_kind-kind.ensures _ (by_offset c.args.transfer.now _ c.requires.form c.requires.always c.requires.fields c.requires.allowed c.requires.rd c.requires.rn
    c.number-rd.ensures.value c.number-rn.ensures.value c.requires.up
    (c.number-rm.ensures.value ∙ ap (λ (x : ShiftedRegister). x.rm) c.in_word-shifted.ensures) c.requires.rm
    (c.number-value.ensures.value ∙ ap (λ (x : ShiftedRegister). x.amount) c.in_word-shifted.ensures) c.number-value.ensures.below c.requires.shift)
