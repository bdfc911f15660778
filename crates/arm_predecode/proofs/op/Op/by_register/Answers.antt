use Rattle.std.proofs.Common.{◌≡◌, ap, refl, ◌∙◌, sym}
use Rattle.arm_core.specs.ShiftedRegister.{ShiftedRegister}
use Rattle.arm_predecode.proofs.Known.{by_register}
use Rattle.arm_predecode.proofs.op.Op.by_register.Goals as goal

pub invariant_of-result : goal.invariant_of-result
invariant_of-result c =
    c.register_kind-kind.ensures _ (by_register c.args.operate.now _ c.requires.form c.requires.always c.requires.fields c.requires.allowed c.requires.rd c.requires.rn c.requires.places
    c.number-rd.ensures.value c.number-rn.ensures.value
    (c.number-rm.ensures.value ∙ ap (λ (x : ShiftedRegister). x.rm) c.in_word-shifted.ensures) c.requires.rm c.requires.amount c.requires.shift)
