use Rattle.std.proofs.Common.{◌≡◌, ap, refl, ◌∙◌, sym}
use Rattle.arm_core.specs.ShiftedRegister.{ShiftedRegister}
use Rattle.arm_predecode.proofs.Others.{by_move}
use Rattle.arm_predecode.proofs.op.Op.by_move.Goals as goal

pub invariant_of-result : goal.invariant_of-result
invariant_of-result c =
    c.move_kind-kind.ensures _ (by_move c.args.operate.now _ c.requires.form c.requires.always c.requires.fields c.requires.allowed c.requires.operation c.requires.rd
    (c.number-rm.ensures.value ∙ ap (λ (x : ShiftedRegister). x.rm) c.in_word-shifted.ensures) c.requires.rm c.requires.amount c.requires.shift)
