use Rattle.std.proofs.Common.{◌≡◌, ap, refl, ◌∙◌, sym, ℕ, ◌*◌, nat_eq, not}
use Rattle.arm_core.specs.Shifted.{rotated_right}
use Rattle.arm_core.specs.Word.{field}
use Rattle.arm_predecode.proofs.Known.{by_immediate}
use Rattle.arm_predecode.proofs.op.Op.by_immediate.Goals as goal

pub invariant_of-result : goal.invariant_of-result
invariant_of-result c =
    c.immediate_kind-kind.ensures _ (by_immediate c.args.operate.now _ c.requires.form c.requires.always c.requires.fields c.requires.allowed c.requires.rd c.requires.rn c.requires.places
    c.number-rd.ensures.value c.number-rn.ensures.value
    (c.rotate_right-value.ensures ∙ ap (λ (x : ℕ). rotated_right x (2 * c.number-turned.result)) (c.number.ensures.value ∙ c.in_word-byte.ensures)
    ∙ ap (λ (x : ℕ). rotated_right (field c.args.word 0 8) (2 * x)) (c.number-turned.ensures.value ∙ c.in_word-rotation.ensures))
    (ap (λ (x : ℕ). not (nat_eq x 0)) (c.number-turned.ensures.value ∙ c.in_word-rotation.ensures)))
