use Rattle.std.proofs.Common.{◌≡◌, ap, refl, ◌∙◌, sym}
use Rattle.arm_predecode.proofs.Others.{by_product}
use Rattle.arm_predecode.proofs.op.Op.by_product.Goals as goal

pub invariant_of-result : goal.invariant_of-result
invariant_of-result c =
    c.product_kind-kind.ensures _ (by_product c.args.multiply.now _ c.requires.form c.requires.always c.requires.fields c.requires.allowed c.requires.flags c.requires.rd c.requires.rn c.requires.rs c.requires.rm
    c.number-added.ensures.value c.number-product.ensures.value c.number-left.ensures.value c.number-right.ensures.value)
