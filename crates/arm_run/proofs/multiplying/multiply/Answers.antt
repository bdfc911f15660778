use Rattle.std.proofs.Common.{◌∙◌, ap}
use Rattle.arm_core.specs.State.{with_register}
use Rattle.arm_predecode.specs.OpValue.{OpValue}
use Rattle.arm_run.proofs.Multiplied.{product_leads}
use Rattle.arm_run.proofs.multiplying.multiply.Goals as goal

pub returns : goal.returns
returns c =
    product_leads c.args.cpu.now c.set_current.new.cpu c.args.adds c.product-value.result c.args.op.now c.requires c.product-value.ensures
    (c.set_current.ensures ∙ ap (λ (r : OpValue). with_register c.args.cpu.now r.rn c.product-value.result) c.op.view_is)
