use Rattle.std.proofs.Common.{◌+◌, ◌*◌, ◌%◌, ◌^◌, ◌∙◌, ℕ, ap}
use Rattle.arm_core.specs.Psr.{psr_bits}
use Rattle.arm_core.specs.State.{with_register}
use Rattle.arm_predecode.specs.OpValue.{OpValue}
use Rattle.arm_run.proofs.Carried.{links_to}
use Rattle.arm_run.proofs.branching.link.Goals as goal

pub returns-clause-leads : goal.returns-clause-leads
returns-clause-leads c =
    links_to c.args.cpu.now c.set_current.new.cpu c.args.at c.ahead-2.result c.ahead.result c.args.op.now c.requires.branch c.ahead.ensures.value
    (c.set_current.ensures ∙ ap (λ (x : ℕ). with_register c.args.cpu.now 14 (x + c.ahead.result * 4)) (c.bits.ensures.value ∙ ap psr_bits c.psr.ensures))
    (c.ahead-2.ensures.value ∙ ap (λ (r : OpValue). (c.args.at + r.value) % 2 ^ 24) c.op.view_is)
