use Rattle.std.proofs.Common.{◌∙◌, ap}
use Rattle.arm_step.specs.Shifted.{Shifted}
use Rattle.arm_core.specs.Operand.{unshifted_value}
use Rattle.arm_core.specs.State.{register_in}
use Rattle.arm_core.specs.declared.psr.Psr.{Psr}
use Rattle.arm_predecode.specs.OpValue.{OpValue}
use Rattle.arm_run.proofs.SumsLed.{register_leads}
use Rattle.arm_run.proofs.operating.operate_register.Goals as goal

pub returns : goal.returns
returns c =
    let second : Shifted = record { value = c.current.result; carry = c.psr.result.carry } in
    register_leads c.args.cpu.now c.operate.new.cpu c.args.operation c.args.sets_flags c.current.result second c.args.op.now c.requires
    (c.current.ensures ∙ ap (λ (r : OpValue). register_in c.args.cpu.now.psr.mode c.args.cpu.now r.rm) c.op.view_is)
    (ap (λ (p : Psr). unshifted_value c.current.result p.carry) c.psr.ensures)
    c.operate.ensures
