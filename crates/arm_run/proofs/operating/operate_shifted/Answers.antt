use Rattle.std.proofs.Common.{◌∙◌, ap}
use Rattle.arm_core.specs.Operand.{shifted_value}
use Rattle.arm_core.specs.State.{register_in}
use Rattle.arm_predecode.specs.OpValue.{OpValue}
use Rattle.arm_run.proofs.SumsLed.{shift_leads}
use Rattle.arm_run.proofs.operating.operate_shifted.Goals as goal

pub returns : goal.returns
returns c =
    shift_leads c.args.cpu.now c.operate.new.cpu c.args.operation c.args.sets_flags c.current.result c.shift_by-second.result c.args.op.now c.requires
    (c.current.ensures ∙ ap (λ (r : OpValue). register_in c.args.cpu.now.psr.mode c.args.cpu.now r.rm) c.op.view_is)
    (c.shift_by-second.ensures ∙ ap (λ (r : OpValue). shifted_value r.shift c.current.result r.value) c.op.view_is)
    c.operate.ensures
