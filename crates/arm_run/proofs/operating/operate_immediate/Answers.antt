use Rattle.std.proofs.Common.{◌∙◌, ap}
use Rattle.arm_core.specs.Word.{field}
use Rattle.arm_core.specs.Operand.{rotated_immediate}
use Rattle.arm_core.specs.declared.psr.Psr.{Psr}
use Rattle.arm_run.proofs.SumsLed.{immediate_leads}
use Rattle.arm_run.proofs.operating.operate_immediate.Goals as goal

pub returns : goal.returns
returns c =
    immediate_leads c.args.cpu.now c.operate.new.cpu c.args.operation c.args.sets_flags c.immediate-second.result c.args.op.now c.requires
    (c.immediate-second.ensures ∙ ap (λ (p : Psr). rotated_immediate (field c.args.op.now.word 8 4) (field c.args.op.now.word 0 8) p.carry) c.psr.ensures)
    c.operate.ensures
