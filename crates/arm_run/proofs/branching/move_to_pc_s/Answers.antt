use Rattle.std.proofs.Common.{◌∙◌, ap}
use Rattle.arm_core.specs.State.{register_in}
use Rattle.arm_predecode.specs.OpValue.{OpValue}
use Rattle.arm_run.proofs.Jumped.{moves_with_status}
use Rattle.arm_run.proofs.branching.move_to_pc_s.Goals as goal

pub returns-clause-leads : goal.returns-clause-leads
returns-clause-leads c =
    moves_with_status c.args.cpu.now c.set_status.new.self c.args.at c.current-value.result c.position_of.result c.args.op.now c.requires
    (c.current-value.ensures ∙ ap (λ (r : OpValue). register_in c.args.cpu.now.psr.mode c.args.cpu.now r.rm) c.op.view_is)
    c.set_status.ensures c.position_of.ensures
