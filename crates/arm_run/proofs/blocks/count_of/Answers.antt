use Rattle.std.proofs.Common.{rules, ◌≡◌, ◌/◌}
use Rattle.arm_run.proofs.Blocked.{few}
use Rattle.arm_run.proofs.blocks.count_of.Goals as goal

pub returns-clause-few : goal.returns-clause-few
returns-clause-few c =
    let size : c.from.result / 4 ≡ c.args.op.now.rs / 4 = search rules in
    few c.args.loads c.args.is_up c.args.writes_back c.args.has_pc c.args.op.now (c.from.result / 4) c.requires size
