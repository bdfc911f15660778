use Rattle.std.proofs.Common.{◌+◌, false}
use Rattle.arm_step.specs.Memory.{bytes_of, is_owned}
use Rattle.arm_run.proofs.Blocked.{loads_block}
use Rattle.arm_run.proofs.blocks.load_block.Goals as goal

pub returns-then-load_registers-clause-state : goal.returns-then-load_registers-clause-state
returns-then-load_registers-clause-state c =
    loads_block (is_owned c.args.memory.now) c.args.cpu.now c.load_registers.new.cpu c.args.at (c.args.at + 1) (bytes_of c.args.memory.now) c.args.is_up c.args.writes_back false
    c.args.op.now c.requires.known c.requires.fetched (c.load_registers.ensures.done c.if-load_registers.true)
