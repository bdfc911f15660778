use Rattle.std.proofs.Common.{arith}
use Rattle.gdb_machine.specs.Registers.{all_registers_text}
use Rattle.gdb_machine.proofs.RegisterLemmas.{register_end}
use Rattle.gdb_machine.proofs.registers.all_registers.Goals as goal

pub returns : goal.returns
returns c =
    let l = c.loop-left in
    register_end c.args.cpu.now l.number l.left l.text.items (all_registers_text c.args.cpu.now)
    (omega (arith, c.loop-left-test.false)) c.loop-left.invariant.text
