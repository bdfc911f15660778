use Rattle.std.proofs.Common.{refl}
use Rattle.arm_core.specs.register_file.Banks.{bank_exchanged}
use Rattle.arm_core.specs.State.{cpu_start_state}
use Rattle.arm_core.proofs.cpu.Cpu.new.Goals as goal

pub returns : goal.returns
unfolding cpu_start_state bank_exchanged
returns c = refl
