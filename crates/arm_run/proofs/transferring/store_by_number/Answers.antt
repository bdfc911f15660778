use Rattle.arm_step.specs.Memory.{bytes_of, is_owned}
use Rattle.arm_step.proofs.AddressMapWords.{is_owned-same}
use Rattle.arm_run.proofs.Transferred.{acts_from}
use Rattle.arm_run.proofs.transferring.store_by_number.Goals as goal

pub returns-clause-state : goal.returns-clause-state
returns-clause-state c =
    acts_from (is_owned c.args.memory.now) (is_owned c.store.new.memory) c.args.cpu.now c.store.new.cpu c.slowly.new.cpu c.args.at (bytes_of c.args.memory.now)
    (bytes_of c.store.new.memory) (bytes_of c.slowly.new.memory) c.slowly.result (is_owned-same _ _ c.store.ensures.marks)
    (c.store.ensures.core c.if-store.false) (c.store.ensures.bytes c.if-store.false) c.slowly.ensures.state
