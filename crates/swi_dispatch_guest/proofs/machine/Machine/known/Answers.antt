use Rattle.std.proofs.Common.{subst}
use Rattle.swi_dispatch_guest.specs.Value.{IsMachine}
use Rattle.swi_dispatch_guest.proofs.machine.Machine.known.Goals as goal

pub returns : goal.returns
returns c = subst IsMachine c.self.view_is (record { guest = c.known.ensures; fresh = c.self.invariant })
