use Rattle.swi_dispatch_guest.proofs.Fresh.{fresh_unhalted}
use Rattle.swi_dispatch_guest.proofs.machine.Machine.stop.Goals as goal

pub returns-clause-stepped : goal.returns-clause-stepped
returns-clause-stepped c = λ some.
    rw (← c.self.view_is) (fresh_unhalted _ _ _ _ c.self.invariant c.stop.ensures some)
