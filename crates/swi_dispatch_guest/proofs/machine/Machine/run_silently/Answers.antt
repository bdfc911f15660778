use Rattle.swi_dispatch_guest.proofs.Fresh.{silent_start_stays}
use Rattle.swi_dispatch_guest.proofs.machine.Machine.run_silently.Goals as goal

pub invariant_of-self : goal.invariant_of-self
invariant_of-self c = silent_start_stays _ _ _ _ _ _ _ c.run_silently-taken.ensures.ran c.self.invariant
