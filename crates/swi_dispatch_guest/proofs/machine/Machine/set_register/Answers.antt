use Rattle.std.proofs.Common.{refl}
use Rattle.swi_dispatch_guest.specs.Writes.{machine_with_register}
use Rattle.swi_dispatch_guest.proofs.machine.Machine.set_register.Goals as goal

pub returns : goal.returns
unfolding machine_with_register
returns c = rw (← c.self.view_is, ← c.self-inside.view_is)
    (record {
      written = record {
        state = rw c.set_register.ensures refl;
        sizes = refl;
        fresh = refl;
        printed = refl;
        kept = c.known.ensures;
      };
    })
