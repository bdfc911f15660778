use Rattle.std.proofs.Common.{sym, ◌∙◌}
use Rattle.os_heap.specs.Store.{store_of}
use Rattle.swi_dispatch_guest.proofs.ErrorNumbers.{system_number}
use Rattle.swi_dispatch_guest.proofs.guest.Guest.system_number.Goals as goal

pub returns : goal.returns
unfolding store_of
returns c = λ caller next.
    rw (← c.self.view_is) (c.number.ensures ∙ sym (system_number _ caller next _ c.self.invariant c.known.ensures.size))
