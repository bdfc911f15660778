use Rattle.std.proofs.Common.{ap, ◌∙◌}
use Rattle.os_heap.specs.Memory.{bytes_of}
use Rattle.os_heap.specs.Store.{store_of}
use Rattle.swi_dispatch_plans.specs.Errors.{error_at}
use Rattle.swi_dispatch_guest.specs.Errors.{error_number}
use Rattle.swi_dispatch_guest.specs.GuestState.{state_of}
use Rattle.swi_dispatch_guest.specs.Value.{MachineValue}
use Rattle.swi_dispatch_guest.specs.declared.machine.Machine.TheInside.{Inside}
use Rattle.swi_dispatch_guest.proofs.machine.Machine.error_number.Goals as goal

pub returns : goal.returns
unfolding store_of
returns c =
    c.error_at.ensures ∙ ap (error_at (bytes_of c.self-inside.inside.0.0.memory)) c.register.ensures
    ∙ ap (λ (m : Inside). error_number (state_of m.guest)) c.self-inside.view_is
    ∙ ap (λ (m : MachineValue). error_number (state_of m.guest)) c.self.view_is
