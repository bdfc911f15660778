use Rattle.std.proofs.Common.{true, ap, sym, ◌∙◌}
use Rattle.os_heap.specs.Memory.{bytes_of}
use Rattle.os_heap.specs.Store.{store_of}
use Rattle.swi_dispatch_plans.specs.Errors.{error_at}
use Rattle.swi_dispatch_guest.specs.Errors.{error_number, with_error}
use Rattle.swi_dispatch_guest.specs.Returns.{gone_back}
use Rattle.swi_dispatch_guest.specs.GuestState.{GuestState, state_of}
use Rattle.swi_dispatch_guest.proofs.ErrorNumbers.{number_kept}
use Rattle.swi_dispatch_guest.proofs.guest.Guest.answered_number.Goals as goal

pub returns-in-Own : goal.returns-in-Own
unfolding store_of
returns-in-Own c = λ caller next. rw c.in-Own.is
    (c.error_at.ensures ∙ ap (error_at (bytes_of c.self.inside.memory)) c.register.ensures
    ∙ ap (λ (p : GuestState). error_number (state_of p)) c.self.view_is ∙ number_kept (state_of c.args.self.now) caller true next)
