use Rattle.std.proofs.Common.{◌≡◌, ap, subst, ◌∙◌}
use Rattle.swi_dispatch_guest.specs.Gates.{Resumes, outcome_left}
use Rattle.swi_dispatch_guest.specs.MachineState.{silent}
use Rattle.swi_dispatch_guest.specs.GuestState.{GuestState, state_of}
use Rattle.swi_dispatch_guest.proofs.GateLemmas.{entry_went_on, none_else}
use Rattle.swi_dispatch_guest.proofs.guest.Guest.leave_entry.Goals as goal

pub returns : goal.returns
returns c =
    let same = c.fault_ahead.ensures.same in
    let left : c.outcome_left-outcome.result ≡ outcome_left (state_of c.args.self.now).cpu = c.outcome_left-outcome.ensures
    ∙ ap (λ (p : GuestState). outcome_left (state_of p).cpu) c.self.view_is in
    entry_went_on (state_of c.args.self.now) (state_of c.resume-ended.new.self) c.args.frame (state_of c.args.self.now).tables.plan c.resume-ended.result
    c.outcome_left-outcome.result c.fault_ahead.result (silent (state_of c.finish.new.self)) c.fault_ahead.ensures.value (none_else _ c.in_default.not-Some) left
    (subst (λ (p : GuestState). Resumes (state_of p) c.args.frame c.outcome_left-outcome.result (state_of p).tables.plan c.resume-ended.result
    (state_of c.resume-ended.new.self)) same c.resume-ended.ensures)
    (ap silent c.finish.ensures)
