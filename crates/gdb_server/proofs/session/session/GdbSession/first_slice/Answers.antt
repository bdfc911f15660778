use Rattle.std.proofs.Common.{ℕ, [], ap, sym, ◌∙◌}
use Rattle.gdb_machine.specs.declared.stops.GdbStop.TheVariants as reason
use Rattle.profile.specs.declared.stop.Stop.TheVariants as stop
use Rattle.gdb_server.specs.session.Runs.{gdb_stop_shown}
use Rattle.gdb_server.specs.session.Session.{gdb_state}
use Rattle.gdb_server.specs.session.State.{GdbState}
use Rattle.gdb_server.proofs.SessionLemmas.RunLemmas.{answered_as, shows_break, shows_library, shows_neither}
use Rattle.gdb_server.proofs.session.session.GdbSession.first_slice.Goals as goal

pub returns-then-is_other-clause-reported : goal.returns-then-is_other-clause-reported
returns-then-is_other-clause-reported c =
    let images = c.args.images.now in
    let g : GdbState = gdb_state c.args.self.now images in
    answered_as _ _ _ _ (shows_library g (sym (c.in_ok-is_other.ensures images) ∙ c.if-is_other.true))
    (c.stand.ensures.reported images)

pub returns-then-has_break_due-clause-reported : goal.returns-then-has_break_due-clause-reported
returns-then-has_break_due-clause-reported c =
    let images = c.args.images.now in
    let g : GdbState = gdb_state c.args.self.now images in
    answered_as _ _ _ _ (ap (λ (n : ℕ). gdb_stop_shown g [] (reason.Ran (stop.Break n))) (c.pc.ensures images)
    ∙ shows_break g (sym (c.in_ok-is_other.ensures images) ∙ c.if-is_other.false) (sym (c.has_break_due.ensures images) ∙ c.if-has_break_due.true))
    (c.stand-then-has_break_due.ensures.reported images)

pub returns-clause-reported : goal.returns-clause-reported
returns-clause-reported c =
    let images = c.args.images.now in
    let g : GdbState = gdb_state c.args.self.now images in
    answered_as _ _ _ _ (shows_neither g (sym (c.in_ok-is_other.ensures images) ∙ c.if-is_other.false)
    (sym (c.has_break_due.ensures images) ∙ c.if-has_break_due.false))
    c.slice.ensures.reported
