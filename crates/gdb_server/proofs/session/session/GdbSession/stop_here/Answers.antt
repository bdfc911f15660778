use Rattle.std.proofs.Common.{ℕ, ap, sym, ◌∙◌}
use Rattle.gdb_machine.specs.declared.stops.GdbStop.TheVariants as reason
use Rattle.profile.specs.declared.stop.Stop.TheVariants as stop
use Rattle.gdb_server.specs.session.Session.{gdb_state}
use Rattle.gdb_server.specs.session.State.{GdbState}
use Rattle.gdb_server.proofs.SessionLemmas.BackLemmas.{breaks_here, steps_here}
use Rattle.gdb_server.proofs.session.session.GdbSession.stop_here.Goals as goal

pub returns-then-stands_at_break : goal.returns-then-stands_at_break
returns-then-stands_at_break c images =
    let g : GdbState = gdb_state c.args.self.now images in
    ap (λ (n : ℕ). reason.Ran (stop.Break n)) (c.pc.ensures images) ∙ breaks_here g (sym (c.stands_at_break.ensures images) ∙ c.if-stands_at_break.true)

pub returns-else-stands_at_break : goal.returns-else-stands_at_break
returns-else-stands_at_break c images =
    steps_here (gdb_state c.args.self.now images) (sym (c.stands_at_break.ensures images) ∙ c.if-stands_at_break.false)
