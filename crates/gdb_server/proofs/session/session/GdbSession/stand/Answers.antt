use Rattle.std.proofs.Common.{ℕ, List, ap}
use Rattle.gdb_server.specs.session.Runs.{gdb_stop_shown}
use Rattle.gdb_server.specs.session.Session.{gdb_state}
use Rattle.gdb_server.proofs.SessionLemmas.RunLemmas.{answered_as}
use Rattle.gdb_server.proofs.session.session.GdbSession.stand.Goals as goal

pub returns-clause-reported : goal.returns-clause-reported
returns-clause-reported c images =
    answered_as _ _ _ _ (ap (λ (x : List ℕ). gdb_stop_shown (gdb_state c.args.self.now images) x c.args.stop) c.new.ensures)
    (c.stopped.ensures.reported images)
