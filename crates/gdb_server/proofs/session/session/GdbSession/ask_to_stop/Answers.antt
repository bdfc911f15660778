use Rattle.gdb_server.specs.session.Session.{gdb_state}
use Rattle.gdb_server.specs.session.State.{GdbState}
use Rattle.gdb_server.proofs.SessionLemmas.RunLemmas.{answered_as, asked_stops}
use Rattle.gdb_server.proofs.session.session.GdbSession.ask_to_stop.Goals as goal

pub returns-clause-reported : goal.returns-clause-reported
returns-clause-reported c images =
    let g : GdbState = gdb_state c.args.self.now images in
    answered_as _ _ _ _ (asked_stops g c.in-Some.field-0 c.in-Some.is)
    (c.stand.ensures.reported images)
