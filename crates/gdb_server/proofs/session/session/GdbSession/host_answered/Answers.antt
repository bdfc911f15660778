use Rattle.gdb_machine.specs.declared.back_ends.UnderWay.TheVariants as under
use Rattle.gdb_server.specs.session.Session.{gdb_state}
use Rattle.gdb_server.specs.session.State.{GdbState}
use Rattle.gdb_server.proofs.SessionLemmas.RunLemmas.{answered_as, goes_so, stops_asked}
use Rattle.gdb_server.proofs.session.session.GdbSession.host_answered.Goals as goal

pub returns-then-asks-clause-reported : goal.returns-then-asks-clause-reported
returns-then-asks-clause-reported c =
    let images = c.args.images.now in
    let g : GdbState = gdb_state c.args.self.now images in
    answered_as _ _ _ _ (stops_asked g c.args.asks c.in-Some.going c.in-Some.is c.if-asks.true)
    (c.stand.ensures.reported images)

pub returns-in-Run-clause-reported : goal.returns-in-Run-clause-reported
returns-in-Run-clause-reported c =
    let g : GdbState = gdb_state c.args.self.now c.args.images.now in
    answered_as _ _ _ _ (goes_so g c.args.asks c.in-Some.going (under.Run c.in-Run.going) c.in-Some.is c.in-Run.is c.if-asks.false)
    c.slice.ensures.reported

pub returns-in-Search-clause-reported : goal.returns-in-Search-clause-reported
returns-in-Search-clause-reported c =
    let g : GdbState = gdb_state c.args.self.now c.args.images.now in
    answered_as _ _ _ _ (goes_so g c.args.asks c.in-Some.going (under.Search c.in-Search.so_far) c.in-Some.is c.in-Search.is c.if-asks.false)
    c.search_on.ensures.reported
