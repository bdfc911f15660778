use Rattle.std.proofs.Common.{◌≡◌, subst}
use Rattle.std.specs.Prelude.{OnErr, OnOk, Some}
use Rattle.gdb_packets.specs.Reading.{byte_taken}
use Rattle.gdb_packets.specs.declared.reader.Piece.TheVariants as piece
use Rattle.profile.specs.Output.{AddsFront}
use Rattle.gdb_server.specs.Server.{IsServed, server_state}
use Rattle.gdb_server.specs.Serving.{Served, ServerState}
use Rattle.gdb_server.proofs.ServingLemmas.{byte_stops}
use Rattle.gdb_server.proofs.server.GdbServer.take_byte.Goals as goal

pub returns-in-Some-Stop-clause-reported : goal.returns-in-Some-Stop-clause-reported
returns-in-Some-Stop-clause-reported g c =
    let images = c.args.images.now in
    let s : ServerState = server_state c.args.self.now images in
    let stops : Some piece.Stop ≡ (byte_taken s.reading c.args.byte).piece = cc (c.take.ensures.piece) in
    subst (λ (x : Served). OnOk c.take_stop.result (IsServed (g.W.Sink.contents c.args.sink.now) (g.W.Sink.contents c.take_stop.new.sink)
    (server_state c.take_stop.new.self images) x))
    (byte_stops s c.take.new.self c.args.byte stops c.take.ensures.now)
    (c.take_stop.ensures.reported images)

pub returns-in-Some-Stop-clause-front : goal.returns-in-Some-Stop-clause-front
returns-in-Some-Stop-clause-front g c =
    let images = c.args.images.now in
    let s : ServerState = server_state c.args.self.now images in
    let stops : Some piece.Stop ≡ (byte_taken s.reading c.args.byte).piece = cc (c.take.ensures.piece) in
    subst (λ (x : Served). OnErr c.take_stop.result (AddsFront (g.W.Sink.contents c.args.sink.now) (g.W.Sink.contents c.take_stop.new.sink) x.text))
    (byte_stops s c.take.new.self c.args.byte stops c.take.ensures.now)
    (c.take_stop.ensures.front images)
