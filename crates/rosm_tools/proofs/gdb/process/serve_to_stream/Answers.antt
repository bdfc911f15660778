use Rattle.std.proofs.lemmas.Result.{IfOk-weaker}
use Rattle.gdb_server.specs.Server.{server_state}
use Rattle.rosm_tools.proofs.GdbLemmas.ServeLemmas.{serves_gdb}
use Rattle.rosm_tools.proofs.gdb.process.serve_to_stream.Goals as goal

pub returns-clause-serves : goal.returns-clause-serves
returns-clause-serves g c =
    let read = c.in_ok-read.read in
    IfOk-weaker c.serve_buffered.result _ _
    (λ ended served. serves_gdb g.F.File.Read.remaining c.args.wanted.now read.images read.start.items
    (server_state c.in_ok-server.server c.begun.new.read.images) (server_state c.serve_buffered.new.server c.serve_buffered.new.images)
    _ _ _ _ _ _ _ _ c.in_ok-read.ensures.read.files c.in_ok-read.ensures.read.lines c.in_ok-server.ensures.told
    c.in_ok-server.ensures.state served)
    c.serve_buffered.ensures.serves
