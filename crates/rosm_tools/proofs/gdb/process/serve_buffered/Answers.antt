use Rattle.std.proofs.Common.{ap, ◌∙◌}
use Rattle.gdb_server.specs.session.Session.{gdb_state}
use Rattle.gdb_server.specs.declared.session.session.GdbSession.{GdbSession}
use Rattle.rosm_tools.proofs.GdbLemmas.ServeLemmas.{buffer_begins, serves_stream}
use Rattle.rosm_tools.proofs.gdb.process.serve_buffered.Goals as goal

pub returns-in-Ok-unbuffered-clause-serves : goal.returns-in-Ok-unbuffered-clause-serves
returns-in-Ok-unbuffered-clause-serves g c =
    serves_stream g.F.File.Read.remaining c.args.wanted.now _ _ _ _ _ _ _ _ _
    (buffer_begins g.W.Write.contents _ _ c.args.stream c.new-writer.ensures.inner c.in-Ok.ensures.inner c.in-Ok.ensures.empty)
    c.in_ok-serve.ensures.read c.in-Ok-unbuffered.ensures.bytes
    (c.last.ensures c.serve.new.images
    ∙ ap (λ (x : GdbSession). (gdb_state x c.serve.new.images).debug.script.last) c.session.ensures)
