use Rattle.debug_session.specs.CommandShellSession.{script_state}
use Rattle.gdb_server.specs.session.Session.{gdb_state}
use Rattle.gdb_server.proofs.SessionLemmas.BackLemmas.{gone_so}
use Rattle.gdb_server.proofs.session.session.GdbSession.go_back.Goals as goal

pub returns-clause-reported : goal.returns-clause-reported
returns-clause-reported c =
    gone_so (gdb_state c.args.self.now c.args.images.now) (script_state c.go_back.new.session c.go_back.new.images) _
    c.go_back.new.self _ c.in_ok-go_back.ensures.machine c.in_ok-go_back.ensures.past
