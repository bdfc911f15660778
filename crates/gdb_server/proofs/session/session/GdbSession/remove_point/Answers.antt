-- What is asked for is a watch or a break.
use Rattle.std.proofs.Common.{List, sym, ◌∙◌}
use Rattle.std.specs.Prelude.{Some, None}
use Rattle.profile.specs.images.Entries.{Entry}
use Rattle.gdb_server.specs.session.Session.{gdb_state}
use Rattle.gdb_server.proofs.SessionLemmas.ChangeLemmas.{break_removed, watch_removed}
use Rattle.gdb_server.proofs.session.session.GdbSession.remove_point.Goals as goal

pub returns-in-Some : goal.returns-in-Some
returns-in-Some c = record {
  reported = λ (images : List Entry).
      watch_removed (gdb_state c.args.self.now images) c.args.kind c.args.range c.in-Some.kind _ c.remove.ensures (sym c.in-Some.is ∙ c.watch_kind.ensures);
}

pub returns-in-None : goal.returns-in-None
returns-in-None c = record {
  reported = λ (images : List Entry).
      break_removed (gdb_state c.args.self.now images) c.args.kind c.args.range _ c.remove-in-None.ensures (sym c.in-None.is ∙ c.watch_kind.ensures);
}
