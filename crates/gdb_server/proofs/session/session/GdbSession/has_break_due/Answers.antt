use Rattle.std.proofs.Common.{Bool, ◌&&◌, ap, sym, ◌∙◌}
use Rattle.gdb_server.specs.session.Runs.{stands_at_break}
use Rattle.gdb_server.specs.session.Session.{gdb_state}
use Rattle.gdb_server.proofs.session.session.GdbSession.has_break_due.Goals as goal

pub returns-then-was_library : goal.returns-then-was_library
returns-then-was_library c images =
    c.stands_at_break.ensures images
    ∙ sym (ap (λ (b : Bool). b && stands_at_break (gdb_state c.args.self.now images)) (sym c.was_library.ensures ∙ c.if-was_library.true))
