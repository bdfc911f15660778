use Rattle.std.proofs.Common.{sym, ◌∙◌}
use Rattle.gdb_server.proofs.SessionLemmas.BackLemmas.{no_steps_kept, steps_kept}
use Rattle.gdb_server.proofs.session.session.GdbSession.steps_back.Goals as goal

pub returns-then-is_kept : goal.returns-then-is_kept
returns-then-is_kept c images =
    c.steps.ensures ∙ steps_kept c.args.self.now.debug.past (sym c.is_kept.ensures ∙ c.if-is_kept.true)

pub returns-else-is_kept : goal.returns-else-is_kept
returns-else-is_kept c images = no_steps_kept c.args.self.now.debug.past (sym c.is_kept.ensures ∙ c.if-is_kept.false)
