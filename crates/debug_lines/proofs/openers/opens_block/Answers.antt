-- A line that may open no block isn't read.
use Rattle.std.proofs.Common.{sym, ◌∙◌}
use Rattle.debug_lines.proofs.OpenerLemmas.{opens_none}
use Rattle.debug_lines.proofs.openers.opens_block.Goals as goal

pub returns-then-not-may_open_block : goal.returns-then-not-may_open_block
returns-then-not-may_open_block c =
    sym (opens_none c.args.line.now (sym c.may_open_block.ensures ∙ c.if-not-may_open_block.true))
