-- By the lemmas that are named.
use Rattle.std.proofs.Common.{◌<◌, [], sym, arith, refl, ◌∙◌}
use Rattle.debug_tables.specs.Session.{script_state}
use Rattle.debug_runs.proofs.SilentLemmas.{end_of_some, no_end_of_none}
use Rattle.debug_runs.proofs.running.end_of_unseen.Goals as goal

pub returns-then-taken-eq0 : goal.returns-then-taken-eq0
returns-then-taken-eq0 c images =
    sym (no_end_of_none c.args.goal (script_state c.args.session.now images) c.args.taken c.if-taken-eq0.true)

pub returns-else-taken-eq0 : goal.returns-else-taken-eq0
returns-else-taken-eq0 c images =
    let now = script_state c.args.session.now images in
    let some : 0 < c.args.taken = omega arith in
    c.end_after.ensures images now [] refl ∙ sym (end_of_some c.args.goal now c.args.taken some)
