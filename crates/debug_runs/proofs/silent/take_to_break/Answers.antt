-- By the lemmas that are named.
use Rattle.std.proofs.Common.{ap, ◌∙◌}
use Rattle.debug_tables.specs.Session.{script_state}
use Rattle.debug_tables.specs.State.{ScriptState}
use Rattle.debug_runs.proofs.BreakLemmas.{removed, up_to_last_break}
use Rattle.debug_runs.proofs.silent.take_to_break.Goals as goal

pub returns-clause-taken : goal.returns-clause-taken
returns-clause-taken c images breaks is other =
    let s = script_state c.args.session.now images in
    let mid = script_state c.take_silent_steps-ran.new.self images in
    let now = script_state c.remove_break.new.self images in
    let after = c.take_silent_steps-ran.ensures.taken images in
    let last = ap (λ (w : ScriptState). w.breaks) after.state ∙ is in
    up_to_last_break c.args.address c.take_silent_steps-ran.result.taken s mid now breaks c.take_silent_steps-ran.result.stop is after
    (removed c.remove_break.result mid now breaks c.args.address last other (c.remove_break.ensures images))
