-- By the lemmas that are named.
use Rattle.std.proofs.Common.{}
use Rattle.debug_tables.specs.Session.{script_state}
use Rattle.debug_runs.proofs.LastLemmas.{kept_is}
use Rattle.debug_runs.proofs.last_steps.KeptStep.take.Goals as goal

pub returns-clause-text : goal.returns-clause-text
returns-clause-text c =
    kept_is c.args.context.now.modes.now c.args.context.now.labels.now (script_state c.args.session.now c.args.context.now.images.now)
    c.new-writer.result c.step.new.self (record { whole = c.into_bytes.result.items; printed = c.into_bytes-2.result.items })
    c.new-writer.ensures.reported c.new-writer.ensures.text c.new-writer.ensures.printed c.in_ok-step.ensures.reported
    c.into_bytes.ensures c.into_bytes-2.ensures
