-- By the lemmas that are named.
use Rattle.std.proofs.Common.{ℕ, List, ◌++◌, ◌∙◌, ap}
use Rattle.debug_tables.specs.Session.{script_state}
use Rattle.debug_runs.specs.Runs.{next_step}
use Rattle.debug_runs.proofs.TraceWriterLemmas.{untold_pushed}
use Rattle.debug_runs.proofs.writer.TraceWriter.take_untold.Goals as goal

pub returns-clause-reported : goal.returns-clause-reported
returns-clause-reported c =
    let o = next_step c.args.context.now.modes.now (script_state c.args.session.now c.args.context.now.images.now) in
    untold_pushed c.push_untold.result c.args.self.now c.push_untold.new.self c.args.self.now.reported o.printed c.bytes.result.now
    (c.bytes.ensures ∙ (c.in_ok-take_step.ensures.text ∙ ap (λ (xs : List ℕ). xs ++ o.printed) c.new-printed.ensures))
    c.push_untold.ensures.reported
