-- By the lemmas that are named.
use Rattle.std.proofs.Common.{ℕ, List, ◌++◌, ◌∙◌, ap}
use Rattle.debug_tables.specs.Calls.{first_step}
use Rattle.debug_tables.specs.Session.{script_state}
use Rattle.debug_runs.proofs.TraceWriterLemmas.{untold_pushed}
use Rattle.debug_runs.proofs.writer.TraceWriter.begin_untold.Goals as goal

pub returns-clause-reported : goal.returns-clause-reported
returns-clause-reported c =
    let o = first_step (script_state c.args.session.now c.args.images.now) c.args.call in
    untold_pushed c.push_untold.result c.args.self.now c.push_untold.new.self c.args.self.now.reported o.printed c.bytes.result.now
    (c.bytes.ensures ∙ (c.in_ok-begin_call.ensures.text ∙ ap (λ (xs : List ℕ). xs ++ o.printed) c.new-printed.ensures))
    c.push_untold.ensures.reported
