-- By the lemmas that are named.
use Rattle.std.proofs.Common.{sym, ◌∙◌}
use Rattle.debug_runs.proofs.TraceWriterLemmas.{no_answer}
use Rattle.debug_runs.proofs.writer.TraceWriter.push_untold.Goals as goal

pub returns-then-is_empty-clause-reported : goal.returns-then-is_empty-clause-reported
returns-then-is_empty-clause-reported c =
    no_answer c.args.self.now c.args.self.now.reported c.args.printed.now (sym c.is_empty.ensures ∙ c.if-is_empty.true)
