-- By the lemmas that are named.
use Rattle.std.proofs.Common.{ℕ, List, ◌++◌, ap, ◌∙◌}
use Rattle.debug_tables.specs.Session.{script_state}
use Rattle.debug_runs.specs.LastSteps.{StepText, text_of_step}
use Rattle.profile.specs.text_sink.TextSink.{sink_text_of}
use Rattle.debug_runs.proofs.LastLemmas.{one_kept}
use Rattle.debug_runs.proofs.TraceWriterLemmas.{whatever}
use Rattle.debug_runs.proofs.last.take_one.Goals as goal

pub returns-clause-printed : goal.returns-clause-printed
returns-clause-printed c =
    whatever c.add.result (c.in_ok-push_all.ensures.text
    ∙ ap (λ (xs : List ℕ). sink_text_of c.args.printed.now ++ xs) (c.printed.ensures ∙ ap (λ (t : StepText). t.printed) c.in_ok-step.ensures.text))

pub returns-clause-last : goal.returns-clause-last
returns-clause-last c =
    one_kept c.add.result c.args.last.now c.add.new.self c.in_ok-step.step
    (text_of_step c.args.context.now.modes.now c.args.context.now.labels.now (script_state c.args.session.now c.args.context.now.images.now))
    c.in_ok-step.ensures.text c.add.ensures
