-- By the lemmas that are named.
use Rattle.std.proofs.Common.{◌≡◌, ◌++◌, subst}
use Rattle.std.specs.List.{flat_map}
use Rattle.std.specs.Prelude.{OnOk}
use Rattle.debug_runs.specs.LastSteps.{LastState, last_text, steps_before_text, whole_text}
use Rattle.profile.specs.text_sink.TextSink.{sink_text_of}
use Rattle.debug_runs.proofs.LastLemmas.{last_pushed}
use Rattle.debug_runs.proofs.last_steps.LastSteps.print.Goals as goal

pub returns : goal.returns
returns c =
    subst (λ (l : LastState). OnOk c.push_steps.result (sink_text_of c.push_steps.new.text ≡ sink_text_of c.args.text.now ++ last_text l))
    c.self.view_is
    (last_pushed c.push_steps.result (sink_text_of c.args.text.now) (sink_text_of c.push_all.new.sink) (sink_text_of c.push_before.new.sink)
    (sink_text_of c.push_steps.new.text) c.bytes.result.now (sink_text_of c.self.inside.untold) (steps_before_text c.self.inside.before)
    (flat_map whole_text c.self.inside.steps.items) c.bytes.ensures c.in_ok-push_all.ensures.text c.in_ok-push_before.ensures.text
    c.push_steps.ensures)
