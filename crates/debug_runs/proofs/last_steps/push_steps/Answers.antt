-- By the lemmas that are named.
use Rattle.std.proofs.Common.{◌≡◌, ◌++◌, ℕ, List, ap, arith, length, ◌∙◌}
use Rattle.profile.specs.text_sink.TextSink.{sink_text_of}
use Rattle.debug_runs.specs.LastSteps.{StepText}
use Rattle.debug_runs.proofs.LastLemmas.{all_pushed, none_left, step_pushed}
use Rattle.debug_runs.proofs.last_steps.push_steps.Goals as goal

pub loop-step-preserved : goal.loop-step-preserved
loop-step-preserved c =
    let t = sink_text_of c.loop-step.text in
    let whole = c.as_slice.ensures.value ∙ ap (λ (s : StepText). s.whole) c.step.view_is in
    step_pushed t (sink_text_of c.push_all.new.sink) _ c.in-Some.step c.loop-step.steps.items c.pop_front.new.self.items
    c.in-Some.ensures.items (c.in_ok-push_all.ensures.text ∙ ap (λ (xs : List ℕ). t ++ xs) whole) c.loop-step.invariant

pub returns : goal.returns
returns c =
    let over = none_left c.pop_front.result c.loop-step.steps.len c.pop_front.ensures.variant c.in_default.is in
    let none : length c.loop-step.steps.items ≡ 0 = omega (arith, over, c.loop-step.steps.ok.0) in
    all_pushed (sink_text_of c.loop-step.text) _ c.loop-step.steps.items none c.loop-step.invariant
