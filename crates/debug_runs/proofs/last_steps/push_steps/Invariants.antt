use Rattle.std.proofs.Common.{◌≡◌, ◌++◌, length}
use Rattle.std.specs.List.{flat_map}
use Rattle.std.specs.VecDeque.{deque_len}
use Rattle.debug_runs.specs.LastSteps.{whole_text}
use Rattle.profile.specs.text_sink.TextSink.{sink_text_of}
use Rattle.debug_runs.proofs.last_steps.push_steps.Given as goal

-- what stands written, and the steps that are left, is all
abbrev pub invariant-loop-step : goal.invariant-loop-step
invariant-loop-step l =
    sink_text_of l.text ++ flat_map whole_text l.steps.items ≡ sink_text_of l.fn.text ++ flat_map whole_text l.fn.steps.items

abbrev pub decreases-loop-step : goal.decreases-loop-step
decreases-loop-step l = deque_len l.steps
