use Rattle.std.proofs.Common.{◌≡◌, ◌≤◌, ◌+◌, ◌-◌, ◌^◌, None}
use Rattle.debug_tables.specs.Session.{script_state}
use Rattle.debug_tables.specs.counts.Counts.{steps_counted}
use Rattle.debug_runs.specs.LastSteps.{texts_of_run, with_steps}
use Rattle.debug_runs.specs.Places.{places_of_run}
use Rattle.debug_runs.specs.Runs.{steps_run}
use Rattle.debug_runs.specs.declared.running.RunGoal.TheVariants.{Nowhere}
use Rattle.profile.specs.text_sink.TextSink.{sink_text_of}
use Rattle.debug_runs.proofs.LastLemmas.{IsUntoldRest}
use Rattle.debug_runs.proofs.last.take_last.Given as goal

-- what was printed, what is kept and counted, and what the steps that are left add, are all of the run's
abbrev pub invariant-loop-left : goal.invariant-loop-left
invariant-loop-left l =
    let images = l.context.images.now in
    let modes = l.context.modes.now in
    let labels = l.context.labels.now in
    let now = script_state l.session images in
    let first = script_state l.fn.session images in
    record {
      rest : IsUntoldRest (sink_text_of l.fn.printed) (sink_text_of l.printed) (steps_run modes labels Nowhere l.left None now)
          (steps_run modes labels Nowhere l.most None first);
      enough : l.left ≤ now.left;
      few : l.last.before + l.left ≤ 2 ^ 64 - 1;
      kept : with_steps l.last (texts_of_run modes labels l.left now) ≡ with_steps l.fn.last (texts_of_run modes labels l.most first);
      counted : steps_counted (places_of_run modes Nowhere l.left now) l.counts
          ≡ steps_counted (places_of_run modes Nowhere l.most first) l.fn.counts;
    }

abbrev pub decreases-loop-left : goal.decreases-loop-left
decreases-loop-left l = l.left
