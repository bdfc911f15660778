use Rattle.std.proofs.Common.{◌≡◌, ◌≤◌}
use Rattle.debug_tables.specs.Session.{script_state}
use Rattle.debug_tables.specs.counts.Counts.{steps_counted}
use Rattle.debug_runs.specs.Places.{places_of_run}
use Rattle.debug_runs.specs.Runs.{steps_run}
use Rattle.debug_runs.proofs.RunLemmas.{IsRest}
use Rattle.debug_runs.proofs.running.run_steps.Given as goal

-- what is shown, and what the steps that are left show, are all that the run shows, and so are the counts
abbrev pub invariant-loop-left : goal.invariant-loop-left
invariant-loop-left l =
    let images = l.context.images.now in
    let modes = l.context.modes.now in
    let labels = l.context.labels.now in
    let now = script_state l.session images in
    record {
      rest : IsRest l.fn.writer l.writer (steps_run modes labels l.goal l.left l.writer.reported now)
          (steps_run modes labels l.goal l.most l.fn.writer.reported (script_state l.fn.session images));
      enough : l.left ≤ now.left;
      counted : steps_counted (places_of_run modes l.goal l.left now) l.counts
          ≡ steps_counted (places_of_run modes l.goal l.most (script_state l.fn.session images)) l.fn.counts;
    }

abbrev pub decreases-loop-left : goal.decreases-loop-left
decreases-loop-left l = l.left
