-- By the lemmas that are named.
use Rattle.std.proofs.Common.{◌≡◌, ℕ, Some, None, false, sym, ap, ◌∙◌}
use Rattle.debug_tables.specs.Calls.{stop_before_step_by}
use Rattle.debug_tables.specs.Session.{script_state}
use Rattle.debug_tables.specs.counts.Counts.{steps_counted}
use Rattle.debug_lines.specs.SteppingRequests.{RunLast}
use Rattle.debug_runs.specs.Endings.{line_end_answer}
use Rattle.debug_runs.specs.LastSteps.{last_run}
use Rattle.debug_runs.specs.Lines.{steps_line_answer, stepping_answer, answer_at_once}
use Rattle.debug_runs.specs.Places.{places_if_unhalted, places_of_line, places_of_run}
use Rattle.debug_runs.specs.declared.endings.EndKind.TheVariants as kind
use Rattle.debug_runs.specs.declared.running.RunEnd.TheVariants as end
use Rattle.debug_runs.specs.declared.running.RunGoal.TheVariants.{Nowhere}
use Rattle.debug_runs.proofs.LineLemmas.{at_once, goes, has_same, last_ran, refused, run_last_is, run_shows}
use Rattle.debug_runs.proofs.PlaceLemmas.{counts_unhalted, counts_refused, counts_same, last_places}
use Rattle.debug_runs.proofs.lines.print_last.Goals as goal

pub returns-in-Some-clause-reported : goal.returns-in-Some-clause-reported
returns-in-Some-clause-reported c =
    let images = c.args.context.now.images.now in
    let s = script_state c.args.session.now images in
    let t = c.args.writer.now in
    let modes = c.args.context.now.modes.now in
    let labels = c.args.context.now.labels.now in
    let k = kind.Steps false in
    let r = last_run modes labels c.args.count s.left s in
    let a = line_end_answer k s (end.Stopped c.in-Some.stop) in
    let now = script_state c.print_line_end.new.session images in
    let is : stop_before_step_by s.machine.halt s.left ≡ Some c.in-Some.stop =
    ap (stop_before_step_by s.machine.halt) (sym (c.left-left.ensures images)) ∙ (sym (c.stop_within.ensures images) ∙ c.in-Some.is) in
    has_same c.print_line_end.result (answer_at_once a) (stepping_answer modes labels t.reported s (RunLast c.args.count)) now
    t t c.args.ending.now c.print_line_end.new.sink (run_last_is modes labels t.reported s c.args.count ∙ refused None s k s.left r c.in-Some.stop is)
    (at_once c.print_line_end.result a now t c.args.ending.now c.print_line_end.new.sink (c.print_line_end.ensures images))

pub returns-clause-reported : goal.returns-clause-reported
returns-clause-reported c =
    let images = c.args.context.now.images.now in
    let s = script_state c.args.session.now images in
    let t = c.args.writer.now in
    let modes = c.args.context.now.modes.now in
    let labels = c.args.context.now.labels.now in
    let k = kind.Steps false in
    let r = last_run modes labels c.args.count s.left s in
    let mid = script_state c.run_last.new.session images in
    let now = script_state c.print_run_end.new.session images in
    let left = c.left-left.ensures images in
    let is : stop_before_step_by s.machine.halt s.left ≡ None =
    ap (stop_before_step_by s.machine.halt) (sym left) ∙ (sym (c.stop_within.ensures images) ∙ c.in_default.is) in
    let ran = last_ran modes labels c.args.count c.left-left.result s mid t c.run_last.new.writer c.in_ok-end.end left c.in_ok-end.ensures.ran in
    has_same c.print_run_end.result (steps_line_answer None s k r) (stepping_answer modes labels t.reported s (RunLast c.args.count)) now
    t c.print_run_end.new.writer c.args.ending.now c.print_run_end.new.ending
    (run_last_is modes labels t.reported s c.args.count ∙ goes None s k s.left r is)
    (run_shows c.print_run_end.result None s mid now k r c.in_ok-end.end c.left-left.result
    t c.run_last.new.writer c.print_run_end.new.writer c.args.ending.now c.print_run_end.new.ending
    ran left (c.print_run_end.ensures images))

pub returns-in-Some-clause-counted : goal.returns-in-Some-clause-counted
returns-in-Some-clause-counted c =
    let images = c.args.context.now.images.now in
    let s = script_state c.args.session.now images in
    let modes = c.args.context.now.modes.now in
    let places = places_of_run modes Nowhere s.left s in
    let is : stop_before_step_by s.machine.halt s.left ≡ Some c.in-Some.stop =
    ap (stop_before_step_by s.machine.halt) (sym (c.left-left.ensures images)) ∙ (sym (c.stop_within.ensures images) ∙ c.in-Some.is) in
    counts_same c.print_line_end.result (places_if_unhalted s s.left places) (places_of_line modes s (RunLast c.args.count))
    c.args.counts.now c.args.counts.now (last_places modes s c.args.count)
    (counts_refused c.print_line_end.result s s.left places c.args.counts.now c.in-Some.stop is)

pub returns-clause-counted : goal.returns-clause-counted
returns-clause-counted c =
    let images = c.args.context.now.images.now in
    let s = script_state c.args.session.now images in
    let modes = c.args.context.now.modes.now in
    let left = c.left-left.ensures images in
    let places = places_of_run modes Nowhere s.left s in
    let is : stop_before_step_by s.machine.halt s.left ≡ None =
    ap (stop_before_step_by s.machine.halt) (sym left) ∙ (sym (c.stop_within.ensures images) ∙ c.in_default.is) in
    let same : steps_counted (places_of_run modes Nowhere c.left-left.result s) c.args.counts.now ≡ steps_counted places c.args.counts.now =
    ap (λ (n : ℕ). steps_counted (places_of_run modes Nowhere n s) c.args.counts.now) left in
    counts_same c.print_run_end.result (places_if_unhalted s s.left places) (places_of_line modes s (RunLast c.args.count))
    c.args.counts.now c.run_last.new.counts (last_places modes s c.args.count)
    (counts_unhalted c.print_run_end.result s s.left places c.args.counts.now c.run_last.new.counts is (c.in_ok-end.ensures.counted ∙ same))
