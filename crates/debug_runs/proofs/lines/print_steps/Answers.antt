-- By the lemmas that are named.
use Rattle.std.proofs.Common.{◌≡◌, Some, None, sym, ◌∙◌}
use Rattle.debug_tables.specs.Calls.{stop_before_step_by}
use Rattle.debug_tables.specs.Session.{script_state}
use Rattle.debug_runs.specs.Endings.{line_end_answer}
use Rattle.debug_runs.specs.Lines.{steps_line_answer, answer_at_once, answer_if_unhalted}
use Rattle.debug_runs.specs.Runs.{steps_run}
use Rattle.debug_runs.specs.declared.running.RunEnd.TheVariants as end
use Rattle.debug_runs.specs.Places.{places_of_run}
use Rattle.debug_runs.proofs.PlaceLemmas.{counts_unhalted, counts_refused}
use Rattle.debug_runs.proofs.LineLemmas.{at_once, goes, has_same, refused, run_shows}
use Rattle.debug_runs.proofs.lines.print_steps.Goals as goal

pub returns-in-Some-clause-reported : goal.returns-in-Some-clause-reported
returns-in-Some-clause-reported c =
    let images = c.args.context.now.images.now in
    let s = script_state c.args.session.now images in
    let t = c.args.writer.now in
    let r = steps_run c.args.context.now.modes.now c.args.context.now.labels.now c.args.goal c.args.most t.reported s in
    let a = line_end_answer c.args.kind s (end.Stopped c.in-Some.stop) in
    let is : stop_before_step_by s.machine.halt c.args.most ≡ Some c.in-Some.stop = sym (c.stop_within.ensures images) ∙ c.in-Some.is in
    has_same c.print_line_end.result (answer_at_once a) (answer_if_unhalted t.reported s c.args.kind c.args.most r) (script_state c.print_line_end.new.session images)
    t t c.args.ending.now c.print_line_end.new.sink (refused t.reported s c.args.kind c.args.most r c.in-Some.stop is)
    (at_once c.print_line_end.result a (script_state c.print_line_end.new.session images) t c.args.ending.now c.print_line_end.new.sink
    (c.print_line_end.ensures images))

pub returns-clause-reported : goal.returns-clause-reported
returns-clause-reported c =
    let images = c.args.context.now.images.now in
    let s = script_state c.args.session.now images in
    let t = c.args.writer.now in
    let r = steps_run c.args.context.now.modes.now c.args.context.now.labels.now c.args.goal c.args.most t.reported s in
    let now = script_state c.print_run_end.new.session images in
    let is : stop_before_step_by s.machine.halt c.args.most ≡ None = sym (c.stop_within.ensures images) ∙ c.in_default.is in
    has_same c.print_run_end.result (steps_line_answer t.reported s c.args.kind r) (answer_if_unhalted t.reported s c.args.kind c.args.most r) now
    t c.print_run_end.new.writer c.args.ending.now c.print_run_end.new.ending (goes t.reported s c.args.kind c.args.most r is)
    (run_shows c.print_run_end.result t.reported s (script_state c.run_steps.new.session images) now c.args.kind r c.in_ok-end.end c.left-left.result
    t c.run_steps.new.writer c.print_run_end.new.writer c.args.ending.now c.print_run_end.new.ending
    c.in_ok-end.ensures.ran (c.left-left.ensures images) (c.print_run_end.ensures images))

pub returns-in-Some-clause-counted : goal.returns-in-Some-clause-counted
returns-in-Some-clause-counted c =
    let images = c.args.context.now.images.now in
    let s = script_state c.args.session.now images in
    let is : stop_before_step_by s.machine.halt c.args.most ≡ Some c.in-Some.stop = sym (c.stop_within.ensures images) ∙ c.in-Some.is in
    counts_refused c.print_line_end.result s c.args.most (places_of_run c.args.context.now.modes.now c.args.goal c.args.most s)
    c.args.counts.now c.in-Some.stop is

pub returns-clause-counted : goal.returns-clause-counted
returns-clause-counted c =
    let images = c.args.context.now.images.now in
    let s = script_state c.args.session.now images in
    let is : stop_before_step_by s.machine.halt c.args.most ≡ None = sym (c.stop_within.ensures images) ∙ c.in_default.is in
    counts_unhalted c.print_run_end.result s c.args.most (places_of_run c.args.context.now.modes.now c.args.goal c.args.most s)
    c.args.counts.now c.run_steps.new.counts is c.in_ok-end.ensures.counted
