-- By the lemmas that are named.
use Rattle.std.proofs.Common.{◌≡◌, Some, None, length, sym, ap, ◌∙◌}
use Rattle.law_machine.specs.Value.{MachineValue}
use Rattle.debug_tables.specs.GuestState.{state_of}
use Rattle.debug_tables.specs.Calls.{first_step, stop_before_step_by}
use Rattle.debug_tables.specs.Session.{script_state}
use Rattle.debug_tables.proofs.CallLemmas.{can_step}
use Rattle.debug_runs.specs.Calls.{outside_start_text, outside_text}
use Rattle.debug_runs.specs.Endings.{line_end_answer}
use Rattle.debug_runs.specs.Lines.{call_line_answer, steps_line_answer, answer_at_once}
use Rattle.debug_runs.specs.Runs.{call_run}
use Rattle.debug_runs.specs.declared.endings.EndKind.TheVariants as kind
use Rattle.debug_runs.specs.declared.running.RunEnd.TheVariants as end
use Rattle.debug_runs.specs.declared.running.RunGoal.TheVariants as goal_of
use Rattle.debug_tables.specs.counts.Counts.{steps_counted}
use Rattle.debug_runs.specs.Places.{places_of_call}
use Rattle.debug_runs.proofs.PlaceLemmas.{counts_unhalted, counts_refused}
use Rattle.debug_runs.proofs.LineLemmas.{at_once, call_ran, goes, has_same, refused, run_shows}
use Rattle.debug_runs.proofs.lines.print_call.Goals as goal

pub returns-in-Some-clause-reported : goal.returns-in-Some-clause-reported
returns-in-Some-clause-reported c =
    let images = c.args.context.now.images.now in
    let s = script_state c.args.session.now images in
    let t = c.args.writer.now in
    let modes = c.args.context.now.modes.now in
    let labels = c.args.context.now.labels.now in
    let o = first_step s c.args.call in
    let start = outside_start_text c.args.call s.machine in
    let r = call_run modes labels (goal_of.Frames (length s.machine.tables.frames)) s.left t.reported s (outside_text c.args.call s.machine o) o in
    let a = line_end_answer kind.Call s (end.Stopped c.in-Some.stop) in
    let is : stop_before_step_by s.machine.halt s.left ≡ Some c.in-Some.stop =
    ap (stop_before_step_by s.machine.halt) (sym (c.left-left.ensures images)) ∙ (sym (c.stop_within.ensures images) ∙ c.in-Some.is) in
    has_same c.print_line_end.result (answer_at_once a) (call_line_answer modes labels t.reported s start o) (script_state c.print_line_end.new.session images)
    t t c.args.ending.now c.print_line_end.new.sink (refused t.reported s kind.Call s.left r c.in-Some.stop is)
    (at_once c.print_line_end.result a (script_state c.print_line_end.new.session images) t c.args.ending.now c.print_line_end.new.sink
    (c.print_line_end.ensures images))

pub returns-clause-reported : goal.returns-clause-reported
returns-clause-reported c =
    let images = c.args.context.now.images.now in
    let s = script_state c.args.session.now images in
    let t = c.args.writer.now in
    let modes = c.args.context.now.modes.now in
    let labels = c.args.context.now.labels.now in
    let o = first_step s c.args.call in
    let start = outside_start_text c.args.call s.machine in
    let text = outside_text c.args.call s.machine o in
    let r = call_run modes labels (goal_of.Frames (length s.machine.tables.frames)) s.left t.reported s text o in
    let mid = script_state c.take_call.new.session images in
    let now = script_state c.print_run_end.new.session images in
    let left = c.left-left.ensures images in
    let frames : c.frames.result ≡ length s.machine.tables.frames =
    c.frames.ensures.value ∙ ap (λ (m : MachineValue). length (state_of m.guest).tables.frames) c.machine.ensures in
    let is : stop_before_step_by s.machine.halt s.left ≡ None =
    ap (stop_before_step_by s.machine.halt) (sym left) ∙ (sym (c.stop_within.ensures images) ∙ c.in_default.is) in
    let ran = call_ran modes labels t.reported s mid text o c.frames.result c.left-left.result t c.take_call.new.writer c.in_ok-end.end
    frames left c.in_ok-end.ensures.ran in
    has_same c.print_run_end.result (steps_line_answer t.reported s kind.Call r) (call_line_answer modes labels t.reported s start o) now
    t c.print_run_end.new.writer c.args.ending.now c.print_run_end.new.ending (goes t.reported s kind.Call s.left r is)
    (run_shows c.print_run_end.result t.reported s mid now kind.Call r c.in_ok-end.end c.left-left.result
    t c.take_call.new.writer c.print_run_end.new.writer c.args.ending.now c.print_run_end.new.ending
    ran left (c.print_run_end.ensures images))

pub take_call-requires-clause-some : goal.take_call-requires-clause-some
take_call-requires-clause-some c =
    let images = c.args.context.now.images.now in
    can_step (script_state c.args.session.now images).machine.halt c.left-left.result (sym (c.stop_within.ensures images) ∙ c.in_default.is)

pub returns-in-Some-clause-counted : goal.returns-in-Some-clause-counted
returns-in-Some-clause-counted c =
    let images = c.args.context.now.images.now in
    let s = script_state c.args.session.now images in
    let o = first_step s c.args.call in
    let is : stop_before_step_by s.machine.halt s.left ≡ Some c.in-Some.stop =
    ap (stop_before_step_by s.machine.halt) (sym (c.left-left.ensures images)) ∙ (sym (c.stop_within.ensures images) ∙ c.in-Some.is) in
    counts_refused c.print_line_end.result s s.left
    (places_of_call c.args.context.now.modes.now (goal_of.Frames (length s.machine.tables.frames)) s.left s o)
    c.args.counts.now c.in-Some.stop is

pub returns-clause-counted : goal.returns-clause-counted
returns-clause-counted c =
    let images = c.args.context.now.images.now in
    let s = script_state c.args.session.now images in
    let modes = c.args.context.now.modes.now in
    let o = first_step s c.args.call in
    let left = c.left-left.ensures images in
    let frames : c.frames.result ≡ length s.machine.tables.frames =
    c.frames.ensures.value ∙ ap (λ (m : MachineValue). length (state_of m.guest).tables.frames) c.machine.ensures in
    let is : stop_before_step_by s.machine.halt s.left ≡ None =
    ap (stop_before_step_by s.machine.halt) (sym left) ∙ (sym (c.stop_within.ensures images) ∙ c.in_default.is) in
    let same : steps_counted (places_of_call modes (goal_of.Frames c.frames.result) c.left-left.result s o) c.args.counts.now
    ≡ steps_counted (places_of_call modes (goal_of.Frames (length s.machine.tables.frames)) s.left s o) c.args.counts.now =
    λ i. steps_counted (places_of_call modes (goal_of.Frames (frames i)) (left i) s o) c.args.counts.now in
    counts_unhalted c.print_run_end.result s s.left (places_of_call modes (goal_of.Frames (length s.machine.tables.frames)) s.left s o)
    c.args.counts.now c.take_call.new.counts is (c.in_ok-end.ensures.counted ∙ same)
