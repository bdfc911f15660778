-- By the lemmas that are named.
use Rattle.std.proofs.Common.{◌≡◌, Some, None, length, sym, ap, subst, ◌∙◌, arith}
use Rattle.std.specs.Prelude.{OnOk}
use Rattle.law_machine.specs.Value.{MachineValue}
use Rattle.debug_tables.specs.GuestState.{state_of}
use Rattle.debug_tables.specs.Calls.{stop_before_step_by}
use Rattle.debug_tables.specs.Session.{script_state}
use Rattle.debug_tables.specs.State.{ScriptState}
use Rattle.debug_runs.specs.Endings.{line_end_answer}
use Rattle.debug_lines.specs.SteppingRequests.{Gosub}
use Rattle.debug_runs.specs.Lines.{steps_line_answer, stepping_answer, answer_at_once}
use Rattle.debug_tables.specs.Routines.{CallerState, caller_in, script_at_routine}
use Rattle.debug_runs.specs.Runs.{steps_run}
use Rattle.debug_runs.specs.Reported.{HasAnswer}
use Rattle.debug_runs.specs.declared.endings.EndKind.TheVariants as kind
use Rattle.debug_runs.specs.declared.running.RunEnd.TheVariants as end
use Rattle.debug_runs.specs.declared.running.RunGoal.TheVariants as goal_of
use Rattle.debug_tables.specs.counts.Counts.{steps_counted}
use Rattle.debug_runs.specs.Places.{places_if_unhalted, places_of_line, places_of_run}
use Rattle.debug_runs.proofs.PlaceLemmas.{counts_unhalted, counts_refused, counts_same, gosub_places}
use Rattle.debug_runs.proofs.LineLemmas.{at_once, goes, gosub_is, gosub_ran, has_same, refused, run_shows}
use Rattle.debug_runs.proofs.lines.print_gosub.Goals as goal

pub returns-in-Some-clause-reported : goal.returns-in-Some-clause-reported
returns-in-Some-clause-reported c =
    let images = c.args.context.now.images.now in
    let s = script_state c.args.session.now images in
    let t = c.args.writer.now in
    let modes = c.args.context.now.modes.now in
    let labels = c.args.context.now.labels.now in
    let k = kind.Routine (caller_in s) in
    let r = steps_run modes labels (goal_of.Routine (length s.machine.tables.frames)) s.left t.reported (script_at_routine s c.args.address) in
    let a = line_end_answer k s (end.Stopped c.in-Some.stop) in
    let now = script_state c.print_line_end.new.session images in
    let is : stop_before_step_by s.machine.halt s.left ≡ Some c.in-Some.stop =
    ap (stop_before_step_by s.machine.halt) (sym (c.left-left.ensures images)) ∙ (sym (c.stop_within.ensures images) ∙ c.in-Some.is) in
    has_same c.print_line_end.result (answer_at_once a) (stepping_answer modes labels t.reported s (Gosub c.args.address)) now
    t t c.args.ending.now c.print_line_end.new.sink (gosub_is modes labels t.reported s c.args.address ∙ refused t.reported s k s.left r c.in-Some.stop is)
    (at_once c.print_line_end.result a now t c.args.ending.now c.print_line_end.new.sink (c.print_line_end.ensures images))

pub returns-clause-reported : goal.returns-clause-reported
returns-clause-reported c =
    let images = c.args.context.now.images.now in
    let s = script_state c.args.session.now images in
    let t = c.args.writer.now in
    let modes = c.args.context.now.modes.now in
    let labels = c.args.context.now.labels.now in
    let k = kind.Routine (caller_in s) in
    let r = steps_run modes labels (goal_of.Routine (length s.machine.tables.frames)) s.left t.reported (script_at_routine s c.args.address) in
    let mid = script_state c.run_steps.new.session images in
    let now = script_state c.print_run_end.new.session images in
    let left = c.left-left.ensures images in
    let frames = c.frames.ensures.value ∙ ap (λ (m : MachineValue). length (state_of m.guest).tables.frames) c.machine.ensures in
    let is : stop_before_step_by s.machine.halt s.left ≡ None =
    ap (stop_before_step_by s.machine.halt) (sym left) ∙ (sym (c.stop_within.ensures images) ∙ c.in_default.is) in
    let ran = gosub_ran modes labels t.reported s (script_state c.enter.new.session images) mid c.args.address c.frames.result c.left-left.result
    t c.run_steps.new.writer c.in_ok-end.end frames left (c.enter.ensures images) c.in_ok-end.ensures.ran in
    let reported = run_shows c.print_run_end.result t.reported s mid now (kind.Routine c.caller_of.result) r c.in_ok-end.end c.left-left.result
    t c.run_steps.new.writer c.print_run_end.new.writer c.args.ending.now c.print_run_end.new.ending
    ran left (c.print_run_end.ensures images) in
    has_same c.print_run_end.result (steps_line_answer t.reported s k r) (stepping_answer modes labels t.reported s (Gosub c.args.address)) now
    t c.print_run_end.new.writer c.args.ending.now c.print_run_end.new.ending
    (gosub_is modes labels t.reported s c.args.address ∙ goes t.reported s k s.left r is)
    (subst (λ (x : CallerState). OnOk c.print_run_end.result (HasAnswer (steps_line_answer t.reported s (kind.Routine x) r) now
    t c.print_run_end.new.writer c.args.ending.now c.print_run_end.new.ending)) (c.caller_of.ensures images) reported)

pub run_steps-requires : goal.run_steps-requires
run_steps-requires c =
    let images = c.args.context.now.images.now in
    let left = c.left-left.ensures images in
    let same = ap (λ (w : ScriptState). w.left) (c.enter.ensures images) in
    omega (arith, left, same)

pub returns-in-Some-clause-counted : goal.returns-in-Some-clause-counted
returns-in-Some-clause-counted c =
    let images = c.args.context.now.images.now in
    let s = script_state c.args.session.now images in
    let modes = c.args.context.now.modes.now in
    let places = places_of_run modes (goal_of.Routine (length s.machine.tables.frames)) s.left (script_at_routine s c.args.address) in
    let is : stop_before_step_by s.machine.halt s.left ≡ Some c.in-Some.stop =
    ap (stop_before_step_by s.machine.halt) (sym (c.left-left.ensures images)) ∙ (sym (c.stop_within.ensures images) ∙ c.in-Some.is) in
    counts_same c.print_line_end.result (places_if_unhalted s s.left places) (places_of_line modes s (Gosub c.args.address))
    c.args.counts.now c.args.counts.now (gosub_places modes s c.args.address)
    (counts_refused c.print_line_end.result s s.left places c.args.counts.now c.in-Some.stop is)

pub returns-clause-counted : goal.returns-clause-counted
returns-clause-counted c =
    let images = c.args.context.now.images.now in
    let s = script_state c.args.session.now images in
    let modes = c.args.context.now.modes.now in
    let left = c.left-left.ensures images in
    let frames : c.frames.result ≡ length s.machine.tables.frames =
    c.frames.ensures.value ∙ ap (λ (m : MachineValue). length (state_of m.guest).tables.frames) c.machine.ensures in
    let entered = c.enter.ensures images in
    let places = places_of_run modes (goal_of.Routine (length s.machine.tables.frames)) s.left (script_at_routine s c.args.address) in
    let is : stop_before_step_by s.machine.halt s.left ≡ None =
    ap (stop_before_step_by s.machine.halt) (sym left) ∙ (sym (c.stop_within.ensures images) ∙ c.in_default.is) in
    let same : steps_counted (places_of_run modes (goal_of.Routine c.frames.result) c.left-left.result (script_state c.enter.new.session images)) c.args.counts.now
    ≡ steps_counted places c.args.counts.now =
    λ i. steps_counted (places_of_run modes (goal_of.Routine (frames i)) (left i) (entered i)) c.args.counts.now in
    counts_same c.print_run_end.result (places_if_unhalted s s.left places) (places_of_line modes s (Gosub c.args.address))
    c.args.counts.now c.run_steps.new.counts (gosub_places modes s c.args.address)
    (counts_unhalted c.print_run_end.result s s.left places c.args.counts.now c.run_steps.new.counts is (c.in_ok-end.ensures.counted ∙ same))
