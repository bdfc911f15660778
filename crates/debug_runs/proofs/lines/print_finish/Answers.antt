-- By the lemmas that are named.
use Rattle.std.proofs.Common.{◌≡◌, ◌-◌, ◌<◌, ap, arith, length, sym, subst, ℕ, ◌∙◌}
use Rattle.law_machine.specs.Value.{MachineValue}
use Rattle.debug_tables.specs.GuestState.{state_of}
use Rattle.debug_tables.specs.Session.{script_state}
use Rattle.debug_runs.specs.Lines.{finish_answer, answer_if_unhalted}
use Rattle.debug_runs.specs.Runs.{steps_run}
use Rattle.debug_runs.specs.declared.endings.EndKind.TheVariants as kind
use Rattle.debug_runs.specs.declared.running.RunGoal.TheVariants as goal_of
use Rattle.debug_runs.specs.Places.{places_if_unhalted, places_of_finish, places_of_run}
use Rattle.debug_runs.proofs.PlaceLemmas.{counts_same, finish_some_places}
use Rattle.debug_runs.proofs.LineLemmas.{finish_some, has_same}
use Rattle.debug_runs.proofs.lines.print_finish.Goals as goal

pub returns-in_default-clause-reported : goal.returns-in_default-clause-reported
returns-in_default-clause-reported c =
    let images = c.args.context.now.images.now in
    let s = script_state c.args.session.now images in
    let t = c.args.writer.now in
    let modes = c.args.context.now.modes.now in
    let labels = c.args.context.now.labels.now in
    let left = c.left-left.ensures images in
    let frames : c.frames.result ≡ length s.machine.tables.frames =
    c.frames.ensures.value ∙ ap (λ (m : MachineValue). length (state_of m.guest).tables.frames) c.machine.ensures in
    let some : 0 < c.frames.result = omega arith in
    let opened : 0 < length s.machine.tables.frames = subst (λ (n : ℕ). 0 < n) frames some in
    let same : answer_if_unhalted t.reported s kind.Call c.left-left.result (steps_run modes labels (goal_of.Frames (c.frames.result - 1)) c.left-left.result t.reported s)
    ≡ answer_if_unhalted t.reported s kind.Call s.left (steps_run modes labels (goal_of.Frames (length s.machine.tables.frames - 1)) s.left t.reported s) =
    λ i. answer_if_unhalted t.reported s kind.Call (left i) (steps_run modes labels (goal_of.Frames (frames i - 1)) (left i) t.reported s) in
    has_same c.print_steps.result
    (answer_if_unhalted t.reported s kind.Call c.left-left.result (steps_run modes labels (goal_of.Frames (c.frames.result - 1)) c.left-left.result t.reported s))
    (finish_answer modes labels t.reported s (length s.machine.tables.frames)) (script_state c.print_steps.new.session images)
    t c.print_steps.new.writer c.args.ending.now c.print_steps.new.ending
    (finish_some modes labels t.reported s (length s.machine.tables.frames) opened ∙ sym same) c.print_steps.ensures.reported

pub returns-in_default-clause-counted : goal.returns-in_default-clause-counted
returns-in_default-clause-counted c =
    let images = c.args.context.now.images.now in
    let s = script_state c.args.session.now images in
    let modes = c.args.context.now.modes.now in
    let left = c.left-left.ensures images in
    let frames : c.frames.result ≡ length s.machine.tables.frames =
    c.frames.ensures.value ∙ ap (λ (m : MachineValue). length (state_of m.guest).tables.frames) c.machine.ensures in
    let some : 0 < c.frames.result = omega arith in
    let opened : 0 < length s.machine.tables.frames = subst (λ (n : ℕ). 0 < n) frames some in
    let same : places_if_unhalted s c.left-left.result (places_of_run modes (goal_of.Frames (c.frames.result - 1)) c.left-left.result s)
    ≡ places_if_unhalted s s.left (places_of_run modes (goal_of.Frames (length s.machine.tables.frames - 1)) s.left s) =
    λ i. places_if_unhalted s (left i) (places_of_run modes (goal_of.Frames (frames i - 1)) (left i) s) in
    counts_same c.print_steps.result
    (places_if_unhalted s c.left-left.result (places_of_run modes (goal_of.Frames (c.frames.result - 1)) c.left-left.result s))
    (places_of_finish modes s (length s.machine.tables.frames)) c.args.counts.now c.print_steps.new.counts
    (finish_some_places modes s (length s.machine.tables.frames) opened ∙ sym same) c.print_steps.ensures.counted
