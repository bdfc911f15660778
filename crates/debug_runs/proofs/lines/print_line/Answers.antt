-- By each line's equation.
use Rattle.std.proofs.Common.{◌≡◌, ℕ, false, ap, length, sym, ◌∙◌}
use Rattle.std.specs.Prelude.{min, nat_le}
use Rattle.debug_tables.specs.Step.{module_loaded, store_called}
use Rattle.debug_tables.specs.Session.{script_state}
use Rattle.trace_text.specs.Step.{call_start_text, load_start_text}
use Rattle.debug_lines.specs.SteppingRequests.{stepping_request_of}
use Rattle.debug_lines.specs.declared.stepping.SteppingCommand.{SteppingCommand}
use Rattle.debug_runs.specs.Lines.{call_line_answer, finish_answer, stepping_answer, answer_if_unhalted}
use Rattle.debug_runs.specs.Runs.{steps_run}
use Rattle.debug_runs.specs.declared.endings.EndKind.TheVariants as kind
use Rattle.debug_runs.specs.declared.running.RunGoal.TheVariants as goal_of
use Rattle.debug_runs.specs.Places.{places_if_unhalted, places_of_finish, places_of_line, places_of_outside, places_of_run}
use Rattle.debug_runs.proofs.PlaceLemmas.{call_places, counts_same, finish_places, load_places, run_places, step_places}
use Rattle.debug_runs.proofs.LineLemmas.{call_is, finish_is, has_same, load_is, run_is, step_is}
use Rattle.debug_runs.proofs.lines.print_line.Goals as goal

pub returns-in-Run-clause-reported : goal.returns-in-Run-clause-reported
returns-in-Run-clause-reported c =
    let images = c.args.context.now.images.now in
    let s = script_state c.args.session.now images in
    let t = c.args.writer.now in
    let modes = c.args.context.now.modes.now in
    let labels = c.args.context.now.labels.now in
    let left = c.left-left.ensures images in
    let same : answer_if_unhalted t.reported s (kind.Steps false) c.left-left.result (steps_run modes labels goal_of.Nowhere c.left-left.result t.reported s)
    ≡ answer_if_unhalted t.reported s (kind.Steps false) s.left (steps_run modes labels goal_of.Nowhere s.left t.reported s) =
    λ i. answer_if_unhalted t.reported s (kind.Steps false) (left i) (steps_run modes labels goal_of.Nowhere (left i) t.reported s) in
    has_same c.print_steps.result
    (answer_if_unhalted t.reported s (kind.Steps false) c.left-left.result (steps_run modes labels goal_of.Nowhere c.left-left.result t.reported s))
    (stepping_answer modes labels t.reported s (stepping_request_of c.args.line.now)) (script_state c.print_steps.new.session images)
    t c.print_steps.new.writer c.args.ending.now c.print_steps.new.ending
    (ap (λ (l : SteppingCommand). stepping_answer modes labels t.reported s (stepping_request_of l)) c.in-Run.is ∙ (run_is modes labels t.reported s ∙ sym same))
    c.print_steps.ensures.reported

pub returns-in-Step-clause-reported : goal.returns-in-Step-clause-reported
returns-in-Step-clause-reported c =
    let images = c.args.context.now.images.now in
    let s = script_state c.args.session.now images in
    let t = c.args.writer.now in
    let modes = c.args.context.now.modes.now in
    let labels = c.args.context.now.labels.now in
    let left = c.left-left.ensures images in
    let count = c.in-Step.count in
    let from = c.from-count.result in
    let counted : from ≡ count = c.from-count.ensures in
    let most : c.min-most.result ≡ min count s.left =
    c.min-most.ensures ∙ (ap (λ (n : ℕ). min n c.left-left.result) counted ∙ ap (min count) left) in
    let same : answer_if_unhalted t.reported s (kind.Steps (nat_le from c.left-left.result)) c.min-most.result (steps_run modes labels goal_of.Nowhere c.min-most.result t.reported s)
    ≡ answer_if_unhalted t.reported s (kind.Steps (nat_le count s.left)) (min count s.left) (steps_run modes labels goal_of.Nowhere (min count s.left) t.reported s) =
    λ i. answer_if_unhalted t.reported s (kind.Steps (nat_le (counted i) (left i))) (most i) (steps_run modes labels goal_of.Nowhere (most i) t.reported s) in
    has_same c.print_steps-in-Step.result
    (answer_if_unhalted t.reported s (kind.Steps (nat_le from c.left-left.result)) c.min-most.result (steps_run modes labels goal_of.Nowhere c.min-most.result t.reported s))
    (stepping_answer modes labels t.reported s (stepping_request_of c.args.line.now)) (script_state c.print_steps-in-Step.new.session images)
    t c.print_steps-in-Step.new.writer c.args.ending.now c.print_steps-in-Step.new.ending
    (ap (λ (l : SteppingCommand). stepping_answer modes labels t.reported s (stepping_request_of l)) c.in-Step.is ∙ (step_is modes labels t.reported s count ∙ sym same))
    c.print_steps-in-Step.ensures.reported

pub returns-in-Call-clause-reported : goal.returns-in-Call-clause-reported
returns-in-Call-clause-reported c =
    let images = c.args.context.now.images.now in
    let s = script_state c.args.session.now images in
    let t = c.args.writer.now in
    let modes = c.args.context.now.modes.now in
    let labels = c.args.context.now.labels.now in
    let number = c.in-Call.number in
    has_same c.print_call.result
    (call_line_answer modes labels t.reported s (call_start_text s.machine.cpu s.machine.store.bytes number) (store_called s.images s.machine number))
    (stepping_answer modes labels t.reported s (stepping_request_of c.args.line.now)) (script_state c.print_call.new.session images)
    t c.print_call.new.writer c.args.ending.now c.print_call.new.ending
    (ap (λ (l : SteppingCommand). stepping_answer modes labels t.reported s (stepping_request_of l)) c.in-Call.is ∙ call_is modes labels t.reported s number)
    c.print_call.ensures.reported

pub returns-in-Load-clause-reported : goal.returns-in-Load-clause-reported
returns-in-Load-clause-reported c =
    let images = c.args.context.now.images.now in
    let s = script_state c.args.session.now images in
    let t = c.args.writer.now in
    let modes = c.args.context.now.modes.now in
    let labels = c.args.context.now.labels.now in
    let text = c.in-Load.text.now in
    has_same c.print_call-in-Load.result
    (call_line_answer modes labels t.reported s (load_start_text text) (module_loaded s.images s.machine text))
    (stepping_answer modes labels t.reported s (stepping_request_of c.args.line.now)) (script_state c.print_call-in-Load.new.session images)
    t c.print_call-in-Load.new.writer c.args.ending.now c.print_call-in-Load.new.ending
    (ap (λ (l : SteppingCommand). stepping_answer modes labels t.reported s (stepping_request_of l)) c.in-Load.is ∙ load_is modes labels t.reported s text)
    c.print_call-in-Load.ensures.reported

pub returns-in-Finish-clause-reported : goal.returns-in-Finish-clause-reported
returns-in-Finish-clause-reported c =
    let images = c.args.context.now.images.now in
    let s = script_state c.args.session.now images in
    let t = c.args.writer.now in
    let modes = c.args.context.now.modes.now in
    let labels = c.args.context.now.labels.now in
    has_same c.print_finish.result
    (finish_answer modes labels t.reported s (length s.machine.tables.frames))
    (stepping_answer modes labels t.reported s (stepping_request_of c.args.line.now)) (script_state c.print_finish.new.session images)
    t c.print_finish.new.writer c.args.ending.now c.print_finish.new.ending
    (ap (λ (l : SteppingCommand). stepping_answer modes labels t.reported s (stepping_request_of l)) c.in-Finish.is ∙ finish_is modes labels t.reported s)
    c.print_finish.ensures.reported

pub returns-in-Run-clause-counted : goal.returns-in-Run-clause-counted
returns-in-Run-clause-counted c =
    let images = c.args.context.now.images.now in
    let s = script_state c.args.session.now images in
    let modes = c.args.context.now.modes.now in
    let left = c.left-left.ensures images in
    let same : places_if_unhalted s c.left-left.result (places_of_run modes goal_of.Nowhere c.left-left.result s)
    ≡ places_if_unhalted s s.left (places_of_run modes goal_of.Nowhere s.left s) =
    λ i. places_if_unhalted s (left i) (places_of_run modes goal_of.Nowhere (left i) s) in
    counts_same c.print_steps.result
    (places_if_unhalted s c.left-left.result (places_of_run modes goal_of.Nowhere c.left-left.result s))
    (places_of_line modes s (stepping_request_of c.args.line.now)) c.args.counts.now c.print_steps.new.counts
    (ap (λ (l : SteppingCommand). places_of_line modes s (stepping_request_of l)) c.in-Run.is ∙ (run_places modes s ∙ sym same))
    c.print_steps.ensures.counted

pub returns-in-Step-clause-counted : goal.returns-in-Step-clause-counted
returns-in-Step-clause-counted c =
    let images = c.args.context.now.images.now in
    let s = script_state c.args.session.now images in
    let modes = c.args.context.now.modes.now in
    let left = c.left-left.ensures images in
    let count = c.in-Step.count in
    let counted : c.from-count.result ≡ count = c.from-count.ensures in
    let most : c.min-most.result ≡ min count s.left =
    c.min-most.ensures ∙ (ap (λ (n : ℕ). min n c.left-left.result) counted ∙ ap (min count) left) in
    let same : places_if_unhalted s c.min-most.result (places_of_run modes goal_of.Nowhere c.min-most.result s)
    ≡ places_if_unhalted s (min count s.left) (places_of_run modes goal_of.Nowhere (min count s.left) s) =
    λ i. places_if_unhalted s (most i) (places_of_run modes goal_of.Nowhere (most i) s) in
    counts_same c.print_steps-in-Step.result
    (places_if_unhalted s c.min-most.result (places_of_run modes goal_of.Nowhere c.min-most.result s))
    (places_of_line modes s (stepping_request_of c.args.line.now)) c.args.counts.now c.print_steps-in-Step.new.counts
    (ap (λ (l : SteppingCommand). places_of_line modes s (stepping_request_of l)) c.in-Step.is ∙ (step_places modes s count ∙ sym same))
    c.print_steps-in-Step.ensures.counted

pub returns-in-Call-clause-counted : goal.returns-in-Call-clause-counted
returns-in-Call-clause-counted c =
    let images = c.args.context.now.images.now in
    let s = script_state c.args.session.now images in
    let modes = c.args.context.now.modes.now in
    counts_same c.print_call.result
    (places_of_outside modes s (store_called s.images s.machine c.in-Call.number))
    (places_of_line modes s (stepping_request_of c.args.line.now)) c.args.counts.now c.print_call.new.counts
    (ap (λ (l : SteppingCommand). places_of_line modes s (stepping_request_of l)) c.in-Call.is ∙ call_places modes s c.in-Call.number)
    c.print_call.ensures.counted

pub returns-in-Load-clause-counted : goal.returns-in-Load-clause-counted
returns-in-Load-clause-counted c =
    let images = c.args.context.now.images.now in
    let s = script_state c.args.session.now images in
    let modes = c.args.context.now.modes.now in
    counts_same c.print_call-in-Load.result
    (places_of_outside modes s (module_loaded s.images s.machine c.in-Load.text.now))
    (places_of_line modes s (stepping_request_of c.args.line.now)) c.args.counts.now c.print_call-in-Load.new.counts
    (ap (λ (l : SteppingCommand). places_of_line modes s (stepping_request_of l)) c.in-Load.is ∙ load_places modes s c.in-Load.text.now)
    c.print_call-in-Load.ensures.counted

pub returns-in-Finish-clause-counted : goal.returns-in-Finish-clause-counted
returns-in-Finish-clause-counted c =
    let images = c.args.context.now.images.now in
    let s = script_state c.args.session.now images in
    let modes = c.args.context.now.modes.now in
    counts_same c.print_finish.result
    (places_of_finish modes s (length s.machine.tables.frames))
    (places_of_line modes s (stepping_request_of c.args.line.now)) c.args.counts.now c.print_finish.new.counts
    (ap (λ (l : SteppingCommand). places_of_line modes s (stepping_request_of l)) c.in-Finish.is ∙ finish_places modes s)
    c.print_finish.ensures.counted
