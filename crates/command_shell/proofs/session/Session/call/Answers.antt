use Rattle.std.proofs.Common.{length, sym, ◌∙◌}
use Rattle.command_shell.specs.Calls.{answer_after_steps, call_done, call_made, first_step, step_made, stop_answer}
use Rattle.command_shell.specs.Session.{script_state}
use Rattle.command_shell.specs.State.{answer}
use Rattle.command_shell.proofs.AnswerLemmas.{shows_same, shows_then}
use Rattle.command_shell.proofs.CallLemmas.{can_step, call_refused, call_allowed}
use Rattle.command_shell.proofs.session.Session.call.Goals as goal

pub begin_call-requires : goal.begin_call-requires
begin_call-requires g c =
    let w = script_state c.args.self.now c.args.images.now in
    can_step w.machine.halt w.left (sym (c.stop_before_step.ensures c.args.images.now) ∙ c.in-None.is)

pub returns-in-Some-clause-reported : goal.returns-in-Some-clause-reported
returns-in-Some-clause-reported g c =
    let images = c.args.images.now in
    let w = script_state c.args.self.now images in
    let end = c.in-Some.stop in
    let first = first_step w c.args.call in
    shows_same c.stopped.result (g.W.Sink.contents c.args.sink.now) (g.W.Sink.contents c.stopped.new.sink)
    (script_state c.stopped.new.self images)
    (stop_answer w end) (call_made w first)
    (call_refused w first end (sym (c.stop_before_step.ensures images) ∙ c.in-Some.is)) (c.stopped.ensures.reported images)

pub returns-in_ok-begin_call-in-None-clause-reported : goal.returns-in_ok-begin_call-in-None-clause-reported
returns-in_ok-begin_call-in-None-clause-reported g c =
    let images = c.args.images.now in
    let w = script_state c.args.self.now images in
    let first = first_step w c.args.call in
    let begun = c.in_ok-begin_call-in-None.ensures in
    let done = shows_then c.finish.result (g.W.Sink.contents c.args.sink.now) (g.W.Sink.contents c.begin_call.new.sink)
    (g.W.Sink.contents c.finish.new.sink)
    (script_state c.finish.new.self images) (script_state c.begin_call.new.self images)
    (answer (step_made w first) first.printed)
    (λ after. answer_after_steps (length w.machine.tables.frames) after.left after) begun.text begun.state
    (rw c.frames-frames.ensures.value at c.finish.ensures.reported) in
    shows_same c.finish.result (g.W.Sink.contents c.args.sink.now) (g.W.Sink.contents c.finish.new.sink)
    (script_state c.finish.new.self images)
    (call_done w first) (call_made w first)
    (call_allowed w first (sym (c.stop_before_step.ensures images) ∙ c.in-None.is)) done
