use Rattle.std.proofs.Common.{sym, ◌∙◌}
use Rattle.command_shell.specs.Calls.{answer_after_steps}
use Rattle.command_shell.specs.Session.{script_state}
use Rattle.command_shell.proofs.CallLemmas.{call_ends, call_goes_on, fewer_steps, goes_left}
use Rattle.command_shell.proofs.session.Session.finish.Goals as goal

pub returns-in-Some-clause-reported : goal.returns-in-Some-clause-reported
returns-in-Some-clause-reported g c =
    let images = c.args.images.now in
    let start = script_state c.args.self.now images in
    let now = script_state c.print_end.new.self images in
    call_ends c.print_end.result (g.W.Sink.contents c.args.sink.now) (g.W.Sink.contents c.loop-end.sink)
    (g.W.Sink.contents c.print_end.new.sink)
    c.args.frames (script_state c.loop-end.self images) now c.in-Some.end (answer_after_steps c.args.frames start.left start)
    c.loop-end.invariant.text c.loop-end.invariant.state (sym (c.call_end.ensures images) ∙ c.in-Some.is)
    (c.print_end.ensures.reported images)

pub take_step-requires : goal.take_step-requires
take_step-requires g c =
    let images = c.args.images.now in
    goes_left (script_state c.loop-end.self images) c.args.frames (sym (c.call_end.ensures images) ∙ c.in-None.is)

pub loop-end-smaller : goal.loop-end-smaller
loop-end-smaller g c =
    let images = c.args.images.now in
    fewer_steps c.args.frames (script_state c.loop-end.self images) (script_state c.take_step.new.self images)
    (sym (c.call_end.ensures images) ∙ c.in-None.is) c.in_ok-take_step-in-None.ensures.state

pub loop-end-preserved : goal.loop-end-preserved
loop-end-preserved g c =
    let images = c.args.images.now in
    let start = script_state c.args.self.now images in
    let now = script_state c.take_step.new.self images in
    let step =
    call_goes_on (g.W.Sink.contents c.args.sink.now) (g.W.Sink.contents c.loop-end.sink)
    (g.W.Sink.contents c.take_step.new.sink)
    c.args.frames (script_state c.loop-end.self images) now (answer_after_steps c.args.frames start.left start)
    c.loop-end.invariant.text c.loop-end.invariant.state (sym (c.call_end.ensures images) ∙ c.in-None.is)
    c.in_ok-take_step-in-None.ensures.state c.in_ok-take_step-in-None.ensures.text in
    record {
      text = step.0;
      state = step.1;
      same_flag = c.in_ok-take_step-in-None.ensures.same_flag ∙ c.loop-end.invariant.same_flag;
    }
