use Rattle.std.proofs.Common.{ap}
use Rattle.command_shell.specs.Calls.{call_text, end_answer}
use Rattle.command_shell.specs.Session.{script_state}
use Rattle.command_shell.specs.State.{answer}
use Rattle.command_shell.proofs.AnswerLemmas.{shows_same, shows_text}
use Rattle.command_shell.proofs.session.Session.print_end.Goals as goal

pub returns-in-Returned-clause-reported : goal.returns-in-Returned-clause-reported
returns-in-Returned-clause-reported g c images =
    let w = script_state c.args.self.now images in
    let from = g.W.Sink.contents c.args.sink.now in
    let to = g.W.Sink.contents c.print_call.new.sink in
    shows_same c.print_call.result from to w (answer w (call_text w.machine)) (end_answer w c.args.end)
    (ap (end_answer w) c.in-Returned.is)
    (shows_text c.print_call.result from to w (call_text w.machine) c.print_call.ensures.text)
