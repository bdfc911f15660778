-- A line that takes steps in modes, and any other.
use Rattle.std.proofs.Common.{◌≡◌, ◌+◌, ℕ, Bool, false, Option, arith, refl, sym, subst}
use Rattle.std.specs.Prelude.{OnOk}
use Rattle.command_shell_lines.specs.Blocks.{block_lines, lines_after, lines_taken}
use Rattle.command_shell_lines.specs.Requests.{request_of_command}
use Rattle.debug_lines.specs.SteppingRequests.{SteppingRequest, stepping_request_of}
use Rattle.debug_modules.specs.Modes.{takes_over}
use Rattle.debug_session.specs.DebugScript.{script_line_answer_in, stepping_line_answer}
use Rattle.debug_session.specs.DebugState.{IsDebugged}
use Rattle.debug_session.specs.Session.{debug_state}
use Rattle.debug_modules.proofs.EnteringLemmas.{anyhow}
use Rattle.debug_session.proofs.SteppingLemmas.{stepping_alone}
use Rattle.debug_session.proofs.session.DebugSession.line_in_modes.Goals as goal

pub returns-in-Some-clause-reported : goal.returns-in-Some-clause-reported
returns-in-Some-clause-reported g c =
    subst (λ (o : Option SteppingRequest). OnOk c.stepping_line.result (IsDebugged (g.W.Sink.contents c.args.sink.now)
    (g.W.Sink.contents c.stepping_line.new.sink) (debug_state c.stepping_line.new.self c.args.images.now)
    (script_line_answer_in o c.args.self.now.setting (debug_state c.args.self.now c.args.images.now)
    c.args.script.now.number (request_of_command c.args.command.now) (block_lines c.args.script.now.left))))
    (c.in-Some.ensures c.args.images.now)
    (subst (λ (n : ℕ). OnOk c.stepping_line.result (IsDebugged (g.W.Sink.contents c.args.sink.now)
    (g.W.Sink.contents c.stepping_line.new.sink) (debug_state c.stepping_line.new.self c.args.images.now)
    (stepping_line_answer c.args.self.now.setting (debug_state c.args.self.now c.args.images.now) n false
    (stepping_request_of c.in-Some.steps)))) c.number.ensures c.stepping_line.ensures.reported)

pub returns-in-Some-clause-left : goal.returns-in-Some-clause-left
returns-in-Some-clause-left g c =
    let alone = stepping_alone (takes_over c.args.self.now.modes) (request_of_command c.args.command.now)
    (stepping_request_of c.in-Some.steps) (c.in-Some.ensures c.args.images.now) in
    subst (λ (b : Bool). OnOk c.stepping_line.result (c.args.script.now.left ≡ lines_after b c.args.script.now.left)) (sym alone)
    (anyhow c.stepping_line.result _ refl)

pub returns-in-None-clause-reported : goal.returns-in-None-clause-reported
returns-in-None-clause-reported g c =
    subst (λ (o : Option SteppingRequest). OnOk c.plain_line.result (IsDebugged (g.W.Sink.contents c.args.sink.now)
    (g.W.Sink.contents c.plain_line.new.sink) (debug_state c.plain_line.new.self c.plain_line.new.images)
    (script_line_answer_in o c.args.self.now.setting (debug_state c.args.self.now c.args.images.now)
    c.args.script.now.number (request_of_command c.args.command.now) (block_lines c.args.script.now.left))))
    (c.in-None.ensures c.args.images.now) c.plain_line.ensures.reported

pub returns-in-Some-clause-number : goal.returns-in-Some-clause-number
returns-in-Some-clause-number g c =
    let alone = stepping_alone (takes_over c.args.self.now.modes) (request_of_command c.args.command.now)
    (stepping_request_of c.in-Some.steps) (c.in-Some.ensures c.args.images.now) in
    subst (λ (b : Bool). OnOk c.stepping_line.result
    (c.args.script.now.number ≡ c.args.script.now.number + lines_taken b c.args.script.now.left)) (sym alone)
    (anyhow c.stepping_line.result _ (omega arith))

pub returns-in-Some-clause-ends : goal.returns-in-Some-clause-ends
returns-in-Some-clause-ends g c = c.stepping_line.ensures.ends

pub returns-in-None-clause-ends : goal.returns-in-None-clause-ends
returns-in-None-clause-ends g c = c.plain_line.ensures.ends

pub returns-in-Some-clause-setting : goal.returns-in-Some-clause-setting
returns-in-Some-clause-setting g c = c.stepping_line.ensures.setting

pub returns-in-None-clause-setting : goal.returns-in-None-clause-setting
returns-in-None-clause-setting g c = c.plain_line.ensures.setting
