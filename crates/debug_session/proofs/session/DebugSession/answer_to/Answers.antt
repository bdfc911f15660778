use Rattle.std.proofs.Common.{refl}
use Rattle.debug_tables.specs.Memory.{script_with_budget}
use Rattle.debug_tables.specs.Session.{script_state}
use Rattle.command_shell_lines.specs.Blocks.{block_lines}
use Rattle.command_shell_lines.specs.Requests.{request_of_command}
use Rattle.debug_session.proofs.OwnLemmas.{gathered}
use Rattle.debug_session.proofs.session.DebugSession.answer_to.Goals as goal

pub returns-in-Ok-clause-reported : goal.returns-in-Ok-clause-reported
returns-in-Ok-clause-reported c =
    gathered c.over-text.result.bytes.items c.answer_metered.new.sink.bytes.items c.into_bytes.result.items
    (script_state c.answer_metered.new.session c.answer_metered.new.images)
    (script_state c.set_budget.new.self c.args.images.now)
    (script_with_budget (script_state c.args.self.now.session c.args.images.now) c.args.self.now.setting.budget)
    c.args.script.now.number (request_of_command c.args.command.now) (block_lines c.args.script.now.left)
    c.over-text.ensures c.into_bytes.ensures (c.set_budget.ensures c.args.images.now) (c.in-Ok.ensures).reported

pub returns-in-Ok-clause-left : goal.returns-in-Ok-clause-left
returns-in-Ok-clause-left c = c.in-Ok.ensures.left

pub returns-in-Ok-clause-number : goal.returns-in-Ok-clause-number
returns-in-Ok-clause-number c = c.in-Ok.ensures.number

pub returns-in-Ok-clause-rest : goal.returns-in-Ok-clause-rest
returns-in-Ok-clause-rest c = refl
