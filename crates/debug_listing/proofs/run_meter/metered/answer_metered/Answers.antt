-- What the session answers to any other line, by the same command.
use Rattle.std.proofs.Common.{◌≡◌, ◌+◌, true, subst}
use Rattle.std.specs.Prelude.{Err, OnErr, OnOk}
use Rattle.command_shell_lines.specs.Blocks.{block_lines, lines_after, lines_taken}
use Rattle.debug_tables.specs.Fronts.{AreOldOrAnswer}
use Rattle.command_shell_lines.specs.Requests.{Request, opens_block}
use Rattle.debug_tables.specs.Script.{request_answer, takes_memory}
use Rattle.debug_tables.specs.Session.{script_state}
use Rattle.debug_tables.specs.State.{IsAnswered}
use Rattle.debug_tables.specs.RunError.TheVariants as error
use Rattle.debug_listing.proofs.run_meter.metered.answer_metered.Goals as goal

pub returns-in_default-clause-reported : goal.returns-in_default-clause-reported
returns-in_default-clause-reported g c =
    subst (λ (r : Request). OnOk c.answer.result (IsAnswered (g.W.Sink.contents c.args.sink.now)
    (g.W.Sink.contents c.answer.new.sink) (script_state c.answer.new.self c.answer.new.images)
    (request_answer (script_state c.args.session.now c.args.images.now) c.args.script.now.number r
    (block_lines c.args.script.now.left)))) c.same_command.ensures c.answer.ensures.reported

pub returns-in_default-clause-left : goal.returns-in_default-clause-left
returns-in_default-clause-left g c =
    subst (λ (r : Request). OnOk c.answer.result (c.answer.new.script.left
    ≡ lines_after (opens_block r) c.args.script.now.left)) c.same_command.ensures c.answer.ensures.left

pub returns-in_default-clause-number : goal.returns-in_default-clause-number
returns-in_default-clause-number g c =
    subst (λ (r : Request). OnOk c.answer.result (c.answer.new.script.number ≡ c.args.script.now.number
    + lines_taken (opens_block r) c.args.script.now.left)) c.same_command.ensures c.answer.ensures.number

pub returns-in_default-clause-memory : goal.returns-in_default-clause-memory
returns-in_default-clause-memory g c = c.answer.ensures.memory

pub returns-in_default-clause-taking : goal.returns-in_default-clause-taking
returns-in_default-clause-taking g c =
    subst (λ (r : Request). c.answer.result ≡ Err error.Memory → takes_memory c.args.images.now r ≡ true)
    c.same_command.ensures c.answer.ensures.taking

pub returns-in_default-clause-write_fault : goal.returns-in_default-clause-write_fault
returns-in_default-clause-write_fault g c = c.answer.ensures.write_fault

pub returns-in_default-clause-images : goal.returns-in_default-clause-images
returns-in_default-clause-images g c =
    subst (λ (r : Request). OnErr c.answer.result (AreOldOrAnswer c.args.images.now c.answer.new.images
    (request_answer (script_state c.args.session.now c.args.images.now) c.args.script.now.number r
    (block_lines c.args.script.now.left)))) c.same_command.ensures c.answer.ensures.images

pub returns-in_default-clause-errors : goal.returns-in_default-clause-errors
returns-in_default-clause-errors g c = c.answer.ensures.errors

pub returns-in_default-clause-same_flag : goal.returns-in_default-clause-same_flag
returns-in_default-clause-same_flag g c = c.answer.ensures.same_flag
