-- Steps with stubs that are kept are steps with these.
use Rattle.std.proofs.Common.{List, subst}
use Rattle.std.specs.Prelude.{OnOk}
use Rattle.command_shell_lines.specs.declared.debug_words.stubs.Stub.{Stub}
use Rattle.debug_modules.specs.Acts.{moment_after_steps, moment_of_script}
use Rattle.debug_modules.specs.Again.{IsAtMoment}
use Rattle.debug_tables.specs.Session.{script_state}
use Rattle.debug_session.proofs.last_steps.steps_again.Goals as goal

pub returns-clause-moment : goal.returns-clause-moment
returns-clause-moment c =
    let s = script_state c.args.session.now c.args.images.now in
    subst (λ (xs : List Stub). OnOk c.deed_again.result (IsAtMoment s (script_state c.deed_again.new.session c.deed_again.new.images)
    (moment_after_steps xs s.images c.args.count (moment_of_script s)))) c.in_ok-kept.ensures c.deed_again.ensures.moment
