use Rattle.std.proofs.Common.{ap}
use Rattle.command_shell.specs.State.{ScriptState}
use Rattle.command_shell.proofs.ScriptLemmas.{state_on_start}
use Rattle.command_shell.proofs.session.Session.start_anew.Goals as goal

pub returns-clause-made : goal.returns-clause-made
returns-clause-made c images =
    let made = c.in_ok-machine.ensures in
    ap (λ (s : ScriptState). let reported : ScriptState = record s { breaks = c.args.self.now.breaks } in reported)
    (state_on_start c.in_ok-machine.machine c.args.config images c.args.budget made.start made.sizes made.fresh)
