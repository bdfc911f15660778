use Rattle.std.proofs.Common.{◌∙◌}
use Rattle.command_shell.proofs.ScriptLemmas.{state_on_start}
use Rattle.command_shell.proofs.session.Session.on_fresh_machine.Goals as goal

pub returns : goal.returns
returns c images =
    let made = c.in_ok-machine.ensures in
    c.new-2.ensures images
    ∙ state_on_start c.in_ok-machine.machine c.args.config images c.args.budget made.start made.sizes made.fresh
