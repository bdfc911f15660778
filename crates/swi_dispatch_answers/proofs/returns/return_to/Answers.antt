-- As the definition says.
use Rattle.std.proofs.Common.{rules}
use Rattle.swi_dispatch_answers.specs.Returns.{state_after_return}
use Rattle.swi_dispatch_answers.proofs.returns.return_to.Goals as goal

pub returns : goal.returns
unfolding state_after_return
returns c = search rules
