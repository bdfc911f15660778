use Rattle.swi_dispatch_guest.proofs.Runs.{runs_on}
use Rattle.swi_dispatch_guest.proofs.laws.runs_add_up.Goals as goal

pub returns : goal.returns
returns c = λ images breaks s n m. runs_on images breaks n m s
