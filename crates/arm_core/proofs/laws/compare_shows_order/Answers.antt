use Rattle.arm_core.proofs.Comparing.{compare_shows}
use Rattle.arm_core.proofs.laws.compare_shows_order.Goals as goal

pub returns : goal.returns
returns c = compare_shows
