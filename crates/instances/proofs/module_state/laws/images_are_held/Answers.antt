use Rattle.instances.proofs.ModuleStateLemmas.LawLemmas.{images_are_held}
use Rattle.instances.proofs.module_state.laws.images_are_held.Goals as goal

pub returns : goal.returns
returns c = images_are_held
