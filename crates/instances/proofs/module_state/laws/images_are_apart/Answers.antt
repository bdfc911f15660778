use Rattle.instances.proofs.ModuleStateLemmas.LawLemmas.{images_are_apart}
use Rattle.instances.proofs.module_state.laws.images_are_apart.Goals as goal

pub returns : goal.returns
returns c = images_are_apart
