use Rattle.arm_core.proofs.BreaksLemmas.Marks.{still_marked}
use Rattle.arm_core.proofs.breaks.breaks.Breaks.remove.Goals as goal

pub invariant_of-self : goal.invariant_of-self
invariant_of-self c = still_marked c.self.inside.marks c.self.inside.addresses.items _ c.in_ok-place.place c.self.invariant c.remove.ensures.items
