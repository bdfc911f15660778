use Rattle.law_machine.proofs.HeapFrameLemmas.Plans.{plans_fit}
use Rattle.law_machine.proofs.HeapFrameLemmas.Slots.{doable_below, modules_below}
use Rattle.law_machine.proofs.heap_frame.laws.plans_stay_fit.Goals as goal

pub returns : goal.returns
returns c = record { fit = plans_fit; modules = modules_below; plans = doable_below }
