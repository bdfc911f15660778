use Rattle.instances_table.specs.ErrorNumber.TheVariants.{ModuleNotFound}
use Rattle.instances.proofs.ReadyLemmas.{reinit_ready, slot_held}
use Rattle.instances.proofs.instances.Instances.plan_reinit.Goals as goal

pub returns-clause-ready : goal.returns-clause-ready
returns-clause-ready c =
    rw (← c.self.view_is, c.reinit.ensures)
    (reinit_ready c.given_only.result c.in_ok-slot.slot c.in_ok-place.place.number c.self.inside.table
    (slot_held c.self.inside.table c.in_ok-place.place.number c.slot_of.result ModuleNotFound c.in_ok-slot.slot c.in_ok-slot.ensures.value c.slot_of.ensures.held))
