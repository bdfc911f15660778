use Rattle.instances.proofs.ReadyLemmas.{clear_ready}
use Rattle.instances.proofs.instances.Instances.plan_clear.Goals as goal

pub returns-clause-ready : goal.returns-clause-ready
returns-clause-ready c =
    rw (← c.self.view_is, c.clear.ensures, c.as_slice.ensures.value, c.slots-slots.ensures.value)
    (clear_ready c.given_only.result c.self.inside.table c.slots-slots.ensures.table)
