use Rattle.instances.proofs.ReadyLemmas.{tidy_ready}
use Rattle.instances.proofs.instances.Instances.plan_tidy.Goals as goal

pub returns-clause-ready : goal.returns-clause-ready
returns-clause-ready c =
    rw (← c.self.view_is, c.tidy.ensures, c.as_slice.ensures.value, c.slots-slots.ensures.value)
    (tidy_ready c.given_only.result c.self.inside.table c.slots-slots.ensures.table)
