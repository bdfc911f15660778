use Rattle.instances_table.proofs.HandlerLemmas.{handler_below}
use Rattle.instances_table.proofs.table.InstanceTable.handler_of.Goals as goal

pub returns-clause-below : goal.returns-clause-below
returns-clause-below c = handler_below _ c.args.call _ (rw c.self.view_is at c.self.invariant) c.find_handler.ensures
