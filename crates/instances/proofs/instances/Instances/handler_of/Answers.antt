use Rattle.instances.proofs.Handling.{handler_held}
use Rattle.instances.proofs.instances.Instances.handler_of.Goals as goal

pub returns-clause-held : goal.returns-clause-held
returns-clause-held c = rw (← c.self.view_is, c.handler_of.ensures.value) (handler_held c.args.call c.self.inside.table c.known.ensures)
