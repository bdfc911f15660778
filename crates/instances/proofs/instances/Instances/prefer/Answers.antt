use Rattle.instances.proofs.GoingOn.{prefer_goes_on, prefer_keeps_slots}
use Rattle.instances.proofs.instances.Instances.prefer.Goals as goal

pub returns-clause-going : goal.returns-clause-going
returns-clause-going c =
    rw (← c.self.view_is) (prefer_goes_on c.self.inside.table c.prefer.new.self c.args.full.now c.prefer.result c.prefer.ensures)

pub returns-clause-slots : goal.returns-clause-slots
returns-clause-slots c =
    rw (← c.self.view_is) (prefer_keeps_slots c.self.inside.table c.prefer.new.self c.args.full.now c.prefer.result c.prefer.ensures)
