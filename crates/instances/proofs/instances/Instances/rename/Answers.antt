use Rattle.instances.proofs.GoingOn.{rename_goes_on, rename_keeps_slots}
use Rattle.instances.proofs.instances.Instances.rename.Goals as goal

pub returns-clause-going : goal.returns-clause-going
returns-clause-going c =
    rw (← c.self.view_is)
    (rename_goes_on c.self.inside.table c.rename.new.self c.args.full.now c.args.new.now c.rename.result c.rename.ensures)

pub returns-clause-slots : goal.returns-clause-slots
returns-clause-slots c =
    rw (← c.self.view_is)
    (rename_keeps_slots c.self.inside.table c.rename.new.self c.args.full.now c.args.new.now c.rename.result c.rename.ensures)
