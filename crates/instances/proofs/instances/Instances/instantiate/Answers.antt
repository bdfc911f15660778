use Rattle.std.proofs.Common.{sym, ap}
use Rattle.instances_table.specs.ErrorNumber.TheVariants.{ModuleNotFound}
use Rattle.instances_table.specs.declared.plans.given.Given.{Given}
use Rattle.instances.proofs.ReadyLemmas.{instantiate_shown}
use Rattle.instances.proofs.instances.Instances.instantiate.Goals as goal

pub returns-clause-ready : goal.returns-clause-ready
returns-clause-ready c =
    rw (← c.self.view_is, c.instantiate.ensures)
    (instantiate_shown c.given_instance.result c.self.inside.table c.args.full.now c.in_ok-new.new c.module.result ModuleNotFound c.in_ok-info.info
    (sym c.in_ok-new.ensures.value) c.in_ok-new.ensures.room c.module.ensures c.in_ok-info.ensures.value
    (ap (λ (g : Given). g.header.title) c.given_instance.ensures) (ap (λ (g : Given). g.name) c.given_instance.ensures))
