use Rattle.std.proofs.Common.{sym, ap, ◌∙◌}
use Rattle.instances_table.specs.declared.plans.given.Given.{Given}
use Rattle.instances.proofs.ReadyLemmas.{load_ready}
use Rattle.instances.proofs.instances.Instances.adding_plan.Goals as goal

pub returns-clause-ready : goal.returns-clause-ready
returns-clause-ready c =
    rw (← c.self.view_is, c.load.ensures, c.as_slice-2.ensures.value, c.slots_of_title-old.ensures.value)
    (load_ready c.given_module.result c.as_slice.result.now c.args.slot c.self.inside.table
    (ap (λ (g : Given). g.header.title.items) c.given_module.ensures ∙ sym c.as_slice.ensures.value) c.slots_of_title-old.ensures.table c.requires.below
    (rw (c.as_slice.ensures.value, c.self.view_is) c.requires.free))
