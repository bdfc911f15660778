use Rattle.std.proofs.Common.{refl}
use Rattle.std.proofs.lemmas.List.{map-append}
use Rattle.instances_table.specs.Changes.{with_instance}
use Rattle.instances_table.specs.Table.{name_of_slot, instance_of}
use Rattle.instances_table.proofs.ViewLemmas.{changed_view, refilled}
use Rattle.instances_table.proofs.changes.push_slot.Goals as goal

pub returns : goal.returns
returns c = λ names.
    rw (c.deref_mut.ensures.value, refilled c.args.modules.now.items c.args.number _)
    (changed_view names (with_instance (name_of_slot names c.args.slot) c.args.slot) c.args.modules.now.items c.args.number _ c.index-deref_mut-number.result c.requires.number
    (rw (c.push.ensures.items, map-append (instance_of names)) (rw (← c.deref_mut.ensures.value, ← c.index-deref_mut-number.is) refl)))
