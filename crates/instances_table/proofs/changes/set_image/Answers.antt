use Rattle.std.proofs.Common.{◌<◌, ◌≤◌, length, sym, refl, arith}
use Rattle.std.proofs.lemmas.List.{length-map}
use Rattle.instances_table.specs.Changes.{with_image_at}
use Rattle.instances_table.specs.Table.{modules_of, module_of}
use Rattle.instances_table.proofs.ViewLemmas.{changed_view, changed_past, refilled}
use Rattle.instances_table.proofs.changes.set_image.Goals as goal

pub returns-then-number-len : goal.returns-then-number-len
returns-then-number-len c = λ names.
    let within : c.args.number < length c.args.modules.now.items = omega arith in
    rw (c.deref_mut.ensures.value, refilled c.args.modules.now.items c.args.number _)
    (changed_view names (with_image_at c.args.at) c.args.modules.now.items c.args.number _ c.index-deref_mut-number.result within refl)

pub returns-else-number-len : goal.returns-else-number-len
returns-else-number-len c = λ names.
    let past : length c.args.modules.now.items ≤ c.args.number = omega arith in
    sym (changed_past (with_image_at c.args.at) (modules_of names c.args.modules.now.items) c.args.number
    (omega (arith, length-map c.args.modules.now.items (module_of names))))
