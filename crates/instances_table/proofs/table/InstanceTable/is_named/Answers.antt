use Rattle.std.proofs.Common.{◌≡◌, Some, None, sym, ◌∙◌, refl}
use Rattle.std.specs.Prelude.{slice_get}
use Rattle.std.proofs.lemmas.Option.{slice_get-map}
use Rattle.instances_table.specs.Table.{module_of}
use Rattle.instances_table.proofs.ViewLemmas.{named_view}
use Rattle.instances_table.proofs.table.InstanceTable.is_named.Goals as goal

pub returns-in-Some : goal.returns-in-Some
returns-in-Some c =
    let found : slice_get c.as_slice.result.now c.args.number ≡ Some c.in-Some.loaded.now = sym c.in-Some.ensures in
    rw (← c.self.view_is) (rw c.as_slice-in-Some.ensures.value at c.is_named.ensures
    ∙ sym (named_view c.self.inside.names c.self.inside.modules.items c.args.number c.in-Some.loaded.now c.args.name.now
    (rw c.as_slice.ensures.value at found)))

pub returns-in-None : goal.returns-in-None
returns-in-None c =
    let none : slice_get c.as_slice.result.now c.args.number ≡ None = sym c.in-None.ensures in
    let gone : slice_get c.self.inside.modules.items c.args.number ≡ None = rw c.as_slice.ensures.value at none in
    rw (← c.self.view_is, slice_get-map (module_of c.self.inside.names) c.self.inside.modules.items c.args.number, gone) refl
