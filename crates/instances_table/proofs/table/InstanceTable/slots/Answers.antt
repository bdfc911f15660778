use Rattle.std.proofs.Common.{◌≡◌, arith, ap, ◌<◌, ℕ, List, get_or, length, subst, sym, ◌∙◌}
use Rattle.instances_table.proofs.RoomLemmas.{modules_le, most_slots, slots_low}
use Rattle.instances_table.proofs.ViewLemmas.{slots_view}
use Rattle.instances_table.specs.Modules.{slots_of}
use Rattle.instances_table.specs.Table.{modules_of}
use Rattle.instances_table.proofs.table.InstanceTable.slots.Goals as goal

pub all_slots-requires : goal.all_slots-requires
all_slots-requires c =
    rw (c.as_slice.ensures.value, ← slots_view c.self.inside.names c.self.inside.modules.items)
    (most_slots (modules_of c.self.inside.names c.self.inside.modules.items) c.self.invariant)

pub returns-clause-value : goal.returns-clause-value
returns-clause-value c =
    rw (← c.self.view_is)
    (rw c.as_slice.ensures.value at c.all_slots.ensures ∙ sym (slots_view c.self.inside.names c.self.inside.modules.items))

pub returns-clause-below : goal.returns-clause-below
returns-clause-below c =
    let e : c.all_slots.result.items ≡ slots_of (modules_of c.self.inside.names c.self.inside.modules.items) =
    rw c.as_slice.ensures.value at c.all_slots.ensures ∙ sym (slots_view c.self.inside.names c.self.inside.modules.items) in
    subst (λ (xs : List ℕ). (k : ℕ) → k < length xs → get_or xs k 0 < 64) (sym e)
    (slots_low (modules_of c.self.inside.names c.self.inside.modules.items) c.self.invariant)

pub returns-clause-modules : goal.returns-clause-modules
returns-clause-modules c =
    let ms = modules_of c.self.inside.names c.self.inside.modules.items in
    let e : c.all_slots.result.items ≡ slots_of ms =
    rw c.as_slice.ensures.value at c.all_slots.ensures ∙ sym (slots_view c.self.inside.names c.self.inside.modules.items) in
    rw (← c.self.view_is) (omega (arith, modules_le ms c.self.invariant.each, ap (length {A = ℕ}) e))
