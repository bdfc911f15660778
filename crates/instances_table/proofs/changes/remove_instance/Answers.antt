use Rattle.std.proofs.Common.{◌≡◌, ◌<◌, length, Some, None, sym, ◌∙◌, arith}
use Rattle.std.specs.List.{position}
use Rattle.instances_table.proofs.PlaceLemmas.{nowhere}
use Rattle.instances_table.proofs.ViewLemmas.{IsLeft, has_slot_in, module_kept, module_gone, none_gone}
use Rattle.instances_table.proofs.changes.remove_instance.Goals as goal

pub returns-then-not-is_empty : goal.returns-then-not-is_empty
returns-then-not-is_empty c = λ names.
    let found : position (has_slot_in c.args.slot) c.as_slice.result.now ≡ Some c.in-Some.number = sym c.number_of_slot.ensures.value ∙ c.in-Some.is in
    let left : IsLeft c.args.slot c.remove-loaded.result c.drop_slot.new.self = record {
      slots = c.drop_slot.ensures.slots;
      preferred = c.drop_slot.ensures.preferred;
      header = c.drop_slot.ensures.header;
      image = c.drop_slot.ensures.image;
    } in
    let some : 0 < length c.drop_slot.new.self.slots.items = grind (arith, c.is_empty.ensures, c.if-not-is_empty.true) in
    rw (c.insert.ensures.items, c.remove-loaded.ensures.items)
    (module_kept names c.args.slot c.args.modules.now.items c.in-Some.number c.remove-loaded.result c.drop_slot.new.self
    (rw c.as_slice.ensures.value at found) c.remove-loaded.ensures.value left some)

pub returns-else-not-is_empty : goal.returns-else-not-is_empty
returns-else-not-is_empty c = λ names.
    let found : position (has_slot_in c.args.slot) c.as_slice.result.now ≡ Some c.in-Some.number = sym c.number_of_slot.ensures.value ∙ c.in-Some.is in
    let left : IsLeft c.args.slot c.remove-loaded.result c.drop_slot.new.self = record {
      slots = c.drop_slot.ensures.slots;
      preferred = c.drop_slot.ensures.preferred;
      header = c.drop_slot.ensures.header;
      image = c.drop_slot.ensures.image;
    } in
    let none : length c.drop_slot.new.self.slots.items ≡ 0 = grind (arith, c.is_empty.ensures, c.if-not-is_empty.false) in
    rw c.remove-loaded.ensures.items
    (module_gone names c.args.slot c.args.modules.now.items c.in-Some.number c.remove-loaded.result c.drop_slot.new.self
    (rw c.as_slice.ensures.value at found) c.remove-loaded.ensures.value left none)

pub returns-in_default : goal.returns-in_default
returns-in_default c = λ names.
    let none : position (has_slot_in c.args.slot) c.as_slice.result.now ≡ None = sym c.number_of_slot.ensures.value ∙ c.in_default.is in
    none_gone names c.args.slot c.args.modules.now.items
    (nowhere (has_slot_in c.args.slot) c.args.modules.now.items (rw c.as_slice.ensures.value at none))
