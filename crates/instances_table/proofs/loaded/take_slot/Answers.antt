use Rattle.std.proofs.Common.{◌≡◌, ◌==◌, sym, ◌∙◌, None, arith}
use Rattle.std.specs.List.{position}
use Rattle.instances_table.proofs.PlaceLemmas.{without_none, without_place}
use Rattle.instances_table.proofs.loaded.take_slot.Goals as goal

pub returns-in_default : goal.returns-in_default
returns-in_default c =
    let none : position (λ s. s == c.args.slot) c.as_slice.result.now ≡ None = sym c.place_of_slot.ensures.value ∙ c.in_default.is in
    sym (without_none (λ s. s == c.args.slot) c.args.slots.now.items (rw c.as_slice.ensures.value at none))

pub returns-in-Some : goal.returns-in-Some
returns-in-Some c = grind (arith, without_place, without_none)
