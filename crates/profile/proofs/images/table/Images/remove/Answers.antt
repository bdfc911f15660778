use Rattle.std.proofs.Common.{ap, sym, ◌∙◌}
use Rattle.std.specs.List.{position}
use Rattle.profile.proofs.ImagesLemmas.EntriesLemmas.{IsTable-less, all_left, is_named, taken_out, was_absent, was_there}
use Rattle.profile.proofs.images.table.Images.remove.Goals as goal

pub invariant_of-self : goal.invariant_of-self
invariant_of-self c =
    let place = ap (position (is_named c.args.name.now)) (sym c.as_slice.ensures.value) ∙ sym c.in-Some.ensures.place in
    rw (c.remove.ensures.items, taken_out c.args.name.now c.self.inside.list.items _ place) (IsTable-less _ _ c.self.invariant)

pub returns-clause-was_there : goal.returns-clause-was_there
returns-clause-was_there c =
    let place = ap (position (is_named c.args.name.now)) (sym c.as_slice.ensures.value) ∙ sym c.in-Some.ensures.place in
    rw (← c.self.view_is) (sym (was_there c.args.name.now c.self.inside.list.items _ place))

pub returns-clause-left : goal.returns-clause-left
returns-clause-left c =
    let place = ap (position (is_named c.args.name.now)) (sym c.as_slice.ensures.value) ∙ sym c.in-Some.ensures.place in
    rw (← c.self.view_is, c.remove.ensures.items) (taken_out c.args.name.now c.self.inside.list.items _ place)

pub returns-in_default-clause-was_there : goal.returns-in_default-clause-was_there
returns-in_default-clause-was_there c =
    let none = ap (position (is_named c.args.name.now)) (sym c.as_slice.ensures.value) ∙ sym c.in_default.ensures.place in
    rw (← c.self.view_is) (sym (was_absent c.args.name.now c.self.inside.list.items none))

pub returns-in_default-clause-left : goal.returns-in_default-clause-left
returns-in_default-clause-left c =
    let none = ap (position (is_named c.args.name.now)) (sym c.as_slice.ensures.value) ∙ sym c.in_default.ensures.place in
    rw (← c.self.view_is) (all_left c.args.name.now c.self.inside.list.items none)
