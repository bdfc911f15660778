use Rattle.std.proofs.Common.{◌≡◌, Some, None, sym, ◌∙◌, arith}
use Rattle.std.specs.Prelude.{slice_get}
use Rattle.std.specs.List.{position}
use Rattle.instances_table.proofs.ImageLemmas.{last_shown, last_of_more, last_of_none, missing}
use Rattle.instances_table.proofs.ViewLemmas.{has_slot_in}
use Rattle.instances_table.proofs.images.image_of_last.Goals as goal

pub returns-in_err-number : goal.returns-in_err-number
returns-in_err-number c = λ names.
    let none : position (has_slot_in c.args.slot) c.args.modules.now ≡ None = sym c.number_of_slot.ensures.value ∙ c.in_err-number.was in
    c.from_residual.ensures ∙ sym (last_of_none names c.args.slot c.args.modules.now none)

pub returns-in_err-loaded : goal.returns-in_err-loaded
returns-in_err-loaded c = λ names.
    absurd (missing c.args.modules.now c.in_ok-number.number c.in_ok-number.ensures.within (sym c.in_err-loaded.ensures))

pub returns-then-len-gt1 : goal.returns-then-len-gt1
returns-then-len-gt1 c = λ names.
    let found : position (has_slot_in c.args.slot) c.args.modules.now ≡ Some c.in_ok-number.number = sym c.number_of_slot.ensures.value ∙ c.in_ok-number.was in
    let there : slice_get c.args.modules.now c.in_ok-number.number ≡ Some c.in_ok-loaded.loaded.now = sym c.in_ok-loaded.ensures in
    sym (last_of_more names c.args.slot c.args.modules.now c.in_ok-number.number c.in_ok-loaded.loaded.now found there
    (omega (arith, c.len.ensures.value, c.if-len-gt1.true)))

pub returns : goal.returns
returns c = λ names.
    let found : position (has_slot_in c.args.slot) c.args.modules.now ≡ Some c.in_ok-number.number = sym c.number_of_slot.ensures.value ∙ c.in_ok-number.was in
    let there : slice_get c.args.modules.now c.in_ok-number.number ≡ Some c.in_ok-loaded.loaded.now = sym c.in_ok-loaded.ensures in
    sym (last_shown names c.args.slot c.args.modules.now c.in_ok-number.number c.in_ok-loaded.loaded.now found there
    (omega (arith, c.len.ensures.value, c.if-len-gt1.false)))
