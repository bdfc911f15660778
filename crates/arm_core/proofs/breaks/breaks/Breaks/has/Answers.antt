use Rattle.std.proofs.Common.{◌≡◌, false, get_or, ◌∙◌, sym, ap}
use Rattle.arm_core.specs.breaks.Breaks.{mark_place_of, is_among}
use Rattle.arm_core.proofs.BreaksLemmas.Marks.{not_among}
use Rattle.arm_core.proofs.breaks.breaks.Breaks.has.Goals as goal

pub returns-then-not-self-mark_of : goal.returns-then-not-self-mark_of
returns-then-not-self-mark_of c =
    let clear : get_or c.self.inside.marks (mark_place_of c.args.address) false ≡ false =
    ap (λ k. get_or c.self.inside.marks k false) (sym c.mark_of.ensures.value) ∙ c.if-not-self-mark_of.true in
    not_among c.self.inside.marks c.self.inside.addresses.items c.args.address c.self.invariant clear
    ∙ ap (λ breaks. is_among breaks c.args.address) c.self.view_is
