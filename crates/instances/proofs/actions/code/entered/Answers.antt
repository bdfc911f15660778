use Rattle.std.proofs.Common.{sym, ◌∙◌}
use Rattle.instances.proofs.ActionsLemmas.Placed.{placed_below}
use Rattle.instances.proofs.actions.code.entered.Goals as goal

pub private_word-requires : goal.private_word-requires
private_word-requires c = placed_below c.args.slot c.args.table.now c.in_ok-place.place c.known.ensures (sym c.place_of_slot.ensures ∙ c.in_ok-place.was)
