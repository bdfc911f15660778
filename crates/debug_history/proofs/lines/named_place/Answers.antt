use Rattle.std.proofs.Common.{◌∙◌}
use Rattle.debug_history.specs.Lines.{sought_in, sought_place}
use Rattle.debug_history.proofs.lines.named_place.Goals as goal

pub returns : goal.returns
unfolding sought_place
returns c =
    c.sought_in.ensures
    ∙ (λ i. sought_in c.args.mode (c.register_of_name-register.ensures i) (c.banked_register_named-banked.ensures i) (c.spelled.ensures i))
