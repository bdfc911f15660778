use Rattle.std.proofs.Common.{arith, refl, ◌∙◌}
use Rattle.address_map.proofs.Viewing.{byte_viewed}
use Rattle.address_map.proofs.view.byte_of.Goals as goal

pub overflow_add-addr : goal.overflow_add-addr
overflow_add-addr c = omega (arith, (byte_viewed c.args.map.now c.args.addr c.args.len c.args.at c.requires.mapped c.requires.inside).below)

pub unwrap-requires : goal.unwrap-requires
unwrap-requires c =
    rw (c.load_byte.ensures ∙ (byte_viewed c.args.map.now c.args.addr c.args.len c.args.at c.requires.mapped c.requires.inside).loaded) refl
