use Rattle.std.proofs.Common.{◌≡◌, false, sym, rules}
use Rattle.arm_decode.specs.Table.{form_of}
use Rattle.debug_tables.specs.Stubs.{has_swi_form}
use Rattle.debug_tables.proofs.AheadLemmas.{no_swi_in}
use Rattle.debug_tables.proofs.ahead.swi_in_word.Goals as goal

pub returns-in_default : goal.returns-in_default
returns-in_default c =
    let other : false ≡ has_swi_form (form_of c.args.word) = search rules in
    no_swi_in c.args.psr c.args.word (sym other)

pub returns-in_default-2 : goal.returns-in_default-2
returns-in_default-2 c =
    let other : false ≡ has_swi_form (form_of c.args.word) = search rules in
    no_swi_in c.args.psr c.args.word (sym other)
