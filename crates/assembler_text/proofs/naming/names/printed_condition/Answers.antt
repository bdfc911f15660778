-- What `find` gives is what the definition says.
use Rattle.std.proofs.Common.{◌∙◌, sym, rules, tests}
use Rattle.std.proofs.lemmas.Iterator.{YieldsList-from_slice}
use Rattle.std.proofs.lemmas.Iterator.Adapters.{option_map_id}
use Rattle.std.proofs.lemmas.Iterator.Consumers.{YieldsList-from_copied}
use Rattle.std.proofs.lemmas.Iterator.Search.{find_from_yields_List}
use Rattle.arm_decode.specs.Names.{conditions}
use Rattle.assembler_text.specs.naming.Names.{printed_condition, names_condition}
use Rattle.assembler_text.proofs.naming.names.printed_condition.Goals as goal

pub returns : goal.returns
unfolding printed_condition
returns c =
    sym (option_map_id c.find.result) ∙ find_from_yields_List (names_condition c.args.name.now) _ _ c.find.result c.find.ensures.ran
    (YieldsList-from_copied (YieldsList-from_slice conditions cc)) (λ x b q k. search (rules, tests))
