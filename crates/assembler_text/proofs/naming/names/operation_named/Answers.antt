-- What `find` gives is what the definition says.
use Rattle.std.proofs.Common.{◌∙◌, sym, rules, tests}
use Rattle.std.proofs.lemmas.Iterator.{YieldsList-from_slice}
use Rattle.std.proofs.lemmas.Iterator.Adapters.{option_map_id}
use Rattle.std.proofs.lemmas.Iterator.Consumers.{YieldsList-from_copied}
use Rattle.std.proofs.lemmas.Iterator.Search.{find_from_yields_List}
use Rattle.arm_decode.specs.Names.{operations}
use Rattle.assembler_text.specs.naming.Names.{operation_named, names_operation}
use Rattle.assembler_text.proofs.naming.names.operation_named.Goals as goal

pub returns : goal.returns
unfolding operation_named
returns c =
    sym (option_map_id c.find.result) ∙ find_from_yields_List (names_operation c.args.name.now) _ _ c.find.result c.find.ensures.ran
    (YieldsList-from_copied (YieldsList-from_slice operations cc)) (λ x b q k. search (rules, tests))
