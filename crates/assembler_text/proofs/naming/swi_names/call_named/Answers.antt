-- What `find` gives is what the definition says.
use Rattle.std.proofs.Common.{◌∙◌, sym, rules, tests}
use Rattle.std.proofs.lemmas.Iterator.{YieldsList-from_slice}
use Rattle.std.proofs.lemmas.Iterator.Adapters.{option_map_id}
use Rattle.std.proofs.lemmas.Iterator.Consumers.{YieldsList-from_copied}
use Rattle.std.proofs.lemmas.Iterator.Search.{find_from_yields_List}
use Rattle.assembler_text.specs.naming.SwiNames.{call_named, call_numbers, names_call}
use Rattle.assembler_text.proofs.naming.swi_names.call_named.Goals as goal

pub returns : goal.returns
unfolding call_named
returns c =
    sym (option_map_id c.find.result) ∙ find_from_yields_List (names_call c.args.name.now) _ _ c.find.result c.find.ensures.ran
    (YieldsList-from_copied (YieldsList-from_slice call_numbers cc)) (λ x b q k. search (rules, tests))
