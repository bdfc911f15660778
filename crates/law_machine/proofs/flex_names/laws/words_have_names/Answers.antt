use Rattle.law_machine.proofs.FlexNamesLemmas.Words.{words_have_names}
use Rattle.law_machine.proofs.flex_names.laws.words_have_names.Goals as goal

pub returns : goal.returns
returns c = words_have_names
