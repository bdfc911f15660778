use Rattle.law_machine.proofs.OtherBytesLemmas.Actions.{actions_keep_others, plans_keep_others}
use Rattle.law_machine.proofs.OtherBytesLemmas.Names.{tidies_keep_words}
use Rattle.law_machine.proofs.other_bytes.laws.actions_keep_others.Goals as goal

pub returns : goal.returns
returns c = record { actions = actions_keep_others; plans = plans_keep_others; words = tidies_keep_words }
