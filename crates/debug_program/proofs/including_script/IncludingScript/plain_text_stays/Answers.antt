-- By the lemmas of IncludingLemmas.
use Rattle.debug_program.proofs.IncludingLemmas.{plain_stays}
use Rattle.debug_program.proofs.including_script.IncludingScript.plain_text_stays.Goals as goal

pub returns : goal.returns
returns g c = plain_stays
