use Rattle.rosm_settings.proofs.SavedFilesLemmas.{one_word}
use Rattle.rosm_settings.proofs.saved_files.saved_words.Goals as goal

pub returns-in_default-clause-none : goal.returns-in_default-clause-none
returns-in_default-clause-none c = one_word c.args.line.now c.cut.result.0.now c.cut.result.1 c.cut.ensures.parts c.in_default.is
