use Rattle.rosm_settings.proofs.SavedFilesLemmas.{image_named, no_image}
use Rattle.rosm_settings.proofs.saved_files.saved_image.Goals as goal

pub returns-in-Ok-clause-named : goal.returns-in-Ok-clause-named
returns-in-Ok-clause-named c = λ line is.
    image_named line c.args.name.now c.args.path.now c.in-Ok.path.now c.in-Ok.ensures.cases.0 c.in-Ok.ensures.cases.1 is

pub returns-in-Err-clause-none : goal.returns-in-Err-clause-none
returns-in-Err-clause-none c = λ line is. no_image line c.args.name.now c.args.path.now c.in-Err.ensures.cases.0 is
