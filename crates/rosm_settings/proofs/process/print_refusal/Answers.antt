use Rattle.rosm_settings.proofs.TextLemmas.{shows_no_memory}
use Rattle.rosm_settings.specs.Texts.{refusal_text}
use Rattle.rosm_settings.proofs.process.print_refusal.Goals as goal

pub returns-in-Err-clause-line : goal.returns-in-Err-clause-line
returns-in-Err-clause-line g c =
    shows_no_memory _ (refusal_text c.args.refusal.now) _ _ _ c.as_bytes-in-Err.ensures.value c.print_line-in-Err.ensures.text
