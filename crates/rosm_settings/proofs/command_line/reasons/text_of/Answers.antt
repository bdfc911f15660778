use Rattle.std.proofs.Common.{refl}
use Rattle.clap.specs.Words.{found_of}
use Rattle.rosm_settings.proofs.CommandLineLemmas.SettingsLemmas.{text_of-lent}
use Rattle.rosm_settings.proofs.command_line.reasons.text_of.Goals as goal

pub returns : goal.returns
returns c =
    text_of-lent (λ s. s.now) c.get_str.result _ c.unwrap_or.result (found_of c.args.matches.now) c.args.name.now
    c.unwrap_or.ensures c.get_str.ensures refl
