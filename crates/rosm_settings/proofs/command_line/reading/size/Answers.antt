use Rattle.std.proofs.Common.{◌∙◌}
use Rattle.clap.specs.Words.{found_of}
use Rattle.rosm_settings.proofs.CommandLineLemmas.SettingsLemmas.{option_number-none, option_number-read}
use Rattle.rosm_settings.proofs.command_line.reading.size.Goals as goal

pub returns-in_err-get_str : goal.returns-in_err-get_str
returns-in_err-get_str c = c.from_residual.ensures ∙ option_number-none _ (found_of c.args.matches.now) _ c.in_err-get_str.ensures

pub returns : goal.returns
returns c = c.ok.ensures.value ∙ option_number-read _ (found_of c.args.matches.now) _ c.in_ok-get_str.field-0.now _ c.in_ok-get_str.ensures c.parse.ensures.value.0
