use Rattle.std.proofs.Common.{List, string_bytes, subst}
use Rattle.std.specs.Prelude.{IfOk}
use Rattle.clap.specs.Words.{Row}
use Rattle.rosm_settings.specs.command_line.Reasons.{ShowsNumber}
use Rattle.rosm_settings.proofs.CommandLineLemmas.SettingsLemmas.{no_reason}
use Rattle.rosm_settings.proofs.command_line.reasons.line_reason.Goals as goal

pub returns-in-Ok : goal.returns-in-Ok
returns-in-Ok c line =
    subst (λ (r : List Row). IfOk c.number_reason.result (λ reason. ShowsNumber r (string_bytes reason)))
    c.in-Ok.ensures.rows c.number_reason.ensures

pub returns-in-Err : goal.returns-in-Err
returns-in-Err c line = no_reason _ c.in-Err.error _ _ c.in-Err.ensures.refused line c.words_reason.ensures
