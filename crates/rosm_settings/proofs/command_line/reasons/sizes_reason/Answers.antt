use Rattle.std.proofs.Common.{◌≡◌, List, string_bytes, subst}
use Rattle.std.specs.Prelude.{IfOk}
use Rattle.clap.specs.Words.{Row}
use Rattle.rosm_settings.specs.command_line.Reasons.{sizes_text}
use Rattle.rosm_settings.proofs.CommandLineLemmas.SettingsLemmas.{no_reason}
use Rattle.rosm_settings.proofs.command_line.reasons.sizes_reason.Goals as goal

pub returns-in-Ok : goal.returns-in-Ok
returns-in-Ok c line =
    subst (λ (r : List Row). IfOk c.bad_size.result (λ reason. string_bytes reason ≡ sizes_text r))
    c.in-Ok.ensures.rows c.bad_size.ensures

pub returns-in-Err : goal.returns-in-Err
returns-in-Err c line = no_reason _ c.in-Err.error _ _ c.in-Err.ensures.refused line c.words_reason.ensures
