use Rattle.std.proofs.lemmas.Result.{IfOk-weaker}
use Rattle.rosm_settings.proofs.CommandLineLemmas.SettingsLemmas.{outcome_refused, outcome_taken, rows_taken}
use Rattle.rosm_settings.proofs.command_line.reading.matches_for.Goals as goal

pub returns-clause-line : goal.returns-clause-line
returns-clause-line c = outcome_taken _ _ c.in_ok-command.ensures _ c.try_get_matches_from.ensures.kinds

pub returns-clause-rows : goal.returns-clause-rows
returns-clause-rows c =
    IfOk-weaker c.try_get_matches_from.result _ _ (rows_taken _ _ c.in_ok-command.ensures)
    c.try_get_matches_from.ensures.matches

pub returns-clause-refused : goal.returns-clause-refused
returns-clause-refused c = outcome_refused _ _ c.in_ok-command.ensures _ c.try_get_matches_from.ensures.kinds
