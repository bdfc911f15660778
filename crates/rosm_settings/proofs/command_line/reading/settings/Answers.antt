use Rattle.std.proofs.Common.{◌∙◌, Bool, Err, ap, sym}
use Rattle.std.specs.Prelude.{if◌then◌else◌, map}
use Rattle.rosm_settings.specs.declared.command_line.options.SettingsError.TheVariants.{Line}
use Rattle.rosm_settings.specs.command_line.Settings.{refusal_of, rows_for, settings_for, settings_in}
use Rattle.rosm_settings.proofs.command_line.reading.settings.Goals as goal

pub returns-in-Err : goal.returns-in-Err
unfolding settings_for
returns-in-Err c other =
    let is = c.refusal.ensures ∙ ap refusal_of c.kind.ensures in
    let refused = c.in-Err.ensures.refused (λ e. other (ap Err (is ∙ e))) in
    ap Err (is ∙ refused.0)
    ∙ sym (ap (λ (b : Bool). if b then settings_in (rows_for (map (λ w. w.now) c.args.words.now)) else Err Line) refused.1)
