-- The texts of the refusals of a command line.
use Rattle.std.specs.Prelude.{ℕ, List, codes}
use Rattle.rosm_settings.specs.declared.command_line.options.SettingsError.{SettingsError}
use Rattle.rosm_settings.specs.declared.command_line.options.SettingsError.TheVariants.{Memory, Line, Sizes}

abbrev pub usage_text : List ℕ
usage_text = codes "usage: rosm [--pages N] [--app N] [--rma N] [--budget N] [FILE...] <SCRIPT"

abbrev pub settings_error_text : SettingsError → List ℕ
settings_error_text Memory = codes "out of memory"
settings_error_text Line = usage_text
settings_error_text Sizes =
    codes "sizes: --app and --rma at least 1, --pages at most 1024 and at least app + rma + 3"
