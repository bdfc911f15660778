-- What words ask for, why they are refused, and the exit status: 2 for a command line that can't be, 4 for
-- anything else that keeps GDB from being served to its end, and else that of the last stop.
use Rattle.std.specs.Prelude.{◌≡◌, ℕ, List, Option, Some, None, Result, Ok, Err, option_map, string_bytes}
use Rattle.std.specs.declared.io.ErrorKind.{ErrorKind}
use Rattle.std.specs.declared.io.ErrorKind.TheVariants.{OutOfMemory}
use Rattle.profile.specs.declared.stop.Stop.{Stop}
use Rattle.rosm_settings.specs.command_line.Settings.{settings_for}
use Rattle.profile.specs.Status.{status_after}
use Rattle.rosm_settings.specs.declared.command_line.options.Settings.{Settings}
use Rattle.rosm_settings.specs.declared.command_line.options.SettingsError.{SettingsError}
use Rattle.rosm_settings.specs.declared.command_line.options.SettingsError.TheVariants as refused
use Rattle.rosm_settings.specs.gdb.Options.{machine_words, start_path_wanted}
use Rattle.rosm_settings.specs.declared.gdb.refusal.GdbRefusal.{GdbRefusal}
use Rattle.rosm_settings.specs.declared.gdb.refusal.GdbRefusal.TheVariants as refusal
use Rattle.rosm_settings.specs.declared.gdb.words.WantedGdb.{WantedGdb}

-- What the words ask for: one script at most, and the rest are words of `rosm`.
pub record AsksForGdb (words : List (List ℕ)) (wanted : WantedGdb) : Type 0 where
  pub script : start_path_wanted words ≡ Some (option_map string_bytes wanted.script)
  pub settings : settings_for (machine_words words) ≡ Ok wanted.settings

-- The refusal is this one of the words of `rosm`; memory may run out at any point.
abbrev pub IsMachineRefusal : Result Settings SettingsError → GdbRefusal → Type 0
IsMachineRefusal answer refusal.Memory = Unit {0}
IsMachineRefusal answer (refusal.Line reason) = answer ≡ Err refused.Line
IsMachineRefusal answer (refusal.Sizes reason) = answer ≡ Err refused.Sizes
IsMachineRefusal answer _ = ⊥

-- A line can't be that names more than one script, or one without a path; else the refusal is that of the
-- other words.
abbrev pub IsRefusalOfWords : Option (Option (List ℕ)) → Result Settings SettingsError → GdbRefusal → Type 0
IsRefusalOfWords None answer refusal.Memory = Unit {0}
IsRefusalOfWords None answer (refusal.Line reason) = Unit {0}
IsRefusalOfWords None answer _ = ⊥
IsRefusalOfWords (Some path) answer reported = IsMachineRefusal answer reported

abbrev pub IsGdbRefusalOf : List (List ℕ) → GdbRefusal → Type 0
IsGdbRefusalOf words reported = IsRefusalOfWords (start_path_wanted words)
    (settings_for (machine_words words)) reported

-- what the subcommand is refused with where the host doesn't hand over its words
abbrev pub gdb_words_refused : ErrorKind → GdbRefusal
gdb_words_refused OutOfMemory = refusal.Memory
gdb_words_refused _ = refusal.NotText

abbrev pub gdb_refusal_status : GdbRefusal → ℕ
gdb_refusal_status refusal.Memory = 4
gdb_refusal_status refusal.NotText = 2
gdb_refusal_status (refusal.Line reason) = 2
gdb_refusal_status (refusal.Sizes reason) = 2
gdb_refusal_status (refusal.File path error) = 4
gdb_refusal_status (refusal.Elf path) = 4
gdb_refusal_status (refusal.Start error) = 4
gdb_refusal_status (refusal.Served error) = 4

abbrev pub gdb_status_of : Result (Option Stop) GdbRefusal → ℕ
gdb_status_of (Ok last) = status_after last
gdb_status_of (Err reported) = gdb_refusal_status reported
