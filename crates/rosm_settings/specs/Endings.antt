-- Why words are refused, and the exit status of the program: 2 for a command line that can't be, 4
-- for anything else that keeps a script from running whole, and else that of its last stop.
use Rattle.std.specs.Prelude.{◌≡◌, ◌⊎◌, ℕ, Bool, false, List, ◌++◌, Option, Result, Ok, Err, IfSome, codes}
use Rattle.std.specs.Io.KnownBytes.{Appends}
use Rattle.std.specs.declared.io.ErrorKind.{ErrorKind}
use Rattle.std.specs.declared.io.ErrorKind.TheVariants.{OutOfMemory}
use Rattle.profile.specs.declared.stop.Stop.{Stop}
use Rattle.profile.specs.Status.{status_after}
use Rattle.rosm_settings.specs.declared.command_line.options.Settings.{Settings}
use Rattle.rosm_settings.specs.declared.command_line.options.SettingsError.{SettingsError}
use Rattle.rosm_settings.specs.declared.command_line.options.SettingsError.TheVariants as refused
use Rattle.rosm_settings.specs.Texts.{refusal_text}
use Rattle.rosm_settings.specs.declared.refusal.SettingsRefusal.{SettingsRefusal}
use Rattle.rosm_settings.specs.declared.refusal.SettingsRefusal.TheVariants as refusal

-- The refusal is that of the words; memory may run out at any point.
abbrev pub IsSettingsRefusalOf : Result Settings SettingsError → SettingsRefusal → Type 0
IsSettingsRefusalOf answer refusal.Memory = Unit {0}
IsSettingsRefusalOf answer (refusal.Line reason) = answer ≡ Err refused.Line
IsSettingsRefusalOf answer (refusal.Sizes reason) = answer ≡ Err refused.Sizes
IsSettingsRefusalOf answer _ = ⊥

-- what the program is refused with where the host doesn't hand over its words
abbrev pub words_refused : ErrorKind → SettingsRefusal
words_refused OutOfMemory = refusal.Memory
words_refused _ = refusal.NotText

abbrev pub refusal_status : SettingsRefusal → ℕ
refusal_status refusal.Memory = 4
refusal_status refusal.NotText = 2
refusal_status (refusal.Line reason) = 2
refusal_status (refusal.Sizes reason) = 2
refusal_status (refusal.File path error) = 4
refusal_status (refusal.Script error) = 4

abbrev pub status_of : Result (Option Stop) SettingsRefusal → ℕ
status_of (Ok last) = status_after last
status_of (Err refused) = refusal_status refused

-- The text is that of the refusal, as far as it is known, or says that there was no memory for it.
abbrev pub IsAnswer : Option (List ℕ) → List ℕ → Type 0
IsAnswer reported text = IfSome reported (λ known. (text ≡ known) ⊎ (text ≡ codes "out of memory"))

-- One line was appended: the program's name, and what is shown of the refusal.
pub record ShowsLine (reported before after : Option (List ℕ)) : Type 0 where
  pub text : List ℕ
  pub is_shown : IsAnswer reported text
  pub line : Appends before after (codes "rosm: " ++ (text ++ codes "\n"))

-- What stands on standard error at the end: nothing after a script that ran whole, and else one
-- line, if it could be written.
abbrev pub ShowsEnding : {W : Type 0} → (W → Option (List ℕ)) → (W → Bool) → W → W →
    Result (Option Stop) SettingsRefusal → Type 0
ShowsEnding contents has_failed before after (Ok last) = after ≡ before
ShowsEnding contents has_failed before after (Err refused) =
    has_failed after ≡ false → ShowsLine (refusal_text refused) (contents before) (contents after)
