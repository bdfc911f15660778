-- The whole run of the program: files as images, and then the script.
use Rattle.std.specs.Prelude.{◌≡◌, ◌<◌, ℕ, Bool, true, false, List, [], length, Option, IfSome}
use Rattle.std.specs.Io.KnownBytes.{Appends}
use Rattle.profile.specs.declared.stop.Stop.{Stop}
use Rattle.profile.specs.images.Entries.{Entry}
use Rattle.profile.specs.Output.{AddsFront}
use Rattle.command_shell.specs.Script.{script_answer}
use Rattle.command_shell.specs.State.{Answered}
use Rattle.rosm_settings.specs.declared.command_line.options.Settings.{Settings}
use Rattle.rosm_settings.specs.ImageFiles.{AddsFiles, StopsAtFile}
use Rattle.rosm_settings.specs.declared.refusal.SettingsRefusal.{SettingsRefusal}
use Rattle.rosm_settings.specs.declared.refusal.SettingsRefusal.TheVariants as refusal

-- what a script is answered with on a machine of the settings' sizes, within their budget
abbrev pub answers_to : Settings → List Entry → List ℕ → Answered
answers_to settings images script = script_answer settings.config images settings.budget script

-- With the files' images there from the start, the answers to the script are appended to what was
-- written before, all of them, and the last stop is the script's.
pub record AnswersScript {F : Type 0} (of_file : F → Option (List ℕ)) (settings : Settings)
    (script before after : Option (List ℕ)) (last : Option Stop) : Type 0 where
  pub images : List Entry
  pub files : AddsFiles of_file [] settings.files images
  pub text : IfSome script (λ bytes. Appends before after (answers_to settings images bytes).text)
  pub stop : IfSome script (λ bytes. last ≡ (answers_to settings images bytes).state.last)

-- Where memory runs out after the files, a front of these answers was appended.
pub record EndsWithin {F : Type 0} (of_file : F → Option (List ℕ)) (settings : Settings)
    (script before after : Option (List ℕ)) : Type 0 where
  pub images : List Entry
  pub files : AddsFiles of_file [] settings.files images
  pub text : IfSome script (λ bytes. AddsFront before after (answers_to settings images bytes).text)

-- refusals that come of files and scripts, and not of words
abbrev pub is_of_run : SettingsRefusal → Bool
is_of_run (refusal.File path error) = true
is_of_run (refusal.Script error) = true
is_of_run _ = false

-- The first file that gives no image is reported; nothing of the script has been read by then, and
-- nothing written.
pub record StopsBeforeScript {F R W : Type 0} (of_file : F → Option (List ℕ)) (paths : List (List ℕ))
    (r r' : R)
    (w w' : W) (reported : SettingsRefusal) : Type 0 where
  pub images : List Entry
  pub stops : StopsAtFile of_file [] images paths reported
  pub unread : r' ≡ r
  pub unwritten : w' ≡ w

abbrev pub RefusesFiles : {F R W : Type 0} → (F → Option (List ℕ)) → List (List ℕ) → R → R → W → W →
    SettingsRefusal → Type 0
RefusesFiles of_file paths r r' w w' (refusal.File path error) =
    StopsBeforeScript of_file paths r r' w w' (refusal.File path error)
RefusesFiles of_file paths r r' w w' _ = Unit {0}

-- The last stop is that of a script that a reader shows, with the files' images there from the
-- start.
pub record StopsWithScript {F R : Type 0} (of_file : F → Option (List ℕ)) (of_reader : R → Option (List ℕ))
    (settings : Settings) (last : Option Stop) : Type 0 where
  pub reader : R
  pub images : List Entry
  pub files : AddsFiles of_file [] settings.files images
  pub stop : IfSome (of_reader reader) (λ bytes. last ≡ (answers_to settings images bytes).state.last)

-- The refusal of a file is that of the first that gives no image.
abbrev pub ShowsOfFile : {F : Type 0} → (F → Option (List ℕ)) → List (List ℕ) → SettingsRefusal → Type 0
ShowsOfFile of_file paths (refusal.File path error) =
    (images : List Entry) × StopsAtFile of_file [] images paths (refusal.File path error)
ShowsOfFile of_file paths _ = Unit {0}

-- A reader shows more bytes than a script may have.
pub record ShowsTooMuch {R : Type 0} (of_reader : R → Option (List ℕ)) : Type 0 where
  pub reader : R
  pub long : IfSome (of_reader reader) (λ script. 1048576 < length script)
