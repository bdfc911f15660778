-- What is shown of a refusal, in one line, for the person who ran the program.
use Rattle.std.specs.Prelude.{ℕ, List, ◌++◌, Option, Some, codes, option_map, string_bytes}
use Rattle.std.specs.Fmt.{debug_str}
use Rattle.profile.specs.images.ErrorNames.{image_error_name}
use Rattle.profile.specs.declared.images.error.ImageError.{ImageError}
use Rattle.profile.specs.declared.images.error.ImageError.TheVariants as image
use Rattle.rosm_settings.specs.command_line.Texts.{usage_text}
use Rattle.command_shell.specs.Error.{run_error_text}
use Rattle.rosm_settings.specs.declared.image_files.FileError.{FileError}
use Rattle.rosm_settings.specs.declared.image_files.FileError.TheVariants as file
use Rattle.rosm_settings.specs.declared.refusal.SettingsRefusal.{SettingsRefusal}
use Rattle.rosm_settings.specs.declared.refusal.SettingsRefusal.TheVariants as refusal

-- what an image has to be that is refused so
abbrev pub rule_text : ImageError → List ℕ
rule_text image.BadName = codes ": a name has 1 to 63 bytes from ! to ~, and no space"
rule_text image.NameTaken = codes ": the last part of a path is the name, and each name stands once"
rule_text image.TooLarge = codes ": an image has at most 1048576 bytes"
rule_text image.TableFull = codes ": there are at most 64 images"
rule_text image.Memory = codes ""

abbrev pub file_error_text : FileError → List ℕ
file_error_text file.Missing = codes "no such file"
file_error_text file.NotPermitted = codes "no permission to read it"
file_error_text file.Directory = codes "a directory"
file_error_text file.Unreadable = codes "can't be read"
file_error_text file.Nameless = codes "no name in this path"
file_error_text (file.Image error) = codes "refused " ++ (image_error_name error ++ rule_text error)

-- what is wrong with the words, and the form that they should have
abbrev pub words_text : List ℕ → List ℕ
words_text reason = reason ++ (codes "; " ++ usage_text)

-- The text of a refusal. It is known of a file only where its path, which stands in quotes, is of
-- ASCII characters.
abbrev pub refusal_text : SettingsRefusal → Option (List ℕ)
refusal_text refusal.Memory = Some (codes "out of memory")
refusal_text refusal.NotText = Some (words_text (codes "a word is not text in UTF-8"))
refusal_text (refusal.Line reason) = Some (words_text (string_bytes reason))
refusal_text (refusal.Sizes reason) = Some (words_text (string_bytes reason))
refusal_text (refusal.File path error) =
    option_map (λ quoted. quoted ++ (codes ": " ++ file_error_text error)) (debug_str path.now)
refusal_text (refusal.Script error) = Some (run_error_text error)
