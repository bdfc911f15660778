-- Files as images: a file's image is named by the last part of its path, and has the bytes that its
-- reader shows.
use Rattle.std.specs.Prelude.{◌≡◌, ℕ, Bool, true, false, List, [], ◌∷◌, length, map, take, slice_get, Option, Some, None, IfSome, option_map}
use Rattle.std.specs.Path.{path_file_name}
use Rattle.std.specs.declared.io.ErrorKind.{ErrorKind}
use Rattle.std.specs.declared.io.ErrorKind.TheVariants as kind
use Rattle.profile.specs.images.Entries.{Entry, refusal_for, with_entry}
use Rattle.profile.specs.declared.images.error.ImageError.TheVariants as image
use Rattle.rosm_settings.specs.declared.image_files.FileError.{FileError}
use Rattle.rosm_settings.specs.declared.image_files.FileError.TheVariants as file
use Rattle.rosm_settings.specs.declared.refusal.SettingsRefusal.{SettingsRefusal}
use Rattle.rosm_settings.specs.declared.refusal.SettingsRefusal.TheVariants as refusal

-- What an error of the host is to the person who named the file.
abbrev pub file_error : ErrorKind → FileError
file_error kind.NotFound = file.Missing
file_error kind.PermissionDenied = file.NotPermitted
file_error kind.IsADirectory = file.Directory
file_error kind.OutOfMemory = file.Image image.Memory
file_error _ = file.Unreadable

-- errors that come from the host alone, whatever the table of images holds
abbrev pub is_host_error : FileError → Bool
is_host_error file.Missing = true
is_host_error file.NotPermitted = true
is_host_error file.Directory = true
is_host_error file.Unreadable = true
is_host_error file.Nameless = false
is_host_error (file.Image image.Memory) = true
is_host_error (file.Image image.BadName) = false
is_host_error (file.Image image.NameTaken) = false
is_host_error (file.Image image.TooLarge) = false
is_host_error (file.Image image.TableFull) = false

-- at most so many bytes of a file
unfoldable pub front_of : ℕ → List ℕ → List ℕ
front_of most bytes = take most bytes

-- why the file of that path, which holds these bytes, is not taken into the table
abbrev pub named_refusal : List Entry → Option (List ℕ) → List ℕ → Option FileError
named_refusal entries None bytes = Some file.Nameless
named_refusal entries (Some name) bytes = option_map file.Image (refusal_for entries name (length bytes))

abbrev pub file_refusal : List Entry → List ℕ → List ℕ → Option FileError
file_refusal entries path bytes = named_refusal entries (path_file_name path) bytes

-- the file of that path is taken into the table, with all the bytes that its reader shows, as far
-- as they are known
pub record AddsImageFile (old : List Entry) (path : List ℕ) (known : Option (List ℕ))
    (new : List Entry) : Type 0 where
  pub name : List ℕ
  pub bytes : List ℕ
  pub last_part : path_file_name path ≡ Some name
  pub reported : IfSome known (λ all. bytes ≡ all)
  pub let_in : refusal_for old name (length bytes) ≡ None
  pub added : new ≡ with_entry old name bytes

-- with bytes that the file can hold, as far as they are known, its image is refused so
pub record RefusesImage (old : List Entry) (path : List ℕ) (known : Option (List ℕ))
    (error : FileError) : Type 0 where
  pub bytes : List ℕ
  pub held : IfSome known (λ all. bytes ≡ all)
  pub refused : file_refusal old path bytes ≡ Some error

-- A file was opened, and it is taken into the table with the bytes that it shows.
pub record AddsFile {F : Type 0} (remaining : F → Option (List ℕ)) (old : List Entry) (path : List ℕ)
    (new : List Entry)
    : Type 0 where
  pub file : F
  pub adds : AddsImageFile old path (remaining file) new

-- A file was opened, and its image is refused so.
pub record RefusesFile {F : Type 0} (remaining : F → Option (List ℕ)) (old : List Entry) (path : List ℕ)
    (error : FileError) : Type 0 where
  pub file : F
  pub refuses : RefusesImage old path (remaining file) error

-- The files of these paths are taken in one after another.
abbrev pub AddsFiles : {F : Type 0} → (F → Option (List ℕ)) → List Entry → List (List ℕ) → List Entry → Type 0
AddsFiles remaining old [] new = new ≡ old
AddsFiles remaining old (path ∷ paths) new =
    (now : List Entry) × AddsFile remaining old path now × AddsFiles remaining now paths new

-- the names of the images, in order
abbrev pub names_of : List Entry → List (Option (List ℕ))
names_of entries = map (λ e. Some e.name) entries

-- the names of the files' images; a path without a last part has none
abbrev pub names_for : List (List ℕ) → List (Option (List ℕ))
names_for paths = map path_file_name paths

-- the error of that file
abbrev pub IsOfFile : SettingsRefusal → List ℕ → FileError → Type 0
IsOfFile (refusal.File at error) path reported = (at.now ≡ path) × (error ≡ reported)
IsOfFile _ path reported = ⊥

-- The files before the first one that gives no image are taken in; it is the one that is reported,
-- and its error is the host's or the table's at that time.
pub record StopsAtFile {F : Type 0} (remaining : F → Option (List ℕ)) (old new : List Entry)
    (paths : List (List ℕ))
    (reported : SettingsRefusal) : Type 0 where
  pub place : ℕ
  pub path : List ℕ
  pub error : FileError
  pub there : slice_get paths place ≡ Some path
  pub shows : IsOfFile reported path error
  pub before : AddsFiles remaining old (take place paths) new
  pub cause : is_host_error error ≡ false → RefusesFile remaining new path error
