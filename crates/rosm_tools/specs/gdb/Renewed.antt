-- The files, read anew for a `run`: the images are those that they give then, and so are the lines that a machine
-- begins with. Where one of them can't be read all stays as it was, and the `run` is an error.
use Rattle.std.specs.Prelude.{◌≡◌, ℕ, not, Bool, true, false, List, [], ◌∷◌, Option, Some, None, if◌then◌else◌}
use Rattle.std.specs.Str.{bytes_eq}
use Rattle.std.specs.Path.{path_file_name}
use Rattle.profile.specs.images.Entries.{Entry, bytes_of_image}
use Rattle.gdb_packets.specs.Ahead.{is_run_ahead}
use Rattle.gdb_server.specs.Serving.{ServerState, with_files, without_files}
use Rattle.rosm_settings.specs.ImageFiles.{AddsFiles}
use Rattle.rosm_settings.specs.gdb.Start.{AreFirstLines, first_elf}
use Rattle.rosm_settings.specs.declared.gdb.words.WantedGdb.{WantedGdb}

-- what the files give: their images, and the lines that a machine begins with
pub record FilesRead : Type 0 where
  pub images : List Entry
  pub start : List ℕ

-- The files were read, and none of them is an ELF file.
pub record AreRead {F : Type 0} (of_file : F → Option (List ℕ)) (wanted : WantedGdb) (r : FilesRead) : Type 0 where
  pub files : AddsFiles of_file [] wanted.settings.files r.images
  pub no_elf : first_elf r.images wanted.settings.files ≡ None
  pub lines : AreFirstLines of_file wanted r.start

-- They were read, or one of them can't be.
abbrev pub AreFound : {F : Type 0} → (F → Option (List ℕ)) → WantedGdb → Option FilesRead → Type 0
AreFound of_file wanted None = Unit {0}
AreFound of_file wanted (Some r) = AreRead of_file wanted r

abbrev pub is_equal_image : Option (List ℕ) → Option (List ℕ) → Bool
is_equal_image (Some one) (Some other) = bytes_eq one other
is_equal_image None None = true
is_equal_image None (Some other) = false
is_equal_image (Some one) None = false

-- whether a file gives another image than the one of its name; a path without a last part names nothing
abbrev pub is_other_image : List Entry → List Entry → Option (List ℕ) → Bool
is_other_image images fresh None = false
is_other_image images fresh (Some name) = not (is_equal_image (bytes_of_image fresh name) (bytes_of_image images name))

-- whether one of the files does
abbrev pub has_others : List Entry → List Entry → List (List ℕ) → Bool
has_others images fresh [] = false
has_others images fresh (path ∷ more) =
    if is_other_image images fresh (path_file_name path) then true else has_others images fresh more

abbrev pub with_images : ServerState → List Entry → ServerState
with_images s images = record s {
  session = record s.session {
    debug = record s.session.debug {
      script = record s.session.debug.script { images = images };
    };
  };
}

-- a server that was given what the files give
abbrev pub with_image_found : List (List ℕ) → Option FilesRead → ServerState → ServerState
with_image_found files None s = without_files s
with_image_found files (Some r) s = with_files (with_images s r.images) r.start
    (has_others s.session.debug.script.images r.images files)

-- before a byte: the files are read where a `run` has come up to its sum
abbrev pub renewed_before : List (List ℕ) → Option FilesRead → ServerState → ServerState
renewed_before files found s = if is_run_ahead s.reading then with_image_found files found s else s

-- A server was given the files.
pub record AreGiven {F : Type 0} (of_file : F → Option (List ℕ)) (wanted : WantedGdb) (old now : ServerState) :
    Type 0 where
  pub found : Option FilesRead
  pub are : AreFound of_file wanted found
  pub state : now ≡ with_image_found wanted.settings.files found old

-- It was given them where a `run` has come.
pub record IsRenewed {F : Type 0} (of_file : F → Option (List ℕ)) (wanted : WantedGdb) (old now : ServerState) :
    Type 0 where
  pub found : Option FilesRead
  pub are : AreFound of_file wanted found
  pub state : now ≡ renewed_before wanted.settings.files found old
