-- The lines that a machine begins with: those of the script that is named, or one that boots the first
-- file.
use Rattle.std.specs.Prelude.{◌≡◌, ℕ, Bool, false, take, if◌then◌else◌, List, [], ◌∷◌, ◌++◌, Option, Some, None, IfSome, codes}
use Rattle.std.specs.Path.{path_file_name}
use Rattle.std.specs.Str.{bytes_eq}
use Rattle.profile.specs.images.Entries.{Entry, bytes_of_image}
use Rattle.rosm_settings.specs.declared.gdb.words.WantedGdb.{WantedGdb}

abbrev pub boot_line_named : List ℕ → List ℕ
boot_line_named name = codes "BOOT " ++ (name ++ codes "\n")

-- a path without a last part names nothing
abbrev pub boot_line_if : Option (List ℕ) → List ℕ
boot_line_if None = []
boot_line_if (Some name) = boot_line_named name

abbrev pub boot_line : List (List ℕ) → List ℕ
boot_line [] = []
boot_line (path ∷ more) = boot_line_if (path_file_name path)

-- The script was opened, and the lines are its bytes, as far as they are known.
pub record IsOfScript {F : Type 0} (of_file : F → Option (List ℕ)) (start : List ℕ) : Type 0 where
  pub file : F
  pub bytes : IfSome (of_file file) (λ reported. start ≡ reported)

abbrev pub AreFirstLinesFor : {F P : Type 0} → (F → Option (List ℕ)) → Option P → List (List ℕ) → List ℕ →
    Type 0
AreFirstLinesFor of_file None files start = start ≡ boot_line files
AreFirstLinesFor of_file (Some path) files start = IsOfScript of_file start

abbrev pub AreFirstLines : {F : Type 0} → (F → Option (List ℕ)) → WantedGdb → List ℕ → Type 0
AreFirstLines of_file wanted start = AreFirstLinesFor of_file wanted.script wanted.settings.files start

-- An ELF file begins with these four bytes ("ELF Header" in the Tool Interface Standard's ELF specification).
abbrev pub is_elf : List ℕ → Bool
is_elf bytes = bytes_eq (take 4 bytes) (127 ∷ codes "ELF")

abbrev pub is_elf_image : Option (List ℕ) → Bool
is_elf_image None = false
is_elf_image (Some bytes) = is_elf bytes

abbrev pub is_elf_named : List Entry → Option (List ℕ) → Bool
is_elf_named images None = false
is_elf_named images (Some name) = is_elf_image (bytes_of_image images name)

-- the first file whose image is an ELF file
abbrev pub first_elf : List Entry → List (List ℕ) → Option (List ℕ)
first_elf images [] = None
first_elf images (path ∷ more) = if is_elf_named images (path_file_name path) then Some path else first_elf
    images more
