-- Files that lines SAVE name: how the words behind SAVE name bytes and a file, and why one isn't written.
use Rattle.std.specs.Prelude.{◌≡◌, IsUtf8, ℕ, ◌==◌, ◌^◌, false, List, [], ◌∷◌, ◌++◌, Some, codes}
use Rattle.std.specs.Fmt.{decimal}
use Rattle.std.specs.List.{All, join_with_byte}
use Rattle.std.specs.declared.io.ErrorKind.{ErrorKind}
use Rattle.std.specs.declared.io.ErrorKind.TheVariants as kind
use Rattle.command_shell_lines.specs.Numbers.{script_number}
use Rattle.command_shell_lines.specs.Operands.{count_up_to}
use Rattle.rosm_settings.specs.declared.saved_files.SavedBytes.{SavedBytes}
use Rattle.rosm_settings.specs.declared.saved_files.SavedBytes.TheVariants as saved

-- no blank (32) is in a word
abbrev pub IsWord : List ℕ → Type 0
IsWord text = All (λ b. (b == 32) ≡ false) text

-- a line is put together of these words, with a blank between each two
pub record IsLineOf (line : List ℕ) (parts : List (List ℕ)) : Type 0 where
  pub words : All IsWord parts
  pub joined : line ≡ join_with_byte 32 parts

-- a line is put together of an address, how many bytes, from 1 to 2^26, and a path
pub record NamesMemory (line : List ℕ) (address count : ℕ) (path : List ℕ) : Type 0 where
  pub one : List ℕ
  pub other : List ℕ
  pub line_of : IsLineOf line (one ∷ other ∷ path ∷ [])
  pub address_of : script_number one ≡ Some address
  pub count_of : count_up_to (2 ^ 26) other ≡ Some count

-- What the words behind SAVE name: the bytes of an image, by its name and a path, or those of memory. A path is text.
abbrev pub NamesBytes : List ℕ → SavedBytes → List ℕ → Type 0
NamesBytes line (saved.Image name) path = IsLineOf line (name.now ∷ path ∷ [])
NamesBytes line (saved.Memory address count) path = NamesMemory line address count path

abbrev pub NamesSaved : List ℕ → SavedBytes → List ℕ → Type 0
NamesSaved line named path = NamesBytes line named path × IsUtf8 path

-- of bytes that aren't there
abbrev pub save_refusal : SavedBytes → List ℕ
save_refusal (saved.Image name) = codes "refused NoImage"
save_refusal (saved.Memory address count) = codes "refused DataUnmapped"

-- of an error of the host
abbrev pub write_reason : ErrorKind → List ℕ
write_reason kind.NotFound = codes "no such folder"
write_reason kind.PermissionDenied = codes "no permission to write it"
write_reason kind.IsADirectory = codes "a directory"
write_reason _ = codes "can't be written"

-- the reason of some error of the host
abbrev pub IsHostReason : List ℕ → Type 0
IsHostReason reason = (kind : ErrorKind) × (reason ≡ write_reason kind)

-- `save lib/pots: 48 bytes`
abbrev pub written_line : List ℕ → ℕ → List ℕ
written_line path count = codes "save " ++ (path ++ (codes ": " ++ (decimal count ++ codes " bytes")))

-- `SAVE "lib/pots": refused NoImage`, by the path between quotes
abbrev pub unwritten_line : List ℕ → List ℕ → List ℕ
unwritten_line quoted reason = codes "SAVE " ++ (quoted ++ (codes ": " ++ reason))
