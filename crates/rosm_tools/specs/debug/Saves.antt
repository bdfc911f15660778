-- The bytes that lines SAVE name: an image's, or those of memory from an address on, where all of them are mapped.
use Rattle.std.specs.Prelude.{ℕ, ◌==◌, length, List, Option, Some, None, if◌then◌else◌}
use Rattle.address_map.specs.Bytes.{Bytes}
use Rattle.gdb_server.specs.Memory.{known_bytes}
use Rattle.profile.specs.images.Entries.{Entry, bytes_of_image}
use Rattle.rosm_settings.specs.declared.saved_files.SavedBytes.{SavedBytes}
use Rattle.rosm_settings.specs.declared.saved_files.SavedBytes.TheVariants as saved

-- so many bytes, if they are all there
abbrev pub whole_bytes : ℕ → List ℕ → Option (List ℕ)
whole_bytes count bytes = if length bytes == count then Some bytes else None

abbrev pub bytes_saved : List Entry → Bytes → SavedBytes → Option (List ℕ)
bytes_saved images memory (saved.Image name) = bytes_of_image images name.now
bytes_saved images memory (saved.Memory address count) = whole_bytes count (known_bytes memory address count)
