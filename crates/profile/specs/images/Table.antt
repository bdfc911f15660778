-- The table of images as the list that it stands for.
use Rattle.std.specs.Prelude.{ℕ, List, [], map, Option, None, Some}
use Rattle.std.specs.Global.{Vec}
use Rattle.profile.specs.images.Entries.{Entry}
use Rattle.profile.specs.declared.images.image.Image.{Image}

abbrev pub entry_bytes : Option (Vec ℕ) → List ℕ
entry_bytes None = []
entry_bytes (Some bytes) = bytes.items

abbrev pub entry_of_image : Image → Entry
entry_of_image image = record { name = image.name.items; bytes = entry_bytes image.bytes }

abbrev pub entries_of : List Image → List Entry
entries_of images = map entry_of_image images
