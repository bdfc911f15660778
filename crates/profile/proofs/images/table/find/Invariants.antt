use Rattle.std.proofs.Common.{◌≡◌, drop}
use Rattle.profile.specs.images.Entries.{bytes_of_image}
use Rattle.profile.specs.images.Table.{entries_of}
use Rattle.profile.proofs.images.table.find.Given as goal

-- no image that was passed has the name
abbrev pub invariant-loop-image : goal.invariant-loop-image
invariant-loop-image l =
    bytes_of_image (entries_of (drop l.image-index l.images)) l.name ≡ bytes_of_image (entries_of l.images) l.name
