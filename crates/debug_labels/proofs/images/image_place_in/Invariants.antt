use Rattle.std.proofs.Common.{◌≡◌, drop}
use Rattle.debug_labels.specs.Images.{image_place_if_named, image_place_in}
use Rattle.profile.specs.Firsts.{first_of}
use Rattle.debug_labels.proofs.images.image_place_in.Given as goal

-- the first image of that name is among those that are left
abbrev pub invariant-loop-image : goal.invariant-loop-image
invariant-loop-image l =
    first_of (image_place_if_named l.modules l.name) (drop l.image-index l.images) ≡ image_place_in l.modules l.name l.images
