use Rattle.std.proofs.Common.{◌≡◌, drop}
use Rattle.std.specs.Prelude.{option_map}
use Rattle.std.specs.Option.{option_or}
use Rattle.debug_labels.specs.Places.{place_now_of, shown_of_place_label}
use Rattle.debug_labels.specs.Words.{last_with}
use Rattle.debug_labels.proofs.places.label_at.Given as goal

-- the last place of those that are left, or else what was found
abbrev pub invariant-loop-image : goal.invariant-loop-image
invariant-loop-image l =
    option_or (last_with (place_now_of l.modules l.address) (drop l.image-index l.images)) (option_map shown_of_place_label l.found)
    ≡ last_with (place_now_of l.modules l.address) l.images
