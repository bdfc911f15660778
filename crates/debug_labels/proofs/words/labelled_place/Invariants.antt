use Rattle.std.proofs.Common.{◌≡◌, drop}
use Rattle.std.specs.Prelude.{option_map}
use Rattle.std.specs.Option.{option_or}
use Rattle.debug_labels.specs.Words.{label_if_meant, last_with}
use Rattle.debug_labels.proofs.words.labelled_place.Given as goal

-- the last place of those that are left, or else what was found
abbrev pub invariant-loop-labels : goal.invariant-loop-labels
invariant-loop-labels l =
    let place = label_if_meant l.modules (option_map (λ i. i.now) l.image) l.name in
    option_or (last_with place (drop l.labels-index l.images)) l.place ≡ last_with place l.images
