-- Where an image stands that was assembled.
use Rattle.std.specs.Prelude.{ℕ, List, Option, Some, None, if◌then◌else◌}
use Rattle.std.specs.Str.{bytes_eq}
use Rattle.debugger.specs.InstancesTableModules.{Module}
use Rattle.debug_labels.specs.Labels.{ImageLabels}
use Rattle.debug_labels.specs.Standing.{start_now}
use Rattle.profile.specs.Firsts.{first_of}
use Rattle.debug_labels.specs.Words.{Naming}
use Rattle.debug_labels.specs.declared.images.ImagePlace.{ImagePlace}

-- an image where it stands now, if this is its name
abbrev pub image_place_if_named : List Module → List ℕ → ImageLabels → Option ImagePlace
image_place_if_named modules name i =
    if bytes_eq i.image name then Some (record { start = start_now modules i; size = i.size }) else None

abbrev pub image_place_in : List Module → List ℕ → List ImageLabels → Option ImagePlace
image_place_in modules name images = first_of (image_place_if_named modules name) images

-- the image of a name
abbrev pub image_place : Naming → List ℕ → Option ImagePlace
image_place n name = image_place_in n.modules name n.labels
