-- An address by the label that stands there, or nearest below it in the image that stands there.
use Rattle.std.specs.Prelude.{ℕ, Bool, ◌-◌, ◌&&◌, nat_le, nat_lt, List, [], ◌∷◌, Option, Some, None, option_map, if◌then◌else◌}
use Rattle.assembler_text.specs.naming.Labels.{Entries}
use Rattle.debugger.specs.InstancesTableModules.{Module}
use Rattle.debug_labels.specs.Labels.{ImageLabels}
use Rattle.debug_labels.specs.Standing.{start_now}
use Rattle.debug_labels.specs.Words.{Naming, last_with}
use Rattle.debug_labels.specs.declared.places.PlaceLabel.{PlaceLabel}

-- a label of an image, and how many bytes behind it
pub record LabelledPlace : Type 0 where
  pub image : List ℕ
  pub label : List ℕ
  pub offset : ℕ

-- the higher of two, the first where both stand at one place
abbrev pub higher_label : Option (List ℕ × ℕ) → List ℕ × ℕ → List ℕ × ℕ
higher_label None label = label
higher_label (Some best) label = if nat_lt best.1 label.1 then label else best

abbrev pub nearer_label : ℕ → Option (List ℕ × ℕ) → List ℕ × ℕ → Option (List ℕ × ℕ)
nearer_label at best label = if nat_le label.1 at then Some (higher_label best label) else best

-- the nearest label at or below a place, of one that was found and of others
abbrev pub nearest_label : ℕ → Option (List ℕ × ℕ) → Entries → Option (List ℕ × ℕ)
nearest_label at best [] = best
nearest_label at best (label ∷ others) = nearest_label at (nearer_label at best label) others

abbrev pub place_behind_label : ImageLabels → ℕ → List ℕ × ℕ → LabelledPlace
place_behind_label i at label = record { image = i.image; label = label.0; offset = at - label.1 }

-- by so many bytes from an image's start
abbrev pub place_in_image : ImageLabels → ℕ → Option LabelledPlace
place_in_image i at = option_map (place_behind_label i at) (nearest_label at None i.labels)

-- whether an address is one of an image's, that starts there
abbrev pub is_inside : ℕ → ImageLabels → ℕ → Bool
is_inside start i address = nat_le start address && nat_lt (address - start) i.size

abbrev pub place_from : ℕ → ImageLabels → ℕ → Option LabelledPlace
place_from start i address =
    if is_inside start i address then place_in_image i (address - start) else None

abbrev pub place_now_of : List Module → ℕ → ImageLabels → Option LabelledPlace
place_now_of modules address i = place_from (start_now modules i) i address

-- by the image that was assembled last of those that stand there and have a label at or below
abbrev pub place_of : Naming → ℕ → Option LabelledPlace
place_of n address = last_with (place_now_of n.modules address) n.labels

-- as the code has it
abbrev pub shown_of_place_label : PlaceLabel → LabelledPlace
shown_of_place_label p = record { image = p.image.now; label = p.label.now; offset = p.offset }
