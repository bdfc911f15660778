-- Labels and places as text.
use Rattle.std.specs.Prelude.{ℕ, Bool, ◌+◌, ◌-◌, ◌%◌, ◌^◌, ◌==◌, min, nat_lt, List, [], ◌∷◌, ◌++◌, length, take, drop, codes, Option, Some, None, if◌then◌else◌}
use Rattle.std.specs.Fmt.{decimal}
use Rattle.std.specs.List.{flat_map, list_any}
use Rattle.profile.specs.Digits.{hex_number, hex_word}
use Rattle.assembler_text.specs.naming.Labels.{Entries}
use Rattle.debugger.specs.InstancesTableModules.{Module}
use Rattle.debug_labels.specs.Labels.{ImageLabels}
use Rattle.debug_labels.specs.Places.{LabelledPlace, place_of}
use Rattle.debug_labels.specs.Standing.{start_now}
use Rattle.debug_labels.specs.Words.{Naming}

-- `01800050 double:swi`
abbrev pub label_line : ℕ → List ℕ → List ℕ → List ℕ
label_line address image label =
    hex_word address ++ (codes " " ++ (image ++ (codes ":" ++ (label ++ codes "\n"))))

-- the lines of an image that starts there
abbrev pub labels_text_from : ℕ → List ℕ → Entries → List ℕ
labels_text_from start image labels =
    flat_map (λ (label : List ℕ × ℕ). label_line ((start + label.1) % 2 ^ 32) image label.0) labels

abbrev pub labels_text_of : List Module → ImageLabels → List ℕ
labels_text_of modules i = labels_text_from (start_now modules i) i.image i.labels

-- a line for each label, image by image in the order in which they were assembled
abbrev pub labels_text : Naming → List ℕ
labels_text n = flat_map (labels_text_of n.modules) n.labels

abbrev pub label_offset_text : ℕ → List ℕ
label_offset_text offset = if offset == 0 then [] else codes "+" ++ decimal offset

-- `countdown:loop+4`
abbrev pub labelled_place_text : LabelledPlace → List ℕ
labelled_place_text p = p.image ++ (codes ":" ++ (p.label ++ label_offset_text p.offset))

-- a space and that, or nothing
abbrev pub spaced_place_text : Option LabelledPlace → List ℕ
spaced_place_text None = []
spaced_place_text (Some p) = codes " " ++ labelled_place_text p

-- `at &8004 countdown:loop+4`, or `at &8004` where no label is near
abbrev pub place_line : Naming → ℕ → List ℕ
place_line n address =
    codes "at &" ++ (hex_number address ++ (spaced_place_text (place_of n address) ++ codes "\n"))

-- a space and a label's name
abbrev pub spaced_name : List ℕ × ℕ → List ℕ
spaced_name label = codes " " ++ label.0

-- the names of an image's first eight labels
abbrev pub first_names_of : ImageLabels → List ℕ
first_names_of i = flat_map spaced_name (take (min (length i.labels) 8) i.labels)

abbrev pub last_two : List ImageLabels → List ImageLabels
last_two images = drop (length images - min (length images) 2) images

abbrev pub has_labels : ImageLabels → Bool
has_labels i = nat_lt 0 (length i.labels)

-- the names of some images' labels, and which line lists all
abbrev pub hinted_text : List ImageLabels → List ℕ
hinted_text images =
    codes " (labels:" ++ (flat_map first_names_of images ++ codes "; LABELS lists all)")

abbrev pub last_names_text : List ImageLabels → List ℕ
last_names_text images = if list_any has_labels (last_two images) then hinted_text (last_two images)
    else codes " (the last blocks have none; LABELS lists all)"

-- labels that there are, of the two images at most that were assembled last
abbrev pub label_hint : List ImageLabels → List ℕ
label_hint [] = codes " (none are there: ASM blocks have them)"
label_hint (image ∷ others) = last_names_text (image ∷ others)

-- `no label x (labels: loop swi; LABELS lists all)`
abbrev pub no_label_text : List ImageLabels → List ℕ → List ℕ
no_label_text labels name = codes "no label " ++ (name ++ label_hint labels)
