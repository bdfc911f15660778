-- Words that name places: a register, `label`, or `image:label`, each with `+n` or `-n` behind it
-- or nothing. Addresses count modulo 2^32.
use Rattle.std.specs.Prelude.{ℕ, Bool, true, ◌+◌, ◌-◌, ◌%◌, ◌^◌, ◌==◌, List, [], ◌∷◌, Option, Some, None, option_map, option_and_then, if◌then◌else◌}
use Rattle.std.specs.List.{slice_split}
use Rattle.std.specs.Option.{option_or}
use Rattle.std.specs.Str.{bytes_eq}
use Rattle.debugger.specs.State.{State, register_of}
use Rattle.assembler_text.specs.naming.Labels.{address_of}
use Rattle.assembler_text.specs.naming.Names.{register_named}
use Rattle.assembler_text.specs.naming.Words.{after_word, word}
use Rattle.command_shell_lines.specs.Numbers.{script_number}
use Rattle.debugger.specs.InstancesTableModules.{Module}
use Rattle.debug_labels.specs.Labels.{ImageLabels}
use Rattle.debug_labels.specs.Standing.{place_now}

-- what words are read by: labels, the modules that are loaded, and the core
pub record Naming : Type 0 where
  pub labels : List ImageLabels
  pub modules : List Module
  pub cpu : State

-- what the last has of which a function has something
abbrev pub last_with : {X Y : Type 0} → (X → Option Y) → List X → Option Y
last_with f [] = None
last_with f (x ∷ xs) = option_or (last_with f xs) (f x)

-- whether an image is meant: one of that name, or any
abbrev pub is_image_meant : Option (List ℕ) → ImageLabels → Bool
is_image_meant None i = true
is_image_meant (Some image) i = bytes_eq i.image image

-- where a label of an image stands now
abbrev pub label_place : List Module → ImageLabels → List ℕ → Option ℕ
label_place modules i name = option_map (place_now modules i) (address_of i.labels name)

abbrev pub label_if_meant : List Module → Option (List ℕ) → List ℕ → ImageLabels → Option ℕ
label_if_meant modules image name i = if is_image_meant image i then label_place modules i name else None

-- and of the one that was assembled last of those that are meant and have it
abbrev pub labelled_place : Naming → Option (List ℕ) → List ℕ → Option ℕ
labelled_place n image name = last_with (label_if_meant n.modules image name) n.labels

-- a register of the present mode; the program counter without the status
abbrev pub register_value : State → ℕ → ℕ
register_value cpu number = if number == 15 then cpu.pc else register_of cpu number

-- what a name means behind an image's, or alone
abbrev pub named_value : Naming → Option (List ℕ) → List ℕ → Option ℕ
named_value n (Some image) name = labelled_place n (Some image) name
named_value n None name =
    option_or (option_map (register_value n.cpu) (register_named name)) (labelled_place n None name)

-- what stands behind a name is nothing, `+n` (43) or `-n` (45)
abbrev pub further : List ℕ → ℕ → Option ℕ
further [] value = Some value
further (sign ∷ digits) value =
    if sign == 43 then option_map (λ n. (value + n) % 2 ^ 32) (script_number digits) else (
    if sign == 45 then option_map (λ n. (value + (2 ^ 32 - n)) % 2 ^ 32) (script_number digits) else
    None)

-- what follows on a word's image
abbrev pub value_behind : Naming → Option (List ℕ) → List ℕ → Option ℕ
value_behind n image text = option_and_then (further (after_word text)) (named_value n image (word text))

-- A word's parts are parted by colons (58): there is one, or an image's name and one.
abbrev pub value_of_parts : Naming → List (List ℕ) → Option ℕ
value_of_parts n (text ∷ []) = value_behind n None text
value_of_parts n (image ∷ text ∷ []) = value_behind n (Some image) text
value_of_parts n _ = None

-- the number that a word means, if it names a place
abbrev pub place_of_word : Naming → List ℕ → Option ℕ
place_of_word n text = value_of_parts n (slice_split (λ b. b == 58) text)
