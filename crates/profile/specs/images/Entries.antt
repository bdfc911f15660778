-- Program images as a list of names, which all differ, each with its bytes. What a name is made of,
-- and the limits, are this project's own.
use Rattle.std.specs.Prelude.{◌≡◌, ◌≤◌, ℕ, Bool, not, List, [], ◌∷◌, ◌++◌, length, Option, Some, None, is_some, nat_le, nat_lt, ◌&&◌, true, if◌then◌else◌}
use Rattle.std.specs.List.{list_all}
use Rattle.std.specs.Str.{bytes_eq}
use Rattle.profile.specs.declared.images.error.ImageError.{ImageError}
use Rattle.profile.specs.declared.images.error.ImageError.TheVariants.{BadName, NameTaken, TooLarge, TableFull}

pub record Entry : Type 0 where
  pub name : List ℕ
  pub bytes : List ℕ

-- the bytes of the image of that name
abbrev pub bytes_of_image : List Entry → List ℕ → Option (List ℕ)
bytes_of_image [] name = None
bytes_of_image (e ∷ es) name = if bytes_eq e.name name then Some e.bytes else bytes_of_image es name

-- the list with one more image at its end
abbrev pub with_entry : List Entry → List ℕ → List ℕ → List Entry
with_entry entries name bytes = entries ++ record { name = name; bytes = bytes } ∷ []

-- the list without the image of that name: the others stay in their order
abbrev pub without_entry : List Entry → List ℕ → List Entry
without_entry [] name = []
without_entry (e ∷ es) name = if bytes_eq e.name name then es else e ∷ without_entry es name

-- the bytes that may stand in a name: printing ASCII characters other than the space
abbrev pub is_image_name_byte : ℕ → Bool
is_image_name_byte byte = nat_le 33 byte && nat_le byte 126

-- an image's name: 1 to 63 such bytes
abbrev pub can_name_image : List ℕ → Bool
can_name_image name = nat_le 1 (length name) && nat_le (length name) 63 && list_all is_image_name_byte name

-- Why an image of that name and of so many bytes is refused: the first reason of a fixed order.
abbrev pub refusal_for : List Entry → List ℕ → ℕ → Option ImageError
refusal_for entries name len =
    if not (can_name_image name) then Some BadName else (
    if is_some (bytes_of_image entries name) then Some NameTaken else (
    if nat_lt 1048576 len then Some TooLarge else (
    if nat_le 64 (length entries) then Some TableFull else
    None)))

-- no two images have one name
abbrev pub HaveDistinctNames : List Entry → Type 0
HaveDistinctNames [] = Unit {0}
HaveDistinctNames (e ∷ es) = (bytes_of_image es e.name ≡ None) × HaveDistinctNames es

-- an image that `refusal_for` lets in
pub record IsImage (e : Entry) : Type 0 where
  pub named : can_name_image e.name ≡ true
  pub in_limit : length e.bytes ≤ 1048576

abbrev pub AreImages : List Entry → Type 0
AreImages [] = Unit {0}
AreImages (e ∷ es) = IsImage e × AreImages es

-- what is true of every `Images`
pub record IsImageTable (entries : List Entry) : Type 0 where
  pub distinct : HaveDistinctNames entries
  pub images : AreImages entries
  pub in_limit : length entries ≤ 64
