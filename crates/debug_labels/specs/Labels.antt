-- The labels of images that were assembled, image by image, in the order in which they were.
use Rattle.std.specs.Prelude.{ℕ, ◌-◌, not, List, filter, length, map, Option, Some, None, Result, Ok, Err}
use Rattle.std.specs.Str.{bytes_eq}
use Rattle.profile.specs.images.module_header.Header.{header_of}
use Rattle.profile.specs.declared.images.module_header.header.Header.{Header}
use Rattle.assembler_text.specs.naming.Labels.{Entries}

-- An image's name, its header where it is a module, where it was assembled and how many bytes it
-- has, and its labels, each with how many bytes stand before it.
pub record ImageLabels : Type 0 where
  pub image : List ℕ
  pub header : Option Header
  pub origin : ℕ
  pub size : ℕ
  pub labels : Entries

abbrev pub ok_of : {A E : Type 0} → Result A E → Option A
ok_of (Ok a) = Some a
ok_of (Err e) = None

-- labels that have addresses in a program that begins there
abbrev pub labels_behind : ℕ → Entries → Entries
labels_behind origin labels = map (λ (label : List ℕ × ℕ). (label.0, label.1 - origin)) labels

-- the labels of an image of that name and those bytes, assembled at that address
abbrev pub labels_of_image : List ℕ → List ℕ → ℕ → Entries → ImageLabels
labels_of_image name bytes origin labels = record {
  image = name;
  header = ok_of (header_of bytes);
  origin = origin;
  size = length bytes;
  labels = labels_behind origin labels;
}

-- those that are not of an image of that name
abbrev pub without_labels : List ImageLabels → List ℕ → List ImageLabels
without_labels labels image = filter (λ (i : ImageLabels). not (bytes_eq i.image image)) labels
