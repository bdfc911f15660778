-- What calls other than the flex calls leave of the flex store (Acorn C manual, "flex": the blocks
-- of a program stay what they are until a flex call changes them; what a flex store is on this
-- machine is this project's own).
use Rattle.std.specs.Prelude.{ℕ, ◌≡◌, ◌&&◌, ◌||◌, Bool, true, false, not, List, [], ◌∷◌, if◌then◌else◌}
use Rattle.std.specs.List.{list_any}
use Rattle.dynamic_areas.specs.Bytes.{in_range}
use Rattle.dynamic_areas.specs.Region.{Region}
use Rattle.dynamic_areas.specs.Store.{Store, is_flex_store, is_image, is_in_flex_store}

-- is a byte in a recorded range that is no heap?
abbrev pub is_in_record : List Region → ℕ → Bool
is_in_record others a = list_any (λ r. in_range r.at r.len a) others

-- in one that is not the flex store's either?
abbrev pub is_in_other_record : List Region → ℕ → Bool
is_in_other_record others a = list_any (λ r. not (is_flex_store r.kind) && in_range r.at r.len a) others

-- the recorded ranges that are no module images: the system pages, and the flex store
abbrev pub beside_images : List Region → List Region
beside_images [] = []
beside_images (r ∷ rs) = if is_image r.kind then beside_images rs else r ∷ beside_images rs

-- Is a byte the flex store's: in its range, or of an anchor?
abbrev pub is_flex_byte : Store → ℕ → Bool
is_flex_byte s a = is_in_flex_store s.others a || s.anchor a

-- its bytes, and which words are anchors and headers, are what they were, and so are the ranges
-- recorded beside module images
pub record IsFlexKept (s t : Store) : Type 0 where
  pub bytes : (a : ℕ) → is_flex_byte s a ≡ true → t.bytes.at a ≡ s.bytes.at a
  pub anchors : (a : ℕ) → t.anchor a ≡ s.anchor a
  pub headers : (a : ℕ) → t.header a ≡ s.header a
  pub beside : beside_images t.others ≡ beside_images s.others

-- No anchor lies in a recorded range but the flex store: in a module image, or a system page.
unfoldable pub AreAnchorsFree : Store → Type 0
AreAnchorsFree s = (a : ℕ) → s.anchor a ≡ true → is_in_other_record s.others a ≡ false

-- A call keeps the flex store, and leaves anchors free.
unfoldable pub KeepsFlex : Store → Store → Type 0
KeepsFlex s t = AreAnchorsFree s → IsFlexKept s t × AreAnchorsFree t

-- no byte of a range is an anchor's
unfoldable pub RangeHasNoAnchor : Store → ℕ → ℕ → Type 0
RangeHasNoAnchor s at len = (a : ℕ) → in_range at len a ≡ true → s.anchor a ≡ false
