-- What an `AddressMap` stands for. The places of bytes in the store are the map's own matter; the
-- layers above speak of `bytes_of`, `layout`, `free_pages`, `class_of` and `is_owned`.
use Rattle.std.specs.Prelude.{◌≡◌, ◌≤◌, ◌<◌, ℕ, ◌+◌, Bool, true, false, not, List, length, slice_index, Option, Some, None, is_some}
use Rattle.address_map.specs.declared.class.Class.{Class}
use Rattle.address_map.specs.declared.class.Class.TheVariants.{Plain}
use Rattle.address_map.specs.declared.region.Region.{Region}
use Rattle.address_map.specs.declared.map.AddressMap.{AddressMap}
use Rattle.address_map.specs.Bytes.{Bytes}
use Rattle.address_map.specs.Classes.{is_anchor}
use Rattle.address_map.specs.Marks.{mark_in}
use Rattle.address_map.specs.Pages.{frame_count, place_in}

-- where in the store the byte of an address lies, if the address is mapped
unfoldable pub place : AddressMap → ℕ → Option ℕ
place m a = place_in m.frames a

abbrev pub is_mapped : AddressMap → ℕ → Bool
is_mapped m a = is_some (place m a)

abbrev pub byte_in : List ℕ → Option ℕ → ℕ
byte_in store None = 0
byte_in store (Some k) = slice_index store k

-- the byte at an address, 0 where none is mapped
unfoldable pub byte_at : AddressMap → ℕ → ℕ
byte_at m a = byte_in m.store.items (place m a)

abbrev pub bytes_of : AddressMap → Bytes
bytes_of m = record { mapped = is_mapped m; at = byte_at m }

-- the `len` bytes from the address `a` on lie in the store one after another, from the place `k` on
pub record IsSpan (m : AddressMap) (a k len : ℕ) : Type 0 where
  pub some : 0 < len
  pub within : k + len ≤ length m.store.items
  pub places : (j : ℕ) → j < len → place m (a + j) ≡ Some (k + j)

-- the pages of the store that are not mapped
unfoldable pub free_pages : AddressMap → ℕ
free_pages m = length m.free.items

-- all pages of the store, mapped or not
unfoldable pub page_total : AddressMap → ℕ
page_total m = frame_count m.frames m.free.items

-- what is mapped, and where: all that calls on records leave as it is
pub record Mapping : Type 0 where
  pub place : ℕ → Option ℕ
  pub free_pages : ℕ

abbrev pub mapping : AddressMap → Mapping
mapping m = record { place = place m; free_pages = free_pages m }

-- what is mapped before and after a change lies where it lay
abbrev pub StaysInPlace : AddressMap → AddressMap → Type 0
StaysInPlace m n = (a : ℕ) → is_mapped m a ≡ true → is_mapped n a ≡ true → place n a ≡ place m a

-- the recorded ranges, the first recorded first
unfoldable pub regions : AddressMap → List Region
regions m = m.regions.items

-- all that a write to memory leaves as it is
pub record Layout : Type 0 where
  pub place : ℕ → Option ℕ
  pub regions : List Region
  pub free_pages : ℕ

abbrev pub layout : AddressMap → Layout
layout m = record { place = place m; regions = regions m; free_pages = free_pages m }

-- what the store calls use the byte at an address for, as its word is marked; where nothing is
-- mapped all is plain
unfoldable pub class_of : AddressMap → ℕ → Class
class_of m a = mark_in m.marks (place m a)

-- the bytes that are an anchor's
abbrev pub anchor_of : AddressMap → ℕ → Bool
anchor_of m a = is_anchor (class_of m a)

abbrev pub is_plain : Class → Bool
is_plain Plain = true
is_plain other = false

-- whether a guest's stores must leave the byte at an address alone
unfoldable pub is_owned : AddressMap → ℕ → Bool
is_owned m a = not (is_plain (class_of m a))
