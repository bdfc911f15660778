-- What memory keeps of the flex store where others change it: a guest, or calls on another store. A
-- guest may write into the blocks, so their contents are what stands there then.
use Rattle.std.specs.Prelude.{ℕ, ◌≡◌, ◌-◌, Bool, true, Option, Some, None}
use Rattle.os_heap.specs.Bytes.{AreMapped}
use Rattle.os_heap.specs.Memory.{byte_at, is_mapped}
use Rattle.os_heap.specs.AddressMap.{AddressMap}
use Rattle.os_heap.specs.Store.{is_flex_word, store_of}
use Rattle.flex_store.specs.declared.flex.Extent.{Extent}
use Rattle.flex_store.specs.declared.flex.Flex.{Flex}
use Rattle.flex_store.specs.State.{is_recorded}

-- the range of the store, if there is one, is mapped
abbrev pub IsExtentThere : (ℕ → Bool) → Option Extent → Type 0
IsExtentThere mapped None = Unit {0}
IsExtentThere mapped (Some e) = AreMapped mapped e.start (e.end - e.start)

-- The bytes of anchors and of headers stay, and just these bytes are marked so still; they and the
-- store's range are mapped, and its record stays.
pub record StaysFlex (m n : AddressMap) (f : Flex) : Type 0 where
  pub bytes : (a : ℕ) → is_flex_word (store_of m) a ≡ true → byte_at n a ≡ byte_at m a
  pub anchors : (a : ℕ) → (store_of n).anchor a ≡ (store_of m).anchor a
  pub headers : (a : ℕ) → (store_of n).header a ≡ (store_of m).header a
  pub mapped : (a : ℕ) → (store_of m).anchor a ≡ true → is_mapped n a ≡ true
  pub range : IsExtentThere (is_mapped n) f.extent
  pub recorded : (start end : ℕ) → is_recorded (store_of m).others start end ≡ true →
      is_recorded (store_of n).others start end ≡ true
