-- What the marking of words as heads leaves of memory: other classes, and all else as before.
use Rattle.std.specs.Prelude.{ℕ, ◌≡◌, List, if◌then◌else◌}
use Rattle.address_map.specs.Bytes.{in_range}
use Rattle.address_map.specs.Memory.{byte_at, class_of, layout}
use Rattle.address_map.specs.declared.class.Class.{Class}
use Rattle.address_map.specs.declared.class.Class.TheVariants as class
use Rattle.address_map.specs.declared.item.Item.{Item}
use Rattle.address_map.specs.declared.map.AddressMap.{AddressMap}
use Rattle.os_heap_words.specs.lists.Marks.{Remarks}

-- the words got these classes
pub record SetsClasses (old new : AddressMap) (classes : ℕ → Class) : Type 0 where
  pub marks : (a : ℕ) → class_of new a ≡ classes a
  pub bytes : byte_at new ≡ byte_at old
  pub layout : layout new ≡ layout old

-- the classes after the words of heaps among the `len` bytes from `at` on lost their marks
abbrev pub class_without_head : Class → Class
class_without_head class.Heap = class.Plain
class_without_head other = other

abbrev pub with_no_heads : ℕ → ℕ → (ℕ → Class) → ℕ → Class
with_no_heads at len classes a = if in_range at len a then class_without_head (classes a) else classes a

-- the words of items lost their marks, and those of other items in their place got them
pub record RemarksItems (old new : AddressMap) (at : ℕ) (olds news : List Item) : Type 0 where
  pub marks : Remarks (class_of old) (class_of new) at olds news
  pub bytes : byte_at new ≡ byte_at old
  pub layout : layout new ≡ layout old
