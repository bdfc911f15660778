-- What is kept of memory where the words of a heap or of the flex store are written or marked.
use Rattle.std.specs.Prelude.{◌≡◌}
use Rattle.address_map.specs.Memory.{byte_at, class_of, layout}
use Rattle.address_map.specs.declared.map.AddressMap.{AddressMap}

-- marks were changed, and nothing else
pub record KeepsBytes (old new : AddressMap) : Type 0 where
  pub bytes : byte_at new ≡ byte_at old
  pub layout : layout new ≡ layout old

-- bytes were changed, and nothing else
pub record KeepsMarks (old new : AddressMap) : Type 0 where
  pub layout : layout new ≡ layout old
  pub marks : class_of new ≡ class_of old
