-- Module images in the module area: each is a live block there, recorded over all bytes that the
-- block holds, which no heap call gives back or moves until the record goes (RISC OS 3 Programmer's
-- Reference Manual, "OS_Module", reasons 1, 4 and 11).
use Rattle.dynamic_areas.specs.MemoryMap.{module_area_start}
use Rattle.std.specs.Prelude.{ℕ, ◌≡◌, ◌<◌, true, false, length, IfOk, Result, Ok, Err, [], ◌∷◌, ◌++◌}
use Rattle.dynamic_areas.specs.ErrorNumber.{ErrorNumber}
use Rattle.dynamic_areas.specs.Kind.TheVariants as kind
use Rattle.dynamic_areas.specs.Records.{without_region}
use Rattle.dynamic_areas.specs.Calls.{OfHeap, block_sized, gave_back}
use Rattle.dynamic_areas.specs.Forgetting.{holds_heap}
use Rattle.dynamic_areas.specs.Store.{Store, find_heap, is_module_area}

-- the store with a block of the module area as an image
abbrev pub store_with_image : Store → ℕ → Result ℕ ErrorNumber → Store
store_with_image s at (Ok len) = record s {
  others = s.others
      ++ record { kind = kind.Image; at = at; len = len } ∷ [];
}
store_with_image s at (Err f) = s

unfoldable pub image_recorded : Store → ℕ → Store
image_recorded s at = store_with_image s at (block_sized s module_area_start at)

-- and without it: the block is a guest's again
unfoldable pub image_dropped : Store → ℕ → Store
image_dropped s at = record s { others = without_region s.others kind.Image at }

-- the store after a call of the heap, or as it was where that is refused
abbrev pub or_kept : Store → Result (Store × Unit {0}) ErrorNumber → Store
or_kept s (Ok r) = r.0
or_kept s (Err f) = s

-- An image goes: its record first, and then the block there, if one is live.
unfoldable pub image_freed : Store → ℕ → Store
image_freed s at = or_kept (image_dropped s at) (gave_back (image_dropped s at) module_area_start at)

-- The block at an address can become an image, if one is there: the heap at the module area's place
-- is that area's, there is room for a record more, and no heap lies in the block.
pub record CanRecord (s : Store) (at : ℕ) : Type 0 where
  pub area : OfHeap (λ h. is_module_area h.kind ≡ true) (find_heap module_area_start s.heaps)
  pub room : length s.others < 68
  pub empty : IfOk (block_sized s module_area_start at) (λ len. holds_heap s.heaps at len ≡ false)
