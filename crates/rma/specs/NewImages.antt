-- New images in the module area: a block is claimed, the image gets its bytes there, and the block
-- is recorded as an image (RISC OS 3 Programmer's Reference Manual, "OS_Module", reasons 1 and 11).
-- An image in place keeps its bytes, and is recorded over exactly these (reason 10).
use Rattle.dynamic_areas.specs.MemoryMap.{module_area_start}
use Rattle.std.specs.Prelude.{ℕ, ◌≡◌, ◌+◌, ◌-◌, ◌==◌, ◌%◌, ◌&&◌, not, Bool, List, length, Some, Result, Ok, [], ◌∷◌, ◌++◌}
use Rattle.dynamic_areas.specs.Outcome.{bind}
use Rattle.dynamic_areas.specs.ErrorNumber.{ErrorNumber}
use Rattle.dynamic_areas.specs.Kind.TheVariants as kind
use Rattle.dynamic_areas.specs.Region.{Region}
use Rattle.dynamic_areas.specs.Bytes.{with_bytes}
use Rattle.dynamic_areas.specs.OsHeapWordsLists.{live_total, total_for}
use Rattle.dynamic_areas.specs.Calls.{OfHeap, store_after_copy}
use Rattle.dynamic_areas.specs.Ranges.{are_bytes_mapped, meets_any}
use Rattle.dynamic_areas.specs.Store.{Store, find_heap}
use Rattle.dynamic_areas.specs.Ground.{AreaStore}
use Rattle.rma.specs.Calls.{rma_claimed, with_store}
use Rattle.rma.specs.Images.{image_recorded}

-- the store after the bytes of a list were written from an address on
abbrev pub store_with_image_bytes : Store → ℕ → List ℕ → Store
store_with_image_bytes s at image = record s { bytes = with_bytes s.bytes at image }

-- an image whose bytes are given, and one whose bytes stand in memory
unfoldable pub image_made : AreaStore → List ℕ → Result (AreaStore × ℕ) ErrorNumber
image_made e image =
    bind (rma_claimed e (length image)) (λ c.
    Ok (with_store c.0 (image_recorded (store_with_image_bytes c.0.store c.1 image) c.1), c.1))

unfoldable pub image_copied : AreaStore → ℕ → ℕ → Result (AreaStore × ℕ) ErrorNumber
image_copied e from len =
    bind (rma_claimed e len) (λ c.
    Ok (with_store c.0 (image_recorded (store_after_copy c.0.store from c.1 len) c.1), c.1))

-- the record of an image of `len` bytes in the module area: over all bytes that its block holds
abbrev pub image_record : ℕ → ℕ → Region
image_record at len = record { kind = kind.Image; at = at; len = total_for len - 4 }

-- the module area's heap has a live block at an address, of `total` bytes with its length word
abbrev pub IsLiveBlock : Store → ℕ → ℕ → Type 0
IsLiveBlock s block total = OfHeap (λ h. live_total block (h.start + 16) h.items ≡ Some total)
    (find_heap module_area_start s.heaps)

-- Where an image may be in place: from a whole word on, all mapped, and clear of all heaps, of all
-- other recorded ranges, and of anchors. An empty range meets nothing.
abbrev pub may_be_in_place : Store → ℕ → ℕ → Bool
may_be_in_place s at len = (at % 4 == 0 && are_bytes_mapped s.bytes.mapped at len) && not (meets_any at len s)

abbrev pub with_image_in_place : Store → ℕ → ℕ → Store
with_image_in_place s at len = record s {
  others = s.others
      ++ record { kind = kind.Image; at = at; len = len } ∷ [];
}
