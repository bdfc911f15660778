-- The blocks that are listed are those that memory spells.
use Rattle.std.proofs.Common.{◌≡◌, ℕ, List, ◌++◌, Option, Some, None, refl}
use Rattle.address_map.specs.Memory.{bytes_of}
use Rattle.address_map.specs.declared.map.AddressMap.{AddressMap}
use Rattle.store_copies.specs.Listed.{all_listed}
use Rattle.store_copies.specs.State.{flex_in}
use Rattle.store_copies.specs.Extent.{Extent}
use Rattle.store_copies.specs.Flex.{Flex}
use Rattle.trace_store_text.specs.flex.Changes.{blocks_in_extent, flex_blocks_in}
use Rattle.trace_store_text.specs.FlexLines.{flex_change_lines, flex_lines, store_line}

listed_by : (m : AddressMap) (e : Option Extent) → blocks_in_extent (bytes_of m) e ≡ all_listed (flex_in m e)
listed_by m None = refl
listed_by m (Some e) = refl

listed : (m : AddressMap) (f : Flex) → flex_blocks_in (bytes_of m) f ≡ all_listed (flex_in m f.extent)
unfolding flex_blocks_in
listed m f = listed_by m f.extent

pub lines_listed : (m n : AddressMap) (f g : Flex) → flex_lines (bytes_of m) f (bytes_of n) g
    ≡ store_line f.extent g.extent ++ flex_change_lines (all_listed (flex_in m f.extent)) (all_listed (flex_in n g.extent))
unfolding flex_lines
lines_listed m n f g = rw (listed m f, listed n g) refl
