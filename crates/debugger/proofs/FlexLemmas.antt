-- What is shown of the flex store, if there is one.
use Rattle.std.proofs.Common.{◌≡◌, ℕ, List, ◌++◌, Some, refl}
use Rattle.swi_dispatch_guest.specs.AddressMap.{AddressMap}
use Rattle.swi_dispatch_guest.specs.AddressMapMemory.{bytes_of}
use Rattle.swi_dispatch_guest.specs.Listed.{all_listed}
use Rattle.swi_dispatch_guest.specs.State.{flex_in}
use Rattle.swi_dispatch_guest.specs.FlexBlock.{FlexBlock}
use Rattle.swi_dispatch_guest.specs.Flex.{Flex}
use Rattle.debugger.specs.Flex.{flex_blocks_text, flex_extent_text, flex_text, range_text}

pub shown : (m : AddressMap) (f : Flex) (start end used : ℕ) → f.extent ≡ Some (record { start = start; end = end; used = used })
    → (blocks : List FlexBlock) → blocks ≡ all_listed (flex_in m f.extent)
    → flex_text (bytes_of m) f ≡ Some (range_text start end used ++ flex_blocks_text blocks)
shown m f start end used e blocks is = rw (is, e) refl
