use Rattle.std.proofs.Common.{◌≡◌, false, take}
use Rattle.os_heap.specs.Store.{has_image}
use Rattle.os_heap.proofs.guests.has_image.Given as goal

abbrev pub invariant-loop-region : goal.invariant-loop-region
invariant-loop-region l = has_image l.at (take l.region-index l.regions) ≡ false
