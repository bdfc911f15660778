use Rattle.std.proofs.Common.{◌≡◌, drop}
use Rattle.os_heap_words.specs.Bytes.{Bytes}
use Rattle.os_heap.specs.Forgetting.{holds_heap}
use Rattle.os_heap.specs.Store.{heaps_in}
use Rattle.os_heap.proofs.forget.holds_heap.Given as goal

abbrev pub invariant-loop-region : goal.invariant-loop-region
invariant-loop-region l = (b : Bytes) → holds_heap (heaps_in b (drop l.region-index l.regions)) l.at l.len ≡ holds_heap (heaps_in b l.regions) l.at l.len
