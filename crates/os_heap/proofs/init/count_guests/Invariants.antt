use Rattle.std.proofs.Common.{◌≡◌, ◌+◌, ◌≤◌, drop}
use Rattle.os_heap_words.specs.Bytes.{Bytes}
use Rattle.os_heap.specs.Store.{heaps_in, guest_count}
use Rattle.os_heap.proofs.init.count_guests.Given as goal

abbrev pub invariant-loop-region : goal.invariant-loop-region
invariant-loop-region l =
    (l.count ≤ l.region-index) × ((b : Bytes) → l.count + guest_count (heaps_in b (drop l.region-index l.regions)) ≡ guest_count (heaps_in b l.regions))
