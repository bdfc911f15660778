use Rattle.std.proofs.Common.{◌≡◌, drop}
use Rattle.os_heap_words.specs.Memory.{bytes_of}
use Rattle.os_heap.specs.Payloads.{payload_of, payload_or}
use Rattle.os_heap.specs.Store.{AreHeapsIn, heaps_in}
use Rattle.os_heap.proofs.heaps.Heaps.live_payload.Given as goal

abbrev pub invariant-loop-region : goal.invariant-loop-region
invariant-loop-region l = record {
  place : payload_or l.found (payload_of (heaps_in (bytes_of l.map) (drop l.region-index l.regions)) l.address)
      ≡ payload_of (heaps_in (bytes_of l.map) l.regions) l.address;
  heaps : AreHeapsIn (bytes_of l.map) (heaps_in (bytes_of l.map) (drop l.region-index l.regions));
}
