-- The system pages are mapped and recorded, and the private words stand there.
use Rattle.profile.specs.MemoryMap.{system_start}
use Rattle.std.proofs.Common.{ℕ, arith}
use Rattle.os_heap.proofs.InRange.{range_inside}
use Rattle.os_heap.specs.AddressMap.{AddressMap}
use Rattle.os_heap.specs.Bytes.{AreMapped}
use Rattle.os_heap.specs.Memory.{free_pages}
use Rattle.os_heap.specs.Store.{Store, store_of}
use Rattle.swi_dispatch_plans.specs.Areas.{AreaTable}
use Rattle.swi_dispatch_plans.specs.Ground.{AreAreas, IsRecorded, system_pages_range}
use Rattle.swi_dispatch_plans.proofs.HeapCalls.{system_mapped}
use Rattle.swi_dispatch_plans.specs.Sound.{HasSystemPages}

pub private_room : (s : Store) (free : ℕ) (l : AreaTable) → AreAreas s free l → AreMapped s.bytes.mapped 0x01C02000 256
private_room s free l areas a low high = system_mapped s free l areas a (range_inside system_start 0x3000 a (omega arith) (omega arith))

pub has_pages : (m : AddressMap) (l : AreaTable) → AreAreas (store_of m) (free_pages m) l → IsRecorded system_pages_range (store_of m).others → HasSystemPages m
unfolding store_of
has_pages m l areas recorded = record {
  sound = areas.ground.sound;
  recorded = recorded;
  mapped = λ a low high. system_mapped (store_of m) (free_pages m) l areas a (range_inside system_start 0x3000 a low high);
}
