use Rattle.std.proofs.Common.{arith}
use Rattle.os_heap_words.specs.Memory.{bytes_of}
use Rattle.os_heap.proofs.RangeTests.{region_tested}
use Rattle.os_heap.proofs.init.is_heap_region.Goals as goal

pub returns : goal.returns
returns c =
    region_tested (bytes_of c.args.map.now) c.args.heap c.args.size c.maps.result (omega arith) (omega arith) (omega arith) (omega arith) c.maps.ensures
