use Rattle.std.proofs.Common.{◌*◌, arith}
use Rattle.address_map.proofs.Spans.{range_fits}
use Rattle.address_map.proofs.map.AddressMap.unmap_pages.Goals as goal

pub overflow_mul-done : goal.overflow_mul-done
overflow_mul-done c = omega (arith, range_fits c.args.self.now c.args.base (4096 * c.args.count) c.requires.mapped (omega arith))

pub overflow_add-base : goal.overflow_add-base
overflow_add-base c = omega (arith, range_fits c.args.self.now c.args.base (4096 * c.args.count) c.requires.mapped (omega arith))
