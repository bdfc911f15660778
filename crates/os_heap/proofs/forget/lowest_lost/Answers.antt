use Rattle.std.proofs.Common.{arith}
use Rattle.os_heap.specs.Store.{heaps_in}
use Rattle.os_heap.proofs.Forgetting.{lowest_most}
use Rattle.os_heap.proofs.forget.lowest_lost.Goals as goal

pub loop-region-init : goal.loop-region-init
loop-region-init c = record {
  most = omega arith;
  least = λ b. omega (arith, lowest_most c.args.block c.args.len c.args.from (heaps_in b c.args.regions.now));
}
