use Rattle.std.proofs.Common.{refl, sym}
use Rattle.os_heap.specs.Store.{store_of}
use Rattle.os_heap.proofs.Bounds.{in_bounds}
use Rattle.os_heap.proofs.Resizing.{resize_nowhere}
use Rattle.os_heap.proofs.LostRecords.{rest_kept}
use Rattle.os_heap.proofs.heaps.Heaps.resize.Goals as goal

pub resize_block-requires-clause-found : goal.resize_block-requires-clause-found
resize_block-requires-clause-found c = rw c.in-Some.ensures.1 refl

pub returns-in-Some : goal.returns-in-Some
returns-in-Some c =
    record {
      store = c.resize_block.ensures.store;
      kept = c.resize_block.ensures.kept;
      probes = c.resize_block.ensures.probes;
      bounds = rw c.resize_block.ensures.probes (in_bounds (store_of c.args.map.now) c.args.heap c.args.block c.args.change);
    }

pub returns-in-None : goal.returns-in-None
returns-in-None c =
    let none = resize_nowhere c.args.map.now c.args.heap c.args.block c.args.change c.in-None.ensures in
    record {
      store = rw (c.refused.ensures, none.0) (refl, refl);
      kept = rest_kept c.args.map.now c.requires.state;
      probes = rw c.refused.ensures (sym none.1);
      bounds = rw (c.in-None.ensures, c.refused.ensures) refl;
    }
