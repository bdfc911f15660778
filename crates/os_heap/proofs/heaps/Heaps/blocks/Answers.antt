use Rattle.std.proofs.Common.{◌≡◌, Some, None, ap, sym, ◌∙◌}
use Rattle.os_heap.specs.Store.{store_of}
use Rattle.os_heap.specs.Calls.{items_of}
use Rattle.os_heap.proofs.Found.{found_at, items_none, items_found}
use Rattle.os_heap.proofs.heaps.Heaps.blocks.Goals as goal

pub returns-in_err-region : goal.returns-in_err-region
returns-in_err-region c =
    let none : items_of (store_of c.args.map.now) c.args.heap ≡ None = items_none (store_of c.args.map.now) c.args.heap c.in_err-region.ensures in
    cc

pub blocks_of-requires : goal.blocks_of-requires
blocks_of-requires c =
    found_at c.args.map.now c.args.heap c.in_ok-region.region c.requires c.in_ok-region.ensures.0 c.in_ok-region.ensures.1

pub returns : goal.returns
returns c =
    ap Some c.blocks_of.ensures ∙ sym (items_found c.args.map.now c.args.heap c.in_ok-region.region c.in_ok-region.ensures.0 c.in_ok-region.ensures.1)
