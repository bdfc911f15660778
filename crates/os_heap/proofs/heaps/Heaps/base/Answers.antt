use Rattle.std.proofs.Common.{◌∙◌, sym}
use Rattle.os_heap.proofs.Calls.{found_part, heap_there}
use Rattle.os_heap.proofs.Sized.{base_found, base_none}
use Rattle.os_heap.proofs.heaps.Heaps.base.Goals as goal

pub base_of-requires : goal.base_of-requires
base_of-requires c = heap_there c.in-Some.field-0.kind c.args.map.now c.args.heap c.in-Some.field-0.len c.requires (found_part c.args.map.now c.args.heap c.in-Some.field-0 c.in-Some.ensures)

pub returns-in-Some : goal.returns-in-Some
returns-in-Some c =
    let found = found_part c.args.map.now c.args.heap c.in-Some.field-0 c.in-Some.ensures in
    c.base_of.ensures ∙ sym (base_found c.in-Some.field-0.kind c.args.map.now c.args.heap c.in-Some.field-0.len found)

pub returns-in-None : goal.returns-in-None
returns-in-None c = sym (base_none c.args.map.now c.args.heap c.in-None.ensures)
