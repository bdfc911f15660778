use Rattle.profile.specs.MemoryMap.{module_area_start}
use Rattle.std.proofs.Common.{◌≡◌, Ok, ◌∙◌, arith}
use Rattle.os_heap.specs.Store.{store_of, find_heap}
use Rattle.dynamic_areas.proofs.HeapBase.{IsBaseRead, base_read}
use Rattle.dynamic_areas.proofs.measure.heap_base.Goals as goal

pub overflow_add-result : goal.overflow_add-result
overflow_add-result c =
    let b : IsBaseRead c.args.map.now (find_heap module_area_start (store_of c.args.map.now).heaps) = base_read c.args.map.now c.requires.state.sound c.requires.state.heap in
    let same : Ok c.in-Ok.base ≡ Ok b.base = c.in-Ok.ensures ∙ b.read in
    let is : c.in-Ok.base ≡ b.base = cc in
    omega (arith, b.small)

pub returns-in-Ok : goal.returns-in-Ok
returns-in-Ok c =
    let b : IsBaseRead c.args.map.now (find_heap module_area_start (store_of c.args.map.now).heaps) = base_read c.args.map.now c.requires.state.sound c.requires.state.heap in
    let same : Ok c.in-Ok.base ≡ Ok b.base = c.in-Ok.ensures ∙ b.read in
    let is : c.in-Ok.base ≡ b.base = cc in
    rw is b.sum

pub returns-in-Err : goal.returns-in-Err
returns-in-Err c =
    let b : IsBaseRead c.args.map.now (find_heap module_area_start (store_of c.args.map.now).heaps) = base_read c.args.map.now c.requires.state.sound c.requires.state.heap in
    absurd (let same = c.in-Err.ensures ∙ b.read in cc)
