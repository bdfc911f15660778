use Rattle.std.proofs.Common.{◌∙◌, ap, ◌≡◌, ◌+◌, is_some, refl, arith}
use Rattle.os_heap_words.specs.Memory.{bytes_of}
use Rattle.os_heap_words.proofs.Stores.{layout-mapping}
use Rattle.os_heap_words.specs.lists.Heap.{HeapList}
use Rattle.os_heap_words.specs.Outcomes.{IsHeapAt}
use Rattle.os_heap.specs.Store.{store_of, heap_in}
use Rattle.os_heap.proofs.RangeTests.{CanHold, can_hold, range_end}
use Rattle.os_heap.proofs.Ending.{EndsAt, store_ended, sound_ended, classes_ended}
use Rattle.os_heap.proofs.Found.{found_at}
use Rattle.os_heap.proofs.Frame.{layout-regions}
use Rattle.os_heap.proofs.Order.{end_order}
use Rattle.os_heap_words.proofs.Tally.{heap_below}
use Rattle.os_heap.proofs.change.set_end.Goals as goal

pub overflow_add-region : goal.overflow_add-region
overflow_add-region c =
    let r = c.args.region.now in
    let heap : IsHeapAt c.args.map.now r.at r.len = found_at c.args.map.now r.at r c.requires.state.sound refl c.requires.found in
    omega (arith, heap_below c.args.map.now r.at r.len heap)

pub put-requires-clause-aligned : goal.put-requires-clause-aligned
put-requires-clause-aligned c =
    let r = c.args.region.now in
    let heap : IsHeapAt c.args.map.now r.at r.len = found_at c.args.map.now r.at r c.requires.state.sound refl c.requires.found in
    omega (arith, heap.aligned)

pub put-requires-clause-mapped : goal.put-requires-clause-mapped
put-requires-clause-mapped c =
    let r = c.args.region.now in
    let heap : IsHeapAt c.args.map.now r.at r.len = found_at c.args.map.now r.at r c.requires.state.sound refl c.requires.found in
    heap.mapped (r.at + 12) (omega arith) (omega (arith, heap.inside))

pub set_len-requires : goal.set_len-requires
unfolding store_of
set_len-requires c =
    let r = c.args.region.now in
    let can : CanHold (bytes_of c.args.map.now) r.at c.args.end = can_hold (bytes_of c.args.map.now) r.at c.args.end c.requires.may.region in
    record {
      region = record {
        aligned = can.aligned;
        end = range_end c.args.map.now r.at c.args.end can.mapped (omega (arith, can.low));
      };
    }

pub returns-clause-store : goal.returns-clause-store
returns-clause-store c =
    let m = c.args.map.now in
    let h : HeapList = heap_in (bytes_of m) c.args.region.now in
    let ends : EndsAt m c.put.new.map h c.args.end = record {
      sound = c.requires.state.sound;
      found = c.requires.found;
      own = c.requires.kind;
      may = c.requires.may;
      same = c.put.ensures.kept.layout;
      marks = c.put.ensures.kept.marks;
      word = c.put.ensures.word;
    } in
    let bytes : bytes_of c.set_len.new.self ≡ bytes_of c.put.new.map =
    λ i. record { mapped = λ a. is_some ((c.set_len.ensures.mapping i).place a); at = c.set_len.ensures.bytes i } in
    let same = layout-regions m c.put.new.map c.put.ensures.kept.layout in
    let records = rw same at c.set_len.ensures.regions in
    store_ended m c.put.new.map c.set_len.new.self h c.args.end ends bytes records c.set_len.ensures.marks

pub returns-clause-kept : goal.returns-clause-kept
returns-clause-kept c =
    let m = c.args.map.now in
    let h : HeapList = heap_in (bytes_of m) c.args.region.now in
    let ends : EndsAt m c.put.new.map h c.args.end = record {
      sound = c.requires.state.sound;
      found = c.requires.found;
      own = c.requires.kind;
      may = c.requires.may;
      same = c.put.ensures.kept.layout;
      marks = c.put.ensures.kept.marks;
      word = c.put.ensures.word;
    } in
    let bytes : bytes_of c.set_len.new.self ≡ bytes_of c.put.new.map =
    λ i. record { mapped = λ a. is_some ((c.set_len.ensures.mapping i).place a); at = c.set_len.ensures.bytes i } in
    let same = layout-regions m c.put.new.map c.put.ensures.kept.layout in
    let records = rw same at c.set_len.ensures.regions in
    let r = c.args.region.now in
    record {
      sound = sound_ended m c.put.new.map c.set_len.new.self h c.args.end ends bytes records c.set_len.ensures.marks;
      classes = classes_ended m c.put.new.map c.set_len.new.self h c.args.end ends bytes records c.set_len.ensures.marks c.requires.state.classes;
      others = ap (λ s. s.others) (returns-clause-store c);
      mapping = c.set_len.ensures.mapping ∙ layout-mapping _ _ c.put.ensures.kept.layout;
      order = end_order m c.set_len.new.self r.kind r.at c.args.end records;
    }
