use Rattle.std.proofs.Common.{◌≡◌, true, false, Err, Ok, Some, refl, sym, subst, arith, ◌∙◌}
use Rattle.os_heap_words.specs.ErrorNumber.TheVariants.{HeapBadRegion}
use Rattle.os_heap_words.specs.Memory.{bytes_of}
use Rattle.os_heap.specs.Calls.{store_after_change, end_changed, ending, has_own_size}
use Rattle.os_heap_words.specs.lists.Heap.{HeapList}
use Rattle.os_heap_words.specs.lists.Lists.{changed_by}
use Rattle.os_heap.specs.Probes.{change_probes_of}
use Rattle.os_heap.specs.Store.{store_of, heap_in, find_heap}
use Rattle.os_heap.proofs.Refusals.{area_probes, changed_area, changed_none, changed_own, end_done, end_odd, end_wide, found_probes, none_probes, odd_probes, whole_probes, wide_probes}
use Rattle.os_heap.proofs.Ending.{own_heap}
use Rattle.os_heap.proofs.Found.{found_at}
use Rattle.os_heap.proofs.change.change_end.Goals as goal
use Rattle.os_heap.proofs.change.change_end.Goals.{then-change-ne0-via-then-change-ne0, then-change-ne0-via-else-change-ne0+then-end-from}

pub returns-in_default-clause-store : goal.returns-in_default-clause-store
returns-in_default-clause-store c =
    rw (changed_none (store_of c.args.map.now) c.args.heap c.args.change c.in_default.ensures, c.refused.ensures) (refl, refl)

pub returns-then-not-has_own_size-clause-store : goal.returns-then-not-has_own_size-clause-store
returns-then-not-has_own_size-clause-store c =
    let area : has_own_size c.in-Some.region.kind ≡ false = cc in
    rw (changed_area (store_of c.args.map.now) c.args.heap c.args.change (heap_in (bytes_of c.args.map.now) c.in-Some.region) c.in-Some.ensures.1 area, c.refused-then-not-has_own_size.ensures) (refl, refl)

pub returns-then-change-ne0-clause-store : goal.returns-then-change-ne0-clause-store
returns-then-change-ne0-clause-store c =
    let s = store_of c.args.map.now in
    let h : HeapList = heap_in (bytes_of c.args.map.now) c.in-Some.region in
    let own : has_own_size h.kind ≡ true = cc in
    let is : store_after_change s c.args.heap c.args.change ≡ end_changed s h c.args.change (changed_by h.end c.args.change) = changed_own s c.args.heap c.args.change h c.in-Some.ensures.1 own in
    let refused : end_changed s h c.args.change (changed_by h.end c.args.change) ≡ Err HeapBadRegion =
    elim c.then-change-ne0.branch [
      | then-change-ne0-via-then-change-ne0 w ↦ end_odd s h c.args.change (changed_by h.end c.args.change) w.if-change-ne0.true
      | then-change-ne0-via-else-change-ne0+then-end-from w ↦
          end_wide s h c.args.change (changed_by h.end c.args.change) (omega (arith, w.if-end-from.true, w.from.ensures, c.changed_by-end.ensures))
    ] in
    rw (is, refused, c.refused-then-change-ne0.ensures) (refl, refl)

pub may_end-tested-requires-clause-heap : goal.may_end-tested-requires-clause-heap
may_end-tested-requires-clause-heap c = found_at c.args.map.now c.in-Some.region.at c.in-Some.region c.requires.sound refl
    (subst (λ a. find_heap a (store_of c.args.map.now).heaps ≡ Some (heap_in (bytes_of c.args.map.now) c.in-Some.region)) (sym c.in-Some.ensures.0) c.in-Some.ensures.1)

pub set_end-requires-clause-kind : goal.set_end-requires-clause-kind
set_end-requires-clause-kind c = let own : has_own_size c.in-Some.region.kind ≡ true = cc in own_heap c.in-Some.region.kind own

pub set_end-requires-clause-found : goal.set_end-requires-clause-found
set_end-requires-clause-found c =
    subst (λ a. find_heap a (store_of c.args.map.now).heaps ≡ Some (heap_in (bytes_of c.args.map.now) c.in-Some.region)) (sym c.in-Some.ensures.0) c.in-Some.ensures.1

pub returns-in_default-answer-clause-store : goal.returns-in_default-answer-clause-store
returns-in_default-answer-clause-store c =
    let s = store_of c.args.map.now in
    let h : HeapList = heap_in (bytes_of c.args.map.now) c.in-Some.region in
    let own : has_own_size h.kind ≡ true = cc in
    let is : store_after_change s c.args.heap c.args.change ≡ end_changed s h c.args.change (changed_by h.end c.args.change) = changed_own s c.args.heap c.args.change h c.in-Some.ensures.1 own in
    let reported = rw c.in_default-answer.is at c.may_end-tested.ensures.answer in
    let refused = reported c.args.change c.if-change-ne0.false in
    let there = rw c.changed_by-end.ensures at refused in
    rw (c.in_default-answer.is, is, there) (refl, refl)

pub returns-in_default-answer-clause-probes : goal.returns-in_default-answer-clause-probes
returns-in_default-answer-clause-probes c =
    let s = store_of c.args.map.now in
    let h : HeapList = heap_in (bytes_of c.args.map.now) c.in-Some.region in
    let own : has_own_size h.kind ≡ true = cc in
    let probes = rw c.changed_by-end.ensures at c.may_end-tested.ensures.probes in
    probes ∙ sym (found_probes s c.args.heap c.args.change h c.in-Some.ensures.1 ∙ whole_probes s h c.args.change own c.if-change-ne0.false)

pub returns-in-Ok-clause-store : goal.returns-in-Ok-clause-store
returns-in-Ok-clause-store c =
    let s = store_of c.args.map.now in
    let h : HeapList = heap_in (bytes_of c.args.map.now) c.in-Some.region in
    let own : has_own_size h.kind ≡ true = cc in
    let is : store_after_change s c.args.heap c.args.change ≡ end_changed s h c.args.change (changed_by h.end c.args.change) = changed_own s c.args.heap c.args.change h c.in-Some.ensures.1 own in
    let may = rw c.in-Ok.is at c.may_end-tested.ensures.answer in
    let done : end_changed s h c.args.change c.changed_by-end.result ≡ Ok (ending s h c.changed_by-end.result, tt) = end_done s h c.args.change c.changed_by-end.result c.if-change-ne0.false may in
    let there = rw c.changed_by-end.ensures at done in
    let store = rw c.changed_by-end.ensures at c.set_end.ensures.store in
    rw (c.in-Ok.is, is, there) (store, refl)

pub returns-in-Ok-clause-probes : goal.returns-in-Ok-clause-probes
returns-in-Ok-clause-probes c =
    let s = store_of c.args.map.now in
    let h : HeapList = heap_in (bytes_of c.args.map.now) c.in-Some.region in
    let own : has_own_size h.kind ≡ true = cc in
    let probes = rw c.changed_by-end.ensures at c.may_end-tested.ensures.probes in
    probes ∙ sym (found_probes s c.args.heap c.args.change h c.in-Some.ensures.1 ∙ whole_probes s h c.args.change own c.if-change-ne0.false)

pub returns-in_default-clause-probes : goal.returns-in_default-clause-probes
returns-in_default-clause-probes c =
    rw c.refused.ensures (sym (none_probes (store_of c.args.map.now) c.args.heap c.args.change c.in_default.ensures))

pub returns-then-not-has_own_size-clause-probes : goal.returns-then-not-has_own_size-clause-probes
returns-then-not-has_own_size-clause-probes c =
    let s = store_of c.args.map.now in
    let h : HeapList = heap_in (bytes_of c.args.map.now) c.in-Some.region in
    let area : has_own_size h.kind ≡ false = cc in
    rw c.refused-then-not-has_own_size.ensures
    (sym (found_probes s c.args.heap c.args.change h c.in-Some.ensures.1 ∙ area_probes s h c.args.change area))

pub returns-then-change-ne0-clause-probes : goal.returns-then-change-ne0-clause-probes
returns-then-change-ne0-clause-probes c =
    let s = store_of c.args.map.now in
    let h : HeapList = heap_in (bytes_of c.args.map.now) c.in-Some.region in
    let own : has_own_size h.kind ≡ true = cc in
    let none : change_probes_of s h c.args.change ≡ 0 =
    elim c.then-change-ne0.branch [
      | then-change-ne0-via-then-change-ne0 w ↦ odd_probes s h c.args.change own w.if-change-ne0.true
      | then-change-ne0-via-else-change-ne0+then-end-from w ↦
          wide_probes s h c.args.change own (omega (arith, w.if-end-from.true, w.from.ensures, c.changed_by-end.ensures))
    ] in
    rw c.refused-then-change-ne0.ensures (sym (found_probes s c.args.heap c.args.change h c.in-Some.ensures.1 ∙ none))
