use Rattle.dynamic_areas.specs.MemoryMap.{module_area_start}
use Rattle.std.proofs.Common.{if◌then◌else◌, ◌≡◌, Ok, sym, ap, ◌∙◌}
use Rattle.std.specs.Prelude.{is_ok}
use Rattle.dynamic_areas.specs.ErrorNumber.TheVariants.{RmaBlockHoldsHeap, RmaNoRoom}
use Rattle.dynamic_areas.specs.Calls.{block_sized, store_after_resize}
use Rattle.dynamic_areas.specs.Store.{store_of}
use Rattle.dynamic_areas.specs.Ground.{AreaStore, area_store_of}
use Rattle.rma.specs.Calls.{end_if_moved, grown_to, rma_base}
use Rattle.rma.proofs.AreaStores.{is_done}
use Rattle.rma.proofs.ExtendLemmas.{move_done, why_refused}
use Rattle.rma.proofs.GrowthLemmas.{leaves_done}
use Rattle.rma.proofs.KeptLemmas.{heaps_resized, heaps_same, heaps_then}
use Rattle.rma.proofs.extend.move_grown.Goals as goal

pub resize-requires : goal.resize-requires
resize-requires c = record { state = record { sound = c.grow_to.ensures.kept.area_store.ground.sound; classes = c.grow_to.ensures.kept.classes } }

pub returns-then-holds_heap-clause-kept : goal.returns-then-holds_heap-clause-kept
returns-then-holds_heap-clause-kept c = heaps_same c.args.map.now c.args.areas.now c.requires.state

pub returns-in_err-grow_to-clause-kept : goal.returns-in_err-grow_to-clause-kept
returns-in_err-grow_to-clause-kept c =
    heaps_then c.args.map.now c.grow_to.new.map c.grow_to.new.map c.args.areas.now c.grow_to.new.areas c.grow_to.new.areas c.grow_to.ensures.kept
    (heaps_same c.grow_to.new.map c.grow_to.new.areas (record { area_store = c.grow_to.ensures.kept.area_store; classes = c.grow_to.ensures.kept.classes }))

pub returns-in-Ok-clause-kept : goal.returns-in-Ok-clause-kept
returns-in-Ok-clause-kept c =
    heaps_then c.args.map.now c.grow_to.new.map c.resize.new.map c.args.areas.now c.grow_to.new.areas c.grow_to.new.areas c.grow_to.ensures.kept
    (heaps_resized c.grow_to.new.map c.resize.new.map c.grow_to.new.areas c.args.block c.args.change c.resize.result.answer
    (record { area_store = c.grow_to.ensures.kept.area_store; classes = c.grow_to.ensures.kept.classes }) c.resize.ensures.kept c.resize.ensures.store)

pub returns-in-Err-clause-kept : goal.returns-in-Err-clause-kept
returns-in-Err-clause-kept c =
    heaps_then c.args.map.now c.grow_to.new.map c.resize.new.map c.args.areas.now c.grow_to.new.areas c.grow_to.new.areas c.grow_to.ensures.kept
    (heaps_resized c.grow_to.new.map c.resize.new.map c.grow_to.new.areas c.args.block c.args.change c.resize.result.answer
    (record { area_store = c.grow_to.ensures.kept.area_store; classes = c.grow_to.ensures.kept.classes }) c.resize.ensures.kept c.resize.ensures.store)

pub returns-then-holds_heap-clause-moved : goal.returns-then-holds_heap-clause-moved
returns-then-holds_heap-clause-moved c =
    let e : AreaStore = area_store_of c.args.map.now c.args.areas.now in
    let why = c.why_unmoved.ensures ∙ ap (λ n. if is_ok (grown_to e n) then RmaBlockHoldsHeap else RmaNoRoom) c.end_if_moved-end.ensures in
    rw why (why_refused e c.args.block c.args.change c.requires.state.area_store c.requires.full c.requires.tried (sym c.holds_heap.ensures ∙ c.if-holds_heap.true))

pub returns-in-Err-clause-moved : goal.returns-in-Err-clause-moved
returns-in-Err-clause-moved c =
    let e : AreaStore = area_store_of c.args.map.now c.args.areas.now in
    let g : AreaStore = area_store_of c.grow_to.new.map c.grow_to.new.areas in
    let done : grown_to e c.end_if_moved-end.result ≡ Ok g = leaves_done e g (grown_to e c.end_if_moved-end.result) c.in_ok-grow_to.ensures.grown in
    let done' : grown_to e (end_if_moved (rma_base e.store) c.args.change (block_sized e.store module_area_start c.args.block)) ≡ Ok g =
    ap (grown_to e) (sym c.end_if_moved-end.ensures) ∙ done in
    let ok = move_done e g c.args.block c.args.change c.requires.state.area_store c.requires.full (sym c.holds_heap.ensures ∙ c.if-holds_heap.false) done' in
    absurd (is_done (store_of c.grow_to.new.map) (store_of c.resize.new.map) (store_after_resize (store_of c.grow_to.new.map) module_area_start c.args.block c.args.change) c.in-Err.error ok
    (let given = rw c.in-Err.is at c.resize.ensures.store in given))
