use Rattle.dynamic_areas.specs.MemoryMap.{module_area_start}
use Rattle.std.proofs.Common.{◌≡◌, ◌+◌, Ok, arith}
use Rattle.dynamic_areas.specs.OsHeapWordsLists.{total_for}
use Rattle.dynamic_areas.specs.Calls.{store_after_get}
use Rattle.dynamic_areas.specs.Store.{store_of}
use Rattle.dynamic_areas.specs.Ground.{AreaStore, area_store_of}
use Rattle.rma.proofs.FlexFrameLemmas.Heaps.{got_unanchored}
use Rattle.rma.specs.Calls.{grown_to}
use Rattle.rma.proofs.AreaStores.{is_done}
use Rattle.rma.proofs.ExtendLemmas.{claim_done}
use Rattle.rma.proofs.GrowthLemmas.{is_grown, leaves_done}
use Rattle.rma.proofs.NewImageLemmas.{block_made, live_inside}
use Rattle.rma.proofs.KeptLemmas.{records_got, records_then}
use Rattle.rma.proofs.claim.claim_grown.Goals as goal

pub get-requires : goal.get-requires
get-requires c = record { state = record { sound = c.grow_to.ensures.kept.area_store.ground.sound; classes = c.grow_to.ensures.kept.classes } }

pub returns-in-Ok-clause-kept : goal.returns-in-Ok-clause-kept
returns-in-Ok-clause-kept c =
    records_then c.args.map.now c.grow_to.new.map c.get.new.map c.args.areas.now c.grow_to.new.areas c.grow_to.new.areas c.grow_to.ensures.kept
    (records_got c.grow_to.new.map c.get.new.map c.grow_to.new.areas c.args.size c.get.result.answer
    (record { area_store = c.grow_to.ensures.kept.area_store; classes = c.grow_to.ensures.kept.classes }) c.get.ensures.kept c.get.ensures.store)

pub returns-in-Err-clause-kept : goal.returns-in-Err-clause-kept
returns-in-Err-clause-kept c =
    records_then c.args.map.now c.grow_to.new.map c.get.new.map c.args.areas.now c.grow_to.new.areas c.grow_to.new.areas c.grow_to.ensures.kept
    (records_got c.grow_to.new.map c.get.new.map c.grow_to.new.areas c.args.size c.get.result.answer
    (record { area_store = c.grow_to.ensures.kept.area_store; classes = c.grow_to.ensures.kept.classes }) c.get.ensures.kept c.get.ensures.store)

pub returns-in-Err-clause-claimed : goal.returns-in-Err-clause-claimed
returns-in-Err-clause-claimed c =
    let e : AreaStore = area_store_of c.args.map.now c.args.areas.now in
    let g : AreaStore = area_store_of c.grow_to.new.map c.grow_to.new.areas in
    let end = c.from.result + c.total_for.result in
    let done : grown_to e end ≡ Ok g = leaves_done e g (grown_to e end) c.in_ok-grow_to.ensures.grown in
    let ok = claim_done e g c.args.size end (is_grown e g end c.requires.state.area_store done)
    (omega (arith, c.from.ensures, c.base.ensures, c.total_for.ensures)) in
    absurd (is_done (store_of c.grow_to.new.map) (store_of c.get.new.map) (store_after_get (store_of c.grow_to.new.map) module_area_start c.args.size) c.in-Err.error ok
    (let given = rw c.in-Err.is at c.get.ensures.store in given))

pub returns-in-Ok-clause-live : goal.returns-in-Ok-clause-live
returns-in-Ok-clause-live c =
    (block_made (store_of c.grow_to.new.map) (store_of c.get.new.map) c.args.size c.in-Ok.block c.get.result.answer c.grow_to.ensures.kept.area_store.ground.sound c.in-Ok.is
    c.get.ensures.store).live

pub returns-in-Ok-clause-unheaped : goal.returns-in-Ok-clause-unheaped
returns-in-Ok-clause-unheaped c =
    (block_made (store_of c.grow_to.new.map) (store_of c.get.new.map) c.args.size c.in-Ok.block c.get.result.answer c.grow_to.ensures.kept.area_store.ground.sound c.in-Ok.is
    c.get.ensures.store).unheaped

pub returns-in-Ok-clause-alone : goal.returns-in-Ok-clause-alone
returns-in-Ok-clause-alone c =
    rw (← c.grow_to.ensures.kept.others)
    (block_made (store_of c.grow_to.new.map) (store_of c.get.new.map) c.args.size c.in-Ok.block c.get.result.answer c.grow_to.ensures.kept.area_store.ground.sound c.in-Ok.is
    c.get.ensures.store).alone

pub returns-in-Ok-clause-unanchored : goal.returns-in-Ok-clause-unanchored
returns-in-Ok-clause-unanchored c =
    let given = rw c.in-Ok.is at c.get.ensures.store in
    got_unanchored (store_of c.grow_to.new.map) (store_of c.get.new.map) module_area_start c.args.size (Ok c.in-Ok.block) c.grow_to.ensures.kept.area_store.ground.sound given

pub returns-in-Ok-clause-inside : goal.returns-in-Ok-clause-inside
returns-in-Ok-clause-inside c =
    live_inside (area_store_of c.get.new.map c.grow_to.new.areas) c.in-Ok.block (total_for c.args.size) (returns-in-Ok-clause-kept c).area_store (returns-in-Ok-clause-live c)
