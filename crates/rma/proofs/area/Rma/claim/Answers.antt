use Rattle.dynamic_areas.specs.MemoryMap.{module_area_start}
use Rattle.std.proofs.Common.{◌≡◌, ◌+◌, Ok, sym, ap, subst, ◌∙◌}
use Rattle.dynamic_areas.specs.Outcome.{Gives}
use Rattle.dynamic_areas.specs.OsHeapWordsLists.{total_for}
use Rattle.dynamic_areas.specs.Calls.{store_after_get}
use Rattle.dynamic_areas.specs.Store.{Store, store_of}
use Rattle.dynamic_areas.specs.Ground.{AreaStore, area_store_of}
use Rattle.dynamic_areas.proofs.HeapCalls.{areas_written}
use Rattle.rma.proofs.FlexFrameLemmas.Heaps.{got_unanchored}
use Rattle.rma.specs.Calls.{in_grown_area, is_no_room, rma_base, rma_claimed}
use Rattle.rma.proofs.AreaStores.{area_store_same, full_where, or_done, or_refused, store_kept}
use Rattle.rma.proofs.NewImageLemmas.{block_made, live_inside}
use Rattle.dynamic_areas.proofs.AddressMapStores.{layout-mapping}
use Rattle.rma.proofs.KeptLemmas.{records_got, records_then, sound_map}
use Rattle.rma.proofs.area.Rma.claim.Goals as goal

pub get-requires : goal.get-requires
get-requires c = record { state = sound_map c.args.map.now c.args.areas.now c.requires.state }

pub returns-in-Ok-clause-kept : goal.returns-in-Ok-clause-kept
returns-in-Ok-clause-kept c =
    records_got c.args.map.now c.get.new.map c.args.areas.now c.args.size c.get.result.answer c.requires.state c.get.ensures.kept c.get.ensures.store

pub claim_grown-requires : goal.claim_grown-requires
claim_grown-requires c = record {
  state = record {
    area_store = areas_written c.args.map.now c.get.new.map c.args.areas.now c.requires.state.area_store c.get.ensures.kept.sound c.get.ensures.kept.layout;
    classes = c.get.ensures.kept.classes;
  };
}

pub returns-in-Err-clause-kept : goal.returns-in-Err-clause-kept
returns-in-Err-clause-kept c =
    records_then c.args.map.now c.get.new.map c.claim_grown.new.map c.args.areas.now c.args.areas.now c.claim_grown.new.areas
    (records_got c.args.map.now c.get.new.map c.args.areas.now c.args.size c.get.result.answer c.requires.state c.get.ensures.kept c.get.ensures.store)
    c.claim_grown.ensures.kept

pub returns-in-Err-2-clause-kept : goal.returns-in-Err-2-clause-kept
returns-in-Err-2-clause-kept c =
    records_got c.args.map.now c.get.new.map c.args.areas.now c.args.size c.get.result.answer c.requires.state c.get.ensures.kept c.get.ensures.store

pub returns-in-Ok-clause-claimed : goal.returns-in-Ok-clause-claimed
unfolding rma_claimed
returns-in-Ok-clause-claimed c =
    let s : Store = store_of c.args.map.now in
    or_done c.args.map.now c.get.new.map c.args.areas.now (rma_base s + total_for c.args.size) (λ t. store_after_get t module_area_start c.args.size)
    (store_after_get s module_area_start c.args.size) c.in-Ok.block (layout-mapping c.args.map.now c.get.new.map c.get.ensures.kept.layout) (let given = rw c.in-Ok.is at c.get.ensures.store in given)

pub returns-in-Err-clause-claimed : goal.returns-in-Err-clause-claimed
unfolding rma_claimed
returns-in-Err-clause-claimed c =
    let s : Store = store_of c.args.map.now in
    let given = rw c.in-Err.is at c.get.ensures.store in
    let full = full_where s (store_of c.get.new.map) (store_after_get s module_area_start c.args.size) c.in-Err.error (sym c.is_no_room.ensures ∙ c.if-is_no_room.true) given in
    let kept : store_of c.get.new.map ≡ s = store_kept s (store_of c.get.new.map) (store_after_get s module_area_start c.args.size) c.in-Err.error given in
    let same : area_store_of c.get.new.map c.args.areas.now ≡ area_store_of c.args.map.now c.args.areas.now =
    area_store_same c.args.map.now c.get.new.map c.args.areas.now s (layout-mapping c.args.map.now c.get.new.map c.get.ensures.kept.layout) kept in
    rw full (subst (λ (x : AreaStore). Gives x (in_grown_area x (rma_base x.store + total_for c.args.size) (λ t. store_after_get t module_area_start c.args.size))
    c.claim_grown.result (area_store_of c.claim_grown.new.map c.claim_grown.new.areas)) same c.claim_grown.ensures.claimed)

pub returns-in-Err-2-clause-claimed : goal.returns-in-Err-2-clause-claimed
unfolding rma_claimed
returns-in-Err-2-clause-claimed c =
    let s : Store = store_of c.args.map.now in
    let both = sym c.in-Err.is ∙ c.in-Err-2.is in
    let same : c.in-Err.error ≡ c.in-Err-2.error = cc in
    rw c.rma_error.ensures
    (or_refused c.args.map.now c.get.new.map c.args.areas.now (rma_base s + total_for c.args.size) (λ t. store_after_get t module_area_start c.args.size)
    (store_after_get s module_area_start c.args.size) c.in-Err-2.error (layout-mapping c.args.map.now c.get.new.map c.get.ensures.kept.layout) (ap is_no_room (sym same) ∙ sym c.is_no_room.ensures ∙ c.if-is_no_room.false)
    (let given = rw c.in-Err-2.is at c.get.ensures.store in given))

pub returns-in-Ok-clause-live : goal.returns-in-Ok-clause-live
returns-in-Ok-clause-live c =
    (block_made (store_of c.args.map.now) (store_of c.get.new.map) c.args.size c.in-Ok.block c.get.result.answer c.requires.state.area_store.ground.sound c.in-Ok.is
    c.get.ensures.store).live

pub returns-in-Ok-clause-unheaped : goal.returns-in-Ok-clause-unheaped
returns-in-Ok-clause-unheaped c =
    (block_made (store_of c.args.map.now) (store_of c.get.new.map) c.args.size c.in-Ok.block c.get.result.answer c.requires.state.area_store.ground.sound c.in-Ok.is
    c.get.ensures.store).unheaped

pub returns-in-Ok-clause-alone : goal.returns-in-Ok-clause-alone
returns-in-Ok-clause-alone c =
    (block_made (store_of c.args.map.now) (store_of c.get.new.map) c.args.size c.in-Ok.block c.get.result.answer c.requires.state.area_store.ground.sound c.in-Ok.is
    c.get.ensures.store).alone

pub returns-in-Ok-clause-unanchored : goal.returns-in-Ok-clause-unanchored
returns-in-Ok-clause-unanchored c =
    let given = rw c.in-Ok.is at c.get.ensures.store in
    got_unanchored (store_of c.args.map.now) (store_of c.get.new.map) module_area_start c.args.size (Ok c.in-Ok.block) c.requires.state.area_store.ground.sound given

pub returns-in-Ok-clause-inside : goal.returns-in-Ok-clause-inside
returns-in-Ok-clause-inside c =
    live_inside (area_store_of c.get.new.map c.args.areas.now) c.in-Ok.block (total_for c.args.size) (returns-in-Ok-clause-kept c).area_store (returns-in-Ok-clause-live c)
