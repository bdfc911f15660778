use Rattle.dynamic_areas.specs.MemoryMap.{module_area_start}
use Rattle.std.proofs.Common.{◌≡◌, true, refl, sym, ap, subst, ◌∙◌, inl, inr, Ok, Err}
use Rattle.std.specs.Prelude.{is_ok}
use Rattle.dynamic_areas.specs.Outcome.{Gives}
use Rattle.dynamic_areas.specs.Calls.{block_sized, store_after_resize}
use Rattle.dynamic_areas.specs.Store.{Store, store_of}
use Rattle.dynamic_areas.specs.Ground.{AreaStore, area_store_of}
use Rattle.dynamic_areas.proofs.HeapCalls.{areas_resized}
use Rattle.rma.specs.Calls.{end_if_moved, grown_in_place, in_grown_area, is_full, is_no_room, resized_or_grown, rma_base, rma_extended}
use Rattle.rma.proofs.AreaStores.{done_from, area_store_same, full_where, given_from, is_done, or_done, or_refused, store_kept}
use Rattle.rma.proofs.ExtendLemmas.{IsTried, in_place_done, is_tried}
use Rattle.rma.proofs.KeptLemmas.{heaps_resized, heaps_then, records_then, records_unsized}
use Rattle.rma.proofs.area.Rma.extend.Goals as goal

pub resize-requires : goal.resize-requires
resize-requires c = record { state = record { sound = c.grow_in_place.ensures.kept.area_store.ground.sound; classes = c.grow_in_place.ensures.kept.classes } }

pub move_grown-requires-clause-state : goal.move_grown-requires-clause-state
move_grown-requires-clause-state c = record {
  area_store = areas_resized c.grow_in_place.new.map c.resize.new.map c.grow_in_place.new.areas c.grow_in_place.ensures.kept.area_store c.resize.ensures.kept.sound
      c.resize.ensures.kept.others c.resize.ensures.kept.mapping module_area_start c.args.block c.args.change c.resize.result.answer c.resize.ensures.store;
  classes = c.resize.ensures.kept.classes;
}

pub returns-in-Ok-clause-kept : goal.returns-in-Ok-clause-kept
returns-in-Ok-clause-kept c =
    heaps_then c.args.map.now c.grow_in_place.new.map c.resize.new.map c.args.areas.now c.grow_in_place.new.areas c.grow_in_place.new.areas c.grow_in_place.ensures.kept
    (heaps_resized c.grow_in_place.new.map c.resize.new.map c.grow_in_place.new.areas c.args.block c.args.change c.resize.result.answer
    (record { area_store = c.grow_in_place.ensures.kept.area_store; classes = c.grow_in_place.ensures.kept.classes }) c.resize.ensures.kept c.resize.ensures.store)

pub returns-in-Err-2-clause-kept : goal.returns-in-Err-2-clause-kept
returns-in-Err-2-clause-kept c =
    heaps_then c.args.map.now c.grow_in_place.new.map c.resize.new.map c.args.areas.now c.grow_in_place.new.areas c.grow_in_place.new.areas c.grow_in_place.ensures.kept
    (heaps_resized c.grow_in_place.new.map c.resize.new.map c.grow_in_place.new.areas c.args.block c.args.change c.resize.result.answer
    (record { area_store = c.grow_in_place.ensures.kept.area_store; classes = c.grow_in_place.ensures.kept.classes }) c.resize.ensures.kept c.resize.ensures.store)

pub returns-in-Err-clause-kept : goal.returns-in-Err-clause-kept
returns-in-Err-clause-kept c =
    let s : Store = store_of c.grow_in_place.new.map in
    let given = rw c.in-Err.is at c.resize.ensures.store in
    let same : store_of c.resize.new.map ≡ s = store_kept s (store_of c.resize.new.map) (store_after_resize s module_area_start c.args.block c.args.change) c.in-Err.error given in
    heaps_then c.args.map.now c.resize.new.map c.move_grown.new.map c.args.areas.now c.grow_in_place.new.areas c.move_grown.new.areas
    (records_then c.args.map.now c.grow_in_place.new.map c.resize.new.map c.args.areas.now c.grow_in_place.new.areas c.grow_in_place.new.areas c.grow_in_place.ensures.kept
    (records_unsized c.grow_in_place.new.map c.resize.new.map c.grow_in_place.new.areas c.args.block c.args.change c.resize.result.answer
    (record { area_store = c.grow_in_place.ensures.kept.area_store; classes = c.grow_in_place.ensures.kept.classes }) c.resize.ensures.kept c.resize.ensures.store same))
    c.move_grown.ensures.kept

pub returns-in-Ok-clause-extended : goal.returns-in-Ok-clause-extended
unfolding rma_extended
returns-in-Ok-clause-extended c =
    let e : AreaStore = area_store_of c.args.map.now c.args.areas.now in
    let g : AreaStore = area_store_of c.grow_in_place.new.map c.grow_in_place.new.areas in
    let f : AreaStore = area_store_of c.resize.new.map c.grow_in_place.new.areas in
    let done : Gives g (resized_or_grown g c.args.block c.args.change) (Ok c.in-Ok.new) f =
    or_done c.grow_in_place.new.map c.resize.new.map c.grow_in_place.new.areas
    (end_if_moved (rma_base g.store) c.args.change (block_sized g.store module_area_start c.args.block)) (λ t. store_after_resize t module_area_start c.args.block c.args.change)
    (store_after_resize g.store module_area_start c.args.block c.args.change) c.in-Ok.new c.resize.ensures.kept.mapping (let given = rw c.in-Ok.is at c.resize.ensures.store in given) in
    done_from g e f (resized_or_grown (grown_in_place e c.args.block c.args.change) c.args.block c.args.change) c.in-Ok.new
    (subst (λ (x : AreaStore). Gives g (resized_or_grown x c.args.block c.args.change) (Ok c.in-Ok.new) f) c.grow_in_place.ensures.grown done)

pub returns-in-Err-clause-extended : goal.returns-in-Err-clause-extended
unfolding rma_extended
returns-in-Err-clause-extended c =
    let e : AreaStore = area_store_of c.args.map.now c.args.areas.now in
    let g : AreaStore = area_store_of c.grow_in_place.new.map c.grow_in_place.new.areas in
    let f : AreaStore = area_store_of c.move_grown.new.map c.move_grown.new.areas in
    let s : Store = store_of c.grow_in_place.new.map in
    let given = rw c.in-Err.is at c.resize.ensures.store in
    let full : is_full (store_after_resize s module_area_start c.args.block c.args.change) ≡ true =
    full_where s (store_of c.resize.new.map) (store_after_resize s module_area_start c.args.block c.args.change) c.in-Err.error (sym c.is_no_room.ensures ∙ c.if-is_no_room.true) given in
    let kept : store_of c.resize.new.map ≡ s = store_kept s (store_of c.resize.new.map) (store_after_resize s module_area_start c.args.block c.args.change) c.in-Err.error given in
    let same : area_store_of c.resize.new.map c.grow_in_place.new.areas ≡ g =
    area_store_same c.grow_in_place.new.map c.resize.new.map c.grow_in_place.new.areas s c.resize.ensures.kept.mapping kept in
    let moved = subst (λ (x : AreaStore). Gives x (in_grown_area x (end_if_moved (rma_base x.store) c.args.change (block_sized x.store module_area_start c.args.block))
    (λ t. store_after_resize t module_area_start c.args.block c.args.change)) c.move_grown.result f) same c.move_grown.ensures.moved in
    let again : Gives g (resized_or_grown g c.args.block c.args.change) c.move_grown.result f = rw full moved in
    let grown : g ≡ grown_in_place e c.args.block c.args.change = c.grow_in_place.ensures.grown in
    let tried : IsTried e g g c.args.block c.args.change = is_tried e g g c.args.block c.args.change c.requires.state.area_store grown refl full in
    given_from g e f (resized_or_grown (grown_in_place e c.args.block c.args.change) c.args.block c.args.change) c.move_grown.result (grown ∙ tried.none)
    (subst (λ (x : AreaStore). Gives g (resized_or_grown x c.args.block c.args.change) c.move_grown.result f) grown again)

pub move_grown-requires-clause-tried : goal.move_grown-requires-clause-tried
move_grown-requires-clause-tried c =
    let e : AreaStore = area_store_of c.args.map.now c.args.areas.now in
    let g : AreaStore = area_store_of c.grow_in_place.new.map c.grow_in_place.new.areas in
    let h : AreaStore = area_store_of c.resize.new.map c.grow_in_place.new.areas in
    let s : Store = store_of c.grow_in_place.new.map in
    let given = rw c.in-Err.is at c.resize.ensures.store in
    let full : is_full (store_after_resize s module_area_start c.args.block c.args.change) ≡ true =
    full_where s (store_of c.resize.new.map) (store_after_resize s module_area_start c.args.block c.args.change) c.in-Err.error (sym c.is_no_room.ensures ∙ c.if-is_no_room.true) given in
    let kept : store_of c.resize.new.map ≡ s = store_kept s (store_of c.resize.new.map) (store_after_resize s module_area_start c.args.block c.args.change) c.in-Err.error given in
    let same : h ≡ g = area_store_same c.grow_in_place.new.map c.resize.new.map c.grow_in_place.new.areas s c.resize.ensures.kept.mapping kept in
    (is_tried e g h c.args.block c.args.change c.requires.state.area_store c.grow_in_place.ensures.grown same full).again

pub returns-in-Err-2-clause-extended : goal.returns-in-Err-2-clause-extended
unfolding rma_extended
returns-in-Err-2-clause-extended c =
    let e : AreaStore = area_store_of c.args.map.now c.args.areas.now in
    let g : AreaStore = area_store_of c.grow_in_place.new.map c.grow_in_place.new.areas in
    let f : AreaStore = area_store_of c.resize.new.map c.grow_in_place.new.areas in
    let s : Store = store_of c.grow_in_place.new.map in
    let both = sym c.in-Err.is ∙ c.in-Err-2.is in
    let same : c.in-Err.error ≡ c.in-Err-2.error = cc in
    let given = rw c.in-Err-2.is at c.resize.ensures.store in
    let again : Gives g (resized_or_grown g c.args.block c.args.change) (Err c.rma_error.result) f = rw c.rma_error.ensures
    (or_refused c.grow_in_place.new.map c.resize.new.map c.grow_in_place.new.areas
    (end_if_moved (rma_base g.store) c.args.change (block_sized g.store module_area_start c.args.block)) (λ t. store_after_resize t module_area_start c.args.block c.args.change)
    (store_after_resize g.store module_area_start c.args.block c.args.change) c.in-Err-2.error c.resize.ensures.kept.mapping (ap is_no_room (sym same) ∙ sym c.is_no_room.ensures ∙ c.if-is_no_room.false) given) in
    let grown : g ≡ grown_in_place e c.args.block c.args.change = c.grow_in_place.ensures.grown in
    elim (in_place_done e c.args.block c.args.change c.requires.state.area_store) [
      | inl ok ↦ absurd (is_done s (store_of c.resize.new.map) (store_after_resize s module_area_start c.args.block c.args.change) c.in-Err-2.error
          (subst (λ (x : AreaStore). (is_ok (store_after_resize x.store module_area_start c.args.block c.args.change)) ≡ true) (sym grown) ok) given)
      | inr none ↦ given_from g e f (resized_or_grown (grown_in_place e c.args.block c.args.change) c.args.block c.args.change) (Err c.rma_error.result) (grown ∙ none)
          (subst (λ (x : AreaStore). Gives g (resized_or_grown x c.args.block c.args.change) (Err c.rma_error.result) f) grown again)
    ]
