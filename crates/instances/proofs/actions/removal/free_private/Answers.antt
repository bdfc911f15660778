use Rattle.std.proofs.Common.{List, [], ◌≡◌, ap, sym, ◌∙◌, refl, arith}
use Rattle.std.specs.List.{filter}
use Rattle.rma.specs.Memory.{mapping, regions}
use Rattle.rma.specs.lists.Heap.{HeapList}
use Rattle.rma.proofs.Frame.{layout-others, layout-regions}
use Rattle.rma.specs.Order.{stays}
use Rattle.rma.specs.Store.{store_of}
use Rattle.rma.specs.Areas.{AreaTable}
use Rattle.rma.specs.Ground.{AreaStore, area_store_of}
use Rattle.rma.proofs.FlexFrameLemmas.Keeping.{keeps_then}
use Rattle.rma.specs.Calls.{rma_freed}
use Rattle.instances.specs.module_state.ModuleState.{or_same, private_freed, with_private, module_state_of}
use Rattle.instances.proofs.ModuleStateLemmas.ModuleStates.{module_state_kept}
use Rattle.instances.proofs.ActionsLemmas.AreaStores.{pages_stay}
use Rattle.instances.proofs.ActionsLemmas.Removing.{freed_by}
use Rattle.instances.proofs.actions.removal.free_private.Goals as goal

pub private_value-block-requires-clause-mapped : goal.private_value-block-requires-clause-mapped
private_value-block-requires-clause-mapped c = λ a low high. c.requires.state.system.mapped a (omega (arith, low)) (omega (arith, high))

pub free-requires : goal.free-requires
free-requires c = record { state = record { sound = c.requires.state.system.sound; classes = c.requires.state.classes } }

pub put_private-requires-clause-system : goal.put_private-requires-clause-system
put_private-requires-clause-system c =
    pages_stay c.args.map.now c.free.new.map c.free.ensures.kept.others c.free.ensures.kept.mapping c.free.ensures.kept.sound c.requires.state.system

pub returns-clause-area_store : goal.returns-clause-area_store
unfolding private_freed
returns-clause-area_store c = λ l.
    let e : AreaStore = area_store_of c.args.map.now l in
    let freed : area_store_of c.free.new.map l ≡ or_same e (rma_freed e c.private_value-block.result) =
    freed_by e (area_store_of c.free.new.map l) (rma_freed e c.private_value-block.result) c.free.result (c.free.ensures.freed l) in
    c.put_private.ensures.area_store l ∙ ap (λ (f : AreaStore). with_private f c.args.slot 0) freed
    ∙ ap (λ b. with_private (or_same e (rma_freed e b)) c.args.slot 0) (c.private_value-block.ensures.area_store l)

pub returns-clause-kept : goal.returns-clause-kept
returns-clause-kept c =
    let free = c.free.ensures.kept in
    let put = c.put_private.ensures.kept in
    let same = put.layout in
    let last : mapping c.put_private.new.map ≡ mapping c.free.new.map = λ i. record { place = (same i).place; free_pages = (same i).free_pages } in
    let none : AreaTable = record { sizes = record { pages = 0; app = 0; rma = 0 }; areas = [] } in
    let heaps : (store_of c.put_private.new.map).heaps ≡ (store_of c.free.new.map).heaps =
    ap (λ (e : AreaStore). e.store.heaps) (c.put_private.ensures.area_store none) in
    record {
      sound = λ l modules pending module_state.
          put.sound l modules pending
          (module_state_kept (module_state_of c.args.map.now l modules) (module_state_of c.free.new.map l modules) pending module_state refl
          free.others (free.area_store l module_state.area_store));
      pages = put.pages;
      classes = put.classes free.classes;
      others = layout-others c.free.new.map c.put_private.new.map put.layout ∙ free.others;
      mapping = last ∙ free.mapping;
      records = layout-regions c.free.new.map c.put_private.new.map put.layout ∙ free.records
          ∙ ap (λ (hs : List HeapList). filter (stays hs) (regions c.args.map.now)) (sym heaps);
      flex = keeps_then _ _ _ free.flex put.flex;
    }
