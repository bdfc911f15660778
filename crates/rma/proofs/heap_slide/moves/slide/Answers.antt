use Rattle.std.proofs.Common.{List, ◌∙◌, ap, sym, subst}
use Rattle.dynamic_areas.specs.Memory.{regions}
use Rattle.dynamic_areas.specs.Moves.{AreDown, moved_regions}
use Rattle.dynamic_areas.specs.BlockMove.{BlockMove}
use Rattle.dynamic_areas.proofs.Frame.{layout-regions}
use Rattle.rma.proofs.HeapSlideLemmas.Ending.{blocks_here, done_here, down_here, heap_here, here, slid_here}
use Rattle.dynamic_areas.specs.AddressMap.{AddressMap}
use Rattle.dynamic_areas.proofs.AddressMapStores.{layout-mapping}
use Rattle.dynamic_areas.specs.Store.{store_of}
use Rattle.rma.proofs.FlexFrameLemmas.Slides.{slide_keeps}
use Rattle.rma.proofs.heap_slide.moves.slide.Goals as goal

pub returns-clause-slid : goal.returns-clause-slid
returns-clause-slid c =
    slid_here c.args.map.now c.slide_items-moves.new.map c.follow.new.self c.args.heap c.args.movable.now c.slide_items-moves.result.items c.requires.state.sound
    c.requires.state.classes (here c.args.map.now c.args.heap c.args.movable.now c.requires.state.sound c.requires.movable) c.slide_items-moves.ensures
    (record {
      records = c.follow.ensures.regions ∙ ap (λ (ms : List BlockMove). moved_regions ms (regions c.slide_items-moves.new.map)) c.as_slice.ensures.value;
      places = c.follow.ensures.mapping;
      bytes = c.follow.ensures.bytes;
      marks = c.follow.ensures.marks;
    })

pub returns-clause-kept : goal.returns-clause-kept
returns-clause-kept c =
    let m : AddressMap = c.args.map.now in
    let q : AddressMap = c.follow.new.self in
    let done = done_here m c.slide_items-moves.new.map q c.args.heap c.args.movable.now c.slide_items-moves.result.items c.requires.state.sound c.requires.state.classes
    (here m c.args.heap c.args.movable.now c.requires.state.sound c.requires.movable) c.slide_items-moves.ensures
    (record {
      records = c.follow.ensures.regions ∙ ap (λ (ms : List BlockMove). moved_regions ms (regions c.slide_items-moves.new.map)) c.as_slice.ensures.value;
      places = c.follow.ensures.mapping;
      bytes = c.follow.ensures.bytes;
      marks = c.follow.ensures.marks;
    }) in
    record {
      sound = done.sound;
      classes = done.classes;
      mapping = c.follow.ensures.mapping ∙ layout-mapping m c.slide_items-moves.new.map c.slide_items-moves.ensures.same;
      flex = slide_keeps (store_of m) (store_of q) c.args.heap c.args.movable.now c.slide_items-moves.result.items c.requires.state.sound done.sound
          c.requires.movable (returns-clause-slid c);
    }

pub slide_items-moves-requires-clause-heap : goal.slide_items-moves-requires-clause-heap
slide_items-moves-requires-clause-heap c =
    heap_here _ _ _ (here c.args.map.now c.args.heap c.args.movable.now c.requires.state.sound c.requires.movable)

pub slide_items-moves-requires-clause-blocks : goal.slide_items-moves-requires-clause-blocks
slide_items-moves-requires-clause-blocks c =
    blocks_here _ _ _ (here c.args.map.now c.args.heap c.args.movable.now c.requires.state.sound c.requires.movable)

pub slide_items-moves-requires-clause-few : goal.slide_items-moves-requires-clause-few
slide_items-moves-requires-clause-few c =
    (here c.args.map.now c.args.heap c.args.movable.now c.requires.state.sound c.requires.movable).few

pub follow-requires : goal.follow-requires
follow-requires c =
    subst AreDown (sym c.as_slice.ensures.value)
    (down_here c.args.map.now _ c.args.heap c.args.movable.now _ (here c.args.map.now c.args.heap c.args.movable.now c.requires.state.sound c.requires.movable) c.slide_items-moves.ensures)

pub returns-clause-regions : goal.returns-clause-regions
returns-clause-regions c =
    c.follow.ensures.regions ∙ ap (λ (ms : List BlockMove). moved_regions ms (regions c.slide_items-moves.new.map)) c.as_slice.ensures.value
    ∙ ap (moved_regions c.slide_items-moves.result.items) (layout-regions _ _ c.slide_items-moves.ensures.same)
