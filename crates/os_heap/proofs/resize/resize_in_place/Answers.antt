use Rattle.std.proofs.Common.{◌≡◌, ◌+◌, ◌∙◌, Some, ap, sym}
use Rattle.os_heap_words.specs.Outcomes.{items_at}
use Rattle.os_heap_words.proofs.ListsLemmas.Reading.{total_facts}
use Rattle.os_heap_words.specs.lists.Lists.{live_total}
use Rattle.os_heap.proofs.ForgetLemmas.{at_block_still}
use Rattle.os_heap.proofs.Resizing.{block_here, has_block, in_place_shown, there_heap}
use Rattle.os_heap.proofs.resize.resize_in_place.Goals as goal

pub own_total-total-requires : goal.own_total-total-requires
own_total-total-requires c = record {
  heap = there_heap c.args.map.now c.args.heap c.requires.state.sound c.requires.found;
  block = c.requires.block.here;
}

pub forget_cut-requires-clause-block : goal.forget_cut-requires-clause-block
forget_cut-requires-clause-block c =
    let here = block_here c.args.map.now c.args.heap c.args.block _ c.args.cursor.now.at _ _ c.requires.state.sound c.requires.found c.requires.block in
    has_block c.args.map.now c.args.heap c.args.block c.own_total-total.result c.requires.found
    (here.live ∙ ap (λ n. Some n) (sym c.own_total-total.ensures.word))

pub forget_cut-requires-clause-needed : goal.forget_cut-requires-clause-needed
forget_cut-requires-clause-needed c = (total_facts c.args.needed c.requires.needed.total).0

pub forget_cut-requires-clause-aligned : goal.forget_cut-requires-clause-aligned
forget_cut-requires-clause-aligned c = (total_facts c.args.needed c.requires.needed.total).1

pub refit-requires-clause-place : goal.refit-requires-clause-place
refit-requires-clause-place c =
    at_block_still c.args.map.now c.forget_cut.new.map c.args.block _ _ c.args.heap c.args.cursor.now c.forget_cut.ensures.forgets (record {
      heap = there_heap c.args.map.now c.args.heap c.requires.state.sound c.requires.found;
      block = c.requires.block.here;
    })

pub returns : goal.returns
returns c =
    let m = c.args.map.now in
    let here = block_here m c.args.heap c.args.block _ c.args.cursor.now.at _ _ c.requires.state.sound c.requires.found c.requires.block in
    let live : live_total c.args.block (c.args.heap + 16) (items_at m c.args.heap) ≡ Some c.own_total-total.result =
    here.live ∙ ap (λ n. Some n) (sym c.own_total-total.ensures.word) in
    in_place_shown m c.forget_cut.new.map c.refit.new.map c.args.heap c.args.block c.own_total-total.result c.args.needed c.refit.result live
    c.forget_cut.ensures.forgets c.forget_cut.ensures.same c.refit.ensures
