use Rattle.std.proofs.Common.{◌≡◌, ◌+◌, ◌∙◌, Some, ap, sym}
use Rattle.os_heap_words.specs.Outcomes.{items_at}
use Rattle.os_heap_words.specs.lists.Lists.{live_total}
use Rattle.os_heap.proofs.Calls.{free_given}
use Rattle.os_heap.proofs.ForgetLemmas.{at_block_still}
use Rattle.os_heap.proofs.Resizing.{block_here, has_block, is_there, there_heap}
use Rattle.os_heap.proofs.free.give_up.Goals as goal

pub own_total-total-requires : goal.own_total-total-requires
own_total-total-requires c = record {
  heap = there_heap c.args.map.now c.args.heap c.requires.state.sound c.requires.found;
  block = c.requires.block.here;
}

pub forget_inner-requires-clause-block : goal.forget_inner-requires-clause-block
forget_inner-requires-clause-block c =
    let here = block_here c.args.map.now c.args.heap c.args.block _ c.args.cursor.now.at _ _ c.requires.state.sound c.requires.found c.requires.block in
    has_block c.args.map.now c.args.heap c.args.block c.own_total-total.result c.requires.found
    (here.live ∙ ap (λ n. Some n) (sym c.own_total-total.ensures.word))

pub give_back-requires : goal.give_back-requires
give_back-requires c =
    at_block_still c.args.map.now c.forget_inner.new.map c.args.block _ _ c.args.heap c.args.cursor.now c.forget_inner.ensures (record {
      heap = there_heap c.args.map.now c.args.heap c.requires.state.sound c.requires.found;
      block = c.requires.block.here;
    })

pub returns : goal.returns
returns c =
    let m = c.args.map.now in
    let here = block_here m c.args.heap c.args.block _ c.args.cursor.now.at _ _ c.requires.state.sound c.requires.found c.requires.block in
    let live : live_total c.args.block (c.args.heap + 16) (items_at m c.args.heap) ≡ Some c.own_total-total.result =
    here.live ∙ ap (λ n. Some n) (sym c.own_total-total.ensures.word) in
    let t = is_there m c.args.heap c.requires.found in
    let done = free_given t.kind m c.forget_inner.new.map c.give_back.new.map c.args.heap c.args.block t.end c.own_total-total.result c.requires.state t.found
    here.own live c.requires.unheld c.forget_inner.ensures c.give_back.ensures in
    record { store = done.0; kept = done.1 }
